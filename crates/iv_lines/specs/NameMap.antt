-- What a map of names ends as, once a `&mut` to one of its values has ended.
use Rattle.std.specs.Prelude.{ℕ, List}
use Rattle.std.specs.Borrow.{Fml, RattleType, MutBor, Lends}
use Rattle.std.specs.declared.alloc.Allocator as alloc
use Rattle.indexmap.specs.Layout.{set_value_at}
use Rattle.iv_lines.specs.contracts.name_map.NameMap.{the_row}

-- the name at this index has the last value written through r
abbrev pub lends_value : (V A : RattleType) (heap : alloc.Ghosts A.Denot) → MutBor (List (List ℕ × V.Denot)) → ℕ → MutBor V.Denot → Fml
lends_value V A heap m index r = Lends (the_row V A heap) V m r (set_value_at m.now index)
