use Rattle.std.proofs.Common.{◌≡◌, ◌||◌, ℕ, drop}
use Rattle.std.specs.List.{list_any}
use Rattle.iv_places.specs.Inside.Ranks.{is_at, is_marked}
use Rattle.iv_places.proofs.places.marked.Given as goal

-- the marks and the places that are left say of each rank what all places say
abbrev pub invariant-loop-place : goal.invariant-loop-place
invariant-loop-place g l = (seq : ℕ) → (is_marked l.ranks.items seq || list_any (is_at seq) (drop l.place-index l.places)) ≡ list_any (is_at seq) l.places
