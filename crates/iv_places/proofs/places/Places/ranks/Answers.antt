use Rattle.std.proofs.Common.{◌≡◌, ℕ, IfOk, subst}
use Rattle.std.specs.List.{list_any}
use Rattle.iv_lines.specs.Bed.{Bed}
use Rattle.iv_places.specs.Inside.Ranks.{has_rank, is_marked}
use Rattle.iv_places.proofs.RankLemmas.{any-records}
use Rattle.iv_places.proofs.places.Places.ranks.Goals as goal

pub returns : goal.returns
returns g c =
    let b = c.self.inside in
    subst (λ (bed : Bed). IfOk c.marked.result (λ ranks. (seq : ℕ) → is_marked ranks.items seq ≡ list_any (has_rank seq) bed.records)) c.self.view_is
    (any-records c.marked.result (λ ranks. ranks.items) b.rests.width b.rests.bytes b.places.items (rw c.as_slice.ensures.value at c.marked.ensures))
