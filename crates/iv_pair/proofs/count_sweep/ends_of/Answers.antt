use Rattle.std.proofs.Common.{◌∙◌, ap, map, List, arith, subst}
use Rattle.std.specs.List.Sorted.{IsPermutation}
use Rattle.std.proofs.lemmas.List.{take_all}
use Rattle.iv_places.specs.declared.placed_records.Place.{Place}
use Rattle.iv_pair.specs.Inside.Counts.{end_of}
use Rattle.iv_pair.proofs.CountLemmas.{EndsAscend-sorted}
use Rattle.iv_pair.proofs.count_sweep.ends_of.Goals as goal

pub returns-clause-moved : goal.returns-clause-moved
returns-clause-moved g c =
    let places = c.args.places.now in
    let all = take_all c.loop-place.place-index places (omega arith) in
    let e = c.loop-place.invariant ∙ ap (λ (l : List Place). map end_of l) all in
    subst (λ l. IsPermutation l c.sort_unstable.new.self.items) e c.sort_unstable.ensures.permutation

pub returns-clause-ordered : goal.returns-clause-ordered
returns-clause-ordered g c = EndsAscend-sorted _ c.sort_unstable.ensures.sorted
