use Rattle.std.proofs.Common.{map, rules, ap, ◌∙◌}
use Rattle.std.proofs.lemmas.Fn.{filter_same}
use Rattle.iv_lines.specs.CoveredPositions.{covers}
use Rattle.iv_pair.proofs.CarryLemmas.{map-filter}
use Rattle.iv_pair.proofs.hit_finder.keep.Goals as goal

pub returns : goal.returns
returns g c =
    let value = g.W.Record.BedRecord.as_record in
    let test = covers c.args.seq c.args.position in
    ap (map value) (filter_same _ (λ r. test (value r)) _ (λ x b f' k. search rules) _ _ c.retain.ensures.filtered) ∙ map-filter value test c.args.records.now.items
