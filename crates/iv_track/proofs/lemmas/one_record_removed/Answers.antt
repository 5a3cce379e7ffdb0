use Rattle.iv_lines.specs.RecordValue.{record_cmp}
use Rattle.iv_track.proofs.Counts.{in_order-removed}
use Rattle.iv_track.proofs.CopyLemmas.{removed-absent, removed-itself, removed-others}
use Rattle.iv_track.proofs.lemmas.one_record_removed.Goals as goal

pub returns-clause-in_order : goal.returns-clause-in_order
returns-clause-in_order c = in_order-removed record_cmp

pub returns-clause-one_less : goal.returns-clause-one_less
returns-clause-one_less c = removed-itself

pub returns-clause-others : goal.returns-clause-others
returns-clause-others c = removed-others

pub returns-clause-absent : goal.returns-clause-absent
returns-clause-absent c = removed-absent record_cmp
