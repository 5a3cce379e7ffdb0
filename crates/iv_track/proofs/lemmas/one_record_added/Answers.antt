use Rattle.iv_lines.specs.RecordValue.{record_cmp, records_total}
use Rattle.iv_lines.proofs.OrderedLemmas.{in_order-added}
use Rattle.iv_track.proofs.CopyLemmas.{added-itself, added-others}
use Rattle.iv_track.proofs.lemmas.one_record_added.Goals as goal

pub returns-clause-in_order : goal.returns-clause-in_order
returns-clause-in_order c = in_order-added record_cmp records_total

pub returns-clause-one_more : goal.returns-clause-one_more
returns-clause-one_more c = added-itself

pub returns-clause-others : goal.returns-clause-others
returns-clause-others c = added-others
