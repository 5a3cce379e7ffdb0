use Rattle.iv_text.proofs.BedMeaningLemmas.{bed-value, bed-fault}
use Rattle.iv_text.proofs.lemmas.bed_or_first_fault.Goals as goal

pub returns-clause-value : goal.returns-clause-value
returns-clause-value c = bed-value

pub returns-clause-fault : goal.returns-clause-fault
returns-clause-fault c = bed-fault
