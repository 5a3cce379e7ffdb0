use Rattle.iv_lines.proofs.FileMeaningLemmas.{genome-value, genome-fault}
use Rattle.iv_lines.proofs.lemmas.genome_or_first_fault.Goals as goal

pub returns-clause-value : goal.returns-clause-value
returns-clause-value c = genome-value

pub returns-clause-fault : goal.returns-clause-fault
returns-clause-fault c = genome-fault
