use Rattle.iv_fasta.proofs.FastaMeaningLemmas.{fasta-value, fasta-fault}
use Rattle.iv_fasta.proofs.lemmas.fasta_or_first_fault.Goals as goal

pub returns-clause-value : goal.returns-clause-value
returns-clause-value c = fasta-value

pub returns-clause-fault : goal.returns-clause-fault
returns-clause-fault c = fasta-fault
