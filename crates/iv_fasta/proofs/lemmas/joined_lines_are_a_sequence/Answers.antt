use Rattle.iv_fasta.proofs.JoinLemmas.{joined-lines}
use Rattle.iv_fasta.proofs.lemmas.joined_lines_are_a_sequence.Goals as goal

pub returns : goal.returns
returns c = joined-lines
