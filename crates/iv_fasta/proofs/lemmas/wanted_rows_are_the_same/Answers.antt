use Rattle.iv_fasta.proofs.RowLemmas.{row-wanted}
use Rattle.iv_fasta.proofs.lemmas.wanted_rows_are_the_same.Goals as goal

pub returns : goal.returns
returns c = row-wanted
