use Rattle.iv_fasta.proofs.ComplementLemmas.{table, table-at}
use Rattle.iv_fasta.proofs.rows.complement.Goals as goal

pub returns : goal.returns
unfolding table
returns c = table-at c.args.base c.ranges.base.fits
