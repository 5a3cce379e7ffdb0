use Rattle.std.proofs.Common.{◌≡◌, take}
use Rattle.iv_fasta.specs.Inside.FastaRows.{opposite}
use Rattle.iv_fasta.proofs.rows.write_opposite.Given as goal

abbrev pub invariant-loop-at : goal.invariant-loop-at
invariant-loop-at l = take l.at l.chunk ≡ take l.at (opposite l.bases)
