use Rattle.std.proofs.Common.{◌≤◌, ◌-◌, length}
use Rattle.iv_fasta.proofs.BlockLemmas.{BeginsWithBases}
use Rattle.iv_fasta.proofs.base_counts.count_slowly.Given as goal

abbrev pub invariant-loop-count : goal.invariant-loop-count
invariant-loop-count l = record {
  bases : BeginsWithBases l.text l.count;
  within : l.count ≤ length l.text;
}

abbrev pub decreases-loop-count : goal.decreases-loop-count
decreases-loop-count l = length l.text - l.count
