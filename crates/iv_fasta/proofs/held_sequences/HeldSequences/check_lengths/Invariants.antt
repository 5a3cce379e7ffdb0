use Rattle.std.proofs.Common.{◌≡◌, drop}
use Rattle.std.specs.List.{find}
use Rattle.iv_fasta.specs.FastaReading.{has_other_count}
use Rattle.iv_fasta.specs.Inside.Drafts.{cut}
use Rattle.iv_fasta.proofs.held_sequences.HeldSequences.check_lengths.Given as goal

abbrev pub invariant-loop-index : goal.invariant-loop-index
invariant-loop-index g l = find (has_other_count l.genome) (drop l.index (cut l.self.headers l.self.bases.items l.self.count)) ≡ find (has_other_count l.genome) (cut l.self.headers l.self.bases.items l.self.count)
