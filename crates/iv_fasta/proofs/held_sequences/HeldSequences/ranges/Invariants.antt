use Rattle.std.proofs.Common.{◌≡◌, take, length}
use Rattle.std.specs.Prelude.{All}
use Rattle.std.specs.Option.{option_map}
use Rattle.iv_fasta.specs.FastaReading.{only, held_by_rank}
use Rattle.iv_fasta.specs.Inside.BaseRanges.{placed, IsPlacedWithin}
use Rattle.iv_fasta.specs.Inside.Drafts.{cut}
use Rattle.iv_fasta.proofs.held_sequences.HeldSequences.ranges.Given as goal

abbrev pub invariant-loop-seq : goal.invariant-loop-seq
invariant-loop-seq g l = record {
  value : placed l.ranges.items l.self.bases.items
      ≡ take l.seq (only (option_map (λ ranks. ranks.items) l.wanted) (held_by_rank l.genome (cut l.self.headers l.self.bases.items l.self.count)));
  within : All (IsPlacedWithin (length l.self.bases.items)) l.ranges.items;
}
