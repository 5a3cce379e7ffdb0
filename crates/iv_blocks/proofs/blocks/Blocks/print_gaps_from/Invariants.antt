use Rattle.std.proofs.Common.{◌≡◌, ℕ, ◌+◌, ◌-◌, ◌<◌, ◌≤◌, length, Some}
use Rattle.std.specs.List.{flat_map}
use Rattle.iv_bytes.proofs.PutLemmas.{Underway}
use Rattle.iv_lines.specs.Genome.{sequence_name}
use Rattle.iv_blocks.specs.ComplementRows.{gap_row}
use Rattle.iv_blocks.specs.Inside.Regions.{BeginsGap, gaps_from, kept_on}
use Rattle.iv_blocks.specs.KeptBlocks.{Kept}
use Rattle.iv_blocks.proofs.blocks.Blocks.print_gaps_from.Given as goal

-- the rows of the gaps from `low` on remain to be written
abbrev pub invariant-gaps : goal.invariant-gaps
invariant-gaps g l = record {
  put : Underway (g.S.Sink.state l.fn.sink) (g.S.Sink.state l.sink)
      (flat_map (gap_row (sequence_name l.genome l.region.seq)) (gaps_from l.limited l.genome l.track.records l.region.seq l.region.start l.region.stop l.low))
      (flat_map (gap_row (sequence_name l.genome l.region.seq)) (gaps_from l.limited l.genome l.track.records l.region.seq l.region.start l.region.stop l.fn.low));
  begins : BeginsGap (kept_on l.self.entries l.region.seq) l.low;
  past : (x : ℕ) (b : Kept) → l.low ≤ x → kept_on l.self.entries l.region.seq x ≡ Some b → l.region.start < x;
  no_less : l.fn.meter ≤ l.meter;
  at_most : l.meter + length (gaps_from l.limited l.genome l.track.records l.region.seq l.region.start l.region.stop l.low)
      ≤ l.fn.meter + length (gaps_from l.limited l.genome l.track.records l.region.seq l.region.start l.region.stop l.fn.low);
}

abbrev pub decreases-gaps : goal.decreases-gaps
decreases-gaps g l = l.region.stop - l.low
