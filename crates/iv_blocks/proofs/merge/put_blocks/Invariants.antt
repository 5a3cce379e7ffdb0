use Rattle.std.proofs.Common.{◌+◌, ◌≤◌, length}
use Rattle.std.specs.List.{flat_map, take_while}
use Rattle.iv_bytes.proofs.PutLemmas.{Underway}
use Rattle.iv_blocks.specs.Inside.Regions.{goes_on}
use Rattle.iv_blocks.specs.Inside.Texts.{entry_row}
use Rattle.iv_blocks.proofs.merge.put_blocks.Given as goal

-- the rows of the entries that are left, up to the end, remain to be written
abbrev pub invariant-loop-block : goal.invariant-loop-block
invariant-loop-block g l = record {
  put : Underway (g.S.Sink.state l.fn.sink) (g.S.Sink.state l.sink) (flat_map (entry_row l.genome) (take_while (goes_on l.until) l.walk)) (flat_map (entry_row l.genome) (take_while (goes_on l.until) l.fn.walk));
  no_less : l.fn.meter ≤ l.meter;
  at_most : l.meter + length (take_while (goes_on l.until) l.walk) ≤ l.fn.meter + length (take_while (goes_on l.until) l.fn.walk);
}

abbrev pub decreases-loop-block : goal.decreases-loop-block
decreases-loop-block g l = length l.walk
