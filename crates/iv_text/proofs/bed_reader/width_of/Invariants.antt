use Rattle.std.proofs.Common.{◌≡◌, ◌+◌, ◌-◌, ◌≤◌, length}
use Rattle.iv_lines.specs.Fields.{columns as columns_of}
use Rattle.iv_text.proofs.bed_reader.width_of.Given as goal

abbrev pub invariant-loop-count : goal.invariant-loop-count
invariant-loop-count l = record {
  all : l.count + length l.columns ≡ length (columns_of l.fn.line);
  few : l.count ≤ 7;
}

abbrev pub decreases-loop-count : goal.decreases-loop-count
decreases-loop-count l = 7 - l.count
