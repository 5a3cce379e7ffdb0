use Rattle.std.proofs.Common.{◌≤◌, ◌-◌, take, length}
use Rattle.iv_text.specs.Inside.OnePass.{IsCell}
use Rattle.iv_text.proofs.record_reader.count_slowly.Given as goal

abbrev pub invariant-loop-end : goal.invariant-loop-end
invariant-loop-end l = record {
  plain : IsCell (take l.end l.text);
  within : l.end ≤ length l.text;
}

abbrev pub decreases-loop-end : goal.decreases-loop-end
decreases-loop-end l = length l.text - l.end
