use Rattle.std.proofs.Common.{◌≡◌, ◌-◌, ◌^◌, ◌<◌, ◌≤◌, true, take, length}
use Rattle.std.specs.Str.{all_ascii_digits}
use Rattle.iv_lines.specs.Inside.Number.{decimal_from}
use Rattle.iv_text.proofs.record_reader.split_slowly.Given as goal

abbrev pub invariant-loop-count : goal.invariant-loop-count
invariant-loop-count l = record {
  digits : all_ascii_digits (take l.count l.text) ≡ true;
  value : l.value ≡ decimal_from 0 (take l.count l.text);
  bound : l.value < 10 ^ l.count;
  few : l.count ≤ 10;
  within : l.count ≤ length l.text;
}

abbrev pub decreases-loop-count : goal.decreases-loop-count
decreases-loop-count l = length l.fn.text - l.count
