use Rattle.std.proofs.Common.{◌≡◌, ◌^◌, ◌<◌, drop}
use Rattle.std.specs.Str.{all_ascii_digits}
use Rattle.iv_lines.specs.Inside.Number.{decimal_from}
use Rattle.iv_lines.proofs.number.read_digits.Given as goal

abbrev pub invariant-loop-b : goal.invariant-loop-b
invariant-loop-b l = record {
  digits : all_ascii_digits (drop l.b-index l.bytes) ≡ all_ascii_digits l.bytes;
  value : decimal_from l.value (drop l.b-index l.bytes) ≡ decimal_from 0 l.bytes;
  bound : l.value < 10 ^ l.b-index;
}
