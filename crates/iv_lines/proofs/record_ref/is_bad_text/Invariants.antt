use Rattle.std.proofs.Common.{◌≡◌, drop}
use Rattle.std.specs.List.{list_any}
use Rattle.iv_lines.specs.Inside.Read.{is_line_byte}
use Rattle.iv_lines.proofs.record_ref.is_bad_text.Given as goal

abbrev pub invariant-loop-b : goal.invariant-loop-b
invariant-loop-b l = list_any is_line_byte (drop l.b-index l.column) ≡ list_any is_line_byte l.column
