use Rattle.std.proofs.Common.{◌≡◌, ◌+◌, ◌≤◌, [], length}
use Rattle.iv_lines.specs.Lines.{lines}
use Rattle.iv_lines.specs.Inside.GenomeFile.{after_lines}
use Rattle.iv_lines.proofs.genome.Genome.parse.Given as goal

abbrev pub invariant-loop-line : goal.invariant-loop-line
invariant-loop-line g l = record {
  rest : after_lines l.number l.genome l.line-iterator ≡ after_lines 1 [] (lines l.fn.text);
  number : l.number + length l.line-iterator ≤ 1 + length l.fn.text;
}
