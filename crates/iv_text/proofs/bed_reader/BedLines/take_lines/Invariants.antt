use Rattle.std.proofs.Common.{◌≡◌, ◌+◌, ◌≤◌, length}
use Rattle.iv_text.specs.BedReading.{AreSoundLines}
use Rattle.iv_text.proofs.BedReadingLemmas.{TakesUpTo}
use Rattle.iv_text.proofs.bed_reader.BedLines.take_lines.Given as goal

abbrev pub invariant-lines : goal.invariant-lines
invariant-lines g l = record {
  same : l.reader ≡ l.fn.genome;
  sound : AreSoundLines l.columns l.fn.genome l.limit l.self;
  rest : TakesUpTo l.columns l.fn.genome l.limit l.fn.self l.self l.fn.text l.left;
  number : l.self.number + length l.left ≤ l.fn.self.number + length l.fn.text;
}

abbrev pub decreases-lines : goal.decreases-lines
decreases-lines g l = length l.left
