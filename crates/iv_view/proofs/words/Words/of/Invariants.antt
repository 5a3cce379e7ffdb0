use Rattle.std.proofs.Common.{◌≡◌, ◌≤◌, ◌++◌, filter, length, take}
use Rattle.std.specs.Prelude.{not, ◌==◌}
use Rattle.iv_lines.specs.Fields.{words as words_of}
use Rattle.iv_view.proofs.CuttingLemmas.{shown}
use Rattle.iv_view.proofs.words.Words.of.Given as goal

abbrev pub invariant-loop-field : goal.invariant-loop-field
invariant-loop-field l = record {
  arguments : take 9 (shown l.count l.arguments ++ filter (λ argument. not (length argument == 0)) l.fields) ≡ take 9 (words_of l.fn.text);
  few : l.count ≤ 9;
  size : length l.arguments ≡ 9;
}

abbrev pub decreases-loop-field : goal.decreases-loop-field
decreases-loop-field l = length l.fields
