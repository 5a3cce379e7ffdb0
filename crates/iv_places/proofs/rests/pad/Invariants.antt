use Rattle.std.proofs.Common.{◌≡◌, ◌+◌, ◌++◌, List, ℕ, length}
use Rattle.iv_places.proofs.rests.pad.Given as goal

-- line feeds were added, so many
abbrev pub invariant-loop-padded : goal.invariant-loop-padded
invariant-loop-padded g l = record {
  kept : (more : List ℕ) × (l.bytes.items ≡ l.fn.bytes.items ++ more);
  long : length l.bytes.items ≡ length l.fn.bytes.items + l._padded;
}
