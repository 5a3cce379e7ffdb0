use Rattle.std.proofs.Common.{◌≡◌, ◌≤◌, ◌+◌, ◌-◌, length}
use Rattle.iv_fasta.specs.Inside.Drafts.{Reads}
use Rattle.iv_fasta.proofs.fasta_draft.FastaDraft.take_text.Given as goal

abbrev pub invariant-loop-taken : goal.invariant-loop-taken
invariant-loop-taken g l = record {
  within : l.taken ≤ length l.text;
  few : l.self.number + l.self.count ≤ l.fn.self.number + l.fn.self.count + l.taken;
  wanted : l.self.wanted ≡ l.fn.self.wanted;
  ok : Reads l.genome l.fn.self l.self l.text l.taken l.is_last;
}

abbrev pub decreases-loop-taken : goal.decreases-loop-taken
decreases-loop-taken g l = length l.text - l.taken
