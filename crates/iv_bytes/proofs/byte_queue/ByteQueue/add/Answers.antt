use Rattle.std.proofs.Common.{◌≡◌, ◌+◌, ◌≤◌, List, ◌++◌, length, slice_range, ap, ◌∙◌, sym, arith}
use Rattle.std.proofs.lemmas.List.{length-take-le}
use Rattle.iv_bytes.proofs.PullLemmas.{held_added, empty_range}
use Rattle.iv_bytes.proofs.byte_queue.ByteQueue.add.Goals as goal
use Rattle.iv_bytes.proofs.byte_queue.ByteQueue.add.Goals.{then-self, else-self}

pub returns-clause-added : goal.returns-clause-added
returns-clause-added c =
    let now = c.if-self.self-inside in
    let low : now.start ≤ now.end = elim c.if-self.branch [ then-self w ↦ rw w.self-inside-is (omega arith) | else-self w ↦ rw w.self-inside-is c.self.invariant.0 ] in
    let same : slice_range now.chunk now.start now.end ≡ c.args.self.now =
    elim c.if-self.branch [
      | then-self w ↦ rw w.self-inside-is (sym (empty_range c.self.inside.chunk c.self.inside.start c.self.inside.end w.if-self.true) ∙ c.self.view_is)
      | else-self w ↦ rw w.self-inside-is c.self.view_is
    ] in
    let room : now.end ≤ 8192 = elim c.if-self.branch [ then-self w ↦ rw w.self-inside-is (omega arith) | else-self w ↦ rw w.self-inside-is c.self.invariant.1 ] in
    let chunk : length now.chunk ≡ 8192 = elim c.if-self.branch [ then-self w ↦ rw w.self-inside-is c.self.told | else-self w ↦ rw w.self-inside-is c.self.told ] in
    let fits : now.end + c.min-n.result ≤ length now.chunk = omega arith in
    let within : c.min-n.result ≤ length c.args.bytes.now = omega arith in
    held_added now.chunk c.copy_from_slice.new.self now.start now.end c.min-n.result low fits
    (ap length c.copy_from_slice.ensures.after ∙ length-take-le c.min-n.result c.args.bytes.now within)
    ∙ ap (λ (l : List _). l ++ c.copy_from_slice.new.self) same
    ∙ ap (λ (l : List _). c.args.self.now ++ l) c.copy_from_slice.ensures.after
