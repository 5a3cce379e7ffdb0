use Rattle.std.proofs.Common.{◌+◌, ◌≤◌, drop, length, length-take, length-drop, slice_range, ap, ◌∙◌, arith}
use Rattle.iv_bytes.proofs.PullLemmas.{held_skip}
use Rattle.iv_bytes.proofs.byte_queue.ByteQueue.skip.Goals as goal

pub returns : goal.returns
returns c =
    let low : c.args.n ≤ length (slice_range c.self.inside.chunk c.self.inside.start c.self.inside.end) = rw c.self.view_is c.requires in
    let fits : c.self.inside.start + c.args.n ≤ c.self.inside.end =
    omega (arith, c.self.invariant.0, simp (length-take, length-drop) at low) in
    held_skip c.self.inside.chunk c.self.inside.start c.self.inside.end c.args.n fits ∙ ap (drop c.args.n) c.self.view_is
