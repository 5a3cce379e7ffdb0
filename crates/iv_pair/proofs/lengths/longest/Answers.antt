use Rattle.std.proofs.Common.{sym, subst, arith}
use Rattle.iv_pair.proofs.LengthLemmas.{Bounds, length_bound}
use Rattle.iv_pair.proofs.lengths.longest.Goals as goal

pub returns-then-key_seq-seq : goal.returns-then-key_seq-seq
returns-then-key_seq-seq g c = λ k is some.
    let b = subst (Bounds c.args.seq k) (sym c.in-Some.ensures.entry) (length_bound c.args.lengths.now c.args.seq k c.requires is some) in
    omega (arith, b.1, c.from.ensures)

pub returns-else-key_seq-seq : goal.returns-else-key_seq-seq
returns-else-key_seq-seq g c = λ k is some.
    absurd (c.if-key_seq-seq.false (subst (Bounds c.args.seq k) (sym c.in-Some.ensures.entry) (length_bound c.args.lengths.now c.args.seq k c.requires is some)).0)

pub returns-in-None : goal.returns-in-None
returns-in-None g c = λ k is some.
    absurd (subst (Bounds c.args.seq k) (sym c.in-None.ensures.entry) (length_bound c.args.lengths.now c.args.seq k c.requires is some))
