use Rattle.std.proofs.Common.{◌∙◌, refl}
use Rattle.iv_bytes.proofs.PutLemmas.{Underway-begin, Underway-more, Underway-fails, Underway-last, Puts-err}
use Rattle.iv_blocks.specs.Inside.BlockCursor.{starts_until}
use Rattle.iv_blocks.proofs.BlockCursorLemmas.{TakesForEach-begin, TakesForEach-next, take-first, drop-first, take-none}
use Rattle.iv_blocks.proofs.ComplementLemmas.{gaps-next, gaps-last}
use Rattle.iv_blocks.proofs.complement.put_sequence.Goals as goal

pub loop-block-init : goal.loop-block-init
loop-block-init g c = record {
  put = Underway-begin _ _;
  past = refl;
  steps = TakesForEach-begin _ _;
}

pub returns-in_err-put_gap-clause-text : goal.returns-in_err-put_gap-clause-text
returns-in_err-put_gap-clause-text g c =
    let i = c.loop-block.invariant in
    let given = c.in-Some.ensures.next in
    let first = take-first (starts_until c.args.seq c.args.length) (g.B.BlocksAhead.left c.loop-block.blocks) (g.B.BlocksAhead.left c.next_until.new.self) c.in-Some.block given.0 given.1 in
    let next = gaps-next c.args.name.now c.loop-block.shown c.loop-block.start c.args.length _ _ c.in-Some.block first in
    Puts-err _ _ c.from_residual.result _ c.from_residual.ensures.0
    (Underway-fails _ _ _ _ _ _ (rw next at i.put) c.in_err-put_gap.ensures)

pub loop-block-preserved : goal.loop-block-preserved
loop-block-preserved g c =
    let i = c.loop-block.invariant in
    let given = c.in-Some.ensures.next in
    let test = starts_until c.args.seq c.args.length in
    let first = take-first test (g.B.BlocksAhead.left c.loop-block.blocks) (g.B.BlocksAhead.left c.next_until.new.self) c.in-Some.block given.0 given.1 in
    let next = gaps-next c.args.name.now c.loop-block.shown c.loop-block.start c.args.length _ _ c.in-Some.block first in
    record {
      put = Underway-more _ _ _ _ _ _ (rw next at i.put) c.in_ok-put_gap.ensures;
      past = i.past ∙ drop-first test (g.B.BlocksAhead.left c.loop-block.blocks) (g.B.BlocksAhead.left c.next_until.new.self) c.in-Some.block given.0 given.1;
      steps = TakesForEach-next _ _ _ _ _ _ i.steps c.in-Some.ensures.steps;
    }

pub returns-clause-text : goal.returns-clause-text
returns-clause-text g c =
    let none = take-none (starts_until c.args.seq c.args.length) (g.B.BlocksAhead.left c.loop-block.blocks) c.in_default.ensures.next.1 in
    let last = gaps-last c.args.name.now c.loop-block.shown c.loop-block.start c.args.length _ c.if-not-shown.false none in
    Underway-last _ _ _ _ c.put_gap-2.result _ (rw last at c.loop-block.invariant.put) c.put_gap-2.ensures
