use Rattle.std.proofs.Common.{◌≡◌, ◌<◌, ◌-◌, refl, arith, not}
use Rattle.iv_bytes.proofs.PutLemmas.{Underway-begin, Underway-more, Underway-fails, Underway-ends, Puts-err}
use Rattle.iv_lines.specs.Genome.{seq_count}
use Rattle.iv_blocks.specs.Inside.BlockCursor.{starts_until, drop_while}
use Rattle.iv_blocks.proofs.BlockCursorLemmas.{TakesForEach-begin, TakesForEach-next}
use Rattle.iv_blocks.proofs.ComplementLemmas.{texts-next, texts-none}
use Rattle.iv_blocks.proofs.complement.put_gaps.Goals as goal

pub loop-seq-init : goal.loop-seq-init
loop-seq-init g c =
    let n : seq_count c.args.genome.now - 0 ≡ seq_count c.args.genome.now = omega arith in
    record { put = rw n (Underway-begin _ _); steps = TakesForEach-begin _ _ }

pub returns-in_err-put_sequence : goal.returns-in_err-put_sequence
returns-in_err-put_sequence g c =
    let i = c.loop-seq.invariant in
    let seq = c.loop-seq.seq in
    let low : seq < seq_count c.args.genome.now = omega (arith, c.loop-seq-test.true, c.count-seq-end.ensures.value) in
    let next = texts-next (not c.args.limited) c.args.genome.now seq c.length_or_zero-length.result c.name_or_empty-name.result.now (g.B.BlocksAhead.left c.loop-seq.blocks)
    (drop_while (starts_until seq c.length_or_zero-length.result) (g.B.BlocksAhead.left c.loop-seq.blocks)) low c.name_or_empty-name.ensures c.length_or_zero-length.ensures refl in
    record {
      text = Puts-err _ _ c.from_residual.result _ c.from_residual.ensures.0
          (Underway-fails _ _ _ _ _ _ (rw next at i.put) c.in_err-put_sequence.ensures.text);
      steps = TakesForEach-next _ _ _ _ _ _ i.steps c.in_err-put_sequence.ensures.steps;
    }

pub loop-seq-preserved : goal.loop-seq-preserved
loop-seq-preserved g c =
    let i = c.loop-seq.invariant in
    let seq = c.loop-seq.seq in
    let low : seq < seq_count c.args.genome.now = omega (arith, c.loop-seq-test.true, c.count-seq-end.ensures.value) in
    let next = texts-next (not c.args.limited) c.args.genome.now seq c.length_or_zero-length.result c.name_or_empty-name.result.now (g.B.BlocksAhead.left c.loop-seq.blocks) (g.B.BlocksAhead.left c.put_sequence.new.blocks) low c.name_or_empty-name.ensures c.length_or_zero-length.ensures c.in_ok-put_sequence.ensures.past in
    record {
      put = Underway-more _ _ _ _ _ _ (rw next at i.put) c.in_ok-put_sequence.ensures.text;
      steps = TakesForEach-next _ _ _ _ _ _ i.steps c.in_ok-put_sequence.ensures.steps;
    }

pub returns : goal.returns
returns g c =
    let i = c.loop-seq.invariant in
    record {
      text = Underway-ends _ _ _ (rw (texts-none (not c.args.limited) c.args.genome.now c.loop-seq.seq (g.B.BlocksAhead.left c.loop-seq.blocks) (omega (arith, c.loop-seq-test.false, c.count-seq-end.ensures.value))) at i.put);
      steps = i.steps;
    }
