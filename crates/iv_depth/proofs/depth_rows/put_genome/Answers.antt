use Rattle.std.proofs.Common.{◌<◌, arith, ap, length}
use Rattle.iv_bytes.proofs.PutLemmas.{Underway-begin, Underway-more, Underway-fails, Puts-err}
use Rattle.iv_lines.specs.Genome.{seq_count}
use Rattle.iv_depth.specs.Changes.{Entries}
use Rattle.iv_depth.specs.Inside.Walks.{depth_by}
use Rattle.iv_depth.proofs.Genomes.{texts-next, texts-all}
use Rattle.iv_depth.proofs.depth_rows.put_genome.Goals as goal

pub loop-seq-init : goal.loop-seq-init
loop-seq-init g c = record {
  put = rw (texts-all c.args.output c.args.genome.now (depth_by c.args.changes.now)) (Underway-begin _ _);
  ahead = rw c.of-changes_left.ensures.all c.requires;
  no_less = omega (arith, c.of-changes_left.ensures.steps);
  at_most = omega (arith, c.of-changes_left.ensures.steps, ap (λ (l : Entries). length l) c.of-changes_left.ensures.all);
}

pub put_sequence-requires : goal.put_sequence-requires
put_sequence-requires g c = (depth_by c.args.changes.now, c.loop-seq.invariant.ahead)

pub returns-in_err-put_sequence-clause-text : goal.returns-in_err-put_sequence-clause-text
returns-in_err-put_sequence-clause-text g c =
    let low : c.loop-seq.seq < seq_count c.args.genome.now = omega (arith, c.loop-seq-test.true, c.count-seq-end.ensures.value) in
    Puts-err _ _ c.from_residual.result _ c.from_residual.ensures.0
    (Underway-fails _ _ _ _ _ _ (rw (texts-next c.args.output c.args.genome.now (depth_by c.args.changes.now) c.loop-seq.seq low) at c.loop-seq.invariant.put) (c.in_err-put_sequence.ensures.text (depth_by c.args.changes.now) c.loop-seq.invariant.ahead))

pub loop-seq-preserved : goal.loop-seq-preserved
loop-seq-preserved g c =
    let i = c.loop-seq.invariant in
    let low : c.loop-seq.seq < seq_count c.args.genome.now = omega (arith, c.loop-seq-test.true, c.count-seq-end.ensures.value) in
    record {
      put = Underway-more _ _ _ _ _ _ (rw (texts-next c.args.output c.args.genome.now (depth_by c.args.changes.now) c.loop-seq.seq low) at i.put) (c.in_ok-put_sequence.ensures.text (depth_by c.args.changes.now) i.ahead);
      ahead = c.in_ok-put_sequence.ensures.past (depth_by c.args.changes.now) i.ahead;
      no_less = omega (arith, i.no_less, c.in_ok-put_sequence.ensures.steps);
      at_most = omega (arith, i.at_most, c.in_ok-put_sequence.ensures.steps);
    }
