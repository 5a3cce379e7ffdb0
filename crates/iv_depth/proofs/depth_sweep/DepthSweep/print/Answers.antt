use Rattle.std.proofs.Common.{◌≤◌, ◌<◌, ◌^◌, ◌∙◌, List, All, length, ap, sym, subst, arith}
use Rattle.iv_bytes.proofs.PutLemmas.{Underway-begin, Underway-more, Underway-fails, Puts-err}
use Rattle.iv_lines.specs.Genome.{seq_count}
use Rattle.iv_lines.specs.Ordered.{AreInOrder}
use Rattle.iv_lines.specs.RecordValue.{RecordValue}
use Rattle.iv_cover.specs.Depth.{depth}
use Rattle.iv_places.proofs.SequenceLemmas.{all-from, from-in, from-order}
use Rattle.iv_depth.proofs.EdgeLemmas.{IsAhead-begin, left-next}
use Rattle.iv_depth.proofs.Genomes.{texts-next, texts-all}
use Rattle.iv_depth.proofs.depth_sweep.DepthSweep.print.Goals as goal

pub loop-seq-init : goal.loop-seq-init
loop-seq-init g c = record {
  put = rw (texts-all c.args.output c.args.genome.now (depth c.args.self)) (Underway-begin _ _);
  left_is = c.self.view_is ∙ sym (all-from c.args.self);
}

pub gather-requires-clause-order : goal.gather-requires-clause-order
gather-requires-clause-order g c = subst AreInOrder (sym c.loop-seq.invariant.left_is) (from-order c.loop-seq.seq c.args.self c.requires.order)

pub gather-requires-clause-from : goal.gather-requires-clause-from
gather-requires-clause-from g c =
    subst (λ (l : List RecordValue). All (λ r. c.loop-seq.seq ≤ r.seq) l) (sym c.loop-seq.invariant.left_is) (from-in c.loop-seq.seq c.args.self)

pub put_sequence-requires : goal.put_sequence-requires
put_sequence-requires g c =
    let few : length c.args.self < 2 ^ 63 = omega (arith, ap (λ (l : List RecordValue). length l) c.self.view_is, c.self.invariant) in (
      depth c.args.self,
      IsAhead-begin c.args.genome.now c.loop-seq.seq c.args.self c.loop-seq.sequences.left c.gather.new.self c.loop-seq.invariant.left_is c.gather.ensures c.requires.order c.requires.on_genome
          c.edges.result c.edges.ensures few,
    )

pub returns-in_err-put_sequence : goal.returns-in_err-put_sequence
returns-in_err-put_sequence g c =
    let i = c.loop-seq.invariant in
    let by = depth c.args.self in
    let low : c.loop-seq.seq < seq_count c.args.genome.now = omega (arith, c.loop-seq-test.true, c.count-seq-end.ensures.value) in
    let few : length c.args.self < 2 ^ 63 = omega (arith, ap (λ (l : List RecordValue). length l) c.self.view_is, c.self.invariant) in
    let ahead = IsAhead-begin c.args.genome.now c.loop-seq.seq c.args.self c.loop-seq.sequences.left c.gather.new.self i.left_is c.gather.ensures c.requires.order c.requires.on_genome
    c.edges.result c.edges.ensures few in
    Puts-err _ _ c.from_residual.result _ c.from_residual.ensures.0
    (Underway-fails _ _ _ _ _ _ (rw (texts-next c.args.output c.args.genome.now by c.loop-seq.seq low) at i.put) (c.in_err-put_sequence.ensures.text by ahead))

pub loop-seq-preserved : goal.loop-seq-preserved
loop-seq-preserved g c =
    let i = c.loop-seq.invariant in
    let by = depth c.args.self in
    let low : c.loop-seq.seq < seq_count c.args.genome.now = omega (arith, c.loop-seq-test.true, c.count-seq-end.ensures.value) in
    let few : length c.args.self < 2 ^ 63 = omega (arith, ap (λ (l : List RecordValue). length l) c.self.view_is, c.self.invariant) in
    let ahead = IsAhead-begin c.args.genome.now c.loop-seq.seq c.args.self c.loop-seq.sequences.left c.gather.new.self i.left_is c.gather.ensures c.requires.order c.requires.on_genome
    c.edges.result c.edges.ensures few in
    record {
      put = Underway-more _ _ _ _ _ _ (rw (texts-next c.args.output c.args.genome.now by c.loop-seq.seq low) at i.put) (c.in_ok-put_sequence.ensures.text by ahead);
      left_is = left-next c.args.genome.now c.loop-seq.seq c.args.self c.loop-seq.sequences.left c.gather.new.self i.left_is c.gather.ensures c.requires.order c.requires.on_genome;
    }
