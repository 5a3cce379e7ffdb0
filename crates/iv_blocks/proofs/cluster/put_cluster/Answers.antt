use Rattle.std.proofs.Common.{ap, arith, List, length}
use Rattle.iv_bytes.proofs.PutLemmas.{Underway-begin, Underway-more, Underway-fails, Underway-ends, Puts-err}
use Rattle.iv_cover.specs.Inside.TrackBlocks.{BlockWithMembers}
use Rattle.iv_blocks.proofs.ClusterTexts.{cluster-rows, remaining-few}
use Rattle.iv_blocks.proofs.cluster.put_cluster.Goals as goal

pub loop-members-init : goal.loop-members-init
loop-members-init g c = record {
  put = rw ((rw c.again.ensures at c.of-blocks.ensures.blocks) c.requires.order c.args.genome.now c.requires.on_genome) (Underway-begin _ _);
  few = omega (arith, ap (λ (l : List BlockWithMembers). length l) (rw c.again.ensures at c.of-blocks.ensures.left), remaining-few c.args.distance c.args.records.now);
}

pub overflow_add-number : goal.overflow_add-number
overflow_add-number g c = omega (arith, c.loop-members.invariant.few, ap (λ (l : List BlockWithMembers). length l) c.in-Some.ensures, c.len-few.ensures)

pub loop-members-preserved : goal.loop-members-preserved
loop-members-preserved g c =
    let i = c.loop-members.invariant in
    let first = c.in-Some.ensures in
    record {
      put = Underway-more _ _ _ _ _ _ (rw first at i.put) c.in_ok-put_members.ensures;
      few = omega (arith, i.few, ap (λ (l : List BlockWithMembers). length l) first);
    }

pub returns-in_err-put_members : goal.returns-in_err-put_members
returns-in_err-put_members g c =
    let first = c.in-Some.ensures in
    rw (← cluster-rows c.args.distance c.args.genome.now c.args.records.now c.requires.on_genome c.requires.order)
    (Puts-err _ _ c.from_residual.result _ c.from_residual.ensures.0
    (Underway-fails _ _ _ _ _ _ (rw first at c.loop-members.invariant.put) c.in_err-put_members.ensures))

pub returns : goal.returns
returns g c =
    rw (← cluster-rows c.args.distance c.args.genome.now c.args.records.now c.requires.on_genome c.requires.order)
    (Underway-ends _ _ _ (rw c.in_default.ensures.0 at c.loop-members.invariant.put))
