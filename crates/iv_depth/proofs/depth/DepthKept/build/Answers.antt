use Rattle.std.proofs.Common.{ℕ, ◌≤◌, List, All, length, ap, subst, sym, arith, ◌∙◌}
use Rattle.iv_lines.specs.Genome.{seq_count}
use Rattle.iv_lines.specs.Ordered.{AreInOrder}
use Rattle.iv_lines.specs.Read.{IsOnGenome}
use Rattle.iv_lines.specs.RecordValue.{RecordValue}
use Rattle.iv_ledger.specs.Entries.{IsLedger, pair_cmp}
use Rattle.iv_ledger.proofs.SeenLemmas.{seen-same}
use Rattle.iv_places.proofs.SequenceLemmas.{all-from, from-in, from-order}
use Rattle.iv_track.proofs.WalkLemmas.{filter-from_first}
use Rattle.iv_depth.specs.Changes.{AreChangesOf}
use Rattle.iv_depth.specs.Inside.Changes.{AreChangesBefore}
use Rattle.iv_depth.proofs.EdgeLemmas.{edges-of, left-next}
use Rattle.iv_depth.proofs.NetChangesLemmas.{before-begin, before-all}
use Rattle.iv_depth.proofs.depth.DepthKept.build.Goals as goal

pub of-requires : goal.of-requires
of-requires g c =
    omega (arith, ap (λ (l : List RecordValue). length l) (c.walk-records.ensures.records ∙ filter-from_first c.args.track.now.records), c.len-count.ensures.len)

pub loop-seq-init : goal.loop-seq-init
loop-seq-init g c = record {
  left_is = c.in_ok-sequences.ensures ∙ c.walk-records.ensures.records ∙ filter-from_first c.args.track.now.records ∙ sym (all-from c.args.track.now.records);
  built = before-begin c.args.track.now.records c.in_ok-built.built c.in_ok-built.ensures;
}

pub gather-requires-clause-order : goal.gather-requires-clause-order
gather-requires-clause-order g c =
    subst AreInOrder (sym c.loop-seq.invariant.left_is) (from-order c.loop-seq.seq c.args.track.now.records c.len-count.ensures.ordered)

pub gather-requires-clause-from : goal.gather-requires-clause-from
gather-requires-clause-from g c =
    subst (λ (l : List RecordValue). All (λ r. c.loop-seq.seq ≤ r.seq) l) (sym c.loop-seq.invariant.left_is) (from-in c.loop-seq.seq c.args.track.now.records)

pub push_changes-requires : goal.push_changes-requires
push_changes-requires g c =
    let lie : All (IsOnGenome c.args.genome.now) c.args.track.now.records = λ k d within. (c.requires.fit k d within).is_placed in (
      c.args.track.now.records,
      c.loop-seq.invariant.built,
      edges-of c.args.genome.now c.loop-seq.seq c.args.track.now.records c.loop-seq.sequences.left c.gather.new.self c.loop-seq.invariant.left_is c.gather.ensures c.len-count.ensures.ordered lie
          c.edges.result c.edges.ensures,
    )

pub loop-seq-preserved : goal.loop-seq-preserved
loop-seq-preserved g c =
    let i = c.loop-seq.invariant in
    let lie : All (IsOnGenome c.args.genome.now) c.args.track.now.records = λ k d within. (c.requires.fit k d within).is_placed in
    record {
      left_is = left-next c.args.genome.now c.loop-seq.seq c.args.track.now.records c.loop-seq.sequences.left c.gather.new.self i.left_is c.gather.ensures c.len-count.ensures.ordered lie;
      built = c.in_ok-push_changes.ensures c.args.track.now.records i.built
          (edges-of c.args.genome.now c.loop-seq.seq c.args.track.now.records c.loop-seq.sequences.left c.gather.new.self i.left_is c.gather.ensures c.len-count.ensures.ordered lie
          c.edges.result c.edges.ensures);
    }

pub finish-requires-clause-ascend : goal.finish-requires-clause-ascend
finish-requires-clause-ascend g c = subst (IsLedger pair_cmp) (sym (seen-same c.loop-seq.built)) c.loop-seq.invariant.built.ordered

pub returns-clause-right : goal.returns-clause-right
returns-clause-right g c =
    let i = c.loop-seq.invariant in
    let built : AreChangesBefore (seq_count c.args.genome.now) c.args.track.now.records c.loop-seq.built
    = subst (λ (s : ℕ). AreChangesBefore s c.args.track.now.records c.loop-seq.built) (omega (arith, c.loop-seq-test.false, c.count-seq-end.ensures.value)) i.built in
    subst (AreChangesOf c.args.track.now.records) (sym (c.in_ok-finish.ensures.entries ∙ seen-same c.loop-seq.built))
    (before-all c.args.genome.now c.args.track.now.width c.args.track.now.records c.loop-seq.built c.requires.fit built)
