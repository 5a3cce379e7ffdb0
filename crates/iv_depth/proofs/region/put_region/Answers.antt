use Rattle.std.proofs.Common.{◌≡◌, ◌<◌, ◌∙◌, ap, refl, arith, rules, w64, to_z, of_z, SFits, length}
use Rattle.std.proofs.lemmas.Int.{ints, to_z-of_z}
use lib.IntN.{nat_abs}
use Rattle.iv_bytes.proofs.PutLemmas.{Underway-begin, Underway-more, Underway-fails, Underway-ends, Puts-err}
use Rattle.iv_lines.specs.Genome.{sequence_name, sequence_length}
use Rattle.iv_track.proofs.StepLemmas.{takes_one_more}
use Rattle.iv_depth.specs.RegionRows.{covered_runs_in, rows_in}
use Rattle.iv_depth.specs.Inside.Region.{AreChangesOn, IsRunStart}
use Rattle.iv_depth.specs.Inside.Walks.{depth_by}
use Rattle.iv_depth.proofs.Lookups.{AreLeft-run}
use Rattle.iv_depth.proofs.RegionLemmas.{rows-begin, rows-past, rows-run, IsWalking-begin, IsWalking-next}
use Rattle.iv_depth.proofs.region.put_region.Goals as goal

pub run_start-from-requires : goal.run_start-from-requires
run_start-from-requires g c = (sequence_length c.args.genome.now c.args.seq, c.requires.right)

pub loop-from-init : goal.loop-from-init
loop-from-init g c =
    let f = depth_by c.args.changes.now c.args.seq in
    let long = c.length_of-length.ensures in
    let begins : IsRunStart f c.args.start c.run_start-from.result = c.run_start-from.ensures.start in
    let right : AreChangesOn f c.args.seq c.length_of-length.result c.args.changes.now = rw long c.requires.right in
    let high : c.args.start < c.length_of-length.result = omega (arith, long, c.requires.some, c.requires.within) in
    let low : c.run_start-from.result < c.length_of-length.result = omega (arith, high, begins.low) in
    let fits : SFits w64 c.args.at = search rules in
    let steps = takes_one_more _ _ _ _ c.run_start-from.ensures.step c.walk-left.ensures.step in
    record {
      put = rw (rows-begin f c.length_of-length.result c.args.start c.args.stop c.args.output c.name_or_empty-name.result.now c.run_start-from.result low begins) (Underway-begin _ _);
      walk = IsWalking-begin f c.args.seq c.length_of-length.result c.args.start c.args.stop _ c.run_start-from.result (to_z w64 (of_z w64 c.args.at)) c.walk-left.result _ _ low begins
          (rw c.walk-left.ensures.entries (AreLeft-run f c.args.seq c.args.start c.length_of-length.result c.run_start-from.result c.args.changes.now right high begins))
          (to_z-of_z w64 c.args.at fits ∙ c.requires.at) steps.no_less steps.at_most refl;
    }

pub returns-in_err-put_run_in-clause-text : goal.returns-in_err-put_run_in-clause-text
returns-in_err-put_run_in-clause-text g c =
    let f = depth_by c.args.changes.now c.args.seq in
    let i = c.loop-from.invariant in
    let name = c.name_or_empty-name.result.now in
    let long = c.length_of-length.ensures in
    let near = c.loop-from-test.true in
    let e = c.run_stop-to.ensures.stop f c.loop-from.from i.walk.value (i.walk.left near) (omega (arith, long, near, c.requires.within)) in
    let depth : c.unsigned_abs.result ≡ i.walk.value = c.unsigned_abs.ensures.value ∙ ap nat_abs i.walk.is in
    let split = rows-run f c.args.seq c.length_of-length.result c.args.start c.args.stop c.loop-from.from i.walk.value _ _ _
    c.requires.some (omega (arith, long, c.requires.within)) near i.walk.same e c.args.output name in
    let whole : rows_in c.args.output (sequence_name c.args.genome.now c.args.seq) f (sequence_length c.args.genome.now c.args.seq) c.args.start c.args.stop
    ≡ rows_in c.args.output name f c.length_of-length.result c.args.start c.args.stop = rw (c.name_or_empty-name.ensures, long) refl in
    rw whole (Puts-err _ _ c.from_residual.result _ c.from_residual.ensures.0
    (Underway-fails _ _ _ _ _ _ (rw split at i.put) (rw depth at c.in_err-put_run_in.ensures)))

pub returns-in_err-put_run_in-clause-steps : goal.returns-in_err-put_run_in-clause-steps
returns-in_err-put_run_in-clause-steps g c =
    let f = depth_by c.args.changes.now c.args.seq in
    let i = c.loop-from.invariant in
    let long = c.length_of-length.ensures in
    let near = c.loop-from-test.true in
    let e = c.run_stop-to.ensures.stop f c.loop-from.from i.walk.value (i.walk.left near) (omega (arith, long, near, c.requires.within)) in
    let n = IsWalking-next f c.args.seq c.length_of-length.result c.args.start c.args.stop _ c.loop-from.from _ c.loop-from.left _ _ _ _ _ _
    c.requires.some (omega (arith, long, c.requires.within)) near i.walk e c.run_stop-to.ensures.step.no_less c.run_stop-to.ensures.step.at_most in
    let count : length (covered_runs_in f c.length_of-length.result c.args.start c.args.stop) ≡ length (covered_runs_in f (sequence_length c.args.genome.now c.args.seq) c.args.start c.args.stop) = rw long refl in
    record { no_less = omega (arith, n.no_less); at_most = omega (arith, n.at_most, count) }

pub overflow_add-depth : goal.overflow_add-depth
overflow_add-depth g c =
    let f = depth_by c.args.changes.now c.args.seq in
    let i = c.loop-from.invariant in
    let long = c.length_of-length.ensures in
    let near = c.loop-from-test.true in
    let e = c.run_stop-to.ensures.stop f c.loop-from.from i.walk.value (i.walk.left near) (omega (arith, long, near, c.requires.within)) in
    let fits : SFits w64 c.run_stop-to.result.1 = search rules in
    omega (arith, ints, i.walk.is, e.sum, e.small)

pub loop-from-smaller : goal.loop-from-smaller
loop-from-smaller g c =
    let f = depth_by c.args.changes.now c.args.seq in
    let i = c.loop-from.invariant in
    let long = c.length_of-length.ensures in
    let near = c.loop-from-test.true in
    let e = c.run_stop-to.ensures.stop f c.loop-from.from i.walk.value (i.walk.left near) (omega (arith, long, near, c.requires.within)) in
    omega (arith, near, e.low)

pub loop-from-preserved : goal.loop-from-preserved
loop-from-preserved g c =
    let f = depth_by c.args.changes.now c.args.seq in
    let i = c.loop-from.invariant in
    let name = c.name_or_empty-name.result.now in
    let long = c.length_of-length.ensures in
    let near = c.loop-from-test.true in
    let e = c.run_stop-to.ensures.stop f c.loop-from.from i.walk.value (i.walk.left near) (omega (arith, long, near, c.requires.within)) in
    let depth : c.unsigned_abs.result ≡ i.walk.value = c.unsigned_abs.ensures.value ∙ ap nat_abs i.walk.is in
    let split = rows-run f c.args.seq c.length_of-length.result c.args.start c.args.stop c.loop-from.from i.walk.value _ _ _
    c.requires.some (omega (arith, long, c.requires.within)) near i.walk.same e c.args.output name in
    let n = IsWalking-next f c.args.seq c.length_of-length.result c.args.start c.args.stop _ c.loop-from.from _ c.loop-from.left _ _ _ _ _ _
    c.requires.some (omega (arith, long, c.requires.within)) near i.walk e c.run_stop-to.ensures.step.no_less c.run_stop-to.ensures.step.at_most in
    let fits : SFits w64 c.run_stop-to.result.1 = search rules in
    record {
      put = Underway-more _ _ _ _ _ _ (rw split at i.put) (rw depth at c.in_ok-put_run_in.ensures);
      walk = record {
        value = n.value;
        is = omega (arith, ints, i.walk.is, e.sum, e.small, n.is);
        small = n.small;
        same = n.same;
        left = n.left;
        no_less = n.no_less;
        at_most = n.at_most;
        bare = n.bare;
      };
    }

pub returns-clause-text : goal.returns-clause-text
returns-clause-text g c =
    let f = depth_by c.args.changes.now c.args.seq in
    let i = c.loop-from.invariant in
    let name = c.name_or_empty-name.result.now in
    let long = c.length_of-length.ensures in
    let past = rows-past f c.length_of-length.result c.args.start c.args.stop c.args.output name c.loop-from.from c.loop-from-test.false in
    let whole : rows_in c.args.output (sequence_name c.args.genome.now c.args.seq) f (sequence_length c.args.genome.now c.args.seq) c.args.start c.args.stop
    ≡ rows_in c.args.output name f c.length_of-length.result c.args.start c.args.stop = rw (c.name_or_empty-name.ensures, long) refl in
    rw whole (Underway-ends _ _ _ (rw past at i.put))

pub returns-clause-steps : goal.returns-clause-steps
returns-clause-steps g c =
    let f = depth_by c.args.changes.now c.args.seq in
    let w = c.loop-from.invariant.walk in
    let long = c.length_of-length.ensures in
    let count : length (covered_runs_in f c.length_of-length.result c.args.start c.args.stop) ≡ length (covered_runs_in f (sequence_length c.args.genome.now c.args.seq) c.args.start c.args.stop) = rw long refl in
    record { no_less = w.no_less; at_most = omega (arith, w.at_most, count) }
