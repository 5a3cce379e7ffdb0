use Rattle.std.proofs.Common.{◌≡◌, ℕ, ◌∙◌, ap, refl, arith, rules, w64, SFits}
use Rattle.std.proofs.lemmas.Int.{ints}
use lib.IntN.{nat_abs}
use Rattle.iv_bytes.proofs.PutLemmas.{Underway-begin, Underway-more, Underway-fails, Underway-last, Puts-err}
use Rattle.iv_track.proofs.StepLemmas.{each_none, each_more}
use Rattle.iv_depth.specs.Inside.Texts.{sequence_text}
use Rattle.iv_depth.specs.DepthRows.{rows_between}
use Rattle.iv_depth.proofs.Stretches.{rows-next, rows-end}
use Rattle.iv_depth.proofs.depth_rows.put_sequence.Goals as goal

pub loop-stop-init : goal.loop-stop-init
loop-stop-init g c = record {
  put = λ f right. Underway-begin _ _;
  at = λ f right. (0, refl, right);
  steps = each_none _ _;
}

pub returns-in_err-put_stretch-clause-text : goal.returns-in_err-put_stretch-clause-text
returns-in_err-put_stretch-clause-text g c = λ f right.
    let i = c.loop-stop.invariant in
    let at = i.at f right in
    let name = c.name_or_empty-name.result.now in
    let s = (c.in-Some.ensures.change c.args.genome.now f c.loop-stop.start at.0 at.2).0 in
    let split = rows-next c.args.output name (f c.args.seq) c.loop-stop.start c.length_or_zero-length.result _ _ c.unsigned_abs.result _ s
    c.length_or_zero-length.ensures (c.unsigned_abs.ensures.value ∙ ap nat_abs at.1) in
    let whole : sequence_text c.args.output c.args.genome.now f c.args.seq ≡ rows_between c.args.output name (f c.args.seq) 0 c.length_or_zero-length.result = rw (c.name_or_empty-name.ensures, c.length_or_zero-length.ensures) refl in
    rw whole (Puts-err _ _ c.from_residual.result _ c.from_residual.ensures.0
    (Underway-fails _ _ _ _ _ _ (rw split at (i.put f right)) c.in_err-put_stretch.ensures))

pub overflow_add-depth : goal.overflow_add-depth
overflow_add-depth g c =
    let right : (f : ℕ → ℕ → ℕ) × g.C.DepthChanges.are_of c.args.changes.now c.args.genome.now f c.args.seq 0 0 = search rules in
    let at = c.loop-stop.invariant.at right.0 right.1 in
    let s = (c.in-Some.ensures.change c.args.genome.now right.0 c.loop-stop.start at.0 at.2).0 in
    let fits : SFits w64 c.in-Some.change = search rules in
    omega (arith, ints, at.1, s.sum, s.small)

pub loop-stop-preserved : goal.loop-stop-preserved
loop-stop-preserved g c =
    let i = c.loop-stop.invariant in
    let fits : SFits w64 c.in-Some.change = search rules in
    record {
      put = λ f right.
          let at = i.at f right in
          let s = (c.in-Some.ensures.change c.args.genome.now f c.loop-stop.start at.0 at.2).0 in
          let split = rows-next c.args.output c.name_or_empty-name.result.now (f c.args.seq) c.loop-stop.start c.length_or_zero-length.result _ _ c.unsigned_abs.result _ s
          c.length_or_zero-length.ensures (c.unsigned_abs.ensures.value ∙ ap nat_abs at.1) in
          Underway-more _ _ _ _ _ _ (rw split at (i.put f right)) c.in_ok-put_stretch.ensures;
      at = λ f right.
          let at = i.at f right in
          let next = c.in-Some.ensures.change c.args.genome.now f c.loop-stop.start at.0 at.2 in
          (f c.args.seq c.in-Some.stop, omega (arith, ints, at.1, next.0.sum, next.0.small), next.1);
      steps = each_more _ _ _ _ _ _ i.steps c.in-Some.ensures.steps;
    }

pub returns-clause-text : goal.returns-clause-text
returns-clause-text g c = λ f right.
    let i = c.loop-stop.invariant in
    let at = i.at f right in
    let name = c.name_or_empty-name.result.now in
    let same = (c.in_default.ensures.change c.args.genome.now f c.loop-stop.start at.0 at.2).0 in
    let depth : c.unsigned_abs-2.result ≡ at.0 = c.unsigned_abs-2.ensures.value ∙ ap nat_abs at.1 in
    let last = rows-end c.args.output name (f c.args.seq) c.unsigned_abs-2.result c.loop-stop.start c.length_or_zero-length.result (rw depth same) in
    let whole : sequence_text c.args.output c.args.genome.now f c.args.seq ≡ rows_between c.args.output name (f c.args.seq) 0 c.length_or_zero-length.result = rw (c.name_or_empty-name.ensures, c.length_or_zero-length.ensures) refl in
    rw whole (Underway-last _ _ _ _ c.put_stretch-2.result _ (rw last at (i.put f right)) c.put_stretch-2.ensures)
