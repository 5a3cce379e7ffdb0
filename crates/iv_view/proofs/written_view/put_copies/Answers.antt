use Rattle.std.proofs.Common.{◌≡◌, ◌-◌, ◌+◌, ◌<◌, ℕ, ◌∷◌, suc, sym, ap, subst, arith}
use Rattle.std.specs.Prelude.{replicate}
use Rattle.iv_bytes.proofs.PutLemmas.{Underway, Underway-begin, Underway-more, Underway-fails, Underway-ends, Puts-err}
use Rattle.iv_view.specs.Inside.Texts.{records_text}
use Rattle.iv_view.proofs.written_view.put_copies.Goals as goal

-- a copy that is left is the first of those that are left
one-more : {X : Type 0} (n i : ℕ) (x : X) → i < n → replicate (n - i) x ≡ x ∷ replicate (n - (i + 1)) x
one-more n i x more = let is : n - i ≡ suc (n - (i + 1)) = omega (arith, more) in ap (λ k. replicate k x) is

pub copies-init : goal.copies-init
copies-init g c =
    let all : c.args.copies - 0 ≡ c.args.copies = omega arith in
    subst (λ n. Underway (g.S.Sink.state c.args.sink.now) (g.S.Sink.state c.args.sink.now) (records_text c.args.genome.now (replicate n c.args.feature.now)) (records_text c.args.genome.now (replicate c.args.copies c.args.feature.now)))
    (sym all) (Underway-begin _ _)

pub copies-preserved : goal.copies-preserved
copies-preserved g c =
    let next = one-more c.args.copies c.copies.counter c.args.feature.now c.copies-test.true in
    Underway-more _ _ _ _ _ _ (rw next at c.copies.invariant) c.in_ok-put_line.ensures

pub returns-in_err-put_line : goal.returns-in_err-put_line
returns-in_err-put_line g c =
    let next = one-more c.args.copies c.copies.counter c.args.feature.now c.copies-test.true in
    Puts-err _ _ c.from_residual.result _ c.from_residual.ensures.0
    (Underway-fails _ _ _ _ _ _ (rw next at c.copies.invariant) c.in_err-put_line.ensures)

pub returns : goal.returns
returns g c =
    let none : c.args.copies - c.copies.counter ≡ 0 = omega (arith, c.copies-test.false) in
    Underway-ends _ _ _ (rw none at c.copies.invariant)
