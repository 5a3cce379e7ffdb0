use Rattle.std.proofs.Common.{◌≡◌, ◌∙◌, ◌++◌, ◌∷◌, ◌+◌, List, ℕ, ap, sym, subst, drop, drop-cons, add-one}
use Rattle.std.specs.Cmp.Lexicographic.{slice_cmp}
use Rattle.std.specs.List.{join_with_byte}
use Rattle.std.specs.Ordering.{nat_cmp}
use Rattle.iv_bytes.proofs.PutLemmas.{Puts-err}
use Rattle.iv_lines.specs.Bytes.{comma}
use Rattle.iv_lines.specs.Ordered.{InOrder}
use Rattle.iv_cover.specs.Summaries.{different}
use Rattle.iv_cover.specs.Inside.Results.{after_commas}
use Rattle.iv_cover.proofs.DistinctLemmas.{begun, joined-first, others-next}
use Rattle.iv_cover.proofs.FirstLemmas.{Underway-first, FailsIn-first, Underway-step, Underway-failed}
use Rattle.iv_cover.proofs.summaries.put_sorted.Goals as goal

pub returns-in_err-put_all : goal.returns-in_err-put_all
returns-in_err-put_all g c =
    let x = c.in-Some.first.now in
    let xs = c.in-Some.others.now in
    let are = c.in-Some.ensures.cases.0 in
    let whole : join_with_byte comma (different c.args.values.now) ≡ x ++ after_commas (begun x xs)
    = ap (λ (l : List (List ℕ)). join_with_byte comma (different l)) are ∙ joined-first x xs (subst (InOrder (slice_cmp nat_cmp)) are c.requires) in
    Puts-err _ _ c.from_residual.result _ c.from_residual.ensures.0
    (FailsIn-first _ _ x _ _ whole (rw c.as_slice.ensures at c.in_err-put_all.ensures))

pub loop-value-init : goal.loop-value-init
loop-value-init g c =
    let x = c.in-Some.first.now in
    let xs = c.in-Some.others.now in
    let are = c.in-Some.ensures.cases.0 in
    let rise = subst (InOrder (slice_cmp nat_cmp)) are c.requires in
    let whole : join_with_byte comma (different c.args.values.now) ≡ x ++ after_commas (begun x xs)
    = ap (λ (l : List (List ℕ)). join_with_byte comma (different l)) are ∙ joined-first x xs rise in
    record { rise = rise; put = Underway-first _ _ x _ _ whole (rw c.as_slice.ensures at c.in_ok-put_all.ensures) }

pub returns-in_err-put_unless : goal.returns-in_err-put_unless
returns-in_err-put_unless g c =
    let i = c.loop-value.invariant in
    let x = c.loop-value.last.now in
    let y = c.value-item.result in
    let rest : List (List ℕ) = drop (c.loop-value.value-index + 1) c.in-Some.others.now in
    let parts : drop c.loop-value.value-index c.in-Some.others.now ≡ y ∷ rest
    = rw add-one (drop-cons c.in-Some.others.now c.loop-value.value-index y c.loop-value-test.true) ∙ ap (λ (v : List ℕ). v ∷ rest) (sym c.value-item.is) in
    let rise = subst (λ (l : List (List ℕ)). InOrder (slice_cmp nat_cmp) (x ∷ l)) parts i.rise in
    Puts-err _ _ c.from_residual-in_err-put_unless.result _ c.from_residual-in_err-put_unless.ensures.0
    (Underway-failed _ _ _ _ _ _ _ (ap (λ (l : List (List ℕ)). after_commas (begun x l)) parts ∙ others-next x y rest rise) i.put
    (rw (c.as_slice-in-loop-value.ensures, c.as_slice-in-loop-value-2.ensures) at c.in_err-put_unless.ensures))

pub loop-value-preserved : goal.loop-value-preserved
loop-value-preserved g c =
    let i = c.loop-value.invariant in
    let x = c.loop-value.last.now in
    let y = c.value-item.result in
    let rest : List (List ℕ) = drop (c.loop-value.value-index + 1) c.in-Some.others.now in
    let parts : drop c.loop-value.value-index c.in-Some.others.now ≡ y ∷ rest
    = rw add-one (drop-cons c.in-Some.others.now c.loop-value.value-index y c.loop-value-test.true) ∙ ap (λ (v : List ℕ). v ∷ rest) (sym c.value-item.is) in
    let rise = subst (λ (l : List (List ℕ)). InOrder (slice_cmp nat_cmp) (x ∷ l)) parts i.rise in
    record {
      rise = rise.1;
      put = Underway-step _ _ _ _ _ _ _ (ap (λ (l : List (List ℕ)). after_commas (begun x l)) parts ∙ others-next x y rest rise) i.put
          (rw (c.as_slice-in-loop-value.ensures, c.as_slice-in-loop-value-2.ensures) at c.in_ok-put_unless.ensures);
    }
