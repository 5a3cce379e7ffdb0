-- Places in the order of their records.
use Rattle.std.proofs.Common.{◌≡◌, ℕ, ◌+◌, ◌<◌, Bool, true, false, not, List, length, map, refl, sym, ap, subst, ◌∙◌, arith}
use Rattle.std.proofs.lemmas.List.{length-map, get_or-map}
use Rattle.std.proofs.lemmas.List.Sorted.{IsPermutation-map}
use Rattle.std.proofs.lemmas.List.MinMax.{ranks_by}
use Rattle.std.proofs.lemmas.Fn.{always_returns_same}
use Rattle.std.proofs.lemmas.Bool.{false≢true}
use Rattle.std.specs.Fn.{Called, ComparesAs, ComputesOnPairs, Mut}
use Rattle.std.specs.List.{IsAllAdjacentAnswer}
use Rattle.std.specs.Prelude.{IsTrue, ◌↔◌}
use Rattle.std.specs.Borrow.{Bor}
use Rattle.std.specs.Cmp.{IsStrictWeakOrder, nat_cmp_total, tied_itself}
use Rattle.std.specs.List.Sorted.{IsPermutation, IsSorted, IsSortedBy}
use Rattle.std.specs.Ordering.{nat_cmp, is_lt}
use Rattle.std.specs.declared.cmp.Ordering.{Ordering}
use Rattle.std.specs.declared.cmp.Ordering.TheVariants.{Equal}
use Rattle.iv_lines.proofs.OrderedLemmas.{ordered-sorted}
use Rattle.iv_lines.specs.Ordered.{ordered}
use Rattle.iv_lines.specs.RecordValue.{RecordValue, record_cmp, records_total}

pub nat_tied : (x y : ℕ) → x ≡ y → nat_cmp x y ≡ Equal
nat_tied x y e = subst (λ (z : ℕ). nat_cmp x z ≡ Equal) e (tied_itself nat_cmp_total x)

sorted-map : {K X : Type 0} (cmp : K → K → Ordering) (key : X → K) (e : X) (xs : List X) → IsSortedBy (λ x y. is_lt (cmp (key x) (key y))) xs → IsSorted cmp (map key xs)
sorted-map cmp key e xs up = λ k d from to.
    let within : k + 1 < length xs = omega (arith, length-map xs key) in
    rw (get_or-map key xs (k + 1) e d within, get_or-map key xs k e d (omega arith)) (up k e from within)

-- things that a sort by their records has moved
pub sorted-rows : {X : Type 0} (feature : X → RecordValue) (e : X) (old new : List X) → IsPermutation old new
    → IsSortedBy (λ x y. is_lt (record_cmp (feature x) (feature y))) new → map feature new ≡ ordered (map feature old)
sorted-rows feature e old new moved up =
    ordered-sorted (map feature old) (map feature new) (IsPermutation-map feature old new moved) (sorted-map record_cmp feature e new up)

-- what a sort by records says of its closure, if each call compares the records of two things
pub sorted-by-rows : {X F : Type 0} {g : Mut F (Bor X × (Bor X × Unit {0})) Ordering} {f : F} (feature : X → RecordValue) (ps : List X)
    → ((lt : X → X → Bool) → IsStrictWeakOrder lt → ComparesAs g lt f → IsSortedBy lt ps)
    → ((a : Bor X × (Bor X × Unit {0})) (r : Ordering) (f' : F) → Called g f a r f' → (r ≡ record_cmp (feature a.0.now) (feature a.1.0.now)) × (f' ≡ f))
    → IsSortedBy (λ x y. is_lt (record_cmp (feature x) (feature y))) ps
sorted-by-rows {g = g} {f = f} feature ps up h =
    up (λ x y. is_lt (record_cmp (feature x) (feature y))) (ranks_by records_total feature)
    (always_returns_same g (λ a r. is_lt r ≡ is_lt (record_cmp (feature a.0.now) (feature a.1.0.now))) f (λ a r f' k. (ap is_lt (h a r f' k).0, (h a r f' k).1)))

-- what `is_sorted_by` says of its closure, if each call answers whether the second doesn't belong in front of the first
pub in-order : {X F : Type 0} {g : Mut F (Bor X × (Bor X × Unit {0})) Bool} {f : F} (d : X) (lt : X → X → Bool) (ps : List X) (r : Bool)
    → ((e : X → X → Bool) → ComputesOnPairs g e f → IsAllAdjacentAnswer (λ x y b. b ≡ e x y) ps r)
    → ((a : Bor X × (Bor X × Unit {0})) (s : Bool) (f' : F) → Called g f a s f' → (s ≡ not (lt a.1.0.now a.0.now)) × (f' ≡ f))
    → IsTrue r ↔ IsSortedBy lt ps
in-order {g = g} {f = f} d lt ps r cases h = by r (cases (λ x y. not (lt y x)) (always_returns_same g (λ a s. s ≡ not (lt a.1.0.now a.0.now)) f h))
  where
    turned : (t s : Bool) → s ≡ not t → t ≡ not s
    turned true s e = ap not (sym e)
    turned false s e = ap not (sym e)

    by : (t : Bool) → IsAllAdjacentAnswer (λ x y b. b ≡ not (lt y x)) ps t → IsTrue t ↔ IsSortedBy lt ps
    by true all = (λ _ k d from to. turned (lt _ _) true (all k d to), λ _. refl)
    by false some = (
      λ is. absurd (false≢true is),
      λ up. absurd (false≢true (some.2 d ∙ ap not (up some.0 d (omega arith) some.1))),
    )
