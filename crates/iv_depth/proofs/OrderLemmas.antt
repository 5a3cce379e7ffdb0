-- Stops in order.
use Rattle.std.proofs.Common.{ℕ, ◌≡◌, ◌+◌, List, [], ◌∷◌, map, refl, sym, ◌∙◌, ap, arith}
use Rattle.std.specs.List.Sorted.{IsPermutation, IsSorted, IsNonDecreasing}
use Rattle.std.specs.Ordering.{nat_cmp}
use Rattle.std.proofs.lemmas.List.Sorted.{IsNonDecreasingBy-drop, IsNonDecreasingBy-from_sort, sum_by-IsPermutation}
use Rattle.std.proofs.lemmas.List.Sums.{sum_by-cons}
use Rattle.std.specs.Prelude.{sum_by, nat_le, if◌then◌else◌}
use Rattle.iv_lines.specs.RecordValue.{RecordValue}
use Rattle.iv_cover.specs.Blocks.{stop_of}
use Rattle.iv_depth.specs.Inside.Edges.{Rise, AreStopsOf, up_to}

pub up_to-sum : (p : ℕ) (ns : List ℕ) → up_to p ns ≡ sum_by (λ n. if nat_le n p then 1 else 0) ns
up_to-sum p [] = refl
up_to-sum p (n ∷ ns) =
    ap (λ (k : ℕ). (if nat_le n p then 1 else 0) + k) (up_to-sum p ns) ∙ sym (sum_by-cons (λ n. if nat_le n p then 1 else 0) n ns)

pub rise-sorted : (ns : List ℕ) → IsNonDecreasing ns → Rise 0 ns
rise-sorted [] h = tt
rise-sorted (n ∷ []) h = (omega arith, tt)
rise-sorted (n ∷ m ∷ ns) h =
    let rest : Rise 0 (m ∷ ns) = rise-sorted (m ∷ ns) (IsNonDecreasingBy-drop (λ x. x) 1 (n ∷ m ∷ ns) h) in
    (omega arith, (h 0 1 0 (omega arith) (omega arith), rest.1))

pub AreStopsOf-sorted : (records : List RecordValue) (stops : List ℕ) → IsPermutation (map stop_of records) stops → IsSorted nat_cmp stops → AreStopsOf records stops
AreStopsOf-sorted records stops same sorted = record {
  rise = rise-sorted stops (IsNonDecreasingBy-from_sort (λ x. x) stops sorted);
  sums = λ p. up_to-sum p stops ∙ sum_by-IsPermutation (λ n. if nat_le n p then 1 else 0) (map stop_of records) stops same ∙ sym (up_to-sum p (map stop_of records));
}
