-- Records without their columns after the third.
use Rattle.std.proofs.Common.{◌≡◌, ℕ, ◌+◌, Bool, true, false, cond, List, [], ◌∷◌, map, refl, sym, ap, ◌∙◌, arith}
use Rattle.std.specs.Prelude.{count_by, fold}
use Rattle.std.specs.List.{AllByRecursion}
use Rattle.std.specs.Ordering.{is_eq, is_le, nat_cmp, ordering_then}
use Rattle.std.specs.declared.cmp.Ordering.{Ordering}
use Rattle.std.specs.declared.cmp.Ordering.TheVariants.{Equal, Greater}
use Rattle.std.proofs.lemmas.List.Sums.{sum_by-cons}
use Rattle.iv_lines.specs.Ordered.{added, ordered, AreInOrder}
use Rattle.iv_lines.specs.RecordValue.{RecordValue, record_cmp}
use Rattle.iv_lines.specs.Inside.RecordValue.{beside_cmp}
use Rattle.iv_lines.proofs.OrderedLemmas.{ordered-in_order, rows-alone}
use Rattle.iv_lines.specs.Intervals.{bare}
use Rattle.iv_places.specs.Inside.Places.{record_at, records_at}
use Rattle.iv_places.specs.declared.placed_records.Place.{Place}

-- ---- records of places

-- at width 3 the records of places are bare
pub rows-bare : (w : ℕ) (rests : List ℕ) (places : List Place) → records_at 3 rests places ≡ map bare (records_at w rests places)
rows-bare w rests [] = refl
rows-bare w rests (p ∷ places) = ap (λ (l : List RecordValue). record_at 3 rests p ∷ l) (rows-bare w rests places)

-- ---- their order

-- what is no more by interval and columns is no more by interval
le_first : (a b c d : Ordering) → is_le (ordering_then a (ordering_then b (ordering_then c d))) ≡ true → is_le (ordering_then a (ordering_then b (ordering_then c Equal))) ≡ true
le_first Greater b c d h = cc
le_first Equal Greater c d h = cc
le_first Equal Equal Greater d h = cc
le_first a b c d h = refl

bare-le : (x y : RecordValue) → is_le (record_cmp x y) ≡ true → is_le (record_cmp (bare x) (bare y)) ≡ true
bare-le x y h = le_first (nat_cmp x.seq y.seq) (nat_cmp x.start y.start) (nat_cmp x.stop y.stop) (beside_cmp x y) h

pub in_order-bare : (records : List RecordValue) → AreInOrder records → AreInOrder (map bare records)
in_order-bare [] up = tt
in_order-bare (r ∷ records) up = (by records up.0, in_order-bare records up.1)
  where
    by : (xs : List RecordValue) → AllByRecursion (λ y. is_le (record_cmp r y) ≡ true) xs → AllByRecursion (λ y. is_le (record_cmp (bare r) y) ≡ true) (map bare xs)
    by [] all = tt
    by (x ∷ xs) all = (bare-le r x all.0, by xs all.1)

-- as many records in order pass a test as did before
module _ (p : RecordValue → Bool) where
  count-cons : (x : RecordValue) (xs : List RecordValue) → count_by p (x ∷ xs) ≡ cond (p x) 1 0 + count_by p xs
  count-cons x xs = sum_by-cons (λ r. cond (p r) 1 0) x xs

  count-either : (b : Bool) (x q : RecordValue) (xs ys : List RecordValue) → count_by p ys ≡ cond (p x) 1 0 + count_by p xs → count_by p (cond b (x ∷ q ∷ xs) (q ∷ ys)) ≡ cond (p x) 1 0 + count_by p (q ∷ xs)
  count-either true x q xs ys e = count-cons x (q ∷ xs)
  count-either false x q xs ys e = omega (arith, count-cons q ys, count-cons q xs, e)

  count-added : (xs : List RecordValue) (x : RecordValue) → count_by p (added xs x) ≡ cond (p x) 1 0 + count_by p xs
  count-added [] x = count-cons x []
  count-added (q ∷ xs) x = count-either (is_le (record_cmp x q)) x q xs (added xs x) (count-added xs x)

  count-all_added : (xs start : List RecordValue) → count_by p (fold added start xs) ≡ count_by p start + count_by p xs
  count-all_added [] start = omega arith
  count-all_added (x ∷ xs) start = omega (arith, count-all_added xs (added start x), count-added start x, count-cons x xs)

  count-ordered : (records : List RecordValue) → count_by p (ordered records) ≡ count_by p records
  count-ordered records = count-all_added records [] ∙ omega arith

pub count-bare : (p : RecordValue → Bool) (records : List RecordValue) → count_by p (map bare records) ≡ count_by (λ r. p (bare r)) records
count-bare p [] = refl
count-bare p (r ∷ records) = omega (arith, count-cons p (bare r) (map bare records), count-cons (λ x. p (bare x)) r records, count-bare p records)

-- it is all one whether columns are dropped before records are put in order or after
pub ordered-bare : (records : List RecordValue) → ordered (map bare records) ≡ map bare (ordered records)
ordered-bare records = rows-alone (ordered (map bare records)) (map bare (ordered records)) (ordered-in_order (map bare records)) (in_order-bare (ordered records) (ordered-in_order records))
    (λ r. count-ordered (λ q. is_eq (record_cmp r q)) (map bare records)
    ∙ count-bare (λ q. is_eq (record_cmp r q)) records
    ∙ sym (count-ordered (λ q. is_eq (record_cmp r (bare q))) records)
    ∙ sym (count-bare (λ q. is_eq (record_cmp r q)) (ordered records)))
