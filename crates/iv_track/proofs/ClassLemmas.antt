-- About how long the records of a track are, with one more and with one less.
use Rattle.std.proofs.Common.{◌≡◌, ℕ, ◌+◌, ◌-◌, ◌*◌, ◌^◌, ◌<◌, ◌≤◌, ◌==◌, inl, inr, Bool, true, false, cond, List, [], ◌∷◌, refl, sym, ap, ◌∙◌, subst, arith, ◌++◌, length, map, take, get_or, suc, eq-eqb}
use Rattle.std.specs.Prelude.{All, count_by, replicate, slice_index_or, slice_set}
use Rattle.std.specs.Map.{keys_of}
use Rattle.std.specs.Int.Count.{count_leading_zeros}
use Rattle.std.proofs.lemmas.Bool.{cases_Bool, cases_lt, eqb-true, eqb-false, cond-true, cond-false}
use Rattle.std.proofs.lemmas.Nat.{leading_top}
use Rattle.std.proofs.lemmas.List.{get_or-replicate, get_or_past, get_or-set_same, get_or-set_other, get_or-map, length-map, length-set, take_more}
use Rattle.std.proofs.lemmas.List.Elements.{All-from_recursion, All-push, recursion_from_All}
use Rattle.std.proofs.lemmas.List.Sums.{sum_by-cons, sum_by_push, count_by-le-length}
use Rattle.std.proofs.Math.ListN.{length-replicate}
use Rattle.std.proofs.Math.Nat.{two-pow-succ}
use Rattle.iv_lines.specs.Ordered.{AreInOrder, added, copies}
use Rattle.iv_lines.specs.RecordValue.{RecordValue, IsPlaced, record_cmp}
use Rattle.iv_lines.specs.Intervals.{interval_of, record_of_interval}
use Rattle.iv_lines.specs.declared.interval.Interval.{Interval}
use Rattle.iv_places.specs.Inside.Places.{HasBase, interval_in}
use Rattle.iv_places.specs.declared.placed_records.Place.{Place}
use Rattle.iv_lines.proofs.ListLemmas.{Mem, all-mem, mem-all}
use Rattle.iv_track.specs.Copies.{expanded}
use Rattle.iv_track.specs.Regions.{longest}
use Rattle.iv_track.specs.Tracked.{removed}
use Rattle.iv_track.specs.Inside.LengthClasses.{length_class, with_class, AreClasses}
use Rattle.iv_track.proofs.Counts.{all-expanded, count-added}
use Rattle.iv_track.proofs.Edits.{added-removed}
use Rattle.iv_track.proofs.RegionLemmas.{all-longest}

-- ---- one counter of them

-- the counters after a write of one
written : (counts : List ℕ) (c v k : ℕ) → c < length counts → slice_index_or (slice_set counts c v) k 0 ≡ cond (c == k) v (slice_index_or counts k 0)
written counts c v k within = elim (cases_Bool (c == k)) [
  | inl is ↦
      let e : c ≡ k = eqb-true c k is in
      subst (λ j. slice_index_or (slice_set counts c v) j 0 ≡ v) e (get_or-set_same counts c v 0 within) ∙ sym (cond-true (c == k) v (slice_index_or counts k 0) is)
  | inr not ↦ get_or-set_other counts c k v 0 (λ e. eqb-false c k not (sym e)) ∙ sym (cond-false (c == k) v (slice_index_or counts k 0) not)
]

plus : (b : Bool) (v n m : ℕ) → (b ≡ true → v ≡ m + n) → cond b v m ≡ cond b n 0 + m
plus true v n m h = let e = h refl in omega arith
plus false v n m h = omega arith

less : (b : Bool) (v m : ℕ) → (b ≡ true → v ≡ m - 1) → (b ≡ true → 0 < m) → cond b 1 0 + cond b v m ≡ m
less true v m h some = let e : v ≡ m - 1 = h refl in let s : 0 < m = some refl in omega arith
less false v m h some = omega arith

-- one counter says so many more
raised : (counts : List ℕ) (c n k : ℕ) → c < length counts → slice_index_or (slice_set counts c (slice_index_or counts c 0 + n)) k 0 ≡ cond (c == k) n 0 + slice_index_or counts k 0
raised counts c n k within =
    written counts c (slice_index_or counts c 0 + n) k within
    ∙ plus (c == k) (slice_index_or counts c 0 + n) n (slice_index_or counts k 0) (λ is. ap (λ j. slice_index_or counts j 0 + n) (eqb-true c k is))

-- or one less
lowered : (counts : List ℕ) (c k : ℕ) → c < length counts → 0 < slice_index_or counts c 0
    → cond (c == k) 1 0 + slice_index_or (slice_set counts c (slice_index_or counts c 0 - 1)) k 0 ≡ slice_index_or counts k 0
lowered counts c k within some =
    ap (λ m. cond (c == k) 1 0 + m) (written counts c (slice_index_or counts c 0 - 1) k within)
    ∙ less (c == k) (slice_index_or counts c 0 - 1) (slice_index_or counts k 0) (λ is. ap (λ j. slice_index_or counts j 0 - 1) (eqb-true c k is)) (λ is. subst (λ j. 0 < slice_index_or counts j 0) (eqb-true c k is) some)

-- ---- a list of records

pub classes-none : (counts : List ℕ) → counts ≡ replicate 33 0 → AreClasses counts []
classes-none counts e = record {
  classes = ap {B = ℕ} length e ∙ length-replicate {A = ℕ} 33 0;
  counted = λ k. ap (λ (l : List ℕ). slice_index_or l k 0) e ∙ none k;
}
  where
    none : (k : ℕ) → slice_index_or {A = ℕ} (replicate 33 0) k 0 ≡ 0
    none k = elim (cases_lt k 33) [
      | inl low ↦ get_or-replicate 33 k 0 0 low
      | inr high ↦ get_or_past {X = ℕ} (replicate 33 0) k 0 (omega (arith, high, length-replicate {A = ℕ} 33 0))
    ]

-- no class has more records than there are
pub classes-room : (counts : List ℕ) (records : List RecordValue) (k : ℕ) → AreClasses counts records → slice_index_or counts k 0 ≤ length records
classes-room counts records k a = omega (arith, a.counted k, count_by-le-length (λ r. length_class r == k) records)

pub classes-added : (counts : List ℕ) (records : List RecordValue) (r : RecordValue) → AreClasses counts records → length_class r < 33
    → AreClasses (slice_set counts (length_class r) (slice_index_or counts (length_class r) 0 + 1)) (added records r)
classes-added counts records r a within = record {
  classes = length-set counts (length_class r) (slice_index_or counts (length_class r) 0 + 1) ∙ a.classes;
  counted = λ k. omega (arith, raised counts (length_class r) 1 k (omega (arith, a.classes, within)), a.counted k, count-added record_cmp (λ q. length_class q == k) records r);
}

with_class-removed : (records : List RecordValue) (r : RecordValue) (k : ℕ) → AreInOrder records → 0 < copies records r
    → with_class records k ≡ cond (length_class r == k) 1 0 + with_class (removed records r) k
with_class-removed records r k order there =
    ap (λ (l : List RecordValue). with_class l k) (added-removed records r order there) ∙ count-added record_cmp (λ q. length_class q == k) (removed records r) r

-- the class of a record that is there is counted
pub classes-some : (counts : List ℕ) (records : List RecordValue) (r : RecordValue) → AreClasses counts records → AreInOrder records → 0 < copies records r → 0 < slice_index_or counts (length_class r) 0
classes-some counts records r a order there =
    omega (arith, a.counted (length_class r), with_class-removed records r (length_class r) order there, ap {B = ℕ} (λ b. cond b 1 0) (eq-eqb (length_class r) (length_class r) refl))

pub classes-removed : (counts : List ℕ) (records : List RecordValue) (r : RecordValue) → AreClasses counts records → AreInOrder records → 0 < copies records r → length_class r < 33
    → AreClasses (slice_set counts (length_class r) (slice_index_or counts (length_class r) 0 - 1)) (removed records r)
classes-removed counts records r a order there within = record {
  classes = length-set counts (length_class r) (slice_index_or counts (length_class r) 0 - 1) ∙ a.classes;
  counted = λ k. omega (
    arith,
    lowered counts (length_class r) k (omega (arith, a.classes, within)) (classes-some counts records r a order there),
    a.counted k,
    with_class-removed records r k order there,
  );
}

-- ---- records, one after another

-- the first records are counted, and placed
pub record AreCountedTo (counts : List ℕ) (records : List RecordValue) (i : ℕ) : Type 0 where
  pub counted : AreClasses counts (take i records)
  pub placed : All IsPlaced (take i records)

-- one more, which has this place
pub counted-one : (counts new : List ℕ) (records : List RecordValue) (places : List Place) (d : Place) (i c : ℕ) → map interval_in places ≡ map interval_of records → i < length places
    → HasBase (get_or places i d) → (get_or places i d).interval.seq < 2 ^ 32 → (get_or places i d).interval.stop < 2 ^ 32
    → c ≡ 32 - count_leading_zeros 32 ((get_or places i d).interval.stop - (get_or places i d).interval.start) → c < 33 → new ≡ slice_set counts c (slice_index_or counts c 0 + 1)
    → AreCountedTo counts records i → AreCountedTo new records (i + 1)
counted-one counts new records places d i c same within based seq stop class low is a = by (get_or records i (record_of_interval d.interval)) refl
  where
    within_too : i < length records
    within_too = omega (arith, within, ap length same, length-map places interval_in, length-map records interval_of)

    by : (r : RecordValue) → r ≡ get_or records i (record_of_interval d.interval) → AreCountedTo new records (i + 1)
    by r at =
        let interval : interval_of r ≡ (get_or places i d).interval =
        ap interval_of at ∙ sym (get_or-map interval_of records i (record_of_interval d.interval) d.interval within_too)
        ∙ sym (ap (λ (l : List Interval). get_or l i d.interval) same) ∙ get_or-map interval_in places i d d.interval within in
        let one : take (i + 1) records ≡ take i records ++ r ∷ [] = take_more records i (record_of_interval d.interval) within_too ∙ ap (λ (q : RecordValue). take i records ++ q ∷ []) (sym at) in
        let known : c ≡ length_class r = class ∙ (λ j. 32 - count_leading_zeros 32 ((sym interval j).stop - (sym interval j).start)) in
        record {
          counted = record {
            classes = ap {B = ℕ} length is ∙ length-set counts c (slice_index_or counts c 0 + 1) ∙ a.counted.classes;
            counted = λ k. omega (
              arith,
              ap (λ (l : List ℕ). slice_index_or l k 0) is,
              raised counts c 1 k (omega (arith, a.counted.classes, low)),
              a.counted.counted k,
              ap (λ (l : List RecordValue). with_class l k) one,
              sum_by_push (λ (q : RecordValue). cond (length_class q == k) 1 0) (take i records) r,
              ap {B = ℕ} (λ (n : ℕ). cond (n == k) 1 0) known,
            );
          };
          placed = subst (All IsPlaced) (sym one) (All-push IsPlaced (take i records) r a.placed (record {
            some = subst (λ (x : Interval). x.start < x.stop) (sym interval) based;
            sequence = subst (λ (x : Interval). x.seq < 2 ^ 32) (sym interval) seq;
            stop = subst (λ (x : Interval). x.stop < 2 ^ 32) (sym interval) stop;
          }));
        }

-- ---- a bound of all lengths

module _ {X : Type 0} (p : X → Bool) where
  -- what passes a test is counted
  passed-counts : (xs : List X) (q : X) → Mem q xs → p q ≡ true → 0 < count_by p xs
  passed-counts [] q m e = absurd m
  passed-counts (x ∷ xs) q (inl at) e = omega (arith, sum_by-cons (λ y. cond (p y) 1 0) x xs, ap {B = ℕ} (λ b. cond b 1 0) (ap p at ∙ e))
  passed-counts (x ∷ xs) q (inr m) e = omega (arith, sum_by-cons (λ y. cond (p y) 1 0) x xs, passed-counts xs q m e)

  -- and if some are counted one passes
  counts-passed : (xs : List X) → 0 < count_by p xs → (q : X) × Mem q xs × (p q ≡ true)
  counts-passed [] some = absurd (omega arith)
  counts-passed (x ∷ xs) some = elim (cases_Bool (p x)) [
    | inl e ↦ (x, inl refl, e)
    | inr e ↦
        let rest = counts-passed xs (omega (arith, some, sum_by-cons (λ y. cond (p y) 1 0) x xs, ap {B = ℕ} (λ b. cond b 1 0) e)) in
        (rest.0, inr rest.1, rest.2)
  ]

-- a record has fewer positions than 2 to the power of its class, and at least half as many
class-means : (r : RecordValue) → IsPlaced r → (r.stop - r.start < 2 ^ length_class r) × (2 ^ length_class r ≤ 2 * (r.stop - r.start))
class-means r placed =
    let top = leading_top 32 (r.stop - r.start) (omega (arith, placed.some)) (omega (arith, placed.stop)) in
    let digits : length_class r ≡ suc top.0 = omega (arith, top.1) in
    let low : 2 ^ top.0 ≤ r.stop - r.start = top.2 in (
      subst (λ k. r.stop - r.start < 2 ^ k) (sym digits) top.3,
      subst (λ k. 2 ^ k ≤ 2 * (r.stop - r.start)) (sym digits) (omega (arith, low, two-pow-succ top.0)),
    )

pub placed-expanded : (es : List (RecordValue × ℕ)) → All IsPlaced (keys_of es) → All IsPlaced (expanded es)
placed-expanded es h = All-from_recursion IsPlaced (expanded es) (all-expanded IsPlaced es (recursion_from_All IsPlaced (keys_of es) h))

pub bound-above : (counts : List ℕ) (records : List RecordValue) (n : ℕ) → AreClasses counts records → All IsPlaced records → ((k : ℕ) → 0 < slice_index_or counts k 0 → 2 ^ k ≤ n) → All (λ r. r.stop ≤ r.start + n) records
bound-above counts records n a placed above = mem-all (λ r. r.stop ≤ r.start + n) records (λ q m.
    let k = length_class q in
    let means = class-means q (all-mem IsPlaced records placed q m) in
    let high : 2 ^ k ≤ n = above k (omega (arith, a.counted k, passed-counts (λ r. length_class r == k) records q m (eq-eqb k k refl))) in
    let short : q.stop - q.start < 2 ^ k = means.0 in
    omega arith)

pub bound-near : (counts : List ℕ) (records : List RecordValue) (k : ℕ) → AreClasses counts records → All IsPlaced records → 0 < slice_index_or counts k 0 → 2 ^ k ≤ 2 * longest records
bound-near counts records k a placed some =
    let one = counts-passed (λ r. length_class r == k) records (omega (arith, a.counted k, some)) in
    let q = one.0 in
    let is : length_class q ≡ k = eqb-true (length_class q) k one.2 in
    let half : 2 ^ length_class q ≤ 2 * (q.stop - q.start) = (class-means q (all-mem IsPlaced records placed q one.1)).1 in
    let long : q.stop ≤ q.start + longest records = all-mem (λ (r : RecordValue). r.stop ≤ r.start + longest records) records (all-longest records) q one.1 in
    subst (λ j. 2 ^ j ≤ 2 * longest records) is (omega (arith, half, long))
