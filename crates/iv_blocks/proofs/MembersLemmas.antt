-- A walk over records in order, and the members of a group that are ahead in it.
use Rattle.std.proofs.Common.{ℕ, ◌+◌, ◌<◌, ◌≤◌, ◌≡◌, ◌⊎◌, inl, inr, Bool, true, false, ◌&&◌, ◌==◌, nat_le, nat_lt, List, [], ◌∷◌, ◌++◌, length, filter, Ordering, Less, Equal, nat_cmp, refl, sym, ap, subst, ◌∙◌, arith, eq-eqb, eqb-true, le-leb, leb-true, lt-ltb, ltb-true}
use Rattle.std.specs.Ordering.{is_le, ordering_then}
use Rattle.std.proofs.lemmas.Bool.{cond-true, cond-false, cases_Bool, and_parts, and_from, and_left, false_from_ne_true}
use Rattle.std.proofs.lemmas.Map.Keys.{le_from_is_le}
use Rattle.iv_lines.specs.Ordered.{AreInOrder}
use Rattle.iv_lines.specs.RecordValue.{RecordValue, record_cmp}
use Rattle.iv_track.specs.Tracked.{is_from}
use Rattle.iv_track.proofs.NumberOrder.{le-cmp}
use Rattle.iv_lines.proofs.InOrderLemmas.{all-recursion, recursion-all, in_order-filter}
use Rattle.iv_lines.proofs.ListLemmas.{Mem, mem-filter, filter-agree, filter-filter, filter-none, same_tests}
use Rattle.iv_lines.proofs.PrecedesLemmas.{Precedes, precedes-from, equal-from, less-from, then-le}
use Rattle.iv_cover.proofs.Groups.{mem-right}
use Rattle.iv_places.proofs.OrderLemmas.{nat_tied}
use Rattle.iv_blocks.specs.Inside.MembersLeft.{MembersLeft, IsAhead}
use Rattle.iv_blocks.specs.Inside.Groups.{is_in_group, starts_between, between_on, members_between, is_apart, is_minus}
use Rattle.iv_blocks.specs.Groups.{is_on_side}
use Rattle.iv_blocks.specs.declared.group.Group.{Group}

-- ---- lists in order

-- each record of the first part is before each of the second
pub in_order-parts : (xs ys : List RecordValue) → AreInOrder (xs ++ ys) → (q r : RecordValue) → Mem q xs → Mem r ys → Precedes q r
in_order-parts [] ys h q r m n = absurd m
in_order-parts (x ∷ xs) ys h q r (inl at) n = subst (λ (k : RecordValue). Precedes k r) at (precedes-from x r (all-recursion (λ y. is_le (record_cmp x y) ≡ true) (xs ++ ys) h.0 r (mem-right xs ys r n)))
in_order-parts (x ∷ xs) ys h q r (inr m) n = in_order-parts xs ys h.1 q r m n

-- ---- where a walk begins

le-then : (o p : Ordering) → (o ≡ Less) ⊎ ((o ≡ Equal) × (is_le p ≡ true)) → is_le (ordering_then o p) ≡ true
le-then o p (inl e) = rw e refl
le-then o p (inr e) = rw (e.0, e.1) refl

-- from a position on: on a later sequence, or on this one and no earlier
pub from-true : (seq from : ℕ) (q : RecordValue) → is_from seq from q ≡ true → (seq < q.seq) ⊎ ((seq ≡ q.seq) × (from ≤ q.start))
from-true seq from q e = elim (then-le (nat_cmp seq q.seq) (nat_cmp from q.start) e) [
  | inl less ↦ inl (less-from seq q.seq less)
  | inr equal ↦ inr (equal-from seq q.seq equal.0, le_from_is_le from q.start equal.1)
]

pub from-here : (seq from : ℕ) (q : RecordValue) → seq ≡ q.seq → from ≤ q.start → is_from seq from q ≡ true
from-here seq from q at after = le-then (nat_cmp seq q.seq) (nat_cmp from q.start) (inr (nat_tied seq q.seq at, le-cmp from q.start after))

-- ---- what is between two starts

pub between-true : (from to : ℕ) (q : RecordValue) → starts_between from to q ≡ true → (from ≤ q.start) × (q.start < to)
between-true from to q e = let both = and_parts (nat_le from q.start) (nat_lt q.start to) e in (leb-true _ _ both.0, ltb-true _ _ both.1)

pub between-from : (from to : ℕ) (q : RecordValue) → from ≤ q.start → q.start < to → starts_between from to q ≡ true
between-from from to q above below = and_from _ _ (le-leb _ _ above) (lt-ltb _ _ below)

-- a test of records on one sequence, from a start on and below another, as a walk from there on sees it
pub walked : (p : RecordValue → Bool) (seq from to : ℕ) (records : List RecordValue) → ((q : RecordValue) → p q ≡ true → q.seq ≡ seq)
    → filter (λ q. p q && starts_between 0 to q) (filter (is_from seq from) records) ≡ filter (λ q. p q && starts_between from to q) records
walked p seq from to records on =
    filter-filter (λ q. p q && starts_between 0 to q) (is_from seq from) records
    ∙ filter-agree _ _ records (λ q m. same_tests _ _
    (λ e.
    let both = and_parts (is_from seq from q) (p q && starts_between 0 to q) e in
    let more = and_parts (p q) (starts_between 0 to q) both.1 in
    let at : q.seq ≡ seq = on q more.0 in
    let below = between-true 0 to q more.1 in
    elim (from-true seq from q both.0) [
      | inl later ↦ absurd (omega arith)
      | inr here ↦ and_from _ _ more.0 (between-from from to q here.1 below.1)
    ])
    (λ e.
    let both = and_parts (p q) (starts_between from to q) e in
    let range = between-true from to q both.1 in
    and_from _ _ (from-here seq from q (sym (on q both.0)) range.0) (and_from _ _ both.0 (between-from 0 to q (omega arith) range.1))))

-- in a range without a position there is none
pub none_between : (p : RecordValue → Bool) (from to : ℕ) (records : List RecordValue) → to ≤ from → filter (λ q. p q && starts_between from to q) records ≡ []
none_between p from to records empty = filter-none _ records (λ q m. false_from_ne_true _ (λ e.
    let both = and_parts (p q) (starts_between from to q) e in
    let range = between-true from to q both.1 in
    omega arith))

pub in_group-on : (g : Group) (q : RecordValue) → is_in_group (is_apart g.side) g.seq (is_minus g.side) q ≡ true → q.seq ≡ g.seq
in_group-on g q e = eqb-true _ _ (and_parts (q.seq == g.seq) (is_on_side (is_apart g.side) (is_minus g.side) q) e).0

on-seq : (seq : ℕ) (q : RecordValue) → (q.seq == seq) ≡ true → q.seq ≡ seq
on-seq seq q e = eqb-true _ _ e

-- what is ahead of a walk from a position on
pub members-walked : (g : Group) (from to : ℕ) (records : List RecordValue) → members_between g 0 to (filter (is_from g.seq from) records) ≡ members_between g from to records
members-walked g from to records = walked (is_in_group (is_apart g.side) g.seq (is_minus g.side)) g.seq from to records (in_group-on g)

pub records-walked : (seq from to : ℕ) (records : List RecordValue) → between_on seq 0 to (filter (is_from seq from) records) ≡ between_on seq from to records
records-walked seq from to records = walked (λ q. q.seq == seq) seq from to records (on-seq seq)

-- what a new walk shows: it begins at the range's start, or the range is empty and it ends at once
pub remaining-walked : (g : Group) (from to begin end : ℕ) (records left : List RecordValue) → left ≡ filter (is_from g.seq begin) records
    → ((begin ≡ from) × (end ≡ to)) ⊎ ((to ≤ from) × (end ≡ 0))
    → ◌≡◌ {A = MembersLeft} (record { members = members_between g 0 end left; passed_records = length (between_on g.seq 0 end left) })
    (record { members = members_between g from to records; passed_records = length (between_on g.seq from to records) })
remaining-walked g from to begin end records left is (inl at) =
    let members : members_between g 0 end left ≡ members_between g from to records = rw (is, at.0, at.1) (members-walked g from to records) in
    let passed_records : between_on g.seq 0 end left ≡ between_on g.seq from to records = rw (is, at.0, at.1) (records-walked g.seq from to records) in
    λ i. record { members = members i; passed_records = length (passed_records i) }
remaining-walked g from to begin end records left is (inr empty) =
    let members : members_between g 0 end left ≡ members_between g from to records =
    rw empty.1 (none_between (is_in_group (is_apart g.side) g.seq (is_minus g.side)) 0 0 left (omega arith)
    ∙ sym (none_between (is_in_group (is_apart g.side) g.seq (is_minus g.side)) from to records empty.0)) in
    let passed_records : between_on g.seq 0 end left ≡ between_on g.seq from to records =
    rw empty.1 (none_between (λ q. q.seq == g.seq) 0 0 left (omega arith) ∙ sym (none_between (λ q. q.seq == g.seq) from to records empty.0)) in
    λ i. record { members = members i; passed_records = length (passed_records i) }

pub ahead-walked : (seq from : ℕ) (records : List RecordValue) → AreInOrder records → IsAhead seq (filter (is_from seq from) records)
ahead-walked seq from records order = record {
  ordered = in_order-filter record_cmp (is_from seq from) records order;
  ranks = recursion-all (λ r. seq ≤ r.seq) _ (λ q m. elim (from-true seq from q (mem-filter (is_from seq from) records q m).1) [
    | inl later ↦ omega arith
    | inr here ↦ omega (arith, here.0)
  ]);
}

-- ---- one more step of a walk

pub ahead-rest : (seq : ℕ) (r : RecordValue) (records : List RecordValue) → IsAhead seq (r ∷ records) → IsAhead seq records
ahead-rest seq r records h = record { ordered = h.ordered.1; ranks = h.ranks.1 }

-- a record on another sequence, or from the end on, has nothing of the range after it
pub past-none : (p : RecordValue → Bool) (seq to : ℕ) (r : RecordValue) (records : List RecordValue) → ((q : RecordValue) → p q ≡ true → q.seq ≡ seq) → IsAhead seq (r ∷ records)
    → (r.seq ≡ seq → ⊥) ⊎ (to ≤ r.start) → filter (λ q. p q && starts_between 0 to q) (r ∷ records) ≡ []
past-none p seq to r records on h past = filter-none _ (r ∷ records) (λ q m. false_from_ne_true _ (λ e.
    let both = and_parts (p q) (starts_between 0 to q) e in
    let range = between-true 0 to q both.1 in
    let at : q.seq ≡ seq = on q both.0 in
    let first : seq ≤ r.seq = h.ranks.0 in
    let before : Precedes r q ⊎ (r ≡ q) = elim m [
      | inl same ↦ inr same
      | inr later ↦ inl (precedes-from r q (all-recursion (λ y. is_le (record_cmp r y) ≡ true) records h.ordered.0 q later))
    ] in
    elim past [
      | inl other ↦ elim before [
        | inl is_there ↦ elim is_there [ inl less ↦ omega arith | inr equal ↦ other (omega (arith, equal.0)) ]
        | inr same ↦ other (ap (λ (k : RecordValue). k.seq) same ∙ at)
      ]
      | inr end ↦ elim before [
        | inl is_there ↦ elim is_there [ inl less ↦ omega arith | inr equal ↦ omega (arith, equal.1) ]
        | inr same ↦ omega (arith, ap (λ (k : RecordValue). k.start) same)
      ]
    ]))

pub past-members : (g : Group) (to : ℕ) (r : RecordValue) (records : List RecordValue) → IsAhead g.seq (r ∷ records) → (r.seq ≡ g.seq → ⊥) ⊎ (to ≤ r.start) → members_between g 0 to (r ∷ records) ≡ []
past-members g to r records h past = past-none (is_in_group (is_apart g.side) g.seq (is_minus g.side)) g.seq to r records (in_group-on g) h past

pub past-records : (seq to : ℕ) (r : RecordValue) (records : List RecordValue) → IsAhead seq (r ∷ records) → (r.seq ≡ seq → ⊥) ⊎ (to ≤ r.start) → between_on seq 0 to (r ∷ records) ≡ []
past-records seq to r records h past = past-none (λ q. q.seq == seq) seq to r records (on-seq seq) h past

-- none in a list is none in its rest
pub rest-none : (p : RecordValue → Bool) (r : RecordValue) (records : List RecordValue) → filter p (r ∷ records) ≡ [] → filter p records ≡ []
rest-none p r records none = elim (cases_Bool (p r)) [
  | inl e ↦ let never : r ∷ filter p records ≡ [] = sym (cond-true (p r) (r ∷ filter p records) (filter p records) e) ∙ none in cc
  | inr e ↦ sym (cond-false (p r) (r ∷ filter p records) (filter p records) e) ∙ none
]

-- a record within the range is one of those ahead
pub here-records : (seq to : ℕ) (r : RecordValue) (records : List RecordValue) → r.seq ≡ seq → r.start < to → length (between_on seq 0 to (r ∷ records)) ≡ length (between_on seq 0 to records) + 1
here-records seq to r records at below =
    ap length (cond-true ((r.seq == seq) && starts_between 0 to r) (r ∷ between_on seq 0 to records) (between_on seq 0 to records)
    (and_from _ _ (eq-eqb _ _ at) (between-from 0 to r (omega arith) below))) ∙ omega arith

-- and a member if it is in the group
pub here-member : (g : Group) (to : ℕ) (r : RecordValue) (records : List RecordValue) → r.start < to → is_in_group (is_apart g.side) g.seq (is_minus g.side) r ≡ true
    → members_between g 0 to (r ∷ records) ≡ r ∷ members_between g 0 to records
here-member g to r records below in_group =
    cond-true (is_in_group (is_apart g.side) g.seq (is_minus g.side) r && starts_between 0 to r) (r ∷ members_between g 0 to records) (members_between g 0 to records)
    (and_from _ _ in_group (between-from 0 to r (omega arith) below))

pub other-member : (g : Group) (to : ℕ) (r : RecordValue) (records : List RecordValue) → is_in_group (is_apart g.side) g.seq (is_minus g.side) r ≡ false
    → members_between g 0 to (r ∷ records) ≡ members_between g 0 to records
other-member g to r records other =
    cond-false (is_in_group (is_apart g.side) g.seq (is_minus g.side) r && starts_between 0 to r) (r ∷ members_between g 0 to records) (members_between g 0 to records)
    (and_left _ _ other)
