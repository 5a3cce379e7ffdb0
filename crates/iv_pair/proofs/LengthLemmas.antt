-- The lengths of records, counted in a map.
use Rattle.std.proofs.Common.{◌≡◌, ◌≢◌, ℕ, ◌+◌, ◌-◌, ◌<◌, ◌≤◌, ◌^◌, Bool, true, false, cond, List, [], ◌∷◌, Option, Some, None, refl, sym, ap, ◌∙◌, subst, arith, length, suc, inl, inr}
use Rattle.std.specs.Prelude.{All, unwrap_or, find, reverse, IfSome}
use Rattle.std.specs.List.{AllByRecursion}
use Rattle.std.specs.Option.{option_or}
use Rattle.std.specs.declared.cmp.Ordering.{Ordering}
use Rattle.std.specs.declared.cmp.Ordering.TheVariants.{Less}
use Rattle.std.specs.Ordering.{is_eq, is_le, is_ge, nat_cmp, ordering_then}
use Rattle.std.specs.Cmp.{tied_itself, Equal-is}
use Rattle.std.specs.Map.{keys_of, values_of, lookup, remove_entry, set_value}
use Rattle.std.specs.BTreeMap.{insert_entry, is_at}
use Rattle.std.specs.List.Sorted.{IsStrictlySortedBy}
use Rattle.std.proofs.lemmas.List.{reverse-append}
use Rattle.std.proofs.lemmas.List.Elements.{All-nil, All-cons, All-head, All-tail}
use Rattle.std.proofs.lemmas.List.Folds.{find-append}
use Rattle.std.proofs.lemmas.List.Sums.{sum_by-cons, count_by-le-length}
use Rattle.std.proofs.lemmas.Map.Keys.{sorted_head, sorted_tail}
use Rattle.std.proofs.lemmas.Map.{keys-set_value}
use Rattle.std.proofs.lemmas.Map.Views.{All-keys-insert_entry, All-values-insert_entry, All-map-remove_entry, All-values-set_value, IfSome-lookup_from_All}
use Rattle.std.proofs.lemmas.Bool.{cases_lt}
use Rattle.std.proofs.lemmas.Option.{none-some}
use Rattle.iv_lines.specs.Ordered.{added_by, AreInOrder, added, copies, ordered}
use Rattle.iv_lines.specs.Inside.Ordered.{copies_by}
use Rattle.iv_lines.specs.RecordValue.{RecordValue, record_cmp}
use Rattle.iv_lines.proofs.OrderedLemmas.{copies-added, length-all_added}
use Rattle.iv_track.specs.Copies.{removed_by, expanded}
use Rattle.iv_ledger.specs.Entries.{IsLedger, value_at, last_until, pair_cmp}
use Rattle.iv_track.specs.Tracked.{Tracked, removed}
use Rattle.iv_track.proofs.Counts.{count-added, copies-expanded, copies-removed, expanded-insert, expanded-remove_entry, expanded-set_value}
use Rattle.iv_track.proofs.Edits.{added-removed}
use Rattle.iv_pair.specs.Inside.Lengths.{length_of, with_length, IsTally, AreLengths, IsSecond, AreUpTo}
use Rattle.iv_track.proofs.NumberOrder.{pair_total, pair_exact}
use Rattle.iv_track.proofs.PlaceLemmas.{le_pair, ge_pair, pair_ge}

-- ---- one more length in the map

module _ (es fs : List ((ℕ × ℕ) × ℕ)) (k : ℕ × ℕ) (t : IsTally es) where
  pub count_at : copies_by pair_cmp (expanded es) k ≡ unwrap_or (value_at pair_cmp es k) 0
  count_at = copies-expanded pair_cmp pair_total es k t.ordered

  -- a count above 0 is there
  some_is : 0 < copies_by pair_cmp (expanded es) k → value_at pair_cmp es k ≡ Some (unwrap_or (value_at pair_cmp es k) 0)
  some_is some = go (value_at pair_cmp es k) (omega (arith, some, count_at))
    where
      go : (o : Option ℕ) → 0 < unwrap_or o 0 → o ≡ Some (unwrap_or o 0)
      go None e = absurd (omega arith)
      go (Some m) e = refl

  module _ (n : ℕ) (count : n ≡ unwrap_or (value_at pair_cmp es k) 0) (put : fs ≡ insert_entry pair_cmp es k (n + 1)) where
    pub raised_rows : expanded fs ≡ added_by pair_cmp (expanded es) k
    raised_rows =
        ap expanded (put ∙ ap (λ m. insert_entry pair_cmp es k (m + 1)) count)
        ∙ expanded-insert pair_cmp pair_total pair_exact es k t.ordered t.present

    pub raised_tally : IsLedger pair_cmp fs → k.1 < 2 ^ 32 → IsTally fs
    raised_tally ordered fits = record {
      ordered = ordered;
      present = subst (λ gs. All (λ m. 0 < m) (values_of gs)) (sym put) (All-values-insert_entry pair_cmp k (n + 1) (λ m. 0 < m) es t.present (omega arith));
      small = subst (λ gs. All (λ (q : ℕ × ℕ). q.1 < 2 ^ 32) (keys_of gs)) (sym put) (All-keys-insert_entry pair_cmp k (n + 1) (λ (q : ℕ × ℕ). q.1 < 2 ^ 32) es t.small fits);
    }

-- ---- one length less in the map

-- fs is the map es with one length k less
pub record IsLowered (es fs : List ((ℕ × ℕ) × ℕ)) (k : ℕ × ℕ) : Type 0 where
  pub tally : IsTally fs
  pub records : expanded fs ≡ removed_by pair_cmp (expanded es) k

-- a length that is counted is there
pub not-absent : (es : List ((ℕ × ℕ) × ℕ)) (k : ℕ × ℕ) → IsTally es → 0 < copies_by pair_cmp (expanded es) k → value_at pair_cmp es k ≡ None → ⊥
not-absent es k t some none = absurd (omega (arith, some, count_at es es k t, ap (λ o. unwrap_or o 0) none))

module _ (es fs : List ((ℕ × ℕ) × ℕ)) (k : ℕ × ℕ) (t : IsTally es) (n : ℕ) (count : value_at pair_cmp es k ≡ Some n) where
  pub count-pos : 0 < n
  count-pos = subst (λ o. IfSome o (λ m. 0 < m)) count (IfSome-lookup_from_All (λ m. 0 < m) (is_at (pair_cmp k)) es t.present)

  pub lowered_by_take : n ≡ 1 → fs ≡ remove_entry (is_at (pair_cmp k)) es → IsLedger pair_cmp fs → IsLowered es fs k
  lowered_by_take one is ordered = record {
    tally = record {
      ordered = ordered;
      present = subst (λ gs. All (λ m. 0 < m) (values_of gs)) (sym is) (All-map-remove_entry (is_at (pair_cmp k)) (λ e. e.1) (λ m. 0 < m) es t.present);
      small = subst (λ gs. All (λ (q : ℕ × ℕ). q.1 < 2 ^ 32) (keys_of gs)) (sym is) (All-map-remove_entry (is_at (pair_cmp k)) (λ e. e.0) (λ (q : ℕ × ℕ). q.1 < 2 ^ 32) es t.small);
    };
    records = ap expanded is ∙ expanded-remove_entry pair_cmp es k (count ∙ ap Some one);
  }

  pub lowered_by_set : n ≢ 1 → fs ≡ set_value (is_at (pair_cmp k)) es (n - 1) → IsLedger pair_cmp fs → IsLowered es fs k
  lowered_by_set more is ordered =
      let e : n ≡ suc (n - 1) = omega (arith, count-pos) in
      let below : 0 < n - 1 = omega (arith, count-pos) in
      record {
        tally = record {
          ordered = ordered;
          present = subst (λ gs. All (λ m. 0 < m) (values_of gs)) (sym is) (All-values-set_value (is_at (pair_cmp k)) (λ m. 0 < m) es (n - 1) t.present below);
          small = subst (λ gs. All (λ (q : ℕ × ℕ). q.1 < 2 ^ 32) (keys_of gs)) (sym is)
              (subst (All (λ (q : ℕ × ℕ). q.1 < 2 ^ 32)) (sym (keys-set_value (is_at (pair_cmp k)) es (n - 1))) t.small);
        };
        records = ap expanded is ∙ expanded-set_value pair_cmp es k (n - 1) (count ∙ ap Some e);
      }

-- ---- the lengths of records, one after another

with_length-cons : (r : RecordValue) (records : List RecordValue) (k : ℕ × ℕ) → with_length (r ∷ records) k ≡ cond (is_eq (pair_cmp k (length_of r))) 1 0 + with_length records k
with_length-cons r records k = sum_by-cons (λ q. cond (is_eq (pair_cmp k (length_of q))) 1 0) r records

-- the map has the lengths of all records but those that are left
pub record IsCounted (es : List ((ℕ × ℕ) × ℕ)) (left records : List RecordValue) : Type 0 where
  pub tally : IsTally es
  pub counts : (k : ℕ × ℕ) → copies_by pair_cmp (expanded es) k + with_length left k ≡ with_length records k

no_lengths : IsLedger {V = ℕ} pair_cmp []
unfolding IsStrictlySortedBy
no_lengths = tt

pub IsCounted-begin : (es : List ((ℕ × ℕ) × ℕ)) (records : List RecordValue) → es ≡ [] → IsCounted es records records
IsCounted-begin es records none = rw none record {
  tally = record { ordered = no_lengths; present = All-nil (λ n. 0 < n); small = All-nil (λ (k : ℕ × ℕ). k.1 < 2 ^ 32) };
  counts = λ k. omega arith;
}

pub IsCounted-room : (es : List ((ℕ × ℕ) × ℕ)) (left records : List RecordValue) (k : ℕ × ℕ) → IsCounted es left records → copies_by pair_cmp (expanded es) k ≤ length records
IsCounted-room es left records k c = omega (arith, c.counts k, count_by-le-length (λ r. is_eq (pair_cmp k (length_of r))) records)

pub IsCounted-next : (es fs : List ((ℕ × ℕ) × ℕ)) (left after records : List RecordValue) (r : RecordValue) → IsCounted es left records → left ≡ r ∷ after
    → IsTally fs → expanded fs ≡ added_by pair_cmp (expanded es) (length_of r) → IsCounted fs after records
IsCounted-next es fs left after records r c first t up = record {
  tally = t;
  counts = λ k. omega (
    arith,
    c.counts k,
    ap (λ (l : List RecordValue). with_length l k) first,
    with_length-cons r after k,
    ap (λ (l : List (ℕ × ℕ)). copies_by pair_cmp l k) up,
    copies-added pair_cmp (expanded es) (length_of r) k,
  );
}

pub IsCounted-all : (es : List ((ℕ × ℕ) × ℕ)) (left records : List RecordValue) → IsCounted es left records → left ≡ [] → AreLengths es records
IsCounted-all es left records c none = record {
  tally = c.tally;
  counts = λ k. omega (arith, c.counts k, ap (λ (l : List RecordValue). with_length l k) none);
}

-- ---- the lengths of a track's records, with one more and with one less

-- a length is counted at most once for each record
pub AreLengths-room : (es : List ((ℕ × ℕ) × ℕ)) (records : List RecordValue) (k : ℕ × ℕ) → AreLengths es records → copies_by pair_cmp (expanded es) k ≤ length records
AreLengths-room es records k a = omega (arith, a.counts k, count_by-le-length (λ r. is_eq (pair_cmp k (length_of r))) records)

with_length-added : (records : List RecordValue) (r : RecordValue) (k : ℕ × ℕ) → with_length (added records r) k ≡ cond (is_eq (pair_cmp k (length_of r))) 1 0 + with_length records k
with_length-added records r k = count-added record_cmp (λ q. is_eq (pair_cmp k (length_of q))) records r

-- a record that is there is one of those that have its length
with_length-removed : (records : List RecordValue) (r : RecordValue) (k : ℕ × ℕ) → AreInOrder records → 0 < copies records r
    → with_length records k ≡ cond (is_eq (pair_cmp k (length_of r))) 1 0 + with_length (removed records r) k
with_length-removed records r k order there = ap (λ (l : List RecordValue). with_length l k) (added-removed records r order there) ∙ with_length-added (removed records r) r k

-- its length is counted
pub counted-there : (es : List ((ℕ × ℕ) × ℕ)) (records : List RecordValue) (r : RecordValue) → AreLengths es records → AreInOrder records → 0 < copies records r → 0 < copies_by pair_cmp (expanded es) (length_of r)
counted-there es records r a order there =
    omega (arith, a.counts (length_of r), with_length-removed records r (length_of r) order there, ap {B = ℕ} (λ (o : Ordering). cond (is_eq o) 1 0) (tied_itself pair_total (length_of r)))

-- a record whose length isn't counted is not there
pub absent-uncounted : (es : List ((ℕ × ℕ) × ℕ)) (records : List RecordValue) (r : RecordValue) → AreLengths es records → AreInOrder records → copies_by pair_cmp (expanded es) (length_of r) ≡ 0 → copies records r ≡ 0
absent-uncounted es records r a order none = elim (cases_lt 0 (copies records r)) [
  | inl there ↦ absurd (omega (arith, none, counted-there es records r a order there))
  | inr low ↦ omega arith
]

pub AreLengths-added : (es fs : List ((ℕ × ℕ) × ℕ)) (records : List RecordValue) (r : RecordValue) → AreLengths es records → IsTally fs
    → expanded fs ≡ added_by pair_cmp (expanded es) (length_of r) → AreLengths fs (added records r)
AreLengths-added es fs records r a t up = record {
  tally = t;
  counts = λ k. omega (
    arith,
    a.counts k,
    with_length-added records r k,
    ap (λ (l : List (ℕ × ℕ)). copies_by pair_cmp l k) up,
    copies-added pair_cmp (expanded es) (length_of r) k,
  );
}

pub AreLengths-removed : (es fs : List ((ℕ × ℕ) × ℕ)) (records : List RecordValue) (r : RecordValue) → AreLengths es records → AreInOrder records → 0 < copies records r
    → IsLowered es fs (length_of r) → AreLengths fs (removed records r)
AreLengths-removed es fs records r a order there low = record {
  tally = low.tally;
  counts = λ k. omega (
    arith,
    a.counts k,
    with_length-removed records r k order there,
    ap (λ (l : List (ℕ × ℕ)). copies_by pair_cmp l k) low.records,
    copies-removed pair_cmp pair_total (expanded es) (length_of r) k (counted-there es records r a order there),
  );
}

-- a length that was counted is there to be taken back
pub raised-there : (es fs : List ((ℕ × ℕ) × ℕ)) (k : ℕ × ℕ) → expanded fs ≡ added_by pair_cmp (expanded es) k → 0 < copies_by pair_cmp (expanded fs) k
raised-there es fs k up =
    omega (
      arith,
      ap (λ (l : List (ℕ × ℕ)). copies_by pair_cmp l k) up,
      copies-added pair_cmp (expanded es) k k,
      ap {B = ℕ} (λ (o : Ordering). cond (is_eq o) 1 0) (tied_itself pair_total k),
    )

-- and then all is counted as before
pub AreLengths-back : (es fs gs : List ((ℕ × ℕ) × ℕ)) (records : List RecordValue) (k : ℕ × ℕ) → AreLengths es records → expanded fs ≡ added_by pair_cmp (expanded es) k
    → IsLowered fs gs k → AreLengths gs records
AreLengths-back es fs gs records k a up low = record {
  tally = low.tally;
  counts = λ q. omega (
    arith,
    a.counts q,
    ap (λ (l : List (ℕ × ℕ)). copies_by pair_cmp l q) up,
    copies-added pair_cmp (expanded es) k q,
    ap (λ (l : List (ℕ × ℕ)). copies_by pair_cmp l q) low.records,
    copies-removed pair_cmp pair_total (expanded fs) k q (raised-there es fs k up),
  );
}

-- a second file of the records of a file
pub few-ordered : (records : List RecordValue) (limit : ℕ) → length records ≤ limit → length (ordered records) ≤ limit
few-ordered records limit few = omega (arith, length-all_added record_cmp records [], few)

pub IsSecond-new : (es : List ((ℕ × ℕ) × ℕ)) (records : List RecordValue) (width limit : ℕ) (track : Tracked) → track ≡ record { records = ordered records; width = width; limit = limit }
    → AreLengths es track.records → length records ≤ limit → IsSecond es track
IsSecond-new es records width limit track is a few = record {
  counted = a;
  few = subst (λ (t : Tracked). length t.records ≤ t.limit) (sym is) (few-ordered records limit few);
}

-- a bound of all lengths of a sequence is one of its records
up_to : (records : List RecordValue) (seq n : ℕ) → ((k : ℕ × ℕ) → k.0 ≡ seq → 0 < with_length records k → k.1 ≤ n) → AreUpTo seq n records
up_to [] seq n h = All-nil (λ (q : RecordValue). q.seq ≡ seq → q.stop ≤ q.start + n)
up_to (r ∷ records) seq n h =
    All-cons (λ (q : RecordValue). q.seq ≡ seq → q.stop ≤ q.start + n) r records
    (λ is.
    let own = ap {B = ℕ} (λ (o : Ordering). cond (is_eq o) 1 0) (tied_itself pair_total (length_of r)) in
    let long : r.stop - r.start ≤ n = h (length_of r) is (omega (arith, with_length-cons r records (length_of r), own)) in
    omega arith)
    (up_to records seq n (λ k is some. h k is (omega (arith, some, with_length-cons r records k))))

pub AreLengths-up_to : (es : List ((ℕ × ℕ) × ℕ)) (records : List RecordValue) (seq n : ℕ) → AreLengths es records
    → ((k : ℕ × ℕ) → k.0 ≡ seq → 0 < copies_by pair_cmp (expanded es) k → k.1 ≤ n) → AreUpTo seq n records
AreLengths-up_to es records seq n a bound = up_to records seq n (λ k is some. bound k is (omega (arith, a.counts k, some)))

-- ---- the last length of a sequence

module _ {X : Type 0} (p : X → Bool) where
  find-reverse : (e : X) (es : List X) → find p (reverse (e ∷ es)) ≡ option_or (find p (reverse es)) (cond (p e) (Some e) None)
  find-reverse e es = ap (find p) (reverse-append (e ∷ []) es) ∙ find-append p (reverse es) (e ∷ [])

module _ {K V : Type 0} (p : K × V → Bool) (Q : K → Type 0) where
  found_here : (e : K × V) → Q e.0 → (b : Bool) → p e ≡ b → IfSome (cond b (Some e) None) (λ f. Q f.0 × (p f ≡ true))
  found_here e q true is = (q, is)
  found_here e q false is = tt

  found_or : (e : K × V) → Q e.0 → (o : Option (K × V)) → IfSome o (λ f. Q f.0 × (p f ≡ true)) → IfSome (option_or o (cond (p e) (Some e) None)) (λ f. Q f.0 × (p f ≡ true))
  found_or e q (Some f) h = h
  found_or e q None h = found_here e q (p e) refl

  found_last : (es : List (K × V)) → AllByRecursion Q (keys_of es) → IfSome (find p (reverse es)) (λ f. Q f.0 × (p f ≡ true))
  found_last [] h = tt
  found_last (e ∷ es) h = subst (λ o. IfSome o (λ f. Q f.0 × (p f ≡ true))) (sym (find-reverse p e es)) (found_or e h.0 (find p (reverse es)) (found_last es h.1))

-- the key is at k or after it, and passes
abbrev Reaches : (ℕ × ℕ → Bool) → ℕ × ℕ → Option ((ℕ × ℕ) × ℕ) → Type 0
Reaches p k None = ⊥
Reaches p k (Some e) = (is_le (pair_cmp k e.0) ≡ true) × (p e.0 ≡ true)

reaches_here : (p : ℕ × ℕ → Bool) (k : ℕ × ℕ) (e : (ℕ × ℕ) × ℕ) → is_le (pair_cmp k e.0) ≡ true → (b : Bool) → p e.0 ≡ b → b ≡ true → Reaches p k (cond b (Some e) None)
reaches_here p k e le true is h = (le, is)
reaches_here p k e le false is h = absurd cc

reaches_same : (p : ℕ × ℕ → Bool) (k : ℕ × ℕ) (e : (ℕ × ℕ) × ℕ) → k ≡ e.0 → is_le (pair_cmp k e.0) ≡ true → p e.0 ≡ true → (o : Option ((ℕ × ℕ) × ℕ))
    → IfSome o (λ f. (pair_cmp e.0 f.0 ≡ Less) × (p f.0 ≡ true)) → Reaches p k (option_or o (cond (p e.0) (Some e) None))
reaches_same p k e same le is (Some f) h = (ap (λ x. is_le (pair_cmp x f.0)) same ∙ ap is_le h.0, h.1)
reaches_same p k e same le is None h = reaches_here p k e le (p e.0) refl is

reaches_past : (p : ℕ × ℕ → Bool) (k : ℕ × ℕ) (e : (ℕ × ℕ) × ℕ) → (o : Option ((ℕ × ℕ) × ℕ)) → Reaches p k o → Reaches p k (option_or o (cond (p e.0) (Some e) None))
reaches_past p k e (Some f) h = h
reaches_past p k e None h = absurd h

reaches : (p : ℕ × ℕ → Bool) (es : List ((ℕ × ℕ) × ℕ)) (k : ℕ × ℕ) (n : ℕ) → IsLedger pair_cmp es → p k ≡ true → lookup (is_at (pair_cmp k)) es ≡ Some n → Reaches p k (find (λ e. p e.0) (reverse es))
reaches p [] k n s is h = absurd (none-some n h)
reaches p (e ∷ es) k n s is h =
    subst (Reaches p k) (sym (find-reverse (λ f. p f.0) e es))
    ((elim (is_eq (pair_cmp k e.0)) as (λ b. is_eq (pair_cmp k e.0) ≡ b → cond b (Some e.1) (lookup (is_at (pair_cmp k)) es) ≡ Some n → Reaches p k (option_or (find (λ f. p f.0) (reverse es)) (cond (p e.0) (Some e) None))) [
      | true ↦ λ here _.
          let tied = (Equal-is (pair_cmp k e.0)).0 here in
          let same : k ≡ e.0 = pair_exact k e.0 tied in
          reaches_same p k e same (ap is_le tied) (ap p (sym same) ∙ is) (find (λ f. p f.0) (reverse es))
          (found_last (λ f. p f.0) (λ y. pair_cmp e.0 y ≡ Less) es (sorted_head pair_cmp e.0 (keys_of es) s))
      | false ↦ λ past there. reaches_past p k e (find (λ f. p f.0) (reverse es)) (reaches p es k n (sorted_tail pair_cmp e.0 (keys_of es) s) is there)
    ]) refl h)

key_holds : (P : ℕ × ℕ → Type 0) (es : List ((ℕ × ℕ) × ℕ)) (k : ℕ × ℕ) (n : ℕ) → All P (keys_of es) → lookup (is_at (pair_cmp k)) es ≡ Some n → P k
key_holds P [] k n a h = absurd (none-some n h)
key_holds P (e ∷ es) k n a h =
    (elim (is_eq (pair_cmp k e.0)) as (λ b. is_eq (pair_cmp k e.0) ≡ b → cond b (Some e.1) (lookup (is_at (pair_cmp k)) es) ≡ Some n → P k) [
      | true ↦ λ here _. subst P (sym (pair_exact k e.0 ((Equal-is (pair_cmp k e.0)).0 here))) (All-head P e.0 (keys_of es) a)
      | false ↦ λ past there. key_holds P es k n (All-tail P e.0 (keys_of es) a) there
    ]) refl h

-- what the last key of a sequence says of the length k
abbrev pub Bounds : ℕ → ℕ × ℕ → Option ((ℕ × ℕ) × ℕ) → Type 0
Bounds seq k None = ⊥
Bounds seq k (Some e) = (e.0.0 ≡ seq) × (k.1 ≤ e.0.1)

bounds_from : (seq : ℕ) (k : ℕ × ℕ) → k.0 ≡ seq → (o : Option ((ℕ × ℕ) × ℕ)) → Reaches (λ q. is_ge (pair_cmp (seq, 2 ^ 32 - 1) q)) k o → Bounds seq k o
bounds_from seq k is None h = absurd h
bounds_from seq k is (Some e) h =
    let low = le_pair k.0 e.0.0 k.1 e.0.1 h.0 in
    let high : e.0.0 ≤ seq = ge_pair seq e.0.0 (2 ^ 32 - 1) e.0.1 h.1 in
    let low_seq : k.0 ≤ e.0.0 = low.0 in
    let one : e.0.0 ≡ seq = omega arith in
    (one, low.1 (is ∙ sym one))

pub length_bound : (es : List ((ℕ × ℕ) × ℕ)) (seq : ℕ) (k : ℕ × ℕ) → IsTally es → k.0 ≡ seq → 0 < copies_by pair_cmp (expanded es) k → Bounds seq k (last_until pair_cmp es (seq, 2 ^ 32 - 1))
length_bound es seq k t is some =
    let there : value_at pair_cmp es k ≡ Some (unwrap_or (value_at pair_cmp es k) 0) = some_is es es k t some in
    let small : k.1 < 2 ^ 32 = key_holds (λ (q : ℕ × ℕ). q.1 < 2 ^ 32) es k _ t.small there in
    let fits : k.1 ≤ 2 ^ 32 - 1 = omega arith in
    bounds_from seq k is (last_until pair_cmp es (seq, 2 ^ 32 - 1))
    (reaches (λ q. is_ge (pair_cmp (seq, 2 ^ 32 - 1) q)) es k _ t.ordered
    (subst (λ (s : ℕ). is_ge (ordering_then (nat_cmp seq s) (nat_cmp (2 ^ 32 - 1) k.1)) ≡ true) (sym is) (pair_ge seq (2 ^ 32 - 1) k.1 fits)) there)
