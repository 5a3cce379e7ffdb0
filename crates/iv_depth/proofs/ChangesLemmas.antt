-- Net changes under an edit.
use Rattle.std.proofs.Common.{◌≡◌, ◌≢◌, All, sym, ap, ◌∙◌, ℕ, ◌+◌, ◌<◌, ◌≤◌, List, [], ◌∷◌, ◌⊎◌, refl, arith, leb, ltb, eqb, true, false, Bool, ◌&&◌, cond, Ordering, Less, Equal, Greater, Some, None, inl, inr}
use Rattle.std.specs.Prelude.{ℤ, pos, negsuc, ◌+ℤ◌, if◌then◌else◌}
use Rattle.std.proofs.lemmas.Int.{ints}
use Rattle.std.proofs.lemmas.Bool.{cases_lt, lt-leb, le-leb, lt-ltb, le-ltb}
use Rattle.iv_lines.specs.RecordValue.{RecordValue}
use Rattle.iv_lines.specs.CoveredPositions.{covers}
use Rattle.iv_cover.proofs.DepthLemmas.{depth-cons}
use Rattle.std.specs.Map.{lookup, remove_entry, set_value, values_of}
use Rattle.std.specs.Cmp.{IsTotalOrder}
use Rattle.std.specs.List.Sorted.{IsStrictlySortedBy}
use Rattle.std.proofs.lemmas.Map.{lookup-none}
use Rattle.std.proofs.lemmas.Map.Entries.{none_below_head}
use Rattle.std.proofs.lemmas.List.Elements.{All-head, All-tail, All-cons}
use Rattle.std.proofs.lemmas.Map.Views.{All-values-insert_entry, All-values-set_value}
use Rattle.std.specs.BTreeMap.{is_at, insert_entry}
use Rattle.iv_track.proofs.NumberOrder.{pair_total, pair_same}
use Rattle.iv_ledger.specs.Entries.{IsLedger, value_at, pair_cmp}
use Rattle.iv_depth.specs.Changes.{ChangeKey, Entries, total, reaches, AreChangesOf}
use Rattle.iv_depth.specs.Inside.Changes.{Bumps, Shifts}

module _ {K : Type 0} (passes : K → Bool) where
  -- a new entry
  pub total-insert_entry : (cmp : K → K → Ordering) (entries : List (K × ℤ)) (k : K) (z : ℤ)
      → lookup (is_at (cmp k)) entries ≡ None
      → total passes (insert_entry cmp entries k z) ≡ total passes entries +ℤ (if passes k then z else pos 0)
  total-insert_entry cmp [] k z absent = omega (arith, ints)
  total-insert_entry cmp (e ∷ entries) k z absent = go (λ none. total-insert_entry cmp entries k z none) (cmp k e.0) refl
    where
      go : (lookup (is_at (cmp k)) entries ≡ None → total passes (insert_entry cmp entries k z) ≡ total passes entries +ℤ (if passes k then z else pos 0))
          → (o : Ordering) → cmp k e.0 ≡ o
          → total passes (insert_entry cmp (e ∷ entries) k z) ≡ total passes (e ∷ entries) +ℤ (if passes k then z else pos 0)
      go further Less is = rw is (omega (arith, ints))
      go further Equal is = let none : Some e.1 ≡ None = rw is at absent in cc
      go further Greater is =
          let rest = further (rw is at absent) in
          rw is (omega (arith, ints, rest))

  pub total-set_value : (test : K → Bool) (entries : List (K × ℤ)) (k : K) (old new : ℤ)
      → ((x : K) → test x ≡ true → x ≡ k)
      → lookup test entries ≡ Some old
      → total passes (set_value test entries new) +ℤ (if passes k then old else pos 0) ≡ total passes entries +ℤ (if passes k then new else pos 0)
  total-set_value test [] k old new same found = cc
  total-set_value test (e ∷ entries) k old new same found = go (λ there. total-set_value test entries k old new same there) (test e.0) refl
    where
      go : (lookup test entries ≡ Some old → total passes (set_value test entries new) +ℤ (if passes k then old else pos 0)
          ≡ total passes entries +ℤ (if passes k then new else pos 0))
          → (b : Bool) → test e.0 ≡ b
          → total passes (set_value test (e ∷ entries) new) +ℤ (if passes k then old else pos 0)
          ≡ total passes (e ∷ entries) +ℤ (if passes k then new else pos 0)
      go further true is =
          let here : Some e.1 ≡ Some old = rw is at found in
          let value : e.1 ≡ old = cc in
          rw (is, value, same e.0 is) (omega (arith, ints))
      go further false is =
          let rest = further (rw is at found) in
          rw is (omega (arith, ints, rest))

  pub total-remove_entry : (test : K → Bool) (entries : List (K × ℤ)) (k : K) (old : ℤ)
      → ((x : K) → test x ≡ true → x ≡ k)
      → lookup test entries ≡ Some old
      → total passes (remove_entry test entries) +ℤ (if passes k then old else pos 0) ≡ total passes entries
  total-remove_entry test [] k old same found = cc
  total-remove_entry test (e ∷ entries) k old same found = go (λ there. total-remove_entry test entries k old same there) (test e.0) refl
    where
      go : (lookup test entries ≡ Some old → total passes (remove_entry test entries) +ℤ (if passes k then old else pos 0) ≡ total passes entries)
          → (b : Bool) → test e.0 ≡ b
          → total passes (remove_entry test (e ∷ entries)) +ℤ (if passes k then old else pos 0) ≡ total passes (e ∷ entries)
      go further true is =
          let here : Some e.1 ≡ Some old = rw is at found in
          let value : e.1 ≡ old = cc in
          rw (is, value, same e.0 is) (omega (arith, ints))
      go further false is =
          let rest = further (rw is at found) in
          rw is (omega (arith, ints, rest))

-- a change at a record's start and the opposite one at its stop change the sums at the positions that it covers
shifted : (r : RecordValue) (seq p : ℕ) (by back : ℤ) → r.start < r.stop → back +ℤ by ≡ pos 0
    → (if reaches seq p (r.seq, r.start) then by else pos 0) +ℤ (if reaches seq p (r.seq, r.stop) then back else pos 0)
    ≡ (if covers seq p r then by else pos 0)
shifted r seq p by back h none = go (eqb r.seq seq) (cases_lt p r.start) (cases_lt p r.stop)
  where
    go : (on_s : Bool) → (p < r.start) ⊎ (r.start ≤ p) → (p < r.stop) ⊎ (r.stop ≤ p)
        → (if on_s && leb r.start p then by else pos 0) +ℤ (if on_s && leb r.stop p then back else pos 0)
        ≡ (if on_s && (leb r.start p && ltb p r.stop) then by else pos 0)
    go false a b = refl
    go true (inl before) b = rw (lt-leb r.start p before, lt-leb r.stop p (omega arith)) refl
    go true (inr since) (inl within) = rw (le-leb r.start p since, lt-leb r.stop p within, lt-ltb p r.stop within) (omega (arith, ints))
    go true (inr since) (inr past) = rw (le-leb r.start p since, le-leb r.stop p past, le-ltb p r.stop past) (omega (arith, ints, none))

-- such two changes
pub Shifts-of : (r : RecordValue) (by back : ℤ) (entries between after : Entries) (seq stop : ℕ) → r.start < r.stop
    → Bumps entries between (r.seq, r.start) by → Bumps between after (seq, stop) back → seq ≡ r.seq → stop ≡ r.stop → back +ℤ by ≡ pos 0
    → Shifts r by entries after
Shifts-of r by back entries between after seq stop h first last same_rank same_stop none =
    let second : Bumps between after (r.seq, r.stop) back = rw (← same_rank, ← same_stop) last in record {
      ordered = second.ordered;
      changes = λ all. second.changes (first.changes all);
      sums = λ seq p.
          let e = shifted r seq p by back h none in
          omega (arith, ints, first.sums (reaches seq p), second.sums (reaches seq p), e);
    }

-- one more at each position that a record covers is one more record
pub AreChangesOf-added : (r : RecordValue) (records : List RecordValue) (entries after : Entries) → Shifts r (pos 1) entries after
    → AreChangesOf records entries → AreChangesOf (r ∷ records) after
AreChangesOf-added r records entries after shift old = record {
  ordered = shift.ordered;
  changes = shift.changes old.changes;
  depths = λ seq p. more (covers seq p r) _ _ _ _ (old.depths seq p) (shift.sums seq p) (depth-cons r records seq p);
}
  where
    more : (here : Bool) (a b : ℤ) (n m : ℕ) → a ≡ pos n → b ≡ a +ℤ (if here then pos 1 else pos 0) → m ≡ cond here 1 0 + n → b ≡ pos m
    more true a b n m e f h = omega (arith, ints)
    more false a b n m e f h = omega (arith, ints)

-- and one less is one record less
pub AreChangesOf-removed : (r : RecordValue) (records : List RecordValue) (entries after : Entries) → Shifts r (negsuc 0) entries after
    → AreChangesOf (r ∷ records) entries → AreChangesOf records after
AreChangesOf-removed r records entries after shift old = record {
  ordered = shift.ordered;
  changes = shift.changes old.changes;
  depths = λ seq p. less (covers seq p r) _ _ _ _ (old.depths seq p) (shift.sums seq p) (depth-cons r records seq p);
}
  where
    less : (here : Bool) (a b : ℤ) (n m : ℕ) → a ≡ pos m → b ≡ a +ℤ (if here then negsuc 0 else pos 0) → m ≡ cond here 1 0 + n → b ≡ pos n
    less true a b n m e f h = omega (arith, ints)
    less false a b n m e f h = omega (arith, ints)

All-values-remove_entry : {K : Type 0} (test : K → Bool) (P : ℤ → Type 0) (entries : List (K × ℤ)) → All P (values_of entries) → All P (values_of (remove_entry test entries))
All-values-remove_entry test P [] all = all
All-values-remove_entry test P (e ∷ entries) all = go (All-values-remove_entry test P entries (All-tail P e.1 (values_of entries) all)) (test e.0) refl
  where
    go : All P (values_of (remove_entry test entries)) → (b : Bool) → test e.0 ≡ b → All P (values_of (remove_entry test (e ∷ entries)))
    go rest true is = rw is (All-tail P e.1 (values_of entries) all)
    go rest false is = rw is (All-cons P e.1 (values_of (remove_entry test entries)) (All-head P e.1 (values_of entries) all) rest)

-- a key without a change gets one
pub Bumps-insert_entry : (entries : Entries) (key : ChangeKey) (by : ℤ) → lookup (is_at (pair_cmp key)) entries ≡ None
    → by ≢ pos 0 → IsLedger pair_cmp (insert_entry pair_cmp entries key by) → Bumps entries (insert_entry pair_cmp entries key by) key by
Bumps-insert_entry entries key by absent other ordered = record {
  ordered = ordered;
  sums = λ passes. total-insert_entry passes pair_cmp entries key by absent;
  changes = λ all. All-values-insert_entry pair_cmp key by (λ (z : ℤ). z ≢ pos 0) entries all other;
}

-- a change that becomes 0 is taken out
pub Bumps-remove_entry : (entries : Entries) (key : ChangeKey) (old by : ℤ) → lookup (is_at (pair_cmp key)) entries ≡ Some old
    → old +ℤ by ≡ pos 0 → IsLedger pair_cmp (remove_entry (is_at (pair_cmp key)) entries)
    → Bumps entries (remove_entry (is_at (pair_cmp key)) entries) key by
Bumps-remove_entry entries key old by found none ordered = record {
  ordered = ordered;
  sums = λ passes. sums _ (total passes entries) (passes key) (total-remove_entry passes (is_at (pair_cmp key)) entries key old (pair_same key) found);
  changes = All-values-remove_entry (is_at (pair_cmp key)) (λ (z : ℤ). z ≢ pos 0) entries;
}
  where
    sums : (a b : ℤ) (here : Bool) → a +ℤ (if here then old else pos 0) ≡ b → a ≡ b +ℤ (if here then by else pos 0)
    sums a b true e = omega (arith, ints, none)
    sums a b false e = omega (arith, ints)

-- another change is set
pub Bumps-set_value : (entries : Entries) (key : ChangeKey) (old by : ℤ) → lookup (is_at (pair_cmp key)) entries ≡ Some old
    → old +ℤ by ≢ pos 0 → IsLedger pair_cmp (set_value (is_at (pair_cmp key)) entries (old +ℤ by))
    → Bumps entries (set_value (is_at (pair_cmp key)) entries (old +ℤ by)) key by
Bumps-set_value entries key old by found other ordered = record {
  ordered = ordered;
  sums = λ passes. sums _ (total passes entries) (passes key) (total-set_value passes (is_at (pair_cmp key)) entries key old (old +ℤ by) (pair_same key) found);
  changes = λ all. All-values-set_value (is_at (pair_cmp key)) (λ (z : ℤ). z ≢ pos 0) entries (old +ℤ by) all other;
}
  where
    sums : (a b : ℤ) (here : Bool) → a +ℤ (if here then old else pos 0) ≡ b +ℤ (if here then old +ℤ by else pos 0) → a ≡ b +ℤ (if here then by else pos 0)
    sums a b true e = omega (arith, ints)
    sums a b false e = omega (arith, ints)

-- ---- a change that is written where one is, and then taken out or set

module _ {K : Type 0} (cmp : K → K → Ordering) (total_order : IsTotalOrder cmp) where
  -- a value that is written at a key that is there replaces its value
  insert_entry-found : (entries : List (K × ℤ)) (k : K) (old new : ℤ) → IsLedger cmp entries → lookup (is_at (cmp k)) entries ≡ Some old
      → insert_entry cmp entries k new ≡ set_value (is_at (cmp k)) entries new
  unfolding IsStrictlySortedBy
  insert_entry-found [] k old new sorted found = cc
  insert_entry-found (e ∷ entries) k old new sorted found = go (λ there. insert_entry-found entries k old new sorted.1 there) (cmp k e.0) refl
    where
      go : (lookup (is_at (cmp k)) entries ≡ Some old → insert_entry cmp entries k new ≡ set_value (is_at (cmp k)) entries new)
          → (o : Ordering) → cmp k e.0 ≡ o → insert_entry cmp (e ∷ entries) k new ≡ set_value (is_at (cmp k)) (e ∷ entries) new
      go further Less is =
          let none : lookup (is_at (cmp k)) (e ∷ entries) ≡ None = lookup-none (is_at (cmp k)) (e ∷ entries) (none_below_head total_order k e entries sorted is) in
          let never : Some old ≡ None = sym found ∙ none in
          cc
      go further Equal is = rw is refl
      go further Greater is = rw is (ap (λ (l : List (K × ℤ)). e ∷ l) (further (rw is at found)))

set_value-twice : {K : Type 0} (test : K → Bool) (entries : List (K × ℤ)) (a b : ℤ) → set_value test (set_value test entries a) b ≡ set_value test entries b
set_value-twice test [] a b = refl
set_value-twice test (e ∷ entries) a b = go (set_value-twice test entries a b) (test e.0) refl
  where
    go : set_value test (set_value test entries a) b ≡ set_value test entries b → (here : Bool) → test e.0 ≡ here
        → set_value test (set_value test (e ∷ entries) a) b ≡ set_value test (e ∷ entries) b
    go rest true is = rw (is, is) refl
    go rest false is = rw (is, is, rest) refl

remove_entry-set_value : {K : Type 0} (test : K → Bool) (entries : List (K × ℤ)) (a : ℤ) → remove_entry test (set_value test entries a) ≡ remove_entry test entries
remove_entry-set_value test [] a = refl
remove_entry-set_value test (e ∷ entries) a = go (remove_entry-set_value test entries a) (test e.0) refl
  where
    go : remove_entry test (set_value test entries a) ≡ remove_entry test entries → (here : Bool) → test e.0 ≡ here
        → remove_entry test (set_value test (e ∷ entries) a) ≡ remove_entry test (e ∷ entries)
    go rest true is = rw (is, is) refl
    go rest false is = rw (is, is, rest) refl

lookup-set : {K : Type 0} (test : K → Bool) (entries : List (K × ℤ)) (old new : ℤ) → lookup test entries ≡ Some old → lookup test (set_value test entries new) ≡ Some new
lookup-set test [] old new found = cc
lookup-set test (e ∷ entries) old new found = go (λ there. lookup-set test entries old new there) (test e.0) refl
  where
    go : (lookup test entries ≡ Some old → lookup test (set_value test entries new) ≡ Some new) → (here : Bool) → test e.0 ≡ here
        → lookup test (set_value test (e ∷ entries) new) ≡ Some new
    go further true is = rw (is, is) refl
    go further false is = rw (is, is) (further (rw is at found))

module _ (entries between after : Entries) (key : ChangeKey) (before by : ℤ) (ordered : IsLedger pair_cmp entries)
    (found : value_at pair_cmp entries key ≡ Some before) (put : between ≡ insert_entry pair_cmp entries key by) where
  between-is : between ≡ set_value (is_at (pair_cmp key)) entries by
  between-is = put ∙ insert_entry-found pair_cmp pair_total entries key before by ordered found

  -- what was written is found
  pub found-put : value_at pair_cmp between key ≡ Some by
  found-put = rw between-is (lookup-set (is_at (pair_cmp key)) entries before by found)

  -- the two changes at the key cancel
  pub Bumps-taken : before +ℤ by ≡ pos 0 → after ≡ remove_entry (is_at (pair_cmp key)) between → IsLedger pair_cmp after → Bumps entries after key by
  Bumps-taken none taken sorted =
      let is : after ≡ remove_entry (is_at (pair_cmp key)) entries
      = taken ∙ ap (remove_entry (is_at (pair_cmp key))) between-is ∙ remove_entry-set_value (is_at (pair_cmp key)) entries by in
      rw is (Bumps-remove_entry entries key before by found none (rw is at sorted))

  -- or their sum is set
  pub Bumps-set : before +ℤ by ≢ pos 0 → after ≡ set_value (is_at (pair_cmp key)) between (before +ℤ by) → IsLedger pair_cmp after → Bumps entries after key by
  Bumps-set other set sorted =
      let is : after ≡ set_value (is_at (pair_cmp key)) entries (before +ℤ by)
      = set ∙ ap (λ (l : Entries). set_value (is_at (pair_cmp key)) l (before +ℤ by)) between-is ∙ set_value-twice (is_at (pair_cmp key)) entries by (before +ℤ by) in
      rw is (Bumps-set_value entries key before by found other (rw is at sorted))
