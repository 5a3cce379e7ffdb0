-- How large a net change is.
use Rattle.std.proofs.Common.{length, ◌^◌, ◌≡◌, ◌≢◌, ℕ, zero, suc, ◌+◌, ◌*◌, add-one, ◌<◌, ◌≤◌, List, [], ◌∷◌, ◌⊎◌, refl, sym, ◌∙◌, subst, arith, eqb, true, false, Bool, Less, Equal, nat_cmp, Some, inl, inr}
use Rattle.std.specs.Prelude.{ℤ, pos, negsuc, ◌+ℤ◌, ◌≤ℤ◌, if◌then◌else◌}
use Rattle.std.specs.List.{AllByRecursion}
use Rattle.std.specs.List.Sorted.{IsStrictlySortedBy}
use Rattle.std.specs.Map.{keys_of, lookup}
use Rattle.std.specs.BTreeMap.{is_at}
use Rattle.std.proofs.lemmas.Int.{ints}
use Rattle.std.proofs.lemmas.Cmp.{nat_cmp_total, tied_itself}
use Rattle.std.proofs.lemmas.Bool.{cases_lt, lt-leb, le-leb, eq-eqb, false≢true}
use Rattle.std.proofs.lemmas.Bool.Decides.{eqb_tells}
use Rattle.std.proofs.lemmas.List.Sums.{count_by-le-length}
use Rattle.iv_lines.specs.RecordValue.{RecordValue}
use Rattle.iv_lines.specs.CoveredPositions.{covers}
use Rattle.iv_cover.specs.Depth.{depth}
use Rattle.iv_depth.specs.Changes.{ChangeKey, Entries, total, reaches, AreChangesOf}
use Rattle.iv_depth.specs.Inside.Changes.{Bumps}
use Rattle.iv_ledger.specs.Entries.{pair_cmp}
use Rattle.iv_track.proofs.NumberOrder.{pair_same}

place-tied : (k : ChangeKey) → is_at (pair_cmp k) k ≡ true
place-tied k =
    let a : nat_cmp k.0 k.0 ≡ Equal = tied_itself nat_cmp_total k.0 in
    let b : nat_cmp k.1 k.1 ≡ Equal = tied_itself nat_cmp_total k.1 in
    rw (a, b) refl

total-none : (k : ChangeKey) (entries : Entries) → AllByRecursion (λ y. pair_cmp k y ≡ Less) (keys_of entries)
    → total (is_at (pair_cmp k)) entries ≡ pos 0
total-none k [] h = refl
total-none k (e ∷ entries) h =
    let less : pair_cmp k e.0 ≡ Less = h.0 in
    let rest : total (is_at (pair_cmp k)) entries ≡ pos 0 = total-none k entries h.1 in
    rw (less, rest) refl

-- the change at a key is all that there is at it
total-found : (k : ChangeKey) (entries : Entries) (z : ℤ) → IsStrictlySortedBy pair_cmp (keys_of entries)
    → lookup (is_at (pair_cmp k)) entries ≡ Some z → total (is_at (pair_cmp k)) entries ≡ z
unfolding IsStrictlySortedBy
total-found k [] z sorted found = cc
total-found k (e ∷ entries) z sorted found = go (λ there. total-found k entries z sorted.1 there) (is_at (pair_cmp k) e.0) refl
  where
    go : (lookup (is_at (pair_cmp k)) entries ≡ Some z → total (is_at (pair_cmp k)) entries ≡ z)
        → (b : Bool) → is_at (pair_cmp k) e.0 ≡ b → total (is_at (pair_cmp k)) (e ∷ entries) ≡ z
    go further true is =
        let here : Some e.1 ≡ Some z = rw is at found in
        let value : e.1 ≡ z = cc in
        let same : e.0 ≡ k = pair_same k e.0 is in
        let rest : total (is_at (pair_cmp k)) entries ≡ pos 0
        = total-none k entries (subst (λ (j : ChangeKey). AllByRecursion (λ y. pair_cmp j y ≡ Less) (keys_of entries)) same sorted.0) in
        rw is (omega (arith, ints, value, rest))
    go further false is = let rest = further (rw is at found) in rw is (omega (arith, ints, rest))

-- a key elsewhere is reached by the next position if it is by this one
reaches-elsewhere : (s p : ℕ) (key : ChangeKey) → is_at (pair_cmp (s, p + 1)) key ≡ false → reaches s (p + 1) key ≡ reaches s p key
reaches-elsewhere s p key is = go (eqb_tells key.0 s)
  where
    go : ((eqb key.0 s ≡ true) × (key.0 ≡ s)) ⊎ ((eqb key.0 s ≡ false) × (key.0 ≢ s)) → reaches s (p + 1) key ≡ reaches s p key
    go (inr off) = rw off.0 refl
    go (inl on) =
        let other : key.1 ≢ p + 1 = λ e. false≢true (sym (rw (on.1, e) at is) ∙ place-tied (s, p + 1)) in
        rw on.0 (elim (cases_lt p key.1) [
          | inl far ↦ rw (lt-leb key.1 (p + 1) (omega (arith, far, other)), lt-leb key.1 p far) refl
          | inr near ↦ rw (le-leb key.1 (p + 1) (omega (arith, near)), le-leb key.1 p near) refl
        ])

-- up to the next position come the changes at it
total-step : (s p : ℕ) (entries : Entries)
    → total (reaches s (p + 1)) entries ≡ total (reaches s p) entries +ℤ total (is_at (pair_cmp (s, p + 1))) entries
total-step s p [] = refl
total-step s p (e ∷ entries) = go (total-step s p entries) (is_at (pair_cmp (s, p + 1)) e.0) refl
  where
    go : total (reaches s (p + 1)) entries ≡ total (reaches s p) entries +ℤ total (is_at (pair_cmp (s, p + 1))) entries
        → (b : Bool) → is_at (pair_cmp (s, p + 1)) e.0 ≡ b
        → total (reaches s (p + 1)) (e ∷ entries) ≡ total (reaches s p) (e ∷ entries) +ℤ total (is_at (pair_cmp (s, p + 1))) (e ∷ entries)
    go rest true is =
        let same : e.0 ≡ (s, p + 1) = pair_same (s, p + 1) e.0 is in
        let on : reaches s (p + 1) e.0 ≡ true = rw (same, eq-eqb s s refl, le-leb (p + 1) (p + 1) (omega arith)) refl in
        let off : reaches s p e.0 ≡ false = rw (same, eq-eqb s s refl, lt-leb (p + 1) p (omega arith)) refl in
        rw (is, on, off) (omega (arith, ints, rest))
    go rest false is =
        let alike : reaches s (p + 1) e.0 ≡ reaches s p e.0 = reaches-elsewhere s p e.0 is in
        rw (is, alike) (omega (arith, ints, rest))

total-start : (s : ℕ) (entries : Entries) → total (reaches s 0) entries ≡ total (is_at (pair_cmp (s, 0))) entries
total-start s [] = refl
total-start s (e ∷ entries) = go (total-start s entries) (is_at (pair_cmp (s, 0)) e.0) refl
  where
    go : total (reaches s 0) entries ≡ total (is_at (pair_cmp (s, 0))) entries
        → (b : Bool) → is_at (pair_cmp (s, 0)) e.0 ≡ b
        → total (reaches s 0) (e ∷ entries) ≡ total (is_at (pair_cmp (s, 0))) (e ∷ entries)
    go rest true is =
        let same : e.0 ≡ (s, 0) = pair_same (s, 0) e.0 is in
        let on : reaches s 0 e.0 ≡ true = rw (same, eq-eqb s s refl) refl in
        rw (is, on) (omega (arith, ints, rest))
    go rest false is =
        let off : reaches s 0 e.0 ≡ false = elsewhere (eqb_tells e.0.0 s) in
        rw (is, off) (omega (arith, ints, rest))
      where
        elsewhere : ((eqb e.0.0 s ≡ true) × (e.0.0 ≡ s)) ⊎ ((eqb e.0.0 s ≡ false) × (e.0.0 ≢ s)) → reaches s 0 e.0 ≡ false
        elsewhere (inr off) = rw off.0 refl
        elsewhere (inl on) =
            let other : e.0.1 ≢ 0 = λ none. false≢true (sym (rw (on.1, none) at is) ∙ place-tied (s, 0)) in
            rw (on.0, lt-leb e.0.1 0 (omega (arith, other))) refl

-- a change is the difference of two sums
pub change-bounded : (entries : Entries) (n : ℕ) (key : ChangeKey) (z : ℤ) → IsStrictlySortedBy pair_cmp (keys_of entries)
    → ((s p : ℕ) → (negsuc n ≤ℤ total (reaches s p) entries) × (total (reaches s p) entries ≤ℤ pos n))
    → lookup (is_at (pair_cmp key)) entries ≡ Some z → (negsuc (2 * n + 1) ≤ℤ z) × (z ≤ℤ pos (2 * n + 1))
change-bounded entries n key z sorted within found = go key.0 key.1 found
  where
    go : (s p : ℕ) → lookup (is_at (pair_cmp (s, p))) entries ≡ Some z → (negsuc (2 * n + 1) ≤ℤ z) × (z ≤ℤ pos (2 * n + 1))
    go s zero found =
        let at : total (is_at (pair_cmp (s, 0))) entries ≡ z = total-found (s, 0) entries z sorted found in
        (omega (arith, ints, at, total-start s entries, within s 0), omega (arith, ints, at, total-start s entries, within s 0))
    go s (suc p) found =
        let there : lookup (is_at (pair_cmp (s, p + 1))) entries ≡ Some z = rw add-one found in
        let at : total (is_at (pair_cmp (s, p + 1))) entries ≡ z = total-found (s, p + 1) entries z sorted there in
        (omega (arith, ints, at, total-step s p entries, within s p, within s (p + 1)), omega (arith, ints, at, total-step s p entries, within s p, within s (p + 1)))

pub AreChangesOf-within : (records : List RecordValue) (entries : Entries) → AreChangesOf records entries
    → (s p : ℕ) → (negsuc (length records) ≤ℤ total (reaches s p) entries) × (total (reaches s p) entries ≤ℤ pos (length records))
AreChangesOf-within records entries h s p =
    let few : depth records s p ≤ length records = count_by-le-length (covers s p) records in
    let is : total (reaches s p) entries ≡ pos (depth records s p) = h.depths s p in
    (omega (arith, ints, is), omega (arith, ints, is))

pub Bumps-within : (n : ℕ) (old new : Entries) (key : ChangeKey) (by : ℤ) → Bumps old new key by → negsuc 0 ≤ℤ by → by ≤ℤ pos 1
    → ((s p : ℕ) → (negsuc n ≤ℤ total (reaches s p) old) × (total (reaches s p) old ≤ℤ pos n))
    → (s p : ℕ) → (negsuc (n + 1) ≤ℤ total (reaches s p) new) × (total (reaches s p) new ≤ℤ pos (n + 1))
Bumps-within n old new key by h low high within s p = go (reaches s p key) (h.sums (reaches s p))
  where
    go : (b : Bool) → total (reaches s p) new ≡ total (reaches s p) old +ℤ (if b then by else pos 0)
        → (negsuc (n + 1) ≤ℤ total (reaches s p) new) × (total (reaches s p) new ≤ℤ pos (n + 1))
    go true e = (omega (arith, ints, e, within s p), omega (arith, ints, e, within s p))
    go false e = (omega (arith, ints, e, within s p), omega (arith, ints, e, within s p))

pub change-small : (entries : Entries) (n : ℕ) (key : ChangeKey) → IsStrictlySortedBy pair_cmp (keys_of entries) → n < 2 ^ 38
    → ((s p : ℕ) → (negsuc n ≤ℤ total (reaches s p) entries) × (total (reaches s p) entries ≤ℤ pos n))
    → (z : ℤ) → lookup (is_at (pair_cmp key)) entries ≡ Some z → (negsuc (2 ^ 40) ≤ℤ z) × (z ≤ℤ pos (2 ^ 40))
change-small entries n key sorted few within z found =
    let b = change-bounded entries n key z sorted within found in
    (omega (arith, ints, b), omega (arith, ints, b))
