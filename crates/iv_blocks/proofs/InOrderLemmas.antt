-- Entries that are listed side by side are in order, and each is found.
use Rattle.std.proofs.Common.{◌≡◌, ℕ, zero, suc, ◌<◌, ◌≤◌, inl, inr, Bool, true, false, [], ◌∷◌, ◌++◌, Option, Some, None, refl, sym, ◌∙◌, ap, subst, arith, append-nil}
use Rattle.std.specs.declared.cmp.Ordering.{Ordering}
use Rattle.std.specs.declared.cmp.Ordering.TheVariants.{Less, Equal, Greater}
use Rattle.std.specs.Cmp.{tied_itself, nat_cmp_is}
use Rattle.std.specs.List.{flat_map, range_with_len, cons_option, AllByRecursion}
use Rattle.std.specs.List.Sorted.{IsStrictlySortedBy}
use Rattle.std.specs.BTreeMap.{is_at}
use Rattle.std.specs.Map.{keys_of, lookup}
use Rattle.std.specs.Option.{option_map, option_or}
use Rattle.std.specs.Ordering.{nat_cmp, bool_cmp, ordering_then, is_eq}
use Rattle.std.proofs.lemmas.Bool.{cond-true, false_from_ne_true, cases_lt}
use Rattle.std.proofs.lemmas.List.Concat.{flat_map-append}
use Rattle.iv_cover.proofs.Positions.{range-more, values-more}
use Rattle.iv_ledger.specs.Entries.{IsLedger, value_at}
use Rattle.iv_blocks.specs.KeptBlocks.{Key, Kept, Entries, key_cmp}
use Rattle.iv_blocks.proofs.EntryLemmas.{side_entries, rank_entries, all_entries}
use Rattle.iv_blocks.proofs.Keys.{keys_total, keys_exact}
use Rattle.iv_blocks.proofs.JoinLemmas.{or-none}

-- each key passes
abbrev pub AllKeys : (Key → Type 0) → Entries → Type 0
AllKeys P [] = Unit {0}
AllKeys P (e ∷ entries) = P e.0 × AllKeys P entries

all-append : (P : Key → Type 0) (a b : Entries) → AllKeys P a → AllKeys P b → AllKeys P (a ++ b)
all-append P [] b all_a all_b = all_b
all-append P (e ∷ a) b all_a all_b = (all_a.0, all-append P a b all_a.1 all_b)

all-weaker : (P Q : Key → Type 0) (a : Entries) → ((k : Key) → P k → Q k) → AllKeys P a → AllKeys Q a
all-weaker P Q [] h all = tt
all-weaker P Q (e ∷ a) h all = (h e.0 all.0, all-weaker P Q a h all.1)

all-recursion : (P : Key → Type 0) (a : Entries) → AllKeys P a → AllByRecursion P (keys_of a)
all-recursion P [] all = tt
all-recursion P (e ∷ a) all = (all.0, all-recursion P a all.1)

recursion-all : (P : Key → Type 0) (a : Entries) → AllByRecursion P (keys_of a) → AllKeys P a
recursion-all P [] all = tt
recursion-all P (e ∷ a) all = (all.0, recursion-all P a all.1)

-- two ledgers, one after the other
ordered-append : (a b : Entries) → IsLedger key_cmp a → IsLedger key_cmp b → AllKeys (λ k. AllKeys (λ l. key_cmp k l ≡ Less) b) a → IsLedger key_cmp (a ++ b)
unfolding IsStrictlySortedBy
ordered-append [] b first second apart = second
ordered-append (e ∷ a) b first second apart = (
  all-recursion (λ l. key_cmp e.0 l ≡ Less) (a ++ b) (all-append (λ l. key_cmp e.0 l ≡ Less) a b (recursion-all (λ l. key_cmp e.0 l ≡ Less) a first.0) apart.0),
  ordered-append a b first.1 second apart.1,
)

found-append : (test : Key → Bool) (a b : Entries) → lookup test (a ++ b) ≡ option_or (lookup test a) (lookup test b)
found-append test [] b = refl
found-append test (e ∷ a) b = go (found-append test a b) (test e.0) refl
  where
    go : lookup test (a ++ b) ≡ option_or (lookup test a) (lookup test b) → (here : Bool) → test e.0 ≡ here
        → lookup test (e ∷ (a ++ b)) ≡ option_or (lookup test (e ∷ a)) (lookup test b)
    go rest true is = rw is refl
    go rest false is = rw is rest

found-none : (test : Key → Bool) (a : Entries) → AllKeys (λ k. test k ≡ false) a → lookup test a ≡ None
found-none test [] all = refl
found-none test (e ∷ a) all = rw all.0 (found-none test a all.1)

at-same : (k l : Key) → is_at (key_cmp k) l ≡ true → k ≡ l
at-same k l at = go (key_cmp k l) refl at
  where
    go : (o : Ordering) → key_cmp k l ≡ o → is_eq o ≡ true → k ≡ l
    go Equal is e = keys_exact k l is
    go Less is e = cc
    go Greater is e = cc

-- a key that doesn't pass is not found among those that do
absent : (P : Key → Type 0) (a : Entries) (k : Key) → AllKeys P a → (P k → ⊥) → value_at key_cmp a k ≡ None
absent P a k all not = found-none (is_at (key_cmp k)) a
    (all-weaker P (λ l. is_at (key_cmp k) l ≡ false) a (λ l p. false_from_ne_true _ (λ at. not (subst P (sym (at-same k l at)) p))) all)

here-less : (k l : Key) → k.0 ≡ l.0 → k.1 ≡ l.1 → k.2 < l.2 → key_cmp k l ≡ Less
here-less k l seq side less =
    let a : Equal ≡ nat_cmp k.0 l.0 = nat_cmp_is k.0 l.0 Equal seq in
    let c : Less ≡ nat_cmp k.2 l.2 = nat_cmp_is k.2 l.2 Less less in
    rw (← a, ← c) (go k.1 l.1 side)
  where
    go : (x y : Bool) → x ≡ y → ordering_then Equal (ordering_then (bool_cmp x y) Less) ≡ Less
    go true true e = refl
    go false false e = refl
    go true false e = cc
    go false true e = cc

side-less : (k l : Key) → k.0 ≡ l.0 → k.1 ≡ false → l.1 ≡ true → key_cmp k l ≡ Less
side-less k l seq first other =
    let a : Equal ≡ nat_cmp k.0 l.0 = nat_cmp_is k.0 l.0 Equal seq in
    rw (← a, first, other) refl

seq-less : (k l : Key) → k.0 < l.0 → key_cmp k l ≡ Less
seq-less k l less = let a : Less ≡ nat_cmp k.0 l.0 = nat_cmp_is k.0 l.0 Less less in rw (← a) refl

-- on one side of a sequence, below a position
abbrev pub IsOn : ℕ → Bool → ℕ → Key → Type 0
IsOn s t n k = (k.0 ≡ s) × (k.1 ≡ t) × (k.2 < n)

module _ (look : Key → Option Kept) (long : ℕ → ℕ) where
  -- on one of so many sequences, below its length
  abbrev pub IsIn : ℕ → Key → Type 0
  IsIn n k = (k.0 < n) × (k.2 < long k.0)

  abbrev pub IsOf : ℕ → Key → Type 0
  IsOf s k = (k.0 ≡ s) × (k.2 < long k.0)

  -- what is at one position
  abbrev pub last : ℕ → Bool → ℕ → Entries
  last s t p = cons_option (option_map (λ v. ((s, t, p), v)) (look (s, t, p))) []

  last-keys : (s : ℕ) (t : Bool) (p : ℕ) → AllKeys (λ k. k ≡ (s, t, p)) (last s t p)
  last-keys s t p = elim (look (s, t, p)) as (λ o. AllKeys (λ k. k ≡ (s, t, p)) (cons_option (option_map (λ v. ((s, t, p), v)) o) [])) [
    | None ↦ tt
    | Some v ↦ (refl, tt)
  ]

  last-ordered : (s : ℕ) (t : Bool) (p : ℕ) → IsLedger key_cmp (last s t p)
  unfolding IsStrictlySortedBy
  last-ordered s t p = elim (look (s, t, p)) as (λ o. IsLedger key_cmp (cons_option (option_map (λ v. ((s, t, p), v)) o) [])) [
    | None ↦ tt
    | Some v ↦ (tt, tt)
  ]

  last-found : (s : ℕ) (t : Bool) (p : ℕ) → value_at key_cmp (last s t p) (s, t, p) ≡ look (s, t, p)
  last-found s t p = elim (look (s, t, p)) as (λ o. value_at key_cmp (cons_option (option_map (λ v. ((s, t, p), v)) o) []) (s, t, p) ≡ o) [
    | None ↦ refl
    | Some v ↦ cond-true (is_at (key_cmp (s, t, p)) (s, t, p)) _ _ (ap is_eq (tied_itself keys_total (s, t, p)))
  ]

  side-keys : (s : ℕ) (t : Bool) (n : ℕ) → AllKeys (IsOn s t n) (side_entries look s t n)
  side-keys s t zero = tt
  side-keys s t (suc n) = subst (AllKeys (IsOn s t (suc n))) (sym (values-more (λ p. option_map (λ v. ((s, t, p), v)) (look (s, t, p))) n))
      (all-append (IsOn s t (suc n)) (side_entries look s t n) (last s t n)
      (all-weaker (IsOn s t n) (IsOn s t (suc n)) (side_entries look s t n) (λ k on. (on.0, on.1, omega (arith, on.2))) (side-keys s t n))
      (all-weaker (λ k. k ≡ (s, t, n)) (IsOn s t (suc n)) (last s t n)
      (λ k at. (ap (λ (x : Key). x.0) at, ap (λ (x : Key). x.1) at, omega (arith, ap (λ (x : Key). x.2) at))) (last-keys s t n)))

  side-ordered : (s : ℕ) (t : Bool) (n : ℕ) → IsLedger key_cmp (side_entries look s t n)
  unfolding IsStrictlySortedBy
  side-ordered s t zero = tt
  side-ordered s t (suc n) = subst (IsLedger key_cmp) (sym (values-more (λ p. option_map (λ v. ((s, t, p), v)) (look (s, t, p))) n))
      (ordered-append (side_entries look s t n) (last s t n) (side-ordered s t n) (last-ordered s t n)
      (all-weaker (IsOn s t n) (λ k. AllKeys (λ l. key_cmp k l ≡ Less) (last s t n)) (side_entries look s t n)
      (λ k on. all-weaker (λ l. l ≡ (s, t, n)) (λ l. key_cmp k l ≡ Less) (last s t n)
      (λ l at. here-less k l (on.0 ∙ sym (ap (λ (x : Key). x.0) at)) (on.1 ∙ sym (ap (λ (x : Key). x.1) at)) (omega (arith, on.2, ap (λ (x : Key). x.2) at))) (last-keys s t n))
      (side-keys s t n)))

  side-found : (s : ℕ) (t : Bool) (n p : ℕ) → p < n → value_at key_cmp (side_entries look s t n) (s, t, p) ≡ look (s, t, p)
  side-found s t zero p below = absurd (omega arith)
  side-found s t (suc n) p below =
      ap (λ (l : Entries). value_at key_cmp l (s, t, p)) (values-more (λ q. option_map (λ v. ((s, t, q), v)) (look (s, t, q))) n)
      ∙ found-append (is_at (key_cmp (s, t, p))) (side_entries look s t n) (last s t n)
      ∙ elim (cases_lt p n) [
        | inl within ↦
            ap (option_or (value_at key_cmp (side_entries look s t n) (s, t, p)))
            (absent (λ l. l ≡ (s, t, n)) (last s t n) (s, t, p) (last-keys s t n) (λ at. let same : p ≡ n = ap (λ (x : Key). x.2) at in absurd (omega arith)))
            ∙ or-none (value_at key_cmp (side_entries look s t n) (s, t, p)) ∙ side-found s t n p within
        | inr past ↦
            let same : p ≡ n = omega (arith) in
            ap (λ o. option_or o (value_at key_cmp (last s t n) (s, t, p)))
            (absent (IsOn s t n) (side_entries look s t n) (s, t, p) (side-keys s t n) (λ on. absurd (omega (arith, on.2))))
            ∙ ap (λ (m : ℕ). value_at key_cmp (last s t n) (s, t, m)) same ∙ last-found s t n ∙ ap (λ (m : ℕ). look (s, t, m)) (sym same)
      ]

  seq-keys : (s : ℕ) → AllKeys (IsOf s) (rank_entries look long s)
  seq-keys s = all-append (IsOf s) (side_entries look s false (long s)) (side_entries look s true (long s))
      (all-weaker (IsOn s false (long s)) (IsOf s) (side_entries look s false (long s)) (λ k on. (on.0, omega (arith, on.2, ap long on.0))) (side-keys s false (long s)))
      (all-weaker (IsOn s true (long s)) (IsOf s) (side_entries look s true (long s)) (λ k on. (on.0, omega (arith, on.2, ap long on.0))) (side-keys s true (long s)))

  seq-ordered : (s : ℕ) → IsLedger key_cmp (rank_entries look long s)
  seq-ordered s = ordered-append (side_entries look s false (long s)) (side_entries look s true (long s)) (side-ordered s false (long s)) (side-ordered s true (long s))
      (all-weaker (IsOn s false (long s)) (λ k. AllKeys (λ l. key_cmp k l ≡ Less) (side_entries look s true (long s))) (side_entries look s false (long s))
      (λ k on. all-weaker (IsOn s true (long s)) (λ l. key_cmp k l ≡ Less) (side_entries look s true (long s)) (λ l other. side-less k l (on.0 ∙ sym other.0) on.1 other.1) (side-keys s true (long s)))
      (side-keys s false (long s)))

  seq-found : (s : ℕ) (t : Bool) (p : ℕ) → p < long s → value_at key_cmp (rank_entries look long s) (s, t, p) ≡ look (s, t, p)
  seq-found s false p below =
      found-append (is_at (key_cmp (s, false, p))) (side_entries look s false (long s)) (side_entries look s true (long s))
      ∙ ap (option_or (value_at key_cmp (side_entries look s false (long s)) (s, false, p)))
      (absent (IsOn s true (long s)) (side_entries look s true (long s)) (s, false, p) (side-keys s true (long s)) (λ on. let never : false ≡ true = on.1 in cc))
      ∙ or-none (value_at key_cmp (side_entries look s false (long s)) (s, false, p)) ∙ side-found s false (long s) p below
  seq-found s true p below =
      found-append (is_at (key_cmp (s, true, p))) (side_entries look s false (long s)) (side_entries look s true (long s))
      ∙ ap (λ o. option_or o (value_at key_cmp (side_entries look s true (long s)) (s, true, p)))
      (absent (IsOn s false (long s)) (side_entries look s false (long s)) (s, true, p) (side-keys s false (long s)) (λ on. let never : true ≡ false = on.1 in cc))
      ∙ side-found s true (long s) p below

  all-more : (n : ℕ) → all_entries look long (suc n) ≡ all_entries look long n ++ rank_entries look long n
  all-more n =
      ap (flat_map (rank_entries look long)) (range-more n) ∙ flat_map-append (rank_entries look long) (range_with_len 0 n) (n ∷ [])
      ∙ ap (λ (l : Entries). all_entries look long n ++ l) (append-nil (rank_entries look long n))

  all-keys : (n : ℕ) → AllKeys (IsIn n) (all_entries look long n)
  all-keys zero = tt
  all-keys (suc n) = subst (AllKeys (IsIn (suc n))) (sym (all-more n))
      (all-append (IsIn (suc n)) (all_entries look long n) (rank_entries look long n)
      (all-weaker (IsIn n) (IsIn (suc n)) (all_entries look long n) (λ k low. (omega (arith, low.0), low.1)) (all-keys n))
      (all-weaker (IsOf n) (IsIn (suc n)) (rank_entries look long n) (λ k of. (omega (arith, of.0), of.1)) (seq-keys n)))

  -- they are in order
  pub all-ordered : (n : ℕ) → IsLedger key_cmp (all_entries look long n)
  unfolding IsStrictlySortedBy
  all-ordered zero = tt
  all-ordered (suc n) = subst (IsLedger key_cmp) (sym (all-more n))
      (ordered-append (all_entries look long n) (rank_entries look long n) (all-ordered n) (seq-ordered n)
      (all-weaker (IsIn n) (λ k. AllKeys (λ l. key_cmp k l ≡ Less) (rank_entries look long n)) (all_entries look long n)
      (λ k low. all-weaker (IsOf n) (λ l. key_cmp k l ≡ Less) (rank_entries look long n) (λ l of. seq-less k l (omega (arith, low.0, of.0))) (seq-keys n))
      (all-keys n)))

  all-found : (n : ℕ) (k : Key) → k.0 < n → k.2 < long k.0 → value_at key_cmp (all_entries look long n) k ≡ look k
  all-found zero k low below = absurd (omega arith)
  all-found (suc n) k low below =
      ap (λ (l : Entries). value_at key_cmp l k) (all-more n)
      ∙ found-append (is_at (key_cmp k)) (all_entries look long n) (rank_entries look long n)
      ∙ elim (cases_lt k.0 n) [
        | inl within ↦
            ap (option_or (value_at key_cmp (all_entries look long n) k))
            (absent (IsOf n) (rank_entries look long n) k (seq-keys n) (λ of. absurd (omega (arith, of.0))))
            ∙ or-none (value_at key_cmp (all_entries look long n) k) ∙ all-found n k within below
        | inr past ↦
            let same : k.0 ≡ n = omega arith in
            let key : k ≡ (n, k.1, k.2) = rw same refl in
            let here : k.2 < long n = omega (arith, ap long same) in
            ap (λ o. option_or o (value_at key_cmp (rank_entries look long n) k))
            (absent (IsIn n) (all_entries look long n) k (all-keys n) (λ inside. absurd (omega (arith, inside.0))))
            ∙ ap (value_at key_cmp (rank_entries look long n)) key ∙ seq-found n k.1 k.2 here ∙ ap look (sym key)
      ]

  -- and what is found among them is what is looked up, if that is nothing past the ends
  pub all-look : (n : ℕ) → ((s : ℕ) (t : Bool) (p : ℕ) → long s ≤ p → look (s, t, p) ≡ None) → ((s : ℕ) (t : Bool) (p : ℕ) → n ≤ s → look (s, t, p) ≡ None)
      → (k : Key) → value_at key_cmp (all_entries look long n) k ≡ look k
  all-look n past none k = elim (cases_lt k.0 n) [
    | inr beyond ↦ absent (IsIn n) (all_entries look long n) k (all-keys n) (λ inside. absurd (omega (arith, inside.0))) ∙ sym (none k.0 k.1 k.2 beyond)
    | inl low ↦ elim (cases_lt k.2 (long k.0)) [
      | inl below ↦ all-found n k low below
      | inr high ↦ absent (IsIn n) (all_entries look long n) k (all-keys n) (λ inside. absurd (omega (arith, inside.1))) ∙ sym (past k.0 k.1 k.2 high)
    ]
  ]
