-- Entries in the order of their keys, key by key.
use Rattle.std.proofs.Common.{◌≡◌, ℕ, zero, suc, ◌+◌, ◌<◌, ◌≤◌, inl, inr, Bool, true, false, [], ◌∷◌, ◌++◌, filter, Option, Some, None, refl, sym, ◌∙◌, ap, arith, add-one, append-nil, append_assoc}
use Rattle.std.specs.declared.cmp.Ordering.{Ordering}
use Rattle.std.specs.declared.cmp.Ordering.TheVariants.{Less, Equal, Greater}
use Rattle.std.specs.Cmp.{tied_itself, ranked, nat_cmp_is}
use Rattle.std.specs.List.{flat_map, range_with_len, cons_option, AllByRecursion}
use Rattle.std.specs.List.Sorted.{IsStrictlySortedBy}
use Rattle.std.specs.BTreeMap.{is_at}
use Rattle.std.specs.Map.{keys_of}
use Rattle.std.specs.Option.{option_map}
use Rattle.std.specs.Ordering.{nat_cmp, bool_cmp, ordering_then, is_le, is_lt, is_eq}
use Rattle.std.proofs.lemmas.Bool.{cond-true, cond-false, false_from_ne_true}
use Rattle.std.proofs.lemmas.List.Concat.{flat_map-append}
use Rattle.std.proofs.lemmas.Map.{lookup-none}
use Rattle.std.proofs.lemmas.Map.Entries.{none_below_head}
use Rattle.std.proofs.lemmas.Map.Keys.{le_from_is_le}
use Rattle.iv_cover.proofs.Positions.{range-more, values, values-none, values-some}
use Rattle.iv_lines.proofs.ListLemmas.{Mem, filter-agree, filter-none, filter-all}
use Rattle.iv_lines.proofs.PrecedesLemmas.{then-is_le}
use Rattle.iv_track.proofs.EntryIndexLemmas.{le_then, zero_le}
use Rattle.iv_ledger.specs.Entries.{IsLedger, value_at}
use Rattle.iv_track.proofs.NumberOrder.{le-cmp}
use Rattle.iv_blocks.specs.KeptBlocks.{Key, Kept, Entries, key_cmp}
use Rattle.iv_blocks.proofs.Keys.{keys_total, keys_exact}

-- ---- the order of keys

lt-cmp : (m n : ℕ) → n < m → is_le (nat_cmp m n) ≡ false
lt-cmp m n h = false_from_ne_true _ (λ e. let low : m ≤ n = le_from_is_le m n e in omega arith)

-- past a position is from the next one on
next-cmp : (p q : ℕ) → is_lt (nat_cmp p q) ≡ is_le (nat_cmp (p + 1) q)
next-cmp p q = go (nat_cmp p q) refl
  where
    go : (o : Ordering) → o ≡ nat_cmp p q → is_lt o ≡ is_le (nat_cmp (p + 1) q)
    go Less is = let r : p < q = ranked p q Less is in sym (le-cmp (p + 1) q (omega arith))
    go Equal is = let r : p ≡ q = ranked p q Equal is in sym (lt-cmp (p + 1) q (omega arith))
    go Greater is = let r : q < p = ranked p q Greater is in sym (lt-cmp (p + 1) q (omega arith))

then-tests : (a b c d : Ordering) → is_lt c ≡ is_le d → is_lt (ordering_then (ordering_then a b) c) ≡ is_le (ordering_then (ordering_then a b) d)
then-tests Equal Equal c d same = same
then-tests a b c d same = refl

next-key : (s : ℕ) (t : Bool) (p : ℕ) (x : Key) → is_lt (key_cmp (s, t, p) x) ≡ is_le (key_cmp (s, t, p + 1) x)
next-key s t p x = then-tests (nat_cmp s x.0) (bool_cmp t x.1) (nat_cmp p x.2) (nat_cmp (p + 1) x.2) (next-cmp p x.2)

-- if no key from p on is on the first side, the next is on the other
next-side : (s p : ℕ) (x : Key) → (x.0 ≡ s → x.1 ≡ false → p ≤ x.2 → ⊥) → is_le (key_cmp (s, false, p) x) ≡ is_le (key_cmp (s, true, 0) x)
next-side s p x none = go (nat_cmp s x.0) refl x.1 refl
  where
    go : (o : Ordering) → o ≡ nat_cmp s x.0 → (t : Bool) → x.1 ≡ t
        → is_le (ordering_then (ordering_then o (bool_cmp false t)) (nat_cmp p x.2)) ≡ is_le (ordering_then (ordering_then o (bool_cmp true t)) (nat_cmp 0 x.2))
    go Less is t side = refl
    go Greater is t side = refl
    go Equal is true side = sym (zero_le x.2)
    go Equal is false side =
        let same : s ≡ x.0 = ranked s x.0 Equal is in
        false_from_ne_true _ (λ e. none (sym same) side (le_from_is_le p x.2 e))

first_le : (t : Bool) → is_le (bool_cmp false t) ≡ true
first_le true = refl
first_le false = refl

-- and if none is on the other side, it is on the next sequence
next-seq : (s p : ℕ) (x : Key) → (x.0 ≡ s → x.1 ≡ true → p ≤ x.2 → ⊥) → is_le (key_cmp (s, true, p) x) ≡ is_le (key_cmp (s + 1, false, 0) x)
next-seq s p x none = go (nat_cmp s x.0) refl x.1 refl
  where
    below : x.0 < s + 1 → is_le (key_cmp (s + 1, false, 0) x) ≡ false
    below low = let after : Greater ≡ nat_cmp (s + 1) x.0 = nat_cmp_is (s + 1) x.0 Greater low in rw (← after) refl

    go : (o : Ordering) → o ≡ nat_cmp s x.0 → (t : Bool) → x.1 ≡ t
        → is_le (ordering_then (ordering_then o (bool_cmp true t)) (nat_cmp p x.2)) ≡ is_le (key_cmp (s + 1, false, 0) x)
    go Less is t side =
        let low : s < x.0 = ranked s x.0 Less is in
        sym (le_then _ (nat_cmp 0 x.2) (le_then (nat_cmp (s + 1) x.0) (bool_cmp false x.1) (le-cmp (s + 1) x.0 (omega arith)) (first_le x.1)) (zero_le x.2))
    go Greater is t side = let high : x.0 < s = ranked s x.0 Greater is in sym (below (omega arith))
    go Equal is false side = let same : s ≡ x.0 = ranked s x.0 Equal is in sym (below (omega arith))
    go Equal is true side =
        let same : s ≡ x.0 = ranked s x.0 Equal is in
        false_from_ne_true _ (λ e. none (sym same) side (le_from_is_le p x.2 e)) ∙ sym (below (omega arith))

-- ---- entries from a key on

-- the entries from a key on
abbrev pub from : Key → Entries → Entries
from k entries = filter (λ e. is_le (key_cmp k e.0)) entries

from-first : (entries : Entries) → from (0, false, 0) entries ≡ entries
from-first entries = filter-all (λ e. is_le (key_cmp (0, false, 0) e.0)) entries (λ e m.
    le_then _ (nat_cmp 0 e.0.2) (le_then (nat_cmp 0 e.0.0) (bool_cmp false e.0.1) (zero_le e.0.0) (first_le e.0.1)) (zero_le e.0.2))

-- an entry is found
pub entry-found : (entries : Entries) (e : Key × Kept) → Mem e entries → value_at key_cmp entries e.0 ≡ None → ⊥
entry-found [] e m none = m
entry-found (x ∷ entries) e (inl at) none =
    let same : is_at (key_cmp e.0) x.0 ≡ true = ap (λ (k : Key). is_at (key_cmp e.0) k) (ap (λ (y : Key × Kept). y.0) at) ∙ ap is_eq (tied_itself keys_total e.0) in
    let found : value_at key_cmp (x ∷ entries) e.0 ≡ Some x.1 = cond-true (is_at (key_cmp e.0) x.0) _ _ same in
    let never : Some x.1 ≡ None = sym found ∙ none in
    cc
entry-found (x ∷ entries) e (inr m) none = go (λ missed. entry-found entries e m missed) (is_at (key_cmp e.0) x.0) refl
  where
    go : (value_at key_cmp entries e.0 ≡ None → ⊥) → (b : Bool) → is_at (key_cmp e.0) x.0 ≡ b → ⊥
    go rest true is = let never : Some x.1 ≡ None = sym (cond-true (is_at (key_cmp e.0) x.0) _ _ is) ∙ none in cc
    go rest false is = rest (sym (cond-false (is_at (key_cmp e.0) x.0) _ _ is) ∙ none)

-- each later key is after the first
pub later-keys : (k : Key) (entries : Entries) → AllByRecursion (λ y. key_cmp k y ≡ Less) (keys_of entries) → (e : Key × Kept) → Mem e entries → key_cmp k e.0 ≡ Less
later-keys k [] all e m = absurd m
later-keys k (x ∷ entries) all e (inl at) = ap (λ (y : Key × Kept). key_cmp k y.0) (sym at) ∙ all.0
later-keys k (x ∷ entries) all e (inr m) = later-keys k entries all.1 e m

-- the entry at a key is the first from there on, and the others are past it
pub from-step : (entries : Entries) (k : Key) → IsLedger key_cmp entries
    → from k entries ≡ cons_option (option_map (λ v. (k, v)) (value_at key_cmp entries k)) (filter (λ e. is_lt (key_cmp k e.0)) entries)
unfolding IsStrictlySortedBy
from-step [] k sorted = refl
from-step (e ∷ entries) k sorted = go (from-step entries k sorted.1) (key_cmp k e.0) refl
  where
    after : (x : Key × Kept) → Mem x entries → key_cmp e.0 x.0 ≡ Less
    after x m = later-keys e.0 entries sorted.0 x m

    past : ((x : Key × Kept) → Mem x entries → key_cmp k x.0 ≡ Less) → filter (λ x. is_le (key_cmp k x.0)) entries ≡ filter (λ x. is_lt (key_cmp k x.0)) entries
    past less = filter-agree (λ (x : Key × Kept). is_le (key_cmp k x.0)) (λ x. is_lt (key_cmp k x.0)) entries (λ x m. ap is_le (less x m) ∙ sym (ap is_lt (less x m)))

    go : from k entries ≡ cons_option (option_map (λ v. (k, v)) (value_at key_cmp entries k)) (filter (λ x. is_lt (key_cmp k x.0)) entries)
        → (o : Ordering) → key_cmp k e.0 ≡ o
        → from k (e ∷ entries) ≡ cons_option (option_map (λ v. (k, v)) (value_at key_cmp (e ∷ entries) k)) (filter (λ x. is_lt (key_cmp k x.0)) (e ∷ entries))
    go rest Less is =
        let none : value_at key_cmp (e ∷ entries) k ≡ None = lookup-none (is_at (key_cmp k)) (e ∷ entries) (none_below_head keys_total k e entries sorted is) in
        rw none (rw is (ap (λ (l : Entries). e ∷ l) (past (λ x m. keys_total.trans k e.0 x.0 is (after x m)))))
    go rest Equal is =
        let same : k ≡ e.0 = keys_exact k e.0 is in
        let found : value_at key_cmp (e ∷ entries) k ≡ Some e.1 = cond-true (is_at (key_cmp k) e.0) _ _ (ap is_eq is) in
        cond-true (is_le (key_cmp k e.0)) _ _ (ap is_le is)
        ∙ ap (λ (l : Entries). e ∷ l) (past (λ x m. keys_total.congr k e.0 x.0 is ∙ after x m))
        ∙ ap (λ (j : Key). (j, e.1) ∷ filter (λ x. is_lt (key_cmp k x.0)) entries) (sym same)
        ∙ ap (λ (l : Entries). (k, e.1) ∷ l) (sym (cond-false (is_lt (key_cmp k e.0)) (e ∷ filter (λ x. is_lt (key_cmp k x.0)) entries) _ (ap is_lt is)))
        ∙ ap (λ o. cons_option (option_map (λ v. (k, v)) o) (filter (λ x. is_lt (key_cmp k x.0)) (e ∷ entries))) (sym found)
    go rest Greater is = rw is rest

-- ---- entries that are those of a look-up

-- so many positions of one side of a sequence, as they are kept
abbrev pub side_entries : (Key → Option Kept) → ℕ → Bool → ℕ → Entries
side_entries look s t n = values (λ p. option_map (λ v. ((s, t, p), v)) (look (s, t, p))) n

-- both sides of a sequence
abbrev pub rank_entries : (Key → Option Kept) → (ℕ → ℕ) → ℕ → Entries
rank_entries look long s = side_entries look s false (long s) ++ side_entries look s true (long s)

-- so many sequences
abbrev pub all_entries : (Key → Option Kept) → (ℕ → ℕ) → ℕ → Entries
all_entries look long n = flat_map (rank_entries look long) (range_with_len 0 n)

module _ (look : Key → Option Kept) (long : ℕ → ℕ) (entries : Entries) (ordered : IsLedger key_cmp entries) (found : (k : Key) → value_at key_cmp entries k ≡ look k)
    (past : (s : ℕ) (t : Bool) (p : ℕ) → long s ≤ p → look (s, t, p) ≡ None) where
  -- one position after another
  pub walked-on : (s : ℕ) (t : Bool) (p : ℕ) → from (s, t, 0) entries ≡ side_entries look s t p ++ from (s, t, p) entries
  walked-on s t zero = refl
  walked-on s t (suc p) = walked-on s t p ∙ go (look (s, t, p)) refl
    where
      rest : filter (λ e. is_lt (key_cmp (s, t, p) e.0)) entries ≡ from (s, t, suc p) entries
      rest = filter-agree (λ (e : Key × Kept). is_lt (key_cmp (s, t, p) e.0)) (λ e. is_le (key_cmp (s, t, suc p) e.0)) entries
          (λ e m. next-key s t p e.0 ∙ ap (λ n. is_le (key_cmp (s, t, n) e.0)) (add-one p))

      step : from (s, t, p) entries ≡ cons_option (option_map (λ v. ((s, t, p), v)) (look (s, t, p))) (from (s, t, suc p) entries)
      step = from-step entries (s, t, p) ordered
          ∙ ap (λ o. cons_option (option_map (λ v. ((s, t, p), v)) o) (filter (λ e. is_lt (key_cmp (s, t, p) e.0)) entries)) (found (s, t, p))
          ∙ ap (cons_option (option_map (λ v. ((s, t, p), v)) (look (s, t, p)))) rest

      go : (o : Option Kept) → look (s, t, p) ≡ o → side_entries look s t p ++ from (s, t, p) entries ≡ side_entries look s t (suc p) ++ from (s, t, suc p) entries
      go None is =
          ap (λ (l : Entries). side_entries look s t p ++ l) (step ∙ ap (λ o. cons_option (option_map (λ v. ((s, t, p), v)) o) (from (s, t, suc p) entries)) is)
          ∙ ap (λ (l : Entries). l ++ from (s, t, suc p) entries)
          (sym (values-none (λ q. option_map (λ v. ((s, t, q), v)) (look (s, t, q))) p (ap (option_map (λ v. ((s, t, p), v))) is)))
      go (Some v) is =
          ap (λ (l : Entries). side_entries look s t p ++ l) (step ∙ ap (λ o. cons_option (option_map (λ v. ((s, t, p), v)) o) (from (s, t, suc p) entries)) is)
          ∙ sym (append_assoc (side_entries look s t p) (((s, t, p), v) ∷ []) (from (s, t, suc p) entries))
          ∙ ap (λ (l : Entries). l ++ from (s, t, suc p) entries)
          (sym (values-some (λ q. option_map (λ v. ((s, t, q), v)) (look (s, t, q))) p ((s, t, p), v) (ap (option_map (λ v. ((s, t, p), v))) is)))

  -- no entry is past the end of a side
  pub none-past : (s : ℕ) (t : Bool) (e : Key × Kept) → Mem e entries → e.0.0 ≡ s → e.0.1 ≡ t → long s ≤ e.0.2 → ⊥
  none-past s t e m seq side high =
      let key : e.0 ≡ (s, t, e.0.2) = rw (seq, side) refl in
      entry-found entries e m (found e.0 ∙ ap look key ∙ past s t e.0.2 high)

  -- one sequence after another
  pub seq-all : (s : ℕ) → from (s, false, 0) entries ≡ rank_entries look long s ++ from (s + 1, false, 0) entries
  seq-all s =
      let other : from (s, false, long s) entries ≡ from (s, true, 0) entries
      = filter-agree (λ (e : Key × Kept). is_le (key_cmp (s, false, long s) e.0)) (λ e. is_le (key_cmp (s, true, 0) e.0)) entries
      (λ e m. next-side s (long s) e.0 (λ seq side high. none-past s false e m seq side high)) in
      let next : from (s, true, long s) entries ≡ from (s + 1, false, 0) entries
      = filter-agree (λ (e : Key × Kept). is_le (key_cmp (s, true, long s) e.0)) (λ e. is_le (key_cmp (s + 1, false, 0) e.0)) entries
      (λ e m. next-seq s (long s) e.0 (λ seq side high. none-past s true e m seq side high)) in
      walked-on s false (long s)
      ∙ ap (λ (l : Entries). side_entries look s false (long s) ++ l)
      (other ∙ walked-on s true (long s) ∙ ap (λ (l : Entries). side_entries look s true (long s) ++ l) next)
      ∙ sym (append_assoc (side_entries look s false (long s)) (side_entries look s true (long s)) (from (s + 1, false, 0) entries))

  pub ranks-all : (n : ℕ) → entries ≡ all_entries look long n ++ from (n, false, 0) entries
  ranks-all zero = sym (from-first entries)
  ranks-all (suc n) =
      let more : all_entries look long (suc n) ≡ all_entries look long n ++ rank_entries look long n
      = ap (flat_map (rank_entries look long)) (range-more n) ∙ flat_map-append (rank_entries look long) (range_with_len 0 n) (n ∷ [])
      ∙ ap (λ (l : Entries). all_entries look long n ++ l) (append-nil (rank_entries look long n)) in
      ranks-all n
      ∙ ap (λ (l : Entries). all_entries look long n ++ l) (seq-all n)
      ∙ sym (append_assoc (all_entries look long n) (rank_entries look long n) (from (n + 1, false, 0) entries))
      ∙ ap (λ (l : Entries). l ++ from (n + 1, false, 0) entries) (sym more)
      ∙ ap (λ m. all_entries look long (suc n) ++ from (m, false, 0) entries) (add-one n)

  -- the entries are those of all sequences
  pub entries-all : (n : ℕ) → ((s : ℕ) (t : Bool) (p : ℕ) → n ≤ s → look (s, t, p) ≡ None) → entries ≡ all_entries look long n
  entries-all n none =
      let empty : from (n, false, 0) entries ≡ [] = filter-none (λ e. is_le (key_cmp (n, false, 0) e.0)) entries
      (λ e m. false_from_ne_true _ (λ at. entry-found entries e m (found e.0 ∙ none e.0.0 e.0.1 e.0.2 (seq-from n e.0 at)))) in
      ranks-all n ∙ ap (λ (l : Entries). all_entries look long n ++ l) empty ∙ append-nil (all_entries look long n)
    where
      seq-from : (n : ℕ) (x : Key) → is_le (key_cmp (n, false, 0) x) ≡ true → n ≤ x.0
      seq-from n x e = le_from_is_le n x.0 (then-is_le (nat_cmp n x.0) _ (then-is_le _ (nat_cmp 0 x.2) e))
