-- The changes of one sequence, up to a position and after it.
use Rattle.std.proofs.Common.{◌≡◌, ◌≢◌, ℕ, ◌+◌, ◌<◌, ◌≤◌, List, [], ◌∷◌, ◌⊎◌, inl, inr, refl, sym, ◌∙◌, ap, subst, arith, leb, eqb, true, false, Bool, cond, filter, Ordering, Less, Equal, Greater, nat_cmp, Option, Some, None}
use Rattle.std.specs.Prelude.{ℤ, pos, ◌+ℤ◌, find, reverse}
use lib.IntN.{nat_abs}
use Rattle.std.specs.List.{AllByRecursion}
use Rattle.std.specs.List.Sorted.{IsStrictlySortedBy}
use Rattle.std.specs.Map.{keys_of}
use Rattle.std.specs.Option.{option_or}
use Rattle.std.specs.Ordering.{is_le, is_ge}
use Rattle.std.proofs.lemmas.Bool.{cases_lt, lt-leb, le-leb, ne_eqb, eq-eqb}
use Rattle.std.proofs.lemmas.Bool.Decides.{eqb_tells}
use Rattle.std.proofs.lemmas.Cmp.{ranked}
use Rattle.std.proofs.lemmas.Int.{ints}
use Rattle.std.proofs.lemmas.List.{reverse-append}
use Rattle.std.proofs.lemmas.List.Folds.{find-append}
use Rattle.iv_ledger.specs.Entries.{IsLedger, pair_cmp, last_until}
use Rattle.iv_depth.specs.Changes.{ChangeKey, Entries}
use Rattle.iv_depth.specs.Inside.Walks.{on, level, AreBreaks, Follows}
use Rattle.iv_depth.specs.Inside.Region.{AreChangesOn, IsRunStart, AreLeft, EndsRun}
use Rattle.iv_depth.proofs.Breaks.{AreBreaks-on, Follows-on, Follows-end, level-before, Step-at}
use Rattle.iv_depth.proofs.Sequences.{BeginsElsewhere, elsewhere, on-higher, on-here, ranks-rise}

-- ---- what a comparison with a place says

from-tells : (s k : ℕ) (e : ChangeKey)
    → ((is_le (pair_cmp (s, k) e) ≡ true) × ((s < e.0) ⊎ ((e.0 ≡ s) × (k ≤ e.1))))
    ⊎ ((is_le (pair_cmp (s, k) e) ≡ false) × ((e.0 < s) ⊎ ((e.0 ≡ s) × (e.1 < k))))
from-tells s k e = go (nat_cmp s e.0) refl (nat_cmp k e.1) refl
  where
    go : (o : Ordering) → nat_cmp s e.0 ≡ o → (p : Ordering) → nat_cmp k e.1 ≡ p
        → ((is_le (pair_cmp (s, k) e) ≡ true) × ((s < e.0) ⊎ ((e.0 ≡ s) × (k ≤ e.1))))
        ⊎ ((is_le (pair_cmp (s, k) e) ≡ false) × ((e.0 < s) ⊎ ((e.0 ≡ s) × (e.1 < k))))
    go Less is p at = inl (rw is refl, inl (ranked s e.0 Less (sym is)))
    go Greater is p at = inr (rw is refl, inl (ranked s e.0 Greater (sym is)))
    go Equal is Less at = let low = ranked k e.1 Less (sym at) in inl (rw (is, at) refl, inr (sym (ranked s e.0 Equal (sym is)), omega (arith, low)))
    go Equal is Equal at = let same = ranked k e.1 Equal (sym at) in inl (rw (is, at) refl, inr (sym (ranked s e.0 Equal (sym is)), omega (arith, same)))
    go Equal is Greater at = inr (rw (is, at) refl, inr (sym (ranked s e.0 Equal (sym is)), ranked k e.1 Greater (sym at)))

until-tells : (s k : ℕ) (e : ChangeKey)
    → ((is_ge (pair_cmp (s, k) e) ≡ true) × ((e.0 < s) ⊎ ((e.0 ≡ s) × (e.1 ≤ k))))
    ⊎ ((is_ge (pair_cmp (s, k) e) ≡ false) × ((s < e.0) ⊎ ((e.0 ≡ s) × (k < e.1))))
until-tells s k e = go (nat_cmp s e.0) refl (nat_cmp k e.1) refl
  where
    go : (o : Ordering) → nat_cmp s e.0 ≡ o → (p : Ordering) → nat_cmp k e.1 ≡ p
        → ((is_ge (pair_cmp (s, k) e) ≡ true) × ((e.0 < s) ⊎ ((e.0 ≡ s) × (e.1 ≤ k))))
        ⊎ ((is_ge (pair_cmp (s, k) e) ≡ false) × ((s < e.0) ⊎ ((e.0 ≡ s) × (k < e.1))))
    go Less is p at = inr (rw is refl, inl (ranked s e.0 Less (sym is)))
    go Greater is p at = inl (rw is refl, inl (ranked s e.0 Greater (sym is)))
    go Equal is Less at = inr (rw (is, at) refl, inr (sym (ranked s e.0 Equal (sym is)), ranked k e.1 Less (sym at)))
    go Equal is Equal at = let same = ranked k e.1 Equal (sym at) in inl (rw (is, at) refl, inr (sym (ranked s e.0 Equal (sym is)), omega (arith, same)))
    go Equal is Greater at = let high = ranked k e.1 Greater (sym at) in inl (rw (is, at) refl, inr (sym (ranked s e.0 Equal (sym is)), omega (arith, high)))

-- ---- the changes from a position on

-- the breaks at k and after it
abbrev breaks_from : ℕ → List (ℕ × ℤ) → List (ℕ × ℤ)
breaks_from k breaks = filter (λ b. leb k b.0) breaks

on-from : (s k : ℕ) (entries : Entries) → on s (filter (λ e. is_le (pair_cmp (s, k) e.0)) entries) ≡ breaks_from k (on s entries)
on-from s k [] = refl
on-from s k (e ∷ entries) = go (from-tells s k e.0) (on-from s k entries)
  where
    go : ((is_le (pair_cmp (s, k) e.0) ≡ true) × ((s < e.0.0) ⊎ ((e.0.0 ≡ s) × (k ≤ e.0.1))))
        ⊎ ((is_le (pair_cmp (s, k) e.0) ≡ false) × ((e.0.0 < s) ⊎ ((e.0.0 ≡ s) × (e.0.1 < k))))
        → on s (filter (λ e. is_le (pair_cmp (s, k) e.0)) entries) ≡ breaks_from k (on s entries)
        → on s (filter (λ e. is_le (pair_cmp (s, k) e.0)) (e ∷ entries)) ≡ breaks_from k (on s (e ∷ entries))
    go (inl (is, inl past)) rest =
        let off : eqb e.0.0 s ≡ false = ne_eqb e.0.0 s (λ same. absurd (omega (arith, past, same))) in
        rw (is, off) rest
    go (inl (is, inr (here, high))) rest =
        let at : eqb e.0.0 s ≡ true = eq-eqb e.0.0 s here in
        let kept : leb k e.0.1 ≡ true = le-leb k e.0.1 high in
        rw (is, at, kept) (ap (λ (l : List (ℕ × ℤ)). (e.0.1, e.1) ∷ l) rest)
    go (inr (is, inl before)) rest =
        let off : eqb e.0.0 s ≡ false = ne_eqb e.0.0 s (λ same. absurd (omega (arith, before, same))) in
        rw (is, off) rest
    go (inr (is, inr (here, low))) rest =
        let at : eqb e.0.0 s ≡ true = eq-eqb e.0.0 s here in
        let gone : leb k e.0.1 ≡ false = lt-leb k e.0.1 low in
        rw (is, at, gone) rest

breaks_from-all : (k from to : ℕ) (breaks : List (ℕ × ℤ)) → AreBreaks from to breaks → k ≤ from → breaks_from k breaks ≡ breaks
breaks_from-all k from to [] h low = refl
breaks_from-all k from to (b ∷ breaks) h low =
    let kept : leb k b.0 ≡ true = le-leb k b.0 (omega (arith, h.0)) in
    rw kept (ap (λ (l : List (ℕ × ℤ)). b ∷ l) (breaks_from-all k (b.0 + 1) to breaks h.3 (omega (arith, h.0))))

AreBreaks-from : (k from to : ℕ) (breaks : List (ℕ × ℤ)) → AreBreaks from to breaks → from ≤ k → k ≤ to + 1 → AreBreaks k to (breaks_from k breaks)
AreBreaks-from k from to [] h low high = high
AreBreaks-from k from to (b ∷ breaks) h low high = go (cases_lt b.0 k) (λ before. AreBreaks-from k (b.0 + 1) to breaks h.3 (omega (arith, before)) high)
  where
    go : (b.0 < k) ⊎ (k ≤ b.0) → (b.0 < k → AreBreaks k to (breaks_from k breaks)) → AreBreaks k to (breaks_from k (b ∷ breaks))
    go (inl before) rest =
        let gone : leb k b.0 ≡ false = lt-leb k b.0 before in
        rw gone (rest before)
    go (inr past) rest =
        let kept : leb k b.0 ≡ true = le-leb k b.0 past in
        rw (kept, breaks_from-all k (b.0 + 1) to breaks h.3 (omega (arith, past))) (past, h.1, h.2, h.3)

-- what comes up to p is what comes up to k, and what comes after it
level-from : (k p : ℕ) (breaks : List (ℕ × ℤ)) → k ≤ p → level breaks p ≡ level breaks k +ℤ level (breaks_from (k + 1) breaks) p
level-from k p [] low = refl
level-from k p (b ∷ breaks) low = go (cases_lt k b.0) (level-from k p breaks low)
  where
    go : (k < b.0) ⊎ (b.0 ≤ k) → level breaks p ≡ level breaks k +ℤ level (breaks_from (k + 1) breaks) p
        → level (b ∷ breaks) p ≡ level (b ∷ breaks) k +ℤ level (breaks_from (k + 1) (b ∷ breaks)) p
    go (inl past) rest =
        let kept : leb (k + 1) b.0 ≡ true = le-leb (k + 1) b.0 (omega (arith, past)) in
        let none : leb b.0 k ≡ false = lt-leb b.0 k past in
        rw (kept, none) (omega (arith, ints, rest))
    go (inr before) rest =
        let gone : leb (k + 1) b.0 ≡ false = lt-leb (k + 1) b.0 (omega (arith, before)) in
        let some : leb b.0 k ≡ true = le-leb b.0 k before in
        let all : leb b.0 p ≡ true = le-leb b.0 p (omega (arith, before)) in
        rw (gone, some, all) (omega (arith, ints, rest))

keys-filter : (P : ChangeKey → Type 0) (t : ChangeKey → Bool) (entries : Entries) → AllByRecursion P (keys_of entries) → AllByRecursion P (keys_of (filter (λ e. t e.0) entries))
keys-filter P t [] h = tt
keys-filter P t (e ∷ entries) h = go (t e.0) refl (keys-filter P t entries h.1)
  where
    go : (b : Bool) → t e.0 ≡ b → AllByRecursion P (keys_of (filter (λ e. t e.0) entries)) → AllByRecursion P (keys_of (filter (λ e. t e.0) (e ∷ entries)))
    go true is rest = rw is (h.0, rest)
    go false is rest = rw is rest

IsLedger-filter : (t : ChangeKey → Bool) (entries : Entries) → IsLedger pair_cmp entries → IsLedger pair_cmp (filter (λ e. t e.0) entries)
unfolding IsStrictlySortedBy
IsLedger-filter t [] h = tt
IsLedger-filter t (e ∷ entries) h = go (t e.0) refl (IsLedger-filter t entries h.1)
  where
    go : (b : Bool) → t e.0 ≡ b → IsLedger pair_cmp (filter (λ e. t e.0) entries) → IsLedger pair_cmp (filter (λ e. t e.0) (e ∷ entries))
    go true is rest = rw is (keys-filter (λ y. pair_cmp e.0 y ≡ Less) t entries h.0, rest)
    go false is rest = rw is rest

ranks-from : (s k : ℕ) (entries : Entries) → AllByRecursion (λ e. s ≤ e.0.0) (filter (λ e. is_le (pair_cmp (s, k) e.0)) entries)
ranks-from s k [] = tt
ranks-from s k (e ∷ entries) = go (from-tells s k e.0) (ranks-from s k entries)
  where
    go : ((is_le (pair_cmp (s, k) e.0) ≡ true) × ((s < e.0.0) ⊎ ((e.0.0 ≡ s) × (k ≤ e.0.1))))
        ⊎ ((is_le (pair_cmp (s, k) e.0) ≡ false) × ((e.0.0 < s) ⊎ ((e.0.0 ≡ s) × (e.0.1 < k))))
        → AllByRecursion (λ e. s ≤ e.0.0) (filter (λ e. is_le (pair_cmp (s, k) e.0)) entries)
        → AllByRecursion (λ e. s ≤ e.0.0) (filter (λ e. is_le (pair_cmp (s, k) e.0)) (e ∷ entries))
    go (inl (is, inl past)) rest = rw is (omega (arith, past), rest)
    go (inl (is, inr here)) rest = rw is (omega (arith, here.0), rest)
    go (inr (is, before)) rest = rw is rest

module _ (f : ℕ → ℕ) (s long : ℕ) (entries : Entries) (h : AreChangesOn f s long entries) where
  breaks-on : AreBreaks 0 long (on s entries)
  breaks-on = AreBreaks-on s long entries h.ordered h.changes (λ p past. h.depths p ∙ ap pos (h.ends p past))

  follows-on : Follows f 0 (pos 0) (on s entries)
  follows-on = Follows-on s f entries h.depths

  -- those after a position are left there
  left-after : (k : ℕ) → k < long → AreLeft f s k long (f k) (filter (λ e. is_le (pair_cmp (s, k + 1) e.0)) entries)
  left-after k low = record {
    ordered = IsLedger-filter (λ e. is_le (pair_cmp (s, k + 1) e)) entries h.ordered;
    ranks = ranks-from s (k + 1) entries;
    breaks = rw (on-from s (k + 1) entries) (AreBreaks-from (k + 1) 0 long (on s entries) breaks-on (omega arith) (omega (arith, low)));
    follows = λ p past.
        let split = level-from k p (on s entries) past in
        let here = follows-on k (omega arith) in
        let there = follows-on p (omega arith) in
        rw (on-from s (k + 1) entries) (omega (arith, ints, split, here, there));
    small = h.small;
  }

-- a walk may be said to be earlier in the same run
AreBreaks-before : (from k to : ℕ) (breaks : List (ℕ × ℤ)) → from ≤ k → AreBreaks k to breaks → AreBreaks from to breaks
AreBreaks-before from k to [] low h = omega (arith, h)
AreBreaks-before from k to (b ∷ breaks) low h = (omega (arith, h.0), h.1, h.2, h.3)

pub AreLeft-run : (f : ℕ → ℕ) (s k long here : ℕ) (entries : Entries) → AreChangesOn f s long entries → k < long → IsRunStart f k here
    → AreLeft f s here long (f k) (filter (λ e. is_le (pair_cmp (s, k + 1) e.0)) entries)
AreLeft-run f s k long here entries h low begins =
    let l : AreLeft f s k long (f k) (filter (λ e. is_le (pair_cmp (s, k + 1) e.0)) entries) = left-after f s long entries h k low in
    record {
      ordered = l.ordered;
      ranks = l.ranks;
      breaks = AreBreaks-before (here + 1) (k + 1) long _ (omega (arith, begins.low)) l.breaks;
      follows = λ p past. go p past l (cases_lt k p);
      small = l.small;
    }
  where
    go : (p : ℕ) → here ≤ p → AreLeft f s k long (f k) (filter (λ e. is_le (pair_cmp (s, k + 1) e.0)) entries) → (k < p) ⊎ (p ≤ k)
        → pos (f k) +ℤ level (on s (filter (λ e. is_le (pair_cmp (s, k + 1) e.0)) entries)) p ≡ pos (f p)
    go p past l (inl after) = l.follows p (omega (arith, after))
    go p past l (inr before) =
        let none : level (on s (filter (λ e. is_le (pair_cmp (s, k + 1) e.0)) entries)) p ≡ pos 0 = level-before (k + 1) long _ p l.breaks (omega (arith, before)) in
        let same : f p ≡ f k = begins.same p past before in
        omega (arith, ints, none, same)

-- ---- a step of the walk

pub EndsRun-next : (f : ℕ → ℕ) (s here long d p : ℕ) (z : ℤ) (entries rest : Entries) → entries ≡ ((s, p), z) ∷ rest
    → AreLeft f s here long d entries → EndsRun f s here long d p z rest
unfolding IsStrictlySortedBy
EndsRun-next f s here long d p z entries rest is left =
    let h : AreLeft f s here long d (((s, p), z) ∷ rest) = subst (AreLeft f s here long d) is left in
    let breaks : AreBreaks (here + 1) long ((p, z) ∷ on s rest) = rw (on-here s p z rest) at h.breaks in
    let follows : Follows f here (pos d) ((p, z) ∷ on s rest) = rw (on-here s p z rest) at h.follows in
    let step = Step-at f here long (pos d) (p, z) (on s rest) (AreBreaks-before here (here + 1) long ((p, z) ∷ on s rest) (omega arith) breaks) follows in
    record {
      low = omega (arith, breaks.0);
      high = breaks.1;
      same = step.same;
      next = f p;
      sum = step.after;
      small = h.small p;
      other = λ _. (
        step.other (omega (arith, breaks.0)),
        refl,
        record {
          ordered = h.ordered.1;
          ranks = h.ranks.1;
          breaks = breaks.3;
          follows = subst (λ (v : ℤ). Follows f p v (on s rest)) step.after step.follows;
          small = h.small;
        },
      );
    }

pub EndsRun-last : (f : ℕ → ℕ) (s here long d : ℕ) (entries rest : Entries) → BeginsElsewhere s entries → here < long
    → AreLeft f s here long d entries → EndsRun f s here long d long (pos 0) rest
EndsRun-last f s here long d entries rest other low h =
    let none : on s entries ≡ [] = on-higher s entries (elsewhere s entries h.ordered h.ranks other) in
    let same : (q : ℕ) → here ≤ q → f q ≡ d = Follows-end f here (pos d) (rw none at h.follows) in
    record {
      low = low;
      high = omega arith;
      same = λ q past _. same q past;
      next = d;
      sum = omega (arith, ints);
      small = omega (arith, h.small here, same here (omega arith));
      other = λ more. absurd (omega (arith, more));
    }

-- ---- the last change up to a position

-- the last break at k or before it
abbrev last_break : ℕ → List (ℕ × ℤ) → Option (ℕ × ℤ)
last_break k [] = None
last_break k (b ∷ breaks) = option_or (last_break k breaks) (cond (leb b.0 k) (Some b) None)

last_break-none : (k from to : ℕ) (breaks : List (ℕ × ℤ)) → AreBreaks from to breaks → k < from → last_break k breaks ≡ None
last_break-none k from to [] h low = refl
last_break-none k from to (b ∷ breaks) h low =
    let none : last_break k breaks ≡ None = last_break-none k (b.0 + 1) to breaks h.3 (omega (arith, h.0)) in
    let later : leb b.0 k ≡ false = lt-leb b.0 k (omega (arith, h.0)) in
    rw (none, later) refl

-- where the run of k starts, from a position on which f is value
abbrev StartsAt : (ℕ → ℕ) → ℕ → ℕ → Option (ℕ × ℤ) → Type 0
StartsAt f from k None = (q : ℕ) → from ≤ q → q ≤ k → f q ≡ f k
StartsAt f from k (Some b) = (from ≤ b.0) × (b.0 ≤ k) × ((q : ℕ) → b.0 ≤ q → q ≤ k → f q ≡ f k) × ((q : ℕ) → from ≤ q → q + 1 ≡ b.0 → f q ≢ f b.0)

last_break-low : (k from to : ℕ) (breaks : List (ℕ × ℤ)) (o : ℕ × ℤ) → AreBreaks from to breaks → last_break k breaks ≡ Some o → from ≤ o.0
last_break-low k from to [] o h is = cc
last_break-low k from to (b ∷ breaks) o h is = go (last_break k breaks) refl (leb b.0 k) is (λ there. last_break-low k (b.0 + 1) to breaks o h.3 there)
  where
    go : (found : Option (ℕ × ℤ)) → last_break k breaks ≡ found → (c : Bool) → option_or found (cond c (Some b) None) ≡ Some o
        → (last_break k breaks ≡ Some o → b.0 + 1 ≤ o.0) → from ≤ o.0
    go None none true is further = let same : b ≡ o = cc in omega (arith, h.0, ap (λ (x : ℕ × ℤ). x.0) same)
    go None none false is further = cc
    go (Some x) some c is further = omega (arith, h.0, further (some ∙ is))

starts-at : (f : ℕ → ℕ) (k from to : ℕ) (value : ℤ) (breaks : List (ℕ × ℤ)) → AreBreaks from to breaks → Follows f from value breaks → from ≤ k
    → StartsAt f from k (last_break k breaks)
starts-at f k from to value [] h follows low = λ q past within.
    Follows-end f from value follows q past ∙ sym (Follows-end f from value follows k low)
starts-at f k from to value (b ∷ breaks) h follows low =
    let step = Step-at f from to value b breaks h follows in
    go (cases_lt k b.0)
    (λ before. last_break-none k (b.0 + 1) to breaks h.3 (omega (arith, before)))
    (λ past. starts-at f k b.0 to (value +ℤ b.1) breaks step.breaks step.follows past)
    step.same step.other (last_break k breaks) refl
  where
    go : (k < b.0) ⊎ (b.0 ≤ k) → (k < b.0 → last_break k breaks ≡ None) → (b.0 ≤ k → StartsAt f b.0 k (last_break k breaks))
        → ((q : ℕ) → from ≤ q → q < b.0 → f q ≡ nat_abs value) → (from < b.0 → nat_abs value ≢ f b.0)
        → (o : Option (ℕ × ℤ)) → last_break k breaks ≡ o
        → StartsAt f from k (option_or o (cond (leb b.0 k) (Some b) None))
    go (inl before) none rest same other o is =
        let off : leb b.0 k ≡ false = lt-leb b.0 k before in
        let gone : o ≡ None = sym is ∙ none before in
        rw (off, gone) (λ q past within. same q past (omega (arith, within, before)) ∙ sym (same k low before))
    go (inr past) none rest same other None is =
        let on : leb b.0 k ≡ true = le-leb b.0 k past in
        let run : (q : ℕ) → b.0 ≤ q → q ≤ k → f q ≡ f k = rw is at (rest past) in
        rw on (h.0, past, run, λ q late next e. other (omega (arith, late, next)) (sym (same q late (omega (arith, next))) ∙ e))
    go (inr past) none rest same other (Some o) is =
        let found : StartsAt f b.0 k (Some o) = rw is at (rest past) in
        let above : b.0 + 1 ≤ o.0 = last_break-low k (b.0 + 1) to breaks o h.3 is in
        (omega (arith, h.0, above), found.1, found.2, λ q late next. found.3 q (omega (arith, above, next)) next)

-- the entry that a search gave is the last break, or it is of another sequence and there is none
abbrev Found : ℕ → ℕ → Entries → Option (ChangeKey × ℤ) → Type 0
Found s k entries None = last_break k (on s entries) ≡ None
Found s k entries (Some x) =
    (x.0.0 ≤ s)
    × ((r : ℕ) → AllByRecursion (λ e. r ≤ e.0.0) entries → r ≤ x.0.0)
    × (x.0.0 ≡ s → last_break k (on s entries) ≡ Some (x.0.1, x.1))
    × (x.0.0 ≢ s → last_break k (on s entries) ≡ None)

last_until-cons : (e : ChangeKey × ℤ) (entries : Entries) (k : ChangeKey)
    → last_until pair_cmp (e ∷ entries) k ≡ option_or (last_until pair_cmp entries k) (cond (is_ge (pair_cmp k e.0)) (Some e) None)
last_until-cons e entries k =
    ap (find (λ x. is_ge (pair_cmp k x.0))) (reverse-append (e ∷ []) entries) ∙ find-append (λ x. is_ge (pair_cmp k x.0)) (reverse entries) (e ∷ [])

found-last : (s k : ℕ) (entries : Entries) → IsLedger pair_cmp entries → Found s k entries (last_until pair_cmp entries (s, k))
unfolding IsStrictlySortedBy
found-last s k [] sorted = refl
found-last s k (e ∷ entries) sorted =
    subst (λ (o : Option (ChangeKey × ℤ)). Found s k (e ∷ entries) o) (sym (last_until-cons e entries (s, k)))
    (go (until-tells s k e.0) (last_until pair_cmp entries (s, k)) (found-last s k entries sorted.1) (λ low. ranks-rise e entries s low sorted))
  where
    go : ((is_ge (pair_cmp (s, k) e.0) ≡ true) × ((e.0.0 < s) ⊎ ((e.0.0 ≡ s) × (e.0.1 ≤ k))))
        ⊎ ((is_ge (pair_cmp (s, k) e.0) ≡ false) × ((s < e.0.0) ⊎ ((e.0.0 ≡ s) × (k < e.0.1))))
        → (o : Option (ChangeKey × ℤ)) → Found s k entries o
        → (s ≤ e.0.0 → AllByRecursion (λ x. s ≤ x.0.0) (e ∷ entries))
        → Found s k (e ∷ entries) (option_or o (cond (is_ge (pair_cmp (s, k) e.0)) (Some e) None))
    go (inl (is, inl below)) None rest rise =
        let off : eqb e.0.0 s ≡ false = ne_eqb e.0.0 s (λ same. absurd (omega (arith, below, same))) in
        rw (is, off) (omega (arith, below), λ r h. h.0, λ same. absurd (omega (arith, below, same)), λ _. rest)
    go (inl (is, inr (here, low))) None rest rise =
        let at : eqb e.0.0 s ≡ true = eq-eqb e.0.0 s here in
        let on_it : leb e.0.1 k ≡ true = le-leb e.0.1 k low in
        rw (is, at, rest, on_it) (omega (arith, here), λ r h. h.0, λ _. refl, λ other. absurd (other here))
    go (inr (is, inl above)) None rest rise =
        let off : eqb e.0.0 s ≡ false = ne_eqb e.0.0 s (λ same. absurd (omega (arith, above, same))) in
        rw (is, off) rest
    go (inr (is, inr (here, high))) None rest rise =
        let at : eqb e.0.0 s ≡ true = eq-eqb e.0.0 s here in
        let off : leb e.0.1 k ≡ false = lt-leb e.0.1 k high in
        rw (is, at, rest, off) refl
    go any (Some x) rest rise = (rest.0, λ r h. rest.1 r h.1, λ same. further (eqb_tells e.0.0 s) (rest.2 same), λ other. none other (eqb_tells e.0.0 s))
      where
        further : ((eqb e.0.0 s ≡ true) × (e.0.0 ≡ s)) ⊎ ((eqb e.0.0 s ≡ false) × (e.0.0 ≢ s)) → last_break k (on s entries) ≡ Some (x.0.1, x.1)
            → last_break k (on s (e ∷ entries)) ≡ Some (x.0.1, x.1)
        further (inl at) there = rw (at.0, there) refl
        further (inr off) there = rw off.0 there

        none : x.0.0 ≢ s → ((eqb e.0.0 s ≡ true) × (e.0.0 ≡ s)) ⊎ ((eqb e.0.0 s ≡ false) × (e.0.0 ≢ s)) → last_break k (on s (e ∷ entries)) ≡ None
        none other (inl at) =
            let low : s ≤ x.0.0 = rest.1 s (rise (omega (arith, at.1))).1 in
            absurd (other (omega (arith, low, rest.0)))
        none other (inr off) = rw off.0 (rest.3 other)

-- where the run of k starts, by what a search for its last change gave
module _ (f : ℕ → ℕ) (s k long : ℕ) (entries : Entries) (h : AreChangesOn f s long entries) where
  starts-on : StartsAt f 0 k (last_break k (on s entries))
  starts-on = starts-at f k 0 long (pos 0) (on s entries) (breaks-on f s long entries h) (follows-on f s long entries h) (omega arith)

  from_none : last_break k (on s entries) ≡ None → IsRunStart f k 0
  from_none none =
      let same : (q : ℕ) → 0 ≤ q → q ≤ k → f q ≡ f k = rw none at starts-on in
      record { low = omega arith; same = same; other = λ q e. absurd (omega (arith, e)) }

  pub run_start-none : last_until pair_cmp entries (s, k) ≡ None → IsRunStart f k 0
  run_start-none is = from_none (subst (Found s k entries) is (found-last s k entries h.ordered))

  pub run_start-elsewhere : (x : ChangeKey × ℤ) → last_until pair_cmp entries (s, k) ≡ Some x → x.0.0 ≢ s → IsRunStart f k 0
  run_start-elsewhere x is other = let found : Found s k entries (Some x) = subst (Found s k entries) is (found-last s k entries h.ordered) in from_none (found.3 other)

  pub run_start-here : (x : ChangeKey × ℤ) → last_until pair_cmp entries (s, k) ≡ Some x → x.0.0 ≡ s → IsRunStart f k x.0.1
  run_start-here x is at =
      let found : Found s k entries (Some x) = subst (Found s k entries) is (found-last s k entries h.ordered) in
      let begins : StartsAt f 0 k (Some (x.0.1, x.1)) = subst (StartsAt f 0 k) (found.2 at) starts-on in
      record { low = begins.1; same = begins.2; other = λ q e. begins.3 q (omega arith) e }
