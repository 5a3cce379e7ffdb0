-- The changes of one sequence, and the depth that they lead to.
use Rattle.std.proofs.Common.{◌≡◌, ◌≢◌, ℕ, ◌+◌, ◌-◌, ◌<◌, ◌≤◌, List, [], ◌∷◌, ◌⊎◌, refl, sym, ◌∙◌, ap, inl, inr, arith, leb, eqb, true, false, Bool, Less, Equal, nat_cmp}
use Rattle.std.specs.Prelude.{ℤ, pos, ◌+ℤ◌, ◌-ℤ◌, All, if◌then◌else◌}
use lib.IntN.{nat_abs}
use Rattle.std.specs.List.{AllByRecursion}
use Rattle.std.specs.List.Sorted.{IsStrictlySortedBy}
use Rattle.std.specs.Map.{keys_of, values_of}
use Rattle.std.proofs.lemmas.Int.{ints}
use Rattle.std.proofs.lemmas.Bool.{cases_lt, lt-leb, le-leb}
use Rattle.std.proofs.lemmas.Bool.Decides.{eqb_tells}
use Rattle.std.proofs.lemmas.Cmp.{ranked, tied_itself}
use Rattle.std.specs.Cmp.{nat_cmp_total}
use Rattle.std.proofs.lemmas.List.Elements.{All-head, All-tail}
use Rattle.iv_ledger.specs.Entries.{IsLedger, pair_cmp}
use Rattle.iv_depth.specs.Changes.{ChangeKey, Entries, total, reaches}
use Rattle.iv_depth.specs.Inside.Walks.{on, level, AreBreaks, Follows}

-- no break is before the first
pub level-before : (from to : ℕ) (breaks : List (ℕ × ℤ)) (p : ℕ) → AreBreaks from to breaks → p < from → level breaks p ≡ pos 0
level-before from to [] p h low = refl
level-before from to (b ∷ breaks) p h low =
    let rest : level breaks p ≡ pos 0 = level-before (b.0 + 1) to breaks p h.3 (omega arith) in
    let later : leb b.0 p ≡ false = lt-leb b.0 p (omega arith) in
    rw (later, rest) refl

Follows-value : (f : ℕ → ℕ) (from to : ℕ) (value : ℤ) (b : ℕ × ℤ) (breaks : List (ℕ × ℤ)) (p : ℕ)
    → AreBreaks from to (b ∷ breaks) → Follows f from value (b ∷ breaks) → from ≤ p → p < b.0 → value ≡ pos (f p)
Follows-value f from to value b breaks p h follows low high =
    let none : level (b ∷ breaks) p ≡ pos 0 = level-before b.0 to (b ∷ breaks) p (omega arith, h.1, h.2, h.3) high in
    omega (arith, ints, follows p low, none)

Follows-change : (f : ℕ → ℕ) (from to : ℕ) (value : ℤ) (b : ℕ × ℤ) (breaks : List (ℕ × ℤ))
    → AreBreaks from to (b ∷ breaks) → Follows f from value (b ∷ breaks) → Follows f b.0 (value +ℤ b.1) breaks
Follows-change f from to value b breaks h follows p low =
    let in_reach : leb b.0 p ≡ true = le-leb b.0 p low in
    let e : value +ℤ (b.1 +ℤ level breaks p) ≡ pos (f p) = rw in_reach at (follows p (omega arith)) in
    omega (arith, ints, e)

-- the value after the last break at or before p
pub Follows-at : (f : ℕ → ℕ) (from to : ℕ) (value : ℤ) (breaks : List (ℕ × ℤ)) → AreBreaks (from + 1) to breaks
    → Follows f from value breaks → value ≡ pos (f from)
Follows-at f from to value breaks h follows =
    let none : level breaks from ≡ pos 0 = level-before (from + 1) to breaks from h (omega arith) in
    omega (arith, ints, follows from (omega arith), none)

AreBreaks-earlier : (from to : ℕ) (breaks : List (ℕ × ℤ)) → AreBreaks (from + 1) to breaks → AreBreaks from to breaks
AreBreaks-earlier from to [] h = omega arith
AreBreaks-earlier from to (b ∷ breaks) h = (omega arith, h.1, h.2, h.3)

-- what a walk knows at the break b, with these breaks after it
pub record Step (f : ℕ → ℕ) (start to : ℕ) (value : ℤ) (b : ℕ × ℤ) (rest : List (ℕ × ℤ)) : Type 0 where
  pub low : start ≤ b.0
  pub high : b.0 ≤ to
  pub at_start : start < b.0 → value ≡ pos (f start)
  pub same : (q : ℕ) → start ≤ q → q < b.0 → f q ≡ nat_abs value
  pub other : start < b.0 → nat_abs value ≢ f b.0
  pub after : value +ℤ b.1 ≡ pos (f b.0)
  pub breaks : AreBreaks b.0 to rest
  pub follows : Follows f b.0 (value +ℤ b.1) rest

pub Step-at : (f : ℕ → ℕ) (start to : ℕ) (value : ℤ) (b : ℕ × ℤ) (rest : List (ℕ × ℤ))
    → AreBreaks start to (b ∷ rest) → Follows f start value (b ∷ rest) → Step f start to value b rest
Step-at f start to value b rest h follows =
    let next : Follows f b.0 (value +ℤ b.1) rest = Follows-change f start to value b rest h follows in
    let after : value +ℤ b.1 ≡ pos (f b.0) = Follows-at f b.0 to (value +ℤ b.1) rest h.3 next in
    record {
      low = h.0;
      high = h.1;
      at_start = λ some. Follows-value f start to value b rest start h follows (omega arith) some;
      same = λ q l g. sym (ap nat_abs (Follows-value f start to value b rest q h follows l g));
      other = λ some e.
          let here : value ≡ pos (f start) = Follows-value f start to value b rest start h follows (omega arith) some in
          let same : f start ≡ f b.0 = sym (ap nat_abs here) ∙ e in
          h.2 (omega (arith, ints, here, after, same));
      after = after;
      breaks = AreBreaks-earlier b.0 to rest h.3;
      follows = next;
    }

-- past the last break the value stays
pub Follows-end : (f : ℕ → ℕ) (from : ℕ) (value : ℤ) → Follows f from value [] → (q : ℕ) → from ≤ q → f q ≡ nat_abs value
Follows-end f from value follows q low =
    let e : value ≡ pos (f q) = omega (arith, ints, follows q low) in
    sym (ap nat_abs e)

-- ---- the changes of one sequence are its breaks

pub level-on : (seq : ℕ) (entries : Entries) (p : ℕ) → level (on seq entries) p ≡ total (reaches seq p) entries
level-on seq [] p = refl
level-on seq (e ∷ entries) p = go (eqb e.0.0 seq) refl (level-on seq entries p)
  where
    go : (b : Bool) → eqb e.0.0 seq ≡ b → level (on seq entries) p ≡ total (reaches seq p) entries
        → level (on seq (e ∷ entries)) p ≡ total (reaches seq p) (e ∷ entries)
    go true is rest = rw is (ap (λ (z : ℤ). (if leb e.0.1 p then e.1 else pos 0) +ℤ z) rest)
    go false is rest = rw is (omega (arith, ints, rest))

-- rising positions from this one on, each with a change that is not 0
abbrev Rising : ℕ → List (ℕ × ℤ) → Type 0
Rising from [] = Unit {0}
Rising from (b ∷ breaks) = (from ≤ b.0) × (b.1 ≢ pos 0) × Rising (b.0 + 1) breaks

level-unrisen : (from : ℕ) (breaks : List (ℕ × ℤ)) (p : ℕ) → Rising from breaks → p < from → level breaks p ≡ pos 0
level-unrisen from [] p h low = refl
level-unrisen from (b ∷ breaks) p h low =
    let rest : level breaks p ≡ pos 0 = level-unrisen (b.0 + 1) breaks p h.2 (omega arith) in
    let later : leb b.0 p ≡ false = lt-leb b.0 p (omega arith) in
    rw (later, rest) refl

-- if the sum stays the same from `to` on, no change is past it
AreBreaks-rising : (from to : ℕ) (value : ℤ) (breaks : List (ℕ × ℤ)) → Rising from breaks → from ≤ to + 1
    → ((p : ℕ) → to ≤ p → level breaks p ≡ value) → AreBreaks from to breaks
AreBreaks-rising from to value [] h low same = low
AreBreaks-rising from to value (b ∷ breaks) h low same = go (cases_lt to b.0)
    (λ within. AreBreaks-rising (b.0 + 1) to (value -ℤ b.1) breaks h.2 (omega arith) (λ p past.
    let here : leb b.0 p ≡ true = le-leb b.0 p (omega arith) in
    let all : b.1 +ℤ level breaks p ≡ value = rw here at (same p past) in
    omega (arith, ints, all)))
  where
    go : (to < b.0) ⊎ (b.0 ≤ to) → (b.0 ≤ to → AreBreaks (b.0 + 1) to breaks) → AreBreaks from to (b ∷ breaks)
    go (inr within) rest = (h.0, within, h.1, rest within)
    go (inl past) rest =
        let here : leb b.0 b.0 ≡ true = le-leb b.0 b.0 (omega arith) in
        let none : level breaks b.0 ≡ pos 0 = level-unrisen (b.0 + 1) breaks b.0 h.2 (omega arith) in
        let at : b.1 +ℤ level breaks b.0 ≡ value = rw here at (same b.0 (omega arith)) in
        let q : ℕ = b.0 - 1 in
        let before : level (b ∷ breaks) q ≡ pos 0 = level-unrisen b.0 (b ∷ breaks) q (omega arith, h.1, h.2) (omega arith) in
        absurd (h.1 (omega (arith, ints, at, none, before, same q (omega arith))))

above : (seq : ℕ) (key next : ChangeKey) → key.0 ≡ seq → next.0 ≡ seq → pair_cmp key next ≡ Less → key.1 < next.1
above seq key next p n h =
    let tied : nat_cmp seq seq ≡ Equal = tied_itself nat_cmp_total seq in
    let by_position : nat_cmp key.1 next.1 ≡ Less = rw (p, n, tied) at h in
    ranked key.1 next.1 Less (sym by_position)

Rising-past : (seq : ℕ) (key : ChangeKey) (entries : Entries) → key.0 ≡ seq
    → AllByRecursion (λ next. pair_cmp key next ≡ Less) (keys_of entries) → IsLedger pair_cmp entries
    → All (λ z. z ≢ pos 0) (values_of entries) → Rising (key.1 + 1) (on seq entries)
unfolding IsStrictlySortedBy
Rising-past seq key [] at later sorted changes = tt
Rising-past seq key (e ∷ entries) at later sorted changes =
    let tail = All-tail (λ (z : ℤ). z ≢ pos 0) e.1 (values_of entries) changes in
    let skip = Rising-past seq key entries at later.1 sorted.1 tail in
    let cases = eqb_tells e.0.0 seq in
    elim cases [
      | inl here ↦ rw here.0 (let less = above seq key e.0 at here.1 later.0 in (
        omega (arith, less),
        All-head (λ (z : ℤ). z ≢ pos 0) e.1 (values_of entries) changes,
        Rising-past seq e.0 entries here.1 sorted.0 sorted.1 tail,
      ))
      | inr off ↦ rw off.0 skip
    ]

Rising-on : (seq : ℕ) (entries : Entries) → IsLedger pair_cmp entries
    → All (λ z. z ≢ pos 0) (values_of entries) → Rising 0 (on seq entries)
unfolding IsStrictlySortedBy
Rising-on seq [] sorted changes = tt
Rising-on seq (e ∷ entries) sorted changes =
    let tail = All-tail (λ (z : ℤ). z ≢ pos 0) e.1 (values_of entries) changes in
    let skip = Rising-on seq entries sorted.1 tail in
    let cases = eqb_tells e.0.0 seq in
    elim cases [
      | inl here ↦ rw here.0 (
        omega arith,
        All-head (λ (z : ℤ). z ≢ pos 0) e.1 (values_of entries) changes,
        Rising-past seq e.0 entries here.1 sorted.0 sorted.1 tail,
      )
      | inr off ↦ rw off.0 skip
    ]

-- they are breaks up to where the sum is 0 for good
pub AreBreaks-on : (seq to : ℕ) (entries : Entries) → IsLedger pair_cmp entries → All (λ z. z ≢ pos 0) (values_of entries)
    → ((p : ℕ) → to ≤ p → total (reaches seq p) entries ≡ pos 0) → AreBreaks 0 to (on seq entries)
AreBreaks-on seq to entries sorted changes ends =
    AreBreaks-rising 0 to (pos 0) (on seq entries) (Rising-on seq entries sorted changes) (omega arith)
    (λ p past. level-on seq entries p ∙ ends p past)

pub Follows-on : (seq : ℕ) (f : ℕ → ℕ) (entries : Entries) → ((p : ℕ) → total (reaches seq p) entries ≡ pos (f p))
    → Follows f 0 (pos 0) (on seq entries)
Follows-on seq f entries depths p low = omega (arith, ints, depths p, level-on seq entries p)
