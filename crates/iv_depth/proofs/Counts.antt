-- There are at most two changes for each run of a depth above 0.
use Rattle.std.proofs.Common.{◌≡◌, ◌≢◌, ℕ, zero, suc, ◌+◌, ◌*◌, ◌<◌, ◌≤◌, ◌++◌, List, [], ◌∷◌, ◌⊎◌, refl, ◌∙◌, ap, arith, length, length-append, true, false, eqb, inl, inr, filter, nat_lt}
use Rattle.std.specs.Prelude.{ℤ, pos, negsuc, ◌+ℤ◌}
use lib.IntN.{nat_abs}
use Rattle.std.specs.List.{AllByRecursion, flat_map, range_with_len}
use Rattle.std.proofs.lemmas.Int.{ints}
use Rattle.std.proofs.lemmas.Bool.{cases_lt, lt-ltb, eq-eqb, ne_eqb}
use Rattle.std.proofs.lemmas.Bool.Decides.{eqb_tells}
use Rattle.std.proofs.lemmas.List.Elements.{filter-append}
use Rattle.iv_cover.specs.Runs.{Run, runs}
use Rattle.iv_depth.specs.DepthRows.{covered_runs}
use Rattle.iv_depth.specs.Changes.{ChangeKey, Entries}
use Rattle.iv_depth.proofs.Stretches.{runs-one, runs-split}
use Rattle.iv_depth.specs.Inside.Walks.{on, AreBreaks, Follows}
use Rattle.iv_depth.proofs.Breaks.{Follows-end, Step-at}

-- 1 if a run above 0 is open
abbrev open_runs : ℤ → ℕ
open_runs (pos zero) = 0
open_runs (pos (suc n)) = 1
open_runs (negsuc n) = 1

open-one : (z : ℤ) → z ≢ pos 0 → open_runs z ≡ 1
open-one (pos zero) h = absurd (h refl)
open-one (pos (suc n)) h = refl
open-one (negsuc n) h = refl

covered-split : (f : ℕ → ℕ) (value from mid to : ℕ) → from ≤ mid → mid ≤ to
    → ((q : ℕ) → from ≤ q → q < mid → f q ≡ value) → (from < mid → mid < to → value ≢ f mid)
    → length (covered_runs f from to) ≡ length (covered_runs (λ _. value) from mid) + length (covered_runs f mid to)
covered-split f value from mid to low high same ends =
    ap (λ (l : List Run). length (filter (λ run. nat_lt 0 run.value) l)) (runs-split f value from mid to low high same ends)
    ∙ ap (λ (l : List Run). length l) (filter-append (λ run. nat_lt 0 run.value) (runs (λ _. value) from mid) (runs f mid to))
    ∙ length-append (covered_runs (λ _. value) from mid) (covered_runs f mid to)

covered-one : (value from to : ℕ) → from < to → 0 < value → length (covered_runs (λ _. value) from to) ≡ 1
covered-one value from to low some = let above : nat_lt 0 value ≡ true = lt-ltb 0 value some in rw (runs-one value from to low, above) refl

-- each break opens a run above 0 or closes one
breaks-le : (f : ℕ → ℕ) (start to : ℕ) (value : ℤ) (breaks : List (ℕ × ℤ))
    → AreBreaks start to breaks → Follows f start value breaks → ((p : ℕ) → to ≤ p → f p ≡ 0)
    → (value ≡ pos 0) ⊎ AreBreaks (start + 1) to breaks
    → length breaks + open_runs value ≤ 2 * length (covered_runs f start to)
breaks-le f start to value [] h follows past opened =
    let here : value ≡ pos (f start) = omega (arith, ints, follows start (omega arith)) in
    rw here (go (cases_lt start to) (f start) refl)
  where
    go : (start < to) ⊎ (to ≤ start) → (v : ℕ) → f start ≡ v → 0 + open_runs (pos v) ≤ 2 * length (covered_runs f start to)
    go any zero is = omega arith
    go (inr high) (suc v) is = let none = past start high in absurd (omega (arith, none, is))
    go (inl low) (suc v) is =
        let here : value ≡ pos (f start) = omega (arith, ints, follows start (omega arith)) in
        let same : nat_abs value ≡ suc v = ap nat_abs here ∙ is in
        let split = covered-split f (nat_abs value) start to to (omega (arith, low)) (omega arith) (λ q l g. Follows-end f start value follows q l) (λ _ never. absurd (omega (arith, never))) in
        let one : length (covered_runs (λ _. nat_abs value) start to) ≡ 1 = covered-one (nat_abs value) start to low (omega (arith, same)) in
        omega (arith, split, one)
breaks-le f start to value (b ∷ breaks) h follows past opened =
    let s = Step-at f start to value b breaks h follows in
    let rest : length breaks + open_runs (value +ℤ b.1) ≤ 2 * length (covered_runs f b.0 to)
    = breaks-le f b.0 to (value +ℤ b.1) breaks s.breaks s.follows past (inr h.3) in
    let all = covered-split f (nat_abs value) start b.0 to s.low s.high s.same (λ low _. s.other low) in
    elim opened [
      | inl closed ↦ shut closed rest all
      | inr later ↦ go later (f start) (s.at_start (omega (arith, later.0))) rest all
    ]
  where
    shut : value ≡ pos 0
        → length breaks + open_runs (value +ℤ b.1) ≤ 2 * length (covered_runs f b.0 to)
        → length (covered_runs f start to) ≡ length (covered_runs (λ _. nat_abs value) start b.0) + length (covered_runs f b.0 to)
        → length (b ∷ breaks) + open_runs value ≤ 2 * length (covered_runs f start to)
    shut closed rest all =
        let next : open_runs (value +ℤ b.1) ≡ 1 = open-one (value +ℤ b.1) (λ e. h.2 (omega (arith, ints, e, closed))) in
        let now : open_runs value ≡ 0 = ap open_runs closed in
        omega (arith, rest, all, next, now)

    go : AreBreaks (start + 1) to (b ∷ breaks) → (v : ℕ) → value ≡ pos v
        → length breaks + open_runs (value +ℤ b.1) ≤ 2 * length (covered_runs f b.0 to)
        → length (covered_runs f start to) ≡ length (covered_runs (λ _. nat_abs value) start b.0) + length (covered_runs f b.0 to)
        → length (b ∷ breaks) + open_runs value ≤ 2 * length (covered_runs f start to)
    go later zero is rest all = shut is rest all
    go later (suc v) is rest all =
        let same : nat_abs value ≡ suc v = ap nat_abs is in
        let one : length (covered_runs (λ _. nat_abs value) start b.0) ≡ 1 = covered-one (nat_abs value) start b.0 (omega (arith, later.0)) (omega (arith, same)) in
        let now : open_runs value ≡ 1 = ap open_runs is in
        omega (arith, rest, all, one, now)

pub breaks-few : (f : ℕ → ℕ) (to : ℕ) (breaks : List (ℕ × ℤ)) → AreBreaks 0 to breaks → Follows f 0 (pos 0) breaks → ((p : ℕ) → to ≤ p → f p ≡ 0)
    → length breaks ≤ 2 * length (covered_runs f 0 to)
breaks-few f to breaks h follows past = omega (arith, breaks-le f 0 to (pos 0) breaks h follows past (inl refl))

-- ---- over all sequences

-- how many entries are on so many sequences from this rank on
abbrev counted : Entries → ℕ → ℕ → ℕ
counted entries seq zero = 0
counted entries seq (suc n) = length (on seq entries) + counted entries (seq + 1) n

counted-off : (e : ChangeKey × ℤ) (entries : Entries) (seq n : ℕ) → e.0.0 < seq → counted (e ∷ entries) seq n ≡ counted entries seq n
counted-off e entries seq zero low = refl
counted-off e entries seq (suc n) low =
    let off : eqb e.0.0 seq ≡ false = ne_eqb e.0.0 seq (λ is. absurd (omega (arith, is))) in
    rw (off, counted-off e entries (seq + 1) n (omega arith)) refl

counted-one : (e : ChangeKey × ℤ) (entries : Entries) (seq n : ℕ) → seq ≤ e.0.0 → e.0.0 < seq + n → counted (e ∷ entries) seq n ≡ 1 + counted entries seq n
counted-one e entries seq zero low high = absurd (omega arith)
counted-one e entries seq (suc n) low high =
    let cases = eqb_tells e.0.0 seq in
    elim cases [
      | inl here ↦ rw (here.0, counted-off e entries (seq + 1) n (omega (arith, here.1))) (omega arith)
      | inr off ↦ rw (off.0, counted-one e entries (seq + 1) n (omega (arith, off.1)) (omega arith)) (omega arith)
    ]

counted-all : (entries : Entries) (n : ℕ) → AllByRecursion (λ e. e.0.0 < n) entries → length entries ≤ counted entries 0 n
counted-all [] n h = omega arith
counted-all (e ∷ entries) n h =
    let one = counted-one e entries 0 n (omega arith) (omega (arith, h.0)) in
    let rest = counted-all entries n h.1 in
    omega (arith, one, rest)

counted-few : (entries : Entries) (found : ℕ → List Run) (seq n : ℕ) → ((s : ℕ) → length (on s entries) ≤ 2 * length (found s))
    → counted entries seq n ≤ 2 * length (flat_map found (range_with_len seq n))
counted-few entries found seq zero few = omega arith
counted-few entries found seq (suc n) few =
    let rest = counted-few entries found (seq + 1) n few in
    let long : length (found seq ++ flat_map found (range_with_len (seq + 1) n)) ≡ length (found seq) + length (flat_map found (range_with_len (seq + 1) n))
    = length-append (found seq) (flat_map found (range_with_len (seq + 1) n)) in
    omega (arith, rest, few seq, long)

-- entries of no later sequence are all of these
ranks-low : (entries : Entries) (n : ℕ) → ((s : ℕ) → n ≤ s → length (on s entries) ≡ 0) → AllByRecursion (λ e. e.0.0 < n) entries
ranks-low [] n none = tt
ranks-low (e ∷ entries) n none = go (cases_lt e.0.0 n)
    (λ low. ranks-low entries n (λ s high.
    let off : eqb e.0.0 s ≡ false = ne_eqb e.0.0 s (λ is. absurd (omega (arith, is))) in
    rw off at (none s high)))
  where
    go : (e.0.0 < n) ⊎ (n ≤ e.0.0) → (e.0.0 < n → AllByRecursion (λ e. e.0.0 < n) entries) → AllByRecursion (λ e. e.0.0 < n) (e ∷ entries)
    go (inl low) rest = (low, rest low)
    go (inr high) rest =
        let here : eqb e.0.0 e.0.0 ≡ true = eq-eqb e.0.0 e.0.0 refl in
        let some : suc (length (on e.0.0 entries)) ≡ 0 = rw here at (none e.0.0 high) in
        absurd (omega (arith, some))

pub entries-few : (entries : Entries) (found : ℕ → List Run) (n : ℕ) → ((s : ℕ) → length (on s entries) ≤ 2 * length (found s))
    → ((s : ℕ) → n ≤ s → length (on s entries) ≡ 0) → length entries ≤ 2 * length (flat_map found (range_with_len 0 n))
entries-few entries found n few none =
    let all = counted-all entries n (ranks-low entries n none) in
    let some = counted-few entries found 0 n few in
    omega (arith, all, some)
