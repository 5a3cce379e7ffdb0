-- Records that a search carries, and those ahead of it.
use Rattle.std.proofs.Common.{◌≡◌, ℕ, ◌+◌, ◌-◌, ◌<◌, ◌≤◌, ◌^◌, inl, inr, Bool, true, false, cond, List, [], ◌∷◌, map, ◌++◌, Option, Some, None, refl, sym, ap, ◌∙◌, subst, arith, length, append_assoc}
use Rattle.std.specs.Prelude.{filter}
use Rattle.std.proofs.lemmas.Bool.{cases_lt, false_from_ne_true}
use Rattle.std.proofs.lemmas.List.Elements.{All-nil, All-weaker, filter-append, filter_passes}
use Rattle.iv_lines.specs.RecordValue.{RecordValue}
use Rattle.iv_lines.specs.Ordered.{AreInOrder}
use Rattle.iv_track.specs.Tracked.{is_from}
use Rattle.iv_cover.specs.RecordWalks.{GivesRecord}
use Rattle.iv_lines.specs.CoveredPositions.{covers}
use Rattle.iv_lines.proofs.ListLemmas.{all-mem, filter-all}
use Rattle.iv_track.specs.Regions.{overlaps, hits}
use Rattle.iv_pair.specs.Inside.Lengths.{AreUpTo}
use Rattle.iv_pair.specs.Inside.HitFinder.{IsOnward, HitAlike, AllCover, AllBegun, StandsAt}
use Rattle.iv_track.proofs.RegionLemmas.{overlaps_parts, overlaps_from}
use Rattle.iv_pair.proofs.HitsLemmas.{covers_parts, covers_from, length-filter_le}
use Rattle.iv_track.proofs.PlaceLemmas.{pair_le, filter-implied}

-- ---- positions

pub onward-trans : (a b c d e f : ℕ) → IsOnward a b c d → IsOnward c d e f → IsOnward a b e f
onward-trans a b c d e f h k =
    let x : a ≤ c = h.0 in
    let y : c ≤ e = k.0 in (
      omega arith,
      λ q.
          let p : a ≡ c = omega arith in
          let r : c ≡ e = omega arith in
          let m : b ≤ d = h.1 p in
          let n : d ≤ f = k.1 r in
          omega arith,
    )

pub onward-itself : (a b : ℕ) → IsOnward a b a b
onward-itself a b = (omega arith, λ e. omega arith)

-- what isn't past a position starts there or before it
pub begun-not_from : (seq start : ℕ) (b : RecordValue) → is_from seq (start + 1) b ≡ false → IsOnward b.seq b.start seq start
begun-not_from seq start b not = (
  elim (cases_lt seq b.seq) [
    | inl less ↦ let is : is_from seq (start + 1) b ≡ true = pair_le seq b.seq (start + 1) b.start (omega (arith, less)) (λ e. absurd (omega (arith, less, e))) in absurd cc
    | inr more ↦ omega (arith, more)
  ],
  λ same. elim (cases_lt start b.start) [
    | inl less ↦ let is : is_from seq (start + 1) b ≡ true = pair_le seq b.seq (start + 1) b.start (omega (arith, same)) (λ e. omega (arith, less)) in absurd cc
    | inr more ↦ omega (arith, more)
  ],
)

pub covers-begun : (seq start : ℕ) (b : RecordValue) → covers seq start b ≡ true → IsOnward b.seq b.start seq start
covers-begun seq start b is =
    let parts = covers_parts seq start b is in
    let here : b.seq ≡ seq = parts.0 in
    (omega arith, λ e. parts.1)

-- a record that starts at a position or before it, and that an interval from there on hits, has the position
pub begun-covers : (seq start s t stop : ℕ) (b : RecordValue) → IsOnward b.seq b.start seq start → IsOnward seq start s t → overlaps s t stop b ≡ true → covers seq start b ≡ true
begun-covers seq start s t stop b h k hit =
    let parts = overlaps_parts s t stop b hit in
    let on : b.seq ≡ s = parts.0 in
    let past : t < b.stop = parts.2 in
    let low : b.seq ≤ seq = h.0 in
    let up : seq ≤ s = k.0 in
    let same : seq ≡ s = omega arith in
    let here : b.seq ≡ seq = omega arith in
    let first : b.start ≤ start = h.1 here in
    let next : start ≤ t = k.1 same in
    covers_from seq start b here first (omega arith)

-- a record that has the first position of an interval is a hit
pub cover-hit : (seq start stop : ℕ) (b : RecordValue) → start < stop → covers seq start b ≡ true → overlaps seq start stop b ≡ true
cover-hit seq start stop b some is =
    let parts = covers_parts seq start b is in
    let low : b.start ≤ start = parts.1 in
    overlaps_from seq start stop b parts.0 (omega arith) parts.2

-- ---- from a position to a later one

pub all-begun : (a b seq start : ℕ) (xs : List RecordValue) → AllCover a b xs → IsOnward a b seq start → AllBegun seq start xs
all-begun a b seq start xs cover on =
    All-weaker (λ (q : RecordValue). covers a b q ≡ true) (λ (q : RecordValue). IsOnward q.seq q.start seq start) (λ q is. onward-trans q.seq q.start a b seq start (covers-begun a b q is) on) xs cover

pub alike-onward : (a b seq start : ℕ) (xs ys : List RecordValue) → HitAlike a b xs ys → IsOnward a b seq start → HitAlike seq start xs ys
alike-onward a b seq start xs ys h on = λ s t stop k. h s t stop (onward-trans a b seq start s t on k)

pub alike-trans : (seq start : ℕ) (xs ys zs : List RecordValue) → HitAlike seq start xs ys → HitAlike seq start ys zs → HitAlike seq start xs zs
alike-trans seq start xs ys zs h k = λ s t stop on. h s t stop on ∙ k s t stop on

pub alike-itself : (seq start : ℕ) (xs : List RecordValue) → HitAlike seq start xs xs
alike-itself seq start xs = λ s t stop on. refl

pub kept-cover : (seq start : ℕ) (xs : List RecordValue) → AllCover seq start (filter (covers seq start) xs)
kept-cover seq start xs = filter_passes (covers seq start) xs

pub kept-alike : (seq start : ℕ) (xs walk whole : List RecordValue) → AllBegun seq start xs → HitAlike seq start (xs ++ walk) whole → HitAlike seq start (filter (covers seq start) xs ++ walk) whole
kept-alike seq start xs walk whole begun h = λ s t stop on.
    let p : RecordValue → Bool = overlaps s t stop in
    filter-append p (filter (covers seq start) xs) walk
    ∙ ap (λ (l : List RecordValue). l ++ filter p walk) (filter-implied p (covers seq start) xs (λ b m hit. begun-covers seq start s t stop b (all-mem (λ (q : RecordValue). IsOnward q.seq q.start seq start) xs begun b m) on hit))
    ∙ sym (filter-append p xs walk)
    ∙ h s t stop on

-- ---- one record more

pub alike-pushed : (seq start : ℕ) (b : RecordValue) (xs bs old : List RecordValue) → HitAlike seq start (xs ++ b ∷ bs) old → HitAlike seq start ((xs ++ b ∷ []) ++ bs) old
alike-pushed seq start b xs bs old h = subst (λ (l : List RecordValue). HitAlike seq start l old) (sym (append_assoc xs (b ∷ []) bs)) h

pub alike-passed : (seq start : ℕ) (b : RecordValue) (xs bs old : List RecordValue) → IsOnward b.seq b.start seq start → covers seq start b ≡ false → HitAlike seq start (xs ++ b ∷ bs) old → HitAlike seq start (xs ++ bs) old
alike-passed seq start b xs bs old begun not h = λ s t stop on.
    let p : RecordValue → Bool = overlaps s t stop in
    let no : p b ≡ false = false_from_ne_true (p b) (λ hit. let is : covers seq start b ≡ true = begun-covers seq start s t stop b begun on hit in absurd cc) in
    filter-append p xs bs
    ∙ ap (λ (l : List RecordValue). filter p xs ++ l) (sym (ap (λ c. cond c (b ∷ filter p bs) (filter p bs)) no))
    ∙ sym (filter-append p xs (b ∷ bs))
    ∙ h s t stop on

-- ---- from the root

-- if no record is longer than n, the hits from a position on are among the records from its start less n on
pub alike-anew : (walk : List RecordValue) (seq start from n : ℕ) → AreUpTo seq n walk → from ≤ start + 1 - n → HitAlike seq start (filter (is_from seq from) walk) walk
alike-anew walk seq start from n up low = λ s t stop on.
    filter-implied (overlaps s t stop) (is_from seq from) walk (λ q m is.
    let parts = overlaps_parts s t stop q is in
    let here : q.seq ≡ s = parts.0 in
    let past : t < q.stop = parts.2 in
    let later : seq ≤ s = on.0 in
    pair_le seq q.seq from q.start (omega arith) (λ e.
    let same : seq ≡ s = omega (arith, e, here) in
    let next : start ≤ t = on.1 same in
    let long : q.stop ≤ q.start + n = all-mem (λ (r : RecordValue). r.seq ≡ seq → r.stop ≤ r.start + n) walk up q m (sym e) in
    omega (arith, past, next, long, low)))

-- ---- what is found

found : (seq start stop : ℕ) (xs walk whole : List RecordValue) → start < stop → AllCover seq start xs → HitAlike seq start (xs ++ walk) whole → xs ++ hits walk seq start stop ≡ hits whole seq start stop
found seq start stop xs walk whole some cover h =
    let p : RecordValue → Bool = overlaps seq start stop in
    ap (λ (l : List RecordValue). l ++ filter p walk) (sym (filter-all p xs (λ b m. cover-hit seq start stop b some (all-mem (λ (q : RecordValue). covers seq start q ≡ true) xs cover b m))))
    ∙ sym (filter-append p xs walk)
    ∙ h seq start stop (onward-itself seq start)

-- ---- where a search is

-- before all records
pub stands-anew : (records carried walk : List RecordValue) (seq start : ℕ) → carried ≡ [] → walk ≡ records → AreInOrder records → length walk < 2 ^ 63 → StandsAt records carried walk seq start
stands-anew records carried walk seq start none all order few = record {
  cover = subst (AllCover seq start) (sym none) (All-nil (λ b. covers seq start b ≡ true));
  alike = subst (λ (l : List RecordValue). HitAlike seq start l records) (sym (ap (λ (l : List RecordValue). l ++ walk) none ∙ all)) (alike-itself seq start records);
  ahead_ordered = subst AreInOrder (sym all) order;
  few = omega (arith, ap length none, few);
  ordered = order;
}

-- before records among which all hits from here on are
pub stands-skipped : (records carried walk : List RecordValue) (seq start : ℕ) → carried ≡ [] → HitAlike seq start walk records → AreInOrder walk → AreInOrder records → length walk < 2 ^ 63 → StandsAt records carried walk seq start
stands-skipped records carried walk seq start none alike ahead order few = record {
  cover = subst (AllCover seq start) (sym none) (All-nil (λ b. covers seq start b ≡ true));
  alike = subst (λ (l : List RecordValue). HitAlike seq start (l ++ walk) records) (sym none) alike;
  ahead_ordered = ahead;
  few = omega (arith, ap length none, few);
  ordered = order;
}

-- at a later position
pub stands-kept : (records carried kept walk : List RecordValue) (a b seq start : ℕ) → IsOnward a b seq start → kept ≡ filter (covers seq start) carried → StandsAt records carried walk a b → StandsAt records kept walk seq start
stands-kept records carried kept walk a b seq start on these s = record {
  cover = subst (AllCover seq start) (sym these) (kept-cover seq start carried);
  alike = subst (λ (l : List RecordValue). HitAlike seq start (l ++ walk) records) (sym these)
      (kept-alike seq start carried walk records (all-begun a b seq start carried s.cover on) (alike-onward a b seq start (carried ++ walk) records s.alike on));
  ahead_ordered = s.ahead_ordered;
  few = omega (arith, ap length these, length-filter_le (covers seq start) carried, s.few);
  ordered = s.ordered;
}

-- further on in the walk
pub stands-on : (records carried walk xs ys : List RecordValue) (seq start : ℕ) → AllCover seq start carried → AreInOrder walk → length carried + length walk ≤ length xs + length ys → HitAlike seq start (carried ++ walk) (xs ++ ys)
    → StandsAt records xs ys seq start → StandsAt records carried walk seq start
stands-on records carried walk xs ys seq start cover order less alike s = record {
  cover = cover;
  alike = alike-trans seq start (carried ++ walk) (xs ++ ys) records alike s.alike;
  ahead_ordered = order;
  few = omega (arith, less, s.few);
  ordered = s.ordered;
}

-- what is carried, and the hits ahead, are all hits
pub stands-found : (records carried walk : List RecordValue) (seq start stop : ℕ) → start < stop → StandsAt records carried walk seq start → carried ++ hits walk seq start stop ≡ hits records seq start stop
stands-found records carried walk seq start stop some s = found seq start stop carried walk records some s.cover s.alike

-- ---- values of records

pub map-filter : {X : Type 0} (value : X → RecordValue) (p : RecordValue → Bool) (xs : List X) → map value (filter (λ x. p (value x)) xs) ≡ filter p (map value xs)
map-filter value p [] = refl
map-filter value p (x ∷ xs) = elim (p (value x)) as (λ b. map value (cond b (x ∷ filter (λ y. p (value y)) xs) (filter (λ y. p (value y)) xs)) ≡ cond b (value x ∷ filter p (map value xs)) (filter p (map value xs))) [
  | true ↦ ap (λ (l : List RecordValue). value x ∷ l) (map-filter value p xs)
  | false ↦ map-filter value p xs
]

-- a call gave the first of the records, and left the others
pub given-next : {R : Type 0} (value : R → RecordValue) (old new : List RecordValue) (given : Option R) (r : RecordValue) (others : List RecordValue) → GivesRecord value old given new → old ≡ r ∷ others → new ≡ others
given-next value old new None r others gives is = let none : [] ≡ r ∷ others = sym gives.0 ∙ is in absurd cc
given-next value old new (Some x) r others gives is = let both : value x ∷ new ≡ r ∷ others = sym gives ∙ is in cc

pub given-first : {R : Type 0} (value : R → RecordValue) (old new : List RecordValue) (x : R) (r : RecordValue) (others : List RecordValue) → GivesRecord value old (Some x) new → old ≡ r ∷ others → r ≡ value x
given-first value old new x r others gives is = let both : value x ∷ new ≡ r ∷ others = sym gives ∙ is in cc
