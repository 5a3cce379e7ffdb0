-- The sequences of headers and the bases after them.
use Rattle.std.proofs.Common.{◌≡◌, ℕ, zero, suc, ◌+◌, ◌-◌, ◌<◌, ◌≤◌, List, [], ◌∷◌, ◌++◌, Option, None, Some, length, take, drop, slice_get, refl, sym, ◌∙◌, ap, arith, length-drop, add-one, false, true, position, get_or, Bool, cond}
use Rattle.std.proofs.lemmas.List.{take-append-le, drop-append-le, take_rest}
use Rattle.std.proofs.lemmas.List.Edits.{between_none}
use Rattle.std.proofs.Common.{Result, Ok, Err, ◌⊎◌, inl, inr}
use Rattle.std.specs.Prelude.{OnOk, OnErr}
use Rattle.std.specs.List.{slice_range}
use Rattle.std.specs.Map.{lookup}
use Rattle.std.specs.Option.{option_map, is_some}
use Rattle.std.proofs.lemmas.Bool.{cond-true, cond-false}
use Rattle.std.proofs.lemmas.List.Quantifiers.{position-Some}
use Rattle.std.proofs.lemmas.Option.{slice_get-get_or, slice_get-map, get_or_from_slice_get}
use Rattle.std.specs.Str.{bytes_eq}
use Rattle.iv_lines.specs.Named.{names_of, name_index}
use Rattle.iv_fasta.specs.FastaReading.{Summary, Summaries, with_part}
use Rattle.iv_fasta.specs.Inside.BaseRanges.{EndsWithin}
use Rattle.iv_fasta.specs.Inside.Drafts.{sequence_at, NamedHeaders, first_number, number_at, cut, AreRising}
use Rattle.iv_fasta.specs.declared.held_sequences.Header.{Header}

-- a part of the front
range-front : (xs ys : List ℕ) (a b : ℕ) → a ≤ b → b ≤ length xs → slice_range (xs ++ ys) a b ≡ slice_range xs a b
range-front xs ys a b order within =
    ap (take (b - a)) (drop-append-le a xs ys (omega arith)) ∙ take-append-le (b - a) (drop a xs) ys (omega (arith, length-drop a xs))

-- all from an index in the front on
range-rest : (xs ys : List ℕ) (a : ℕ) → a ≤ length xs → slice_range (xs ++ ys) a (length (xs ++ ys)) ≡ slice_range xs a (length xs) ++ ys
range-rest xs ys a within =
    take_rest (xs ++ ys) a ∙ drop-append-le a xs ys within ∙ ap (λ (l : List ℕ). l ++ ys) (sym (take_rest xs a))

module _ (number : Header → ℕ) where
  rises-through : (low : ℕ) (hs : NamedHeaders) (high : ℕ) → AreRising number low hs high → low ≤ high
  rises-through low [] high order = order
  rises-through low (h ∷ hs) high order = let rest = rises-through (number h.1) hs high order.1 in omega (arith, rest, order.0)

  -- more bases leave the headers in order
  pub rises-more : (low : ℕ) (hs : NamedHeaders) (high more : ℕ) → high ≤ more → AreRising number low hs high → AreRising number low hs more
  rises-more low [] high more le order = omega (arith, le, order)
  rises-more low (h ∷ hs) high more le order = (order.0, rises-more (number h.1) hs high more le order.1)

  -- and so does a header at the end of them
  pub rises-push : (low : ℕ) (hs : NamedHeaders) (name : List ℕ) (h : Header) (high : ℕ) → number h ≡ high → AreRising number low hs high → AreRising number low (hs ++ (name, h) ∷ []) high
  rises-push low [] name h high at order = (omega (arith, at, order), omega (arith, at))
  rises-push low (x ∷ hs) name h high at order = (order.0, rises-push (number x.1) hs name h high at order.1)

  number-first : (hs : NamedHeaders) (last : ℕ) → first_number number hs last ≡ number_at number (slice_get hs zero) last
  number-first [] last = refl
  number-first (h ∷ hs) last = refl

  -- the number of the next header is no less, and no more than the last one
  rises-at : (low : ℕ) (hs : NamedHeaders) (high i : ℕ) (h : List ℕ × Header) → AreRising number low hs high → slice_get hs i ≡ Some h
      → (number h.1 ≤ number_at number (slice_get hs (suc i)) high) × (number_at number (slice_get hs (suc i)) high ≤ high)
  rises-at low [] high i h order at = cc
  rises-at low (x ∷ []) high zero h order at = let same : x ≡ h = cc in rw (← same) (order.1, omega arith)
  rises-at low (x ∷ y ∷ hs) high zero h order at = let same : x ≡ h = cc in rw (← same) (order.1.0, rises-through (number y.1) hs high order.1.1)
  rises-at low (x ∷ hs) high (suc i) h order at = rises-at (number x.1) hs high i h order.1 at

-- more bases are those of the last sequence
pub cut-part : (low from : ℕ) (hs : NamedHeaders) (bases part : List ℕ) (holds : Bool) (count : ℕ) → AreRising (λ h. h.start) low hs (length bases) → AreRising (λ h. h.before) from hs count
    → cut hs (bases ++ cond holds part []) (count + length part) ≡ with_part holds (cut hs bases count) part
cut-part low from [] bases part holds count order counted = refl
cut-part low from (h ∷ []) bases part holds count order counted =
    let more : count + length part - h.1.before ≡ count - h.1.before + length part = omega (arith, counted.1) in
    ap {B = Summaries} (λ (l : List ℕ). (h.0, record { line = h.1.line; count = count + length part - h.1.before; bases = l }) ∷ []) (range-rest bases (cond holds part []) h.1.start order.1)
    ∙ ap {B = Summaries} (λ (n : ℕ). (h.0, record { line = h.1.line; count = n; bases = slice_range bases h.1.start (length bases) ++ cond holds part [] }) ∷ []) more
cut-part low from (h ∷ next ∷ hs) bases part holds count order counted =
    ap {B = Summaries} (λ (l : List ℕ). (h.0, record { line = h.1.line; count = next.1.before - h.1.before; bases = l }) ∷ cut (next ∷ hs) (bases ++ cond holds part []) (count + length part))
    (range-front bases (cond holds part []) h.1.start next.1.start order.1.0 (rises-through (λ h. h.start) next.1.start hs (length bases) order.1.1))
    ∙ ap {B = Summaries} (λ (rest : Summaries). (h.0, record { line = h.1.line; count = next.1.before - h.1.before; bases = slice_range bases h.1.start next.1.start }) ∷ rest)
    (cut-part h.1.start h.1.before (next ∷ hs) bases part holds count order.1 counted.1)

-- a header at the end of the bases is a sequence without bases
pub cut-push : (hs : NamedHeaders) (name : List ℕ) (h : Header) (bases : List ℕ) (count : ℕ) → h.start ≡ length bases → h.before ≡ count
    → cut (hs ++ (name, h) ∷ []) bases count ≡ cut hs bases count ++ (name, record { line = h.line; count = 0; bases = [] }) ∷ []
cut-push [] name h bases count at is =
    let none : count - h.before ≡ 0 = omega (arith, is) in
    ap {B = Summaries} (λ (l : List ℕ). (name, record { line = h.line; count = count - h.before; bases = l }) ∷ []) (ap (λ n. slice_range bases n (length bases)) at ∙ between_none bases (length bases))
    ∙ ap {B = Summaries} (λ (n : ℕ). (name, record { line = h.line; count = n; bases = [] }) ∷ []) none
cut-push (x ∷ []) name h bases count at is =
    ap {B = Summaries} (λ (n : ℕ). (x.0, record { line = x.1.line; count = h.before - x.1.before; bases = slice_range bases x.1.start n }) ∷ cut ((name, h) ∷ []) bases count) at
    ∙ ap {B = Summaries} (λ (n : ℕ). (x.0, record { line = x.1.line; count = n - x.1.before; bases = slice_range bases x.1.start (length bases) }) ∷ cut ((name, h) ∷ []) bases count) is
    ∙ ap {B = Summaries} (λ (rest : Summaries). (x.0, record { line = x.1.line; count = count - x.1.before; bases = slice_range bases x.1.start (length bases) }) ∷ rest) (cut-push [] name h bases count at is)
cut-push (x ∷ y ∷ hs) name h bases count at is =
    ap {B = Summaries} (λ (rest : Summaries). (x.0, record { line = x.1.line; count = y.1.before - x.1.before; bases = slice_range bases x.1.start y.1.start }) ∷ rest) (cut-push (y ∷ hs) name h bases count at is)

names-cut : (hs : NamedHeaders) (bases : List ℕ) (count : ℕ) → names_of (cut hs bases count) ≡ names_of hs
names-cut [] bases count = refl
names-cut (h ∷ hs) bases count = ap (λ (l : List (List ℕ)). h.0 ∷ l) (names-cut hs bases count)

-- the indexes of the names are those of the headers
pub index-cut : (hs : NamedHeaders) (bases : List ℕ) (count : ℕ) (name : List ℕ) → name_index (cut hs bases count) name ≡ name_index hs name
index-cut hs bases count name = ap (position (bytes_eq name)) (names-cut hs bases count)

-- a name that is new among the sequences is new among the headers
pub fresh-cut : (hs : NamedHeaders) (bases : List ℕ) (count : ℕ) (name : List ℕ) → is_some (name_index (cut hs bases count) name) ≡ false → name_index hs name ≡ None
fresh-cut hs bases count name is = by (name_index hs name) (sym (ap is_some (index-cut hs bases count name)) ∙ is)
  where
    by : (o : Option ℕ) → is_some o ≡ false → o ≡ None
    by None e = refl
    by (Some i) e = cc

pub length-cut : (hs : NamedHeaders) (bases : List ℕ) (count : ℕ) → length (cut hs bases count) ≡ length hs
length-cut [] bases count = refl
length-cut (h ∷ hs) bases count = ap suc (length-cut hs bases count)

-- the sequence at an index
abbrev sequence_before : ℕ → ℕ → List ℕ → List ℕ × Header → Option (List ℕ × Summary)
sequence_before stop before bases h = Some (h.0, record { line = h.1.line; count = before - h.1.before; bases = slice_range bases h.1.start stop })

cut-at : (hs : NamedHeaders) (bases : List ℕ) (count i : ℕ) (h : List ℕ × Header) → slice_get hs i ≡ Some h
    → slice_get (cut hs bases count) i ≡ sequence_before (number_at (λ h. h.start) (slice_get hs (suc i)) (length bases)) (number_at (λ h. h.before) (slice_get hs (suc i)) count) bases h
cut-at [] bases count i h at = cc
cut-at (x ∷ hs) bases count zero h at =
    let same : x ≡ h = cc in
    ap (λ (n : ℕ). sequence_before n (first_number (λ h. h.before) hs count) bases x) (number-first (λ h. h.start) hs (length bases))
    ∙ ap (λ (n : ℕ). sequence_before (number_at (λ h. h.start) (slice_get hs zero) (length bases)) n bases x) (number-first (λ h. h.before) hs count)
    ∙ ap (sequence_before (number_at (λ h. h.start) (slice_get hs zero) (length bases)) (number_at (λ h. h.before) (slice_get hs zero) count) bases) same
cut-at (x ∷ hs) bases count (suc i) h at = cut-at hs bases count i h at

pub cut-past : (hs : NamedHeaders) (bases : List ℕ) (count i : ℕ) → slice_get hs i ≡ None → slice_get (cut hs bases count) i ≡ None
cut-past [] bases count i at = refl
cut-past (x ∷ hs) bases count zero at = cc
cut-past (x ∷ hs) bases count (suc i) at = cut-past hs bases count i at

pub sequence-counted : (hs : NamedHeaders) (count i before : ℕ) (h : List ℕ × Header) → AreRising (λ h. h.before) 0 hs count → Some h ≡ slice_get hs i → before ≡ number_at (λ h. h.before) (slice_get hs (i + 1)) count
    → h.1.before ≤ before
sequence-counted hs count i before h order at is =
    let stops : before ≡ number_at (λ h. h.before) (slice_get hs (suc i)) count = is ∙ ap (λ n. number_at (λ h. h.before) (slice_get hs n) count) (add-one i) in
    let within = rises-at (λ h. h.before) 0 hs count i h order (sym at) in
    omega (arith, stops, within.0)

pub sequence-is : (hs : NamedHeaders) (bases name : List ℕ) (h : Header) (i stop before count : ℕ) → Some (name, h) ≡ slice_get hs i → stop ≡ number_at (λ h. h.start) (slice_get hs (i + 1)) (length bases)
    → before ≡ number_at (λ h. h.before) (slice_get hs (i + 1)) count
    → Some (name, sequence_at bases h.line (before - h.before) (record { start = h.start; stop = stop })) ≡ slice_get (cut hs bases count) i
sequence-is hs bases name h i stop before count at is counted =
    let stops : stop ≡ number_at (λ h. h.start) (slice_get hs (suc i)) (length bases) = is ∙ ap (λ n. number_at (λ h. h.start) (slice_get hs n) (length bases)) (add-one i) in
    let befores : before ≡ number_at (λ h. h.before) (slice_get hs (suc i)) count = counted ∙ ap (λ n. number_at (λ h. h.before) (slice_get hs n) count) (add-one i) in
    ap (λ (n : ℕ). sequence_before n before bases (name, h)) stops
    ∙ ap (λ (n : ℕ). sequence_before (number_at (λ h. h.start) (slice_get hs (suc i)) (length bases)) n bases (name, h)) befores
    ∙ sym (cut-at hs bases count i (name, h) (sym at))

pub sequence-is_placed : (hs : NamedHeaders) (bases name : List ℕ) (h : Header) (i stop : ℕ) → AreRising (λ h. h.start) 0 hs (length bases) → Some (name, h) ≡ slice_get hs i → stop ≡ number_at (λ h. h.start) (slice_get hs (i + 1)) (length bases)
    → EndsWithin (length bases) (record { start = h.start; stop = stop })
sequence-is_placed hs bases name h i stop order at is =
    let stops : stop ≡ number_at (λ h. h.start) (slice_get hs (suc i)) (length bases) = is ∙ ap (λ n. number_at (λ h. h.start) (slice_get hs n) (length bases)) (add-one i) in
    let within : (h.start ≤ number_at (λ h. h.start) (slice_get hs (suc i)) (length bases)) × (number_at (λ h. h.start) (slice_get hs (suc i)) (length bases) ≤ length bases) = rises-at (λ h. h.start) 0 hs (length bases) i (name, h) order (sym at) in
    record { in_order = omega (arith, stops, within.0); in_bounds = omega (arith, stops, within.1) }

-- ---- looking up a name

first-there : {V : Type 0} (test : List ℕ → Bool) (es : List (List ℕ × V)) (i : ℕ) (e : List ℕ × V) → slice_get es i ≡ Some e → test e.0 ≡ true
    → ((k : ℕ) → k < i → test (get_or (names_of es) k []) ≡ false) → lookup test es ≡ Some e.1
first-there test [] i e at is before = cc
first-there test (x ∷ es) zero e at is before =
    let same : x ≡ e = cc in cond-true _ _ _ (ap (λ (y : List ℕ × _). test y.0) same ∙ is) ∙ ap (λ (y : List ℕ × _). Some y.1) same
first-there test (x ∷ es) (suc i) e at is before =
    cond-false _ _ _ (before zero (omega arith)) ∙ first-there test es i e at is (λ k below. before (suc k) (omega arith))

-- under a name is what is at its index
pub lookup-at : {V : Type 0} (es : List (List ℕ × V)) (name : List ℕ) (i : ℕ) (e : List ℕ × V) → name_index es name ≡ Some i → slice_get es i ≡ Some e → lookup (bytes_eq name) es ≡ Some e.1
lookup-at {V} es name i e there at =
    let found = position-Some (bytes_eq name) (names_of es) i [] there in
    let named : get_or (names_of es) i [] ≡ e.0 = get_or_from_slice_get (names_of es) i e.0 [] (slice_get-map (λ (n : List ℕ × V). n.0) es i ∙ ap (option_map (λ (n : List ℕ × V). n.0)) at) in
    first-there (bytes_eq name) es i e at (ap (bytes_eq name) (sym named) ∙ found.1) found.2

-- an index of a name is an index of a header
pub index-there : {V : Type 0} (es : List (List ℕ × V)) (name : List ℕ) (i : ℕ) → name_index es name ≡ Some i → slice_get es i ≡ None → ⊥
index-there {V} es name i there none =
    let found = position-Some (bytes_eq name) (names_of es) i [] there in
    let named : slice_get (names_of es) i ≡ None = slice_get-map (λ (n : List ℕ × V). n.0) es i ∙ ap (option_map (λ (n : List ℕ × V). n.0)) none in
    let some : slice_get (names_of es) i ≡ Some (get_or (names_of es) i []) = slice_get-get_or (names_of es) i [] found.0 in
    cc

-- a result has a value or a fault
pub either-of : {X E P Q : Type 0} (r : Result X E) → OnOk r P → OnErr r Q → P ⊎ Q
either-of (Ok x) p q = inl p
either-of (Err e) p q = inr q
