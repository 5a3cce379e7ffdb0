-- Rests that others follow, and the records at their places.
use Rattle.std.proofs.Common.{◌≡◌, ℕ, ◌*◌, ◌<◌, ◌≤◌, false, nat_le, cond, List, [], ◌∷◌, ◌++◌, None, codes, length, drop, refl, sym, ap, ◌∙◌, subst, arith, All, append_assoc}
use Rattle.std.proofs.Math.Seq.{drop-append_seam}
use Rattle.std.proofs.lemmas.Bool.Decides.{nat_tests}
use Rattle.std.proofs.lemmas.List.{drop-append-le, length-append, length-drop, map-append}
use Rattle.std.proofs.lemmas.List.Elements.{All-nil, All-cons, All-head, All-tail, All-push, All-weaker}
use Rattle.iv_lines.specs.Fields.{columns}
use Rattle.iv_lines.specs.Lines.{HasNoFeed}
use Rattle.iv_lines.specs.Read.{column}
use Rattle.iv_lines.specs.RecordText.{joined_record, rest_text}
use Rattle.iv_lines.specs.RecordValue.{RecordValue, strand_of}
use Rattle.iv_lines.specs.Widths.{IsWidth}
use Rattle.iv_places.proofs.RestLemmas.{rest-fed}
use Rattle.iv_places.specs.Inside.Places.{ArePlaces, HasBase, HeldRests, IsEnded, IsPlace, place_at, record_at, records_at, rest_at, rest_in, rest_start}
use Rattle.iv_places.specs.declared.placed_records.Place.{Place}

-- an ended rest is the one that is held
rest-is : (rests : List ℕ) (at : ℕ) (rest others : List ℕ) → drop at rests ≡ rest ++ 10 ∷ others → HasNoFeed rest → rest_at rests at ≡ rest
unfolding rest_at
rest-is rests at rest others are plain = ap rest_in are ∙ rest-fed rest others plain

-- what is there if others follow
more-are : (rests more : List ℕ) (at : ℕ) (e : IsEnded rests at) → drop at (rests ++ more) ≡ e.rest ++ 10 ∷ (e.others ++ more)
more-are rests more at e =
    let within : at ≤ length rests = omega (arith, sym (length-drop at rests), ap length e.are, length-append e.rest (10 ∷ e.others)) in
    drop-append-le at rests more within ∙ ap (λ (l : List ℕ). l ++ more) e.are ∙ append_assoc e.rest (10 ∷ e.others) more

-- it stays ended, and the same
ended-more : (rests more : List ℕ) (at : ℕ) → IsEnded rests at → IsEnded (rests ++ more) at
ended-more rests more at e = record { rest = e.rest; others = e.others ++ more; are = more-are rests more at e; plain = e.plain }

rest-same : (rests more : List ℕ) (at : ℕ) → IsEnded rests at → rest_at (rests ++ more) at ≡ rest_at rests at
rest-same rests more at e =
    rest-is (rests ++ more) at e.rest (e.others ++ more) (more-are rests more at e) e.plain ∙ sym (rest-is rests at e.rest e.others e.are e.plain)

-- a rest that was put after the others
put-are : (rests rest : List ℕ) (at : ℕ) → at ≡ length rests → drop at ((rests ++ rest) ++ 10 ∷ []) ≡ rest ++ 10 ∷ []
put-are rests rest at is =
    ap (λ (n : ℕ). drop n ((rests ++ rest) ++ 10 ∷ [])) is
    ∙ ap (drop (length rests)) (append_assoc rests rest (10 ∷ []))
    ∙ drop-append_seam rests (rest ++ 10 ∷ [])

ended-put : (rests rest : List ℕ) (at : ℕ) → at ≡ length rests → HasNoFeed rest → IsEnded ((rests ++ rest) ++ 10 ∷ []) at
ended-put rests rest at is plain = record { rest = rest; others = []; are = put-are rests rest at is; plain = plain }

rest-put : (rests rest : List ℕ) (at : ℕ) → at ≡ length rests → HasNoFeed rest → rest_at ((rests ++ rest) ++ 10 ∷ []) at ≡ rest
rest-put rests rest at is plain = rest-is ((rests ++ rest) ++ 10 ∷ []) at rest [] (put-are rests rest at is) plain

-- ---- places

module _ (w : ℕ) (rests more : List ℕ) where
  -- a place of a record stays one, if other rests follow
  place-more : (p : Place) → IsPlace w rests p → IsPlace w (rests ++ more) p
  place-more p h = record {
    some = h.some;
    known = h.known;
    ended = λ four. ended-more rests more (rest_start p) (h.ended four);
    whole = λ four.
        let same = rest-same rests more (rest_start p) (h.ended four) in
        ap (λ (r : List ℕ). codes "\t" ++ r) same
        ∙ h.whole four
        ∙ ap (λ (r : List ℕ). rest_text (joined_record p.interval.seq p.interval.start p.interval.stop r w)) (sym same);
  }

  -- of the same record
  record-more : (p : Place) → 4 ≤ w → IsPlace w rests p → record_at w (rests ++ more) p ≡ record_at w rests p
  record-more p four h =
      ap (λ (r : List ℕ). joined_record p.interval.seq p.interval.start p.interval.stop r w) (rest-same rests more (rest_start p) (h.ended four))

-- one more place
places-push : (w : ℕ) (rests : List ℕ) (ps : List Place) (p : Place) → ArePlaces w rests ps → IsPlace w rests p → ArePlaces w rests (ps ++ p ∷ [])
places-push w rests ps p are is = record { low = are.low; high = are.high; all = All-push (IsPlace w rests) ps p are.all is }

records-push : (w : ℕ) (rests : List ℕ) (ps : List Place) (p : Place) → records_at w rests (ps ++ p ∷ []) ≡ records_at w rests ps ++ record_at w rests p ∷ []
records-push w rests ps p = map-append (record_at w rests) ps (p ∷ [])

-- the place of a rest that was put after the others
place-put : (w : ℕ) (rests rest : List ℕ) (p : Place) → rest_start p ≡ length rests → HasBase p → IsWidth w → HasNoFeed rest
    → (4 ≤ w → codes "\t" ++ rest ≡ rest_text (joined_record p.interval.seq p.interval.start p.interval.stop rest w)) → IsPlace w ((rests ++ rest) ++ 10 ∷ []) p
place-put w rests rest p at some known plain whole =
    let ended = ended-put rests rest (rest_start p) at plain in
    let is : rest_at ((rests ++ rest) ++ 10 ∷ []) (rest_start p) ≡ rest = rest-put rests rest (rest_start p) at plain in
    record {
      some = some;
      known = known;
      ended = λ four. ended;
      whole = λ four.
          ap (λ (r : List ℕ). codes "\t" ++ r) is
          ∙ whole four
          ∙ ap (λ (r : List ℕ). rest_text (joined_record p.interval.seq p.interval.start p.interval.stop r w)) (sym is);
    }

record-put : (w : ℕ) (rests rest : List ℕ) (p : Place) → rest_start p ≡ length rests → HasNoFeed rest
    → record_at w ((rests ++ rest) ++ 10 ∷ []) p ≡ joined_record p.interval.seq p.interval.start p.interval.stop rest w
record-put w rests rest p at plain =
    ap (λ (r : List ℕ). joined_record p.interval.seq p.interval.start p.interval.stop r w) (rest-put rests rest (rest_start p) at plain)

-- each place has a base
pub all-based : (w : ℕ) (rests : List ℕ) (ps : List Place) → All (IsPlace w rests) ps → All HasBase ps
all-based w rests ps all = All-weaker (IsPlace w rests) HasBase (λ p h. h.some) ps all

-- ---- three columns

-- at width 3 no rest counts
pub none-low : (w seq start stop : ℕ) (rest : List ℕ) → w < 4 → record { seq = seq; start = start; stop = stop; name = []; score = []; strand = None; width = w } ≡ joined_record seq start stop rest w
none-low w seq start stop rest low =
    let cs = columns rest in
    let four : nat_le 4 w ≡ false = grind (arith, nat_tests, low) in
    let five : nat_le 5 w ≡ false = grind (arith, nat_tests, low) in
    let six : nat_le 6 w ≡ false = grind (arith, nat_tests, low) in
    λ i. record {
      seq = seq;
      start = start;
      stop = stop;
      name = cond (sym four i) (column cs 0) [];
      score = cond (sym five i) (column cs 1) [];
      strand = cond (sym six i) (strand_of (column cs 2)) None;
      width = w;
    }

-- ---- another width

-- each record at a place has the width that is said
pub each-width : (w : ℕ) (rests : List ℕ) (ps : List Place) → All (λ (r : RecordValue). r.width ≡ w) (records_at w rests ps)
each-width w rests [] = All-nil (λ (r : RecordValue). r.width ≡ w)
each-width w rests (p ∷ ps) = All-cons (λ (r : RecordValue). r.width ≡ w) (record_at w rests p) (records_at w rests ps) refl (each-width w rests ps)

-- the width of records that all have one
pub width-said : (w v : ℕ) (rests : List ℕ) (ps : List Place) → All (λ (r : RecordValue). r.width ≡ v) (records_at w rests ps) → 3 ≤ v → v ≤ 6 → ArePlaces w rests ps
    → ArePlaces v rests ps × (records_at v rests ps ≡ records_at w rests ps)
width-said w v rests [] said low high are = (record { low = low; high = high; all = All-nil (IsPlace v rests) }, refl)
width-said w v rests (p ∷ ps) said low high are =
    subst (λ (n : ℕ). ArePlaces n rests (p ∷ ps) × (records_at n rests (p ∷ ps) ≡ records_at w rests (p ∷ ps)))
    (All-head (λ (r : RecordValue). r.width ≡ v) (record_at w rests p) (records_at w rests ps) said) (are, refl)

-- ---- one record more

-- the places are those of these records
abbrev pub ArePlacesOf : List RecordValue → ℕ → List ℕ → List Place → Type 0
ArePlacesOf records w rests ps = ArePlaces w rests ps × (records_at w rests ps ≡ records)

-- if the records have the width of one more, the places are those of records of that width
pub places-wide : (w v : ℕ) (rests : List ℕ) (ps : List Place) (records : List RecordValue) (r : RecordValue) → v ≡ r.width → IsWidth r.width
    → All (λ (q : RecordValue). q.width ≡ r.width) records → ArePlacesOf records w rests ps → ArePlacesOf records v rests ps
places-wide w v rests ps records r is wide said are =
    let there = width-said w r.width rests ps (subst (All (λ (q : RecordValue). q.width ≡ r.width)) (sym are.1) said) wide.0 wide.1 are.0 in
    subst (λ (n : ℕ). ArePlacesOf records n rests ps) (sym is) (there.0, there.1 ∙ are.1)

-- a place more
pub push-are : (w : ℕ) (rests : List ℕ) (ps ps' : List Place) (p : Place) (records : List RecordValue) (r : RecordValue)
    → ps' ≡ ps ++ p ∷ [] → ArePlacesOf records w rests ps → IsPlace w rests p × (record_at w rests p ≡ r) → ArePlacesOf (records ++ r ∷ []) w rests ps'
push-are w rests ps ps' p records r pushed are is =
    subst (ArePlacesOf (records ++ r ∷ []) w rests) (sym pushed) (places-push w rests ps p are.0 is.0, records-push w rests ps p ∙ (λ i. are.1 i ++ is.1 i ∷ []))

-- all places mean with other rests what they mean with these
abbrev pub AreKept : ℕ → List ℕ → ℕ → List ℕ → Type 0
AreKept w rests w' rests' = (k : Place) → IsPlace w rests k → IsPlace w' rests' k × (record_at w' rests' k ≡ record_at w rests k)

records-kept : (w : ℕ) (rests : List ℕ) (w' : ℕ) (rests' : List ℕ) (ps : List Place) → AreKept w rests w' rests' → All (IsPlace w rests) ps → records_at w' rests' ps ≡ records_at w rests ps
records-kept w rests w' rests' [] kept all = refl
records-kept w rests w' rests' (p ∷ ps) kept all =
    λ i. (kept p (All-head (IsPlace w rests) p ps all)).1 i ∷ records-kept w rests w' rests' ps kept (All-tail (IsPlace w rests) p ps all) i

-- so the places of records are theirs with the other rests
pub are-kept : (w : ℕ) (rests : List ℕ) (w' : ℕ) (rests' : List ℕ) (ps : List Place) (records : List RecordValue) → w' ≡ w → AreKept w rests w' rests'
    → ArePlacesOf records w rests ps → ArePlacesOf records w' rests' ps
are-kept w rests w' rests' ps records same kept are = (
  record {
    low = omega (arith, are.0.low, same);
    high = omega (arith, are.0.high, same);
    all = All-weaker (IsPlace w rests) (IsPlace w' rests') (λ p h. (kept p h).0) ps are.0.all;
  },
  records-kept w rests w' rests' ps kept are.0.all ∙ are.1,
)

-- ---- a rest more

-- if others follow the rests, each place has the record that it had
pub keys-kept : (w : ℕ) (rests more new : List ℕ) → 4 ≤ w → new ≡ rests ++ more → AreKept w rests w new
keys-kept w rests more new four is k h =
    subst (λ (r : List ℕ). IsPlace w r k × (record_at w r k ≡ record_at w rests k)) (sym is) (place-more w rests more k h, record-more w rests more k four h)

-- also if the rests are padded before
pub padded-kept : (held : HeldRests) (w : ℕ) (rests padded more new : List ℕ) → record { width = w; bytes = rests } ≡ held → 4 ≤ w → (pad : List ℕ) × (padded ≡ rests ++ pad) → new ≡ padded ++ more → AreKept held.width held.bytes w new
padded-kept held w rests padded more new is four pad put =
    subst (λ (h : HeldRests). AreKept h.width h.bytes w new) is
    (keys-kept w rests (pad.0 ++ more) new four (put ∙ ap (λ (bytes : List ℕ). bytes ++ more) pad.1 ∙ append_assoc rests pad.0 more))

-- the place of a record of more columns has that record, if its rest was put after the others
pub key-put : (w : ℕ) (rests rest new : List ℕ) (at : ℕ) (p : Place) (r : RecordValue) → new ≡ (rests ++ rest) ++ 10 ∷ [] → 4 * at ≡ length rests → p ≡ place_at r at
    → r.width ≡ w → IsWidth r.width → r.start < r.stop → HasNoFeed rest → codes "\t" ++ rest ≡ rest_text r → joined_record r.seq r.start r.stop rest r.width ≡ r
    → IsPlace w new p × (record_at w new p ≡ r)
key-put w rests rest new at p r is from here wide known some plain text joined =
    subst (λ (n : ℕ). IsPlace n new p × (record_at n new p ≡ r)) wide
    (subst (λ (bytes : List ℕ). IsPlace r.width bytes p × (record_at r.width bytes p ≡ r)) (sym is)
    (subst (λ (q : Place). IsPlace r.width ((rests ++ rest) ++ 10 ∷ []) q × (record_at r.width ((rests ++ rest) ++ 10 ∷ []) q ≡ r)) (sym here) (
      place-put r.width rests rest (place_at r at) from some known plain (λ _. text ∙ ap rest_text (sym joined)),
      record-put r.width rests rest (place_at r at) from plain ∙ joined,
    )))

-- ---- the rest at a place

-- no line feed is in it
pub plain-at : (w : ℕ) (rests : List ℕ) (p : Place) → 4 ≤ w → IsPlace w rests p → HasNoFeed (rest_at rests (rest_start p))
plain-at w rests p four h =
    let e = h.ended four in
    subst HasNoFeed (sym (rest-is rests (rest_start p) e.rest e.others e.are e.plain)) e.plain
