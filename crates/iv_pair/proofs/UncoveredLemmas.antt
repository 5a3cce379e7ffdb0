-- The parts of a record that no hit covers, found hit by hit.
use Rattle.std.proofs.Common.{◌≡◌, ◌≢◌, ℕ, ◌+◌, ◌<◌, ◌≤◌, Bool, true, false, cond, if◌then◌else◌, List, [], ◌∷◌, ◌++◌, refl, sym, ap, ◌∙◌, subst, arith, inl, inr, append-nil}
use Rattle.std.specs.Prelude.{max, nat_lt}
use Rattle.std.specs.List.{AllByRecursion, flat_map}
use Rattle.std.specs.Ordering.{is_le}
use Rattle.std.proofs.lemmas.Bool.{cases_lt, lt-ltb, le-ltb}
use Rattle.std.proofs.lemmas.List.Concat.{flat_map-append}
use Rattle.iv_bytes.specs.Sinks.{SinkState, Takes, FailsIn}
use Rattle.iv_bytes.proofs.PutLemmas.{Underway, Underway-begin, Underway-ends, Underway-fails, Underway-more}
use Rattle.iv_lines.specs.Ordered.{AreInOrder}
use Rattle.iv_lines.specs.RecordValue.{RecordValue, record_cmp}
use Rattle.iv_lines.specs.CoveredPositions.{covers}
use Rattle.iv_cover.specs.Depth.{depth}
use Rattle.iv_cover.specs.Runs.{Run, empty_runs}
use Rattle.iv_cover.proofs.DepthLemmas.{depth-cons}
use Rattle.iv_cover.proofs.EmptyLemmas.{empty_runs-none, empty_runs-skip, empty_runs-run}
use Rattle.iv_lines.proofs.PrecedesLemmas.{precedes-from}
use Rattle.iv_track.specs.Regions.{overlaps, hits}
use Rattle.iv_track.proofs.RegionLemmas.{overlaps_parts, overlaps_from}
use Rattle.iv_pair.proofs.HitsLemmas.{covers_parts, covers_from}

-- the run of value 0 from one position to another, if it has a position
gap : ℕ → ℕ → List Run
gap from to = if nat_lt from to then record { start = from; stop = to; value = 0 } ∷ [] else []

covered : (f : ℕ → ℕ) (from stop to : ℕ) → from ≤ stop → ((p : ℕ) → from ≤ p → p < stop → p < to → f p ≢ 0) → empty_runs f from to ≡ empty_runs f stop to
covered f from stop to le on = elim (cases_lt stop to) [
  | inl within ↦ empty_runs-skip f from stop to le (omega arith) (λ q ql qh. on q ql qh (omega arith))
  | inr past ↦ elim (cases_lt from to) [
    | inl inside ↦ empty_runs-skip f from to to (omega arith) (omega arith) (λ q ql qh. on q ql (omega arith) qh) ∙ empty_runs-none f to to (omega arith) ∙ sym (empty_runs-none f stop to past)
    | inr outside ↦ empty_runs-none f from to outside ∙ sym (empty_runs-none f stop to past)
  ]
]

-- one hit: what is empty before it, and then what is empty after it
empty_runs-hit : (f : ℕ → ℕ) (from start stop to : ℕ) → start < stop → start < to
    → ((p : ℕ) → from ≤ p → p < start → f p ≡ 0) → ((p : ℕ) → start ≤ p → p < stop → from ≤ p → p < to → f p ≢ 0)
    → empty_runs f from to ≡ gap from start ++ empty_runs f (max from stop) to
unfolding gap
empty_runs-hit f from start stop to some low before on = elim (cases_lt from start) [
  | inl left ↦
      let first = empty_runs-run f from start to left (omega arith) before (λ h e. on start (omega arith) some (omega arith) low (sym e)) in
      let m : max from stop ≡ stop = omega arith in
      rw (lt-ltb from start left, m) (first ∙ ap (λ runs. record { start = from; stop = start; value = 0 } ∷ runs) (covered f start stop to (omega arith) (λ p l h t. on p l h (omega arith) t)))
  | inr none ↦ rw (le-ltb from start none) (elim (cases_lt from stop) [
    | inl inside ↦
        let m : max from stop ≡ stop = omega arith in
        rw m (covered f from stop to (omega arith) (λ p l h t. on p (omega arith) h l t))
    | inr beyond ↦ let m : max from stop ≡ from = omega arith in rw m refl
  ])
]

-- no more hits: what is left is empty
empty_runs-rest : (f : ℕ → ℕ) (from to : ℕ) → ((p : ℕ) → from ≤ p → p < to → f p ≡ 0) → empty_runs f from to ≡ gap from to
unfolding gap
empty_runs-rest f from to none = elim (cases_lt from to) [
  | inl some ↦ rw (lt-ltb from to some) (empty_runs-run f from to to some (omega arith) none (λ h. absurd (omega arith)) ∙ ap (λ runs. record { start = from; stop = to; value = 0 } ∷ runs) (empty_runs-none f to to (omega arith)))
  | inr past ↦ rw (le-ltb from to past) (empty_runs-none f from to past)
]

-- the text of such a run
abbrev pub gap_text : (Run → List ℕ) → ℕ → ℕ → List ℕ
gap_text feature from to = if nat_lt from to then feature (record { start = from; stop = to; value = 0 }) else []

gap-text : (feature : Run → List ℕ) (from to : ℕ) → flat_map feature (gap from to) ≡ gap_text feature from to
unfolding gap
gap-text feature from to = go (nat_lt from to)
  where
    go : (b : Bool) → flat_map feature (if b then record { start = from; stop = to; value = 0 } ∷ [] else []) ≡ (if b then feature (record { start = from; stop = to; value = 0 }) else [])
    go true = append-nil (feature (record { start = from; stop = to; value = 0 }))
    go false = refl

-- ---- the depth of the records, and of the hits that are left

-- a record that begins after a position or ends before it does not cover it
off : (seq p : ℕ) (b : RecordValue) → (covers seq p b ≡ true → ⊥) → covers seq p b ≡ false
off seq p b never = go (covers seq p b) refl
  where
    go : (c : Bool) → covers seq p b ≡ c → c ≡ false
    go false e = refl
    go true e = absurd (never e)

off_before : (seq p : ℕ) (b : RecordValue) → p < b.start → covers seq p b ≡ false
off_before seq p b h = off seq p b (λ e. let r : b.start ≤ p = (covers_parts seq p b e).1 in omega arith)

off_after : (seq p : ℕ) (b : RecordValue) → b.stop ≤ p → covers seq p b ≡ false
off_after seq p b h = off seq p b (λ e. let r : p < b.stop = (covers_parts seq p b e).2 in omega arith)

off_apart : (seq start stop p : ℕ) (b : RecordValue) → start ≤ p → p < stop → overlaps seq start stop b ≡ false → covers seq p b ≡ false
off_apart seq start stop p b l h none = off seq p b (λ e.
    let c = covers_parts seq p b e in
    let low : b.start ≤ p = c.1 in
    let high : p < b.stop = c.2 in
    let on : overlaps seq start stop b ≡ true = overlaps_from seq start stop b c.0 (omega arith) (omega arith) in
    cc)

-- only the hits cover a position of the interval
depth-hits : (records : List RecordValue) (seq start stop p : ℕ) → start ≤ p → p < stop → depth records seq p ≡ depth (hits records seq start stop) seq p
depth-hits [] seq start stop p l h = refl
depth-hits (b ∷ records) seq start stop p l h =
    depth-cons b records seq p ∙ ap (λ n. cond (covers seq p b) 1 0 + n) (depth-hits records seq start stop p l h)
    ∙ (elim (overlaps seq start stop b) as (λ o. overlaps seq start stop b ≡ o → cond (covers seq p b) 1 0 + depth (hits records seq start stop) seq p ≡ depth (cond o (b ∷ hits records seq start stop) (hits records seq start stop)) seq p) [
      | true ↦ λ is. sym (depth-cons b (hits records seq start stop) seq p)
      | false ↦ λ is. let none : covers seq p b ≡ false = off_apart seq start stop p b l h is in rw none (omega arith)
    ]) refl

-- the hits that are left: each is on the sequence, begins at `low` or after it and before the stop, and they begin in order
abbrev pub HitsFrom : ℕ → ℕ → ℕ → List RecordValue → Type 0
HitsFrom seq low to [] = Unit {0}
HitsFrom seq low to (b ∷ records) = (b.seq ≡ seq) × (b.start < to) × (low ≤ b.start) × HitsFrom seq b.start to records

none_before : (seq low to p : ℕ) (records : List RecordValue) → HitsFrom seq low to records → p < low → depth records seq p ≡ 0
none_before seq low to p [] h l = refl
none_before seq low to p (b ∷ records) h l = omega (arith, depth-cons b records seq p, ap {B = ℕ} (λ c. cond c 1 0) (off_before seq p b (omega (arith, h.2))), none_before seq b.start to p records h.3 (omega (arith, h.2)))

-- during the loop: from here on the depth is that of the hits that are left
pub record Left (f : ℕ → ℕ) (seq from to : ℕ) (records : List RecordValue) : Type 0 where
  pub low : ℕ
  pub found : HitsFrom seq low to records
  pub same : (p : ℕ) → from ≤ p → p < to → f p ≡ depth records seq p

Left-next : (f : ℕ → ℕ) (seq from to : ℕ) (b : RecordValue) (records : List RecordValue) → b.start < b.stop → Left f seq from to (b ∷ records)
    → (empty_runs f from to ≡ gap from b.start ++ empty_runs f (max from b.stop) to) × Left f seq (max from b.stop) to records
Left-next f seq from to b records some l =
    let h = l.found in
    let within : b.start < to = h.1 in (
      empty_runs-hit f from b.start b.stop to some within
          (λ p low high. let here : p < to = omega arith in omega (arith, l.same p low here, depth-cons b records seq p, ap {B = ℕ} (λ c. cond c 1 0) (off_before seq p b high), none_before seq b.start to p records h.3 high))
          (λ p low high past end none. let on : covers seq p b ≡ true = covers_from seq p b h.0 low high in
          absurd (omega (arith, l.same p past end, depth-cons b records seq p, ap {B = ℕ} (λ c. cond c 1 0) on, none))),
      record {
        low = b.start;
        found = h.3;
        same = λ p low high. let past : from ≤ p = omega (arith, low) in let beyond : b.stop ≤ p = omega (arith, low) in omega (arith, l.same p past high, depth-cons b records seq p, ap {B = ℕ} (λ c. cond c 1 0) (off_after seq p b beyond));
      },
    )

-- ---- the hits of a file in order

later_starts : (b : RecordValue) (records : List RecordValue) → AllByRecursion (λ y. is_le (record_cmp b y) ≡ true) records → AllByRecursion (λ y. y.seq ≡ b.seq → b.start ≤ y.start) records
later_starts b [] h = tt
later_starts b (y ∷ records) h = (
  λ e. elim (precedes-from b y h.0) [
    | inl later ↦ absurd (omega (arith, e, later))
    | inr same ↦ same.1
  ],
  later_starts b records h.1,
)

hits_found : (records : List RecordValue) (seq start stop low : ℕ) → AreInOrder records
    → AllByRecursion (λ b. b.seq ≡ seq → low ≤ b.start) records → HitsFrom seq low stop (hits records seq start stop)
hits_found [] seq start stop low o a = tt
hits_found (b ∷ records) seq start stop low o a =
    (elim (overlaps seq start stop b) as (λ c. overlaps seq start stop b ≡ c → HitsFrom seq low stop (cond c (b ∷ hits records seq start stop) (hits records seq start stop))) [
      | true ↦ λ is.
          let parts = overlaps_parts seq start stop b is in (
            parts.0,
            parts.1,
            a.0 parts.0,
            hits_found records seq start stop b.start o.1 (subst (λ (s : ℕ). AllByRecursion (λ y. y.seq ≡ s → b.start ≤ y.start) records) parts.0 (later_starts b records o.0)),
          )
      | false ↦ λ is. hits_found records seq start stop low o.1 a.1
    ]) refl

all_low : (seq : ℕ) (records : List RecordValue) → AllByRecursion (λ b. b.seq ≡ seq → 0 ≤ b.start) records
all_low seq [] = tt
all_low seq (b ∷ records) = (λ _. omega arith, all_low seq records)

Left-begin : (records : List RecordValue) (seq start stop : ℕ) → AreInOrder records → Left (depth records seq) seq start stop (hits records seq start stop)
Left-begin records seq start stop o = record {
  low = 0;
  found = hits_found records seq start stop 0 o (all_low seq records);
  same = λ p low high. depth-hits records seq start stop p low high;
}

-- ---- their text

-- the text of the parts before `from` was put, and from there on the depth of the file is that of the hits that are left
pub record Remains (feature : Run → List ℕ) (second : List RecordValue) (seq start from to : ℕ) (found : List RecordValue) (begun now : SinkState) : Type 0 where
  pub put : Underway begun now (flat_map feature (empty_runs (depth second seq) from to)) (flat_map feature (empty_runs (depth second seq) start to))
  pub left : Left (depth second seq) seq from to found

module _ (feature : Run → List ℕ) (second : List RecordValue) (seq start to : ℕ) (begun : SinkState) where
  pub Remains-begin : (found : List RecordValue) → AreInOrder second → found ≡ hits second seq start to → Remains feature second seq start start to found begun begun
  Remains-begin found order all = rw all record { put = Underway-begin _ _; left = Left-begin second seq start to order }

  module _ (from : ℕ) (b : RecordValue) (found rest : List RecordValue) (mid : SinkState) (first : found ≡ b ∷ rest) (some : b.start < b.stop) (r : Remains feature second seq start from to found begun mid) where
    next : Left (depth second seq) seq from to (b ∷ rest)
    next = subst (Left (depth second seq) seq from to) first r.left

    pub within : b.start < to
    within = next.found.1

    begin_next : Underway begun mid (gap_text feature from b.start ++ flat_map feature (empty_runs (depth second seq) (max from b.stop) to)) (flat_map feature (empty_runs (depth second seq) start to))
    begin_next =
        subst (λ t. Underway begun mid t (flat_map feature (empty_runs (depth second seq) start to)))
        (ap (flat_map feature) (Left-next (depth second seq) seq from to b rest some next).0 ∙ flat_map-append feature (gap from b.start) (empty_runs (depth second seq) (max from b.stop) to)
        ∙ ap (λ (t : List ℕ). t ++ flat_map feature (empty_runs (depth second seq) (max from b.stop) to)) (gap-text feature from b.start))
        r.put

    pub Remains-next : (now : SinkState) → Takes mid now (gap_text feature from b.start) → Remains feature second seq start (max from b.stop) to rest begun now
    Remains-next now took = record {
      put = Underway-more _ _ _ _ _ _ begin_next took;
      left = (Left-next (depth second seq) seq from to b rest some next).1;
    }

    pub Remains-fails : (now : SinkState) → FailsIn mid now (gap_text feature from b.start) → FailsIn begun now (flat_map feature (empty_runs (depth second seq) start to))
    Remains-fails now fails = Underway-fails _ _ _ _ _ _ begin_next fails

  -- no more hits: what is left is one part, or none
  pub Remains-last : (from : ℕ) (found : List RecordValue) (mid : SinkState) → found ≡ [] → Remains feature second seq start from to found begun mid
      → Underway begun mid (gap_text feature from to) (flat_map feature (empty_runs (depth second seq) start to))
  Remains-last from found mid none r =
      subst (λ t. Underway begun mid t (flat_map feature (empty_runs (depth second seq) start to)))
      (ap (flat_map feature) (empty_runs-rest (depth second seq) from to (λ p low high. r.left.same p low high ∙ ap (λ xs. depth xs seq p) none)) ∙ gap-text feature from to)
      r.put

  -- the rest is covered: nothing is left to put
  pub Remains-covered : (from : ℕ) (found : List RecordValue) (mid : SinkState) → to ≤ from → Remains feature second seq start from to found begun mid
      → Takes begun mid (flat_map feature (empty_runs (depth second seq) start to))
  Remains-covered from found mid past r =
      Underway-ends _ _ _
      (subst (λ t. Underway begun mid t (flat_map feature (empty_runs (depth second seq) start to)))
      (ap (flat_map feature) (empty_runs-none (depth second seq) from to past))
      r.put)
