-- Numbers in order, the net changes at them, and the depth that these give.
use Rattle.std.proofs.Common.{◌≡◌, ◌≢◌, ℕ, ◌+◌, ◌<◌, ◌≤◌, ◌^◌, ◌⊎◌, inl, inr, List, [], ◌∷◌, ◌==◌, All, length, filter, map, refl, sym, ap, ap₂, ◌∙◌, subst, arith, Bool, true, false, cond, if◌then◌else◌, count_by, nat_le, nat_lt, le-leb, Option, Some, None}
use Rattle.std.proofs.lemmas.Bool.{cases_lt, cases_Bool, lt-ltb, le-ltb, lt-leb, eqb-true}
use Rattle.std.proofs.lemmas.Int.{ints}
use Rattle.std.proofs.lemmas.List.Elements.{All-head, All-tail}
use Rattle.std.proofs.lemmas.List.Sums.{count_by-le-length, sum_by-cons}
use Rattle.std.specs.Ordering.{is_le}
use Rattle.iv_lines.specs.Genome.{Sequences, sequence_length}
use Rattle.iv_lines.specs.Ordered.{AreInOrder}
use Rattle.iv_lines.specs.Read.{IsOnGenome}
use Rattle.iv_lines.specs.RecordValue.{RecordValue, record_cmp}
use Rattle.iv_cover.specs.Depth.{depth}
use Rattle.iv_lines.specs.CoveredPositions.{on, covers}
use Rattle.iv_cover.specs.Blocks.{start_of, stop_of}
use Rattle.iv_cover.proofs.DepthLemmas.{depth-cons}
use Rattle.iv_lines.proofs.InOrderLemmas.{all-recursion}
use Rattle.iv_lines.proofs.PrecedesLemmas.{Precedes, precedes-from}
use Rattle.iv_lines.proofs.ListLemmas.{Mem}
use Rattle.iv_places.proofs.SequenceLemmas.{is_from, from-here, from-later}
use Rattle.std.specs.Prelude.{ℤ, pos, ◌+ℤ◌, ◌-ℤ◌}
use Rattle.iv_depth.specs.Inside.DepthChanges.{Gives, IsChange}
use Rattle.iv_depth.specs.Inside.Edges.{up_to, Rise, BeginsElse, AreEdgesOf, Passes, IsLeast, Remaining, RiseFrom, edge_count, net, SkipsEdges, TakesChange, GivesChange, IsAhead}
use Rattle.iv_depth.specs.Inside.SequenceEdges.{Gathered, TakesSequence}
use Rattle.iv_depth.proofs.DepthLemmas.{depth-ends}
use Rattle.iv_depth.proofs.OrderLemmas.{up_to-sum}

rise-low : (low from : ℕ) (ns : List ℕ) → low ≤ from → Rise from ns → Rise low ns
rise-low low from [] le h = tt
rise-low low from (n ∷ ns) le h = (omega (arith, h.0), h.1)

rise-lower : (low from : ℕ) (edges : Remaining) → low ≤ from → RiseFrom from edges → RiseFrom low edges
rise-lower low from edges le h = record { starts = rise-low low from edges.starts le h.starts; stops = rise-low low from edges.stops le h.stops }

-- none is before the first
none-before : (from p : ℕ) (ns : List ℕ) → Rise from ns → p < from → count_by (λ n. nat_le n p) ns ≡ 0
none-before from p [] h before = refl
none-before from p (n ∷ ns) h before =
    let rest : count_by (λ n. nat_le n p) ns ≡ 0 = none-before n p ns h.1 (omega (arith, h.0)) in
    sum_by-cons (λ x. cond {A = ℕ} (nat_le x p) 1 0) n ns ∙ ap₂ {C = ℕ} (λ (b : Bool) (k : ℕ). cond {A = ℕ} b 1 0 + k) (lt-leb n p (omega (arith, h.0))) rest

net-before : (from p : ℕ) (edges : Remaining) → RiseFrom from edges → p < from → net (λ n. nat_le n p) edges ≡ pos 0
net-before from p edges h before = ap₂ {C = ℤ} (λ (a b : ℕ). pos a -ℤ pos b) (none-before from p edges.starts h.starts before) (none-before from p edges.stops h.stops before)

-- ---- the numbers that are equal

-- none is passed yet
pub Passes-begin : (n : ℕ) (ns : List ℕ) → Rise n ns → Passes n 0 n ns ns
Passes-begin n ns rise = record { sums = λ passes. none (passes n) (count_by passes ns); rise = rise }
  where
    none : (here : Bool) (n : ℕ) → n ≡ (if here then 0 else 0) + n
    none true n = omega arith
    none false n = omega arith

-- one more is passed
pub Passes-next : (n count m : ℕ) (old left rest : List ℕ) → Passes n count n old left → left ≡ m ∷ rest → m ≡ n → Passes n (count + 1) n old rest
Passes-next n count m old left rest h first here =
    let rise : Rise n (m ∷ rest) = subst (Rise n) first h.rise in
    record {
      sums = λ passes.
          let one : count_by passes left ≡ (if passes n then 1 else 0) + count_by passes rest
          = ap (λ (l : List ℕ). count_by passes l) first ∙ sum_by-cons (λ x. cond (passes x) 1 0) m rest
          ∙ ap {B = ℕ} (λ (k : ℕ). (if passes k then 1 else 0) + count_by passes rest) here in
          more (passes n) _ _ _ (h.sums passes) one;
      rise = rise-low n m rest (omega arith) rise.1;
    }
  where
    more : (at : Bool) (a b c : ℕ) → a ≡ (if at then count else 0) + b → b ≡ (if at then 1 else 0) + c → a ≡ (if at then count + 1 else 0) + c
    more true a b c e f = omega arith
    more false a b c e f = omega arith

-- the next one is greater
pub Passes-stop : (n count m : ℕ) (old left rest : List ℕ) → Passes n count n old left → left ≡ m ∷ rest → m ≢ n → Passes n count (n + 1) old left
Passes-stop n count m old left rest h first other =
    let rise : Rise n (m ∷ rest) = subst (Rise n) first h.rise in
    record { sums = h.sums; rise = rw first (omega (arith, rise.0, other), rise.1) }

-- ---- one number after another

module _ (from n begun ended : ℕ) (old mid new : Remaining) (skips : SkipsEdges from old mid) (is : IsLeast mid.starts mid.stops n)
    (begins : Rise n mid.starts → Passes n begun (n + 1) mid.starts new.starts) (ends : Rise n mid.stops → Passes n ended (n + 1) mid.stops new.stops) where
  starts-passed : Passes n begun (n + 1) mid.starts new.starts
  starts-passed = begins (is.starts_rise from skips.rise.starts)

  stops-passed : Passes n ended (n + 1) mid.stops new.stops
  stops-passed = ends (is.stops_rise from skips.rise.stops)

  low : from ≤ n
  low = is.least from skips.rise.starts skips.rise.stops

  later : RiseFrom (n + 1) new
  later = record { starts = starts-passed.rise; stops = stops-passed.rise }

  -- what is passed is the change there
  net-passed : (z : ℤ) → pos ended +ℤ z ≡ pos begun → (passes : ℕ → Bool) → net passes old ≡ (if passes n then z else pos 0) +ℤ net passes new
  net-passed z sum passes = skips.sums passes ∙ go (passes n) _ _ _ _ (starts-passed.sums passes) (stops-passed.sums passes)
    where
      go : (here : Bool) (a b c d : ℕ) → a ≡ (if here then begun else 0) + b → c ≡ (if here then ended else 0) + d
          → pos a -ℤ pos c ≡ (if here then z else pos 0) +ℤ (pos b -ℤ pos d)
      go true a b c d e f = omega (arith, ints, sum, e, f)
      go false a b c d e f = omega (arith, ints, e, f)

  pub takes-change : (z : ℤ) → pos ended +ℤ z ≡ pos begun → begun ≢ ended → TakesChange from old n z new
  takes-change z sum other = record { low = low; other = λ none. other (omega (arith, ints, sum, none)); sums = net-passed z sum; later = later }

  pub skips-next : begun ≡ ended → SkipsEdges from old new
  skips-next same = record {
    sums = λ passes. net-passed (pos 0) (omega (arith, ints, same)) passes ∙ none (passes n) _;
    rise = rise-lower from (n + 1) new (omega (arith, low)) later;
  }
    where
      none : (here : Bool) (z : ℤ) → (if here then pos 0 else pos 0) +ℤ z ≡ z
      none true z = omega (arith, ints)
      none false z = omega (arith, ints)

-- something is passed
pub fewer-left : (n begun ended : ℕ) (mid new : Remaining) → IsLeast mid.starts mid.stops n
    → (begun ≡ 0 → BeginsElse n mid.starts) → (ended ≡ 0 → BeginsElse n mid.stops)
    → begun + length new.starts ≡ length mid.starts → ended + length new.stops ≡ length mid.stops → edge_count new < edge_count mid
fewer-left n begun ended mid new is no_start no_stop starts_len stops_len = go (cases_lt 0 begun) (cases_lt 0 ended)
  where
    go : (0 < begun) ⊎ (begun ≤ 0) → (0 < ended) ⊎ (ended ≤ 0) → edge_count new < edge_count mid
    go (inl some) b = omega (arith, some, starts_len, stops_len)
    go (inr none) (inl some) = omega (arith, some, starts_len, stops_len)
    go (inr none) (inr nothing) = absurd (is.first (no_start (omega (arith, none))) (no_stop (omega (arith, nothing))))

-- none is left
pub nothing-left : (from : ℕ) (old left : Remaining) → left.starts ≡ [] → left.stops ≡ [] → SkipsEdges from old left → (passes : ℕ → Bool) → net passes old ≡ pos 0
nothing-left from old left no_starts no_stops skips passes =
    skips.sums passes ∙ ap₂ {C = ℤ} (λ (k l : List ℕ). pos (count_by passes k) -ℤ pos (count_by passes l)) no_starts no_stops

-- ---- the depth, from one change to the next

module _ (f : ℕ → ℕ) (from limit depth : ℕ) (edges : Remaining) (ahead : IsAhead f from limit depth edges) where
  module _ (n : ℕ) (z : ℤ) (after : Remaining) (takes : TakesChange from edges n z after) where
    before : (p : ℕ) → p < n → net (λ m. nat_le m p) edges ≡ pos 0
    before p low =
        takes.sums (λ m. nat_le m p)
        ∙ ap₂ {C = ℤ} (λ (b : Bool) (y : ℤ). (if b then z else pos 0) +ℤ y) (lt-leb n p low) (net-before (n + 1) p after takes.later (omega (arith, low)))

    since : (p : ℕ) → n ≤ p → net (λ m. nat_le m p) edges ≡ z +ℤ net (λ m. nat_le m p) after
    since p low = takes.sums (λ m. nat_le m p) ∙ ap {B = ℤ} (λ (b : Bool). (if b then z else pos 0) +ℤ net (λ m. nat_le m p) after) (le-leb n p low)

    here : pos depth +ℤ z ≡ pos (f n)
    here = omega (arith, ints, ahead.depths n takes.low, since n (omega arith), net-before (n + 1) n after takes.later (omega arith))

    high : n ≤ limit
    high = elim (cases_lt limit n) [
      | inl past ↦ absurd (takes.other (omega (arith, ints, here, ahead.depths limit ahead.low, before limit past, ahead.ends limit (omega arith), ahead.ends n (omega (arith, past)))))
      | inr within ↦ within
    ]

    pub IsChange-next : IsChange f from limit depth (n, z)
    IsChange-next = record {
      low = takes.low;
      high = high;
      same = λ q from_here below. omega (arith, ints, ahead.depths q from_here, before q below);
      other = λ _ is. takes.other (omega (arith, ints, here, is));
      sum = here;
      small = ahead.small n;
    }

    pub IsAhead-next : IsAhead f n limit (f n) after
    IsAhead-next = record {
      rise = rise-lower n (n + 1) after (omega arith) takes.later;
      low = high;
      depths = λ p past. omega (arith, ints, here, ahead.depths p (omega (arith, past, takes.low)), since p past);
      small = ahead.small;
      ends = ahead.ends;
    }

  -- past the last change it stays
  pub IsAhead-end : ((passes : ℕ → Bool) → net passes edges ≡ pos 0) → (q : ℕ) → from ≤ q → f q ≡ depth
  IsAhead-end none q low = omega (arith, ints, ahead.depths q low, none (λ n. nat_le n q))

-- so the next change of numbers is that of the depth
pub Gives-next : (seq : ℕ) (old : Remaining) (o : Option (ℕ × ℤ)) (new : Remaining) → GivesChange old o new
    → Gives (λ edges g f seq from d. IsAhead (f seq) from (sequence_length g seq) d edges) (λ _ _ _ _. Unit {0}) seq old o new
Gives-next seq old (Some c) new gives = λ g f from d ahead.
    let takes = gives from ahead.rise in (
      IsChange-next (f seq) from (sequence_length g seq) d old ahead c.0 c.1 new takes,
      IsAhead-next (f seq) from (sequence_length g seq) d old ahead c.0 c.1 new takes,
    )
Gives-next seq old None new gives = λ g f from d ahead. (IsAhead-end (f seq) from (sequence_length g seq) d old ahead (gives from ahead.rise), tt)

-- ---- the records of one sequence

module _ (g : Sequences) (seq : ℕ) where
  -- as many records cover p as start up to it, less those that stop up to it
  edges-depth : (p : ℕ) (records : List RecordValue) → All (IsOnGenome g) records
      → depth records seq p + up_to p (map stop_of (on seq records)) ≡ up_to p (map start_of (on seq records))
  edges-depth p [] h = refl
  edges-depth p (r ∷ records) h =
      let lies = All-head (IsOnGenome g) r records h in
      let rest = edges-depth p records (All-tail (IsOnGenome g) r records h) in
      elim (cases_Bool (r.seq == seq)) [
        | inl here ↦ go here lies.some (cases_lt p r.start) (cases_lt p r.stop) rest
        | inr off ↦ rw (depth-cons r records seq p, off) (omega (arith, rest))
      ]
    where
      go : (r.seq == seq) ≡ true → r.start < r.stop → (p < r.start) ⊎ (r.start ≤ p) → (p < r.stop) ⊎ (r.stop ≤ p)
          → depth records seq p + up_to p (map stop_of (on seq records)) ≡ up_to p (map start_of (on seq records))
          → depth (r ∷ records) seq p + up_to p (map stop_of (on seq (r ∷ records))) ≡ up_to p (map start_of (on seq (r ∷ records)))
      go here some (inl before) (inl low) rest =
          rw (depth-cons r records seq p, here, lt-leb r.start p before, lt-leb r.stop p low) (omega (arith, rest))
      go here some (inl before) (inr past) rest = absurd (omega (arith, some))
      go here some (inr begun) (inl low) rest =
          rw (depth-cons r records seq p, here, le-leb r.start p begun, lt-leb r.stop p low, lt-ltb p r.stop low) (omega (arith, rest))
      go here some (inr begun) (inr past) rest =
          rw (depth-cons r records seq p, here, le-leb r.start p begun, le-leb r.stop p past, le-ltb p r.stop past) (omega (arith, rest))

  -- starts rise with the records
  starts-rise : (from : ℕ) (records : List RecordValue) → AreInOrder records → ((r : RecordValue) → Mem r records → r.seq ≡ seq → from ≤ r.start) → Rise from (map start_of (on seq records))
  starts-rise from [] order low = tt
  starts-rise from (r ∷ records) order low = elim (cases_Bool (r.seq == seq)) [
    | inl here ↦
        let at : r.seq ≡ seq = eqb-true r.seq seq here in
        rw here (low r (inl refl) at, starts-rise r.start records order.1 (λ q m on_it. after q at on_it (precedes-from r q (all-recursion (λ y. is_le (record_cmp r y) ≡ true) records order.0 q m))))
    | inr off ↦ rw off (starts-rise from records order.1 (λ q m on_it. low q (inr m) on_it))
  ]
    where
      after : (q : RecordValue) → r.seq ≡ seq → q.seq ≡ seq → Precedes r q → r.start ≤ q.start
      after q at on_it (inl lower) = absurd (omega (arith, at, on_it))
      after q at on_it (inr same) = same.1

  module _ (records left : List RecordValue) (new : Gathered) (left_is : left ≡ filter (is_from seq) records) (takes : TakesSequence seq left new)
      (order : AreInOrder records) (lie : All (IsOnGenome g) records) where
    -- so their starts, and their stops in order, are the edges of the depth
    pub edges-of : (edges : Remaining) → edges ≡ record { starts = new.starts; stops = new.stops } → AreEdgesOf (depth records seq) edges
    edges-of edges is =
        let on_it : on seq left ≡ on seq records = ap (on seq) left_is ∙ from-here seq records in
        let starts : new.starts ≡ map start_of (on seq records) = takes.starts ∙ ap (map start_of) on_it in
        subst (AreEdgesOf (depth records seq)) (sym is) (record {
          rise = record { starts = rw starts (starts-rise 0 records order (λ r m at. omega arith)); stops = takes.stops.rise };
          depths = λ p.
              omega (
                arith,
                ints,
                up_to-sum p new.starts,
                up_to-sum p new.stops,
                takes.stops.sums p,
                ap (up_to p) starts,
                ap (λ (l : List RecordValue). up_to p (map stop_of l)) on_it,
                edges-depth p records lie,
              );
        })

    pub IsAhead-begin : (edges : Remaining) → edges ≡ record { starts = new.starts; stops = new.stops } → length records < 2 ^ 63
        → IsAhead (depth records seq) 0 (sequence_length g seq) 0 edges
    IsAhead-begin edges is few = record {
      rise = (edges-of edges is).rise;
      low = omega arith;
      depths = λ p low. omega (arith, ints, (edges-of edges is).depths p);
      small = λ p. omega (arith, few, count_by-le-length (covers seq p) records);
      ends = depth-ends g records lie seq;
    }

    -- and those on later sequences are left
    pub left-next : new.left ≡ filter (is_from (seq + 1)) records
    left-next = takes.later ∙ ap (filter (λ r. nat_lt seq r.seq)) left_is ∙ from-later seq records
