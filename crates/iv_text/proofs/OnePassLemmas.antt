-- A line read in one pass from its front.
use Rattle.std.proofs.Common.{◌≡◌, ℕ, ◌+◌, ◌-◌, ◌<◌, ◌≤◌, Bool, true, false, ◌&&◌, not, nat_le, List, ◌∷◌, ◌++◌, Option, Some, None, Ok, length, find, refl, sym, ap, subst, ◌∙◌, arith, unwrap_or, take, drop, nat_eq}
use Rattle.std.proofs.lemmas.Bool.{eq-eqb, le-ltb, lt-leb, true≢false}
use Rattle.std.proofs.lemmas.Bool.Decides.{nat_tests}
use Rattle.iv_lines.specs.Fields.{columns}
use Rattle.iv_lines.specs.Number.{number}
use Rattle.iv_lines.specs.Inside.Fields.{HasNoTab, ArePassed}
use Rattle.iv_text.specs.Inside.OnePass.{BeginsWithName, BeginsWithNumber, BeginsWithInterval}
use Rattle.iv_lines.specs.declared.interval.Interval.{Interval}
use Rattle.std.specs.Borrow.{Bor}
use Rattle.std.specs.Prelude.{MatchOption, IfSome, IsSome}
use Rattle.std.specs.Option.{is_none}
use Rattle.iv_lines.proofs.ReadLemmas.{passed, read-parts}
use Rattle.iv_lines.specs.declared.fault.Fault.{Fault}
use Rattle.iv_lines.specs.declared.fault.Fault.TheVariants as fault
use Rattle.std.specs.Cmp.Lexicographic.{same_text, pointwise}
use Rattle.iv_lines.specs.Genome.{Sequences, length_at}
use Rattle.iv_lines.specs.Named.{name_index}
use Rattle.iv_lines.specs.Read.{read, feature, column, has_fault, faults, bad_text, number_in, length_of, AreSoundColumns}
use Rattle.iv_lines.specs.Chains.{unless_fault}
use Rattle.iv_lines.specs.Inside.Read.{AreCells}
use Rattle.iv_lines.specs.Inside.Rests.{record_with}
use Rattle.iv_lines.specs.RecordValue.{RecordValue, strand_of}
use Rattle.std.proofs.lemmas.List.{take-append-drop}
use Rattle.iv_lines.proofs.NumberLemmas.{number-plain}
use Rattle.iv_lines.proofs.FieldLemmas.{column-more}
use Rattle.iv_lines.proofs.PieceLemmas.{rest-whole}

-- a text is what is before an index and what is left from there on
pub parts-whole : (text : List ℕ) (at : ℕ) → text ≡ take at text ++ take (length text - at) (drop at text)
parts-whole text at = sym (take-append-drop at text) ∙ ap (λ t. take at text ++ t) (sym (rest-whole text at))

-- ---- columns

pub named-rest : (line name : List ℕ) (o : Option (Bor (List ℕ)))
    → MatchOption o (pointwise nat_eq (take (length name) line) name ≡ false) (λ x. (pointwise nat_eq (take (length name) line) name ≡ true) × (x.now ≡ drop (length name) line) × (length x.now + length name ≡ length line))
    → IfSome o (λ x. line ≡ name ++ x.now)
named-rest line name None h = tt
named-rest line name (Some x) h =
    sym (take-append-drop (length name) line) ∙ ap (λ t. t ++ drop (length name) line) (same_text (take (length name) line) name (sym h.0)) ∙ ap (λ t. name ++ t) (sym h.1)

place-columns : (line name d1 d2 rest : List ℕ) (others : List (List ℕ)) → line ≡ name ++ 9 ∷ (d1 ++ 9 ∷ (d2 ++ rest)) → HasNoTab name → HasNoTab d1 → HasNoTab d2 → ArePassed rest others
    → columns line ≡ name ∷ d1 ∷ d2 ∷ others
place-columns line name d1 d2 rest others whole p0 p1 p2 after =
    ap columns whole ∙ column-more name (d1 ++ 9 ∷ (d2 ++ rest)) p0
    ∙ ap (λ (cs : List (List ℕ)). name ∷ cs) (column-more d1 (d2 ++ rest) p1)
    ∙ ap (λ (cs : List (List ℕ)). name ∷ d1 ∷ cs) (after d2 p2)

-- columns that were cut from the front of a text
pub place-begins : (g : Sequences) (text name r1 r2 r3 rest : List ℕ) (rank from to len : ℕ)
    → BeginsWithName g text name rank len r1 → BeginsWithNumber r1 from r2 → r2 ≡ 9 ∷ r3 → BeginsWithNumber r3 to rest → from < to → to ≤ len
    → BeginsWithInterval g text (record { seq = rank; start = from; stop = to }) rest
place-begins g text name r1 r2 r3 rest rank from to len named starts e2 stops some within = record {
  name = name;
  starts = starts.0;
  stops = stops.0;
  len = len;
  text_is = named.1 ∙ ap (λ t. name ++ 9 ∷ t) (starts.1 ∙ ap (λ t. starts.0 ++ t) (e2 ∙ ap (λ t. 9 ∷ t) stops.1));
  named = named.0;
  start_is = starts.2;
  stop_is = stops.2;
  some = some;
  within = within;
}

-- ---- a line without a fault

guarded : (k w : ℕ) (t : Bool) → (k ≤ w → t ≡ false) → (nat_le k w && t) ≡ false
guarded k w t good = by (nat_le k w) refl
  where
    by : (u : Bool) → nat_le k w ≡ u → (u && t) ≡ false
    by true e = good (grind (arith, nat_tests, e))
    by false e = refl

is_there : {X : Type 0} (o : Option X) → IsSome o → is_none o ≡ false
is_there None h = cc
is_there (Some x) h = refl

none-found : (t : Fault → Bool) → t fault.Columns ≡ false → t fault.UnknownSeq ≡ false → t fault.StartNumber ≡ false → t fault.StopNumber ≡ false → t fault.Order ≡ false → t fault.PastEnd ≡ false
    → t fault.Name ≡ false → t fault.Score ≡ false → t fault.Strand ≡ false → find t faults ≡ None
none-found t h1 h2 h3 h4 h5 h6 h7 h8 h9 = simp (h1, h2, h3, h4, h5, h6, h7, h8, h9)

sound-line : (g : Sequences) (w : ℕ) (line seq start stop rest : List ℕ) (at : Interval) (len : ℕ)
    → AreCells w (columns line) seq start stop rest → name_index g seq ≡ Some at.seq → length_at g at.seq ≡ Some len → number start ≡ Some at.start → number stop ≡ Some at.stop
    → at.start < at.stop → at.stop ≤ len → AreSoundColumns w (record_with at rest w).name (record_with at rest w).score (record_with at rest w).strand
    → read g w line ≡ Ok (record_with at rest w)
sound-line g w line seq start stop rest at len cols rank_is length_is start_is stop_is some within sound =
    let cs = columns line in
    let r : RecordValue = feature g w cs in
    let ranked : name_index g (column cs 0) ≡ Some at.seq = ap (name_index g) cols.seq_is ∙ rank_is in
    let starts : number (column cs 1) ≡ Some at.start = ap number cols.start_is ∙ start_is in
    let stops : number (column cs 2) ≡ Some at.stop = ap number cols.stop_is ∙ stop_is in
    let at_rank : r.seq ≡ at.seq = ap (λ (o : Option ℕ). unwrap_or o 0) ranked in
    let at_start : number_in (column cs 1) ≡ at.start = ap (λ (o : Option ℕ). unwrap_or o 0) starts in
    let at_stop : number_in (column cs 2) ≡ at.stop = ap (λ (o : Option ℕ). unwrap_or o 0) stops in
    let known : unwrap_or (length_at g at.seq) 0 ≡ len = ap (λ (o : Option ℕ). unwrap_or o 0) length_is in
    let at_length : unwrap_or (length_at g r.seq) 0 ≡ len = ap (λ k. unwrap_or (length_at g k) 0) at_rank ∙ known in
    let none : find (has_fault g w cs) faults ≡ None =
    none-found (has_fault g w cs)
    (ap not (eq-eqb (length cs) w cols.count))
    (ap is_none ranked) (ap is_none starts) (ap is_none stops)
    (lt-leb (number_in (column cs 2)) (number_in (column cs 1)) (omega arith))
    (le-ltb (length_of g (column cs 0)) (number_in (column cs 2)) (omega arith))
    (guarded 4 w (bad_text (column cs 3)) (λ h. ap bad_text cols.name_is ∙ sound.name_good h))
    (guarded 5 w (bad_text (column cs 4)) (λ h. ap bad_text cols.score_is ∙ sound.score_good h))
    (guarded 6 w (is_none (strand_of (column cs 5))) (λ h. ap is_none cols.strand_is ∙ is_there (record_with at rest w).strand (sound.strand_good h))) in
    let same : r ≡ record_with at rest w =
    λ i. record { seq = at_rank i; start = at_start i; stop = at_stop i; name = cols.name_is i; score = cols.score_is i; strand = cols.strand_is i; width = w } in
    ap (λ o. unless_fault o (Ok r)) none ∙ ap Ok same

-- a line that was cut from its front
pub line-read : (g : Sequences) (w : ℕ) (line left rest : List ℕ) (others : List (List ℕ)) (at : Interval)
    → BeginsWithInterval g line at left → ArePassed left others → ((a b c : List ℕ) → AreCells w (a ∷ b ∷ c ∷ others) a b c rest)
    → AreSoundColumns w (record_with at rest w).name (record_with at rest w).score (record_with at rest w).strand
    → read g w line ≡ Ok (record_with at rest w)
line-read g w line left rest others at place after are sound =
    let cols = place-columns line place.name place.starts place.stops left others place.text_is
    place.named.plain (number-plain place.starts at.start place.start_is) (number-plain place.stops at.stop place.stop_is) after in
    let all : AreCells w (columns line) place.name place.starts place.stops rest =
    subst (λ (cs : List (List ℕ)). AreCells w cs place.name place.starts place.stops rest) (sym cols) (are place.name place.starts place.stops) in
    sound-line g w line place.name place.starts place.stops rest at place.len all place.named.rank_is place.named.length_is place.start_is place.stop_is place.some place.within sound

-- ---- a line that was read names its record's sequence

pub read-ranked : (g : Sequences) (w : ℕ) (line : List ℕ) (r : RecordValue) → read g w line ≡ Ok r → name_index g (column (columns line) 0) ≡ Some r.seq
read-ranked g w line r says = by (name_index g (column (columns line) 0)) refl
  where
    parts : (find (has_fault g w (columns line)) faults ≡ None) × (feature g w (columns line) ≡ r)
    parts = read-parts g w line r says

    by : (o : Option ℕ) → name_index g (column (columns line) 0) ≡ o → name_index g (column (columns line) 0) ≡ Some r.seq
    by (Some k) is = is ∙ ap Some (sym (ap (λ (o : Option ℕ). unwrap_or o 0) is) ∙ ap (λ (q : RecordValue). q.seq) parts.1)
    by None is = absurd (true≢false (sym (ap is_none is) ∙ (passed (has_fault g w (columns line)) faults parts.0).1.0))
