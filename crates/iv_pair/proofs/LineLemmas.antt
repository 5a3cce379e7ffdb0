-- The lines of hits.
use Rattle.std.proofs.Common.{◌≡◌, ◌⊎◌, inl, inr, Bool, true, false, true≢false, List, [], ◌∷◌, ◌++◌, ℕ, Option, None, Some, is_some, if◌then◌else◌, Result, refl, ap, subst}
use Rattle.std.proofs.Math.Bool.{beq}
use Rattle.std.specs.Iterator.{AlwaysYields}
use Rattle.std.specs.List.{flat_map}
use Rattle.iv_bytes.specs.Sinks.{SinkState, FailsIn, Puts, Takes}
use Rattle.iv_bytes.proofs.PutLemmas.{Underway, Underway-begin, Underway-fails, Underway-more}
use Rattle.iv_lines.specs.Genome.{Sequences}
use Rattle.iv_lines.specs.RecordValue.{RecordValue}
use Rattle.iv_pair.specs.Hits.{hits_of}
use Rattle.iv_pair.specs.IntersectRows.{intersect_rows}
use Rattle.iv_pair.specs.Inside.HitLines.{AllOverlap, Overlaps, hit_line}
use Rattle.iv_pair.specs.declared.intersect.IntersectOutput.{IntersectOutput}
use Rattle.iv_pair.specs.declared.intersect.IntersectOutput.TheVariants.{IfHit, IfNoHit, Shared, SharedAndHit, Whole, WholeAndHit}
use Rattle.iv_pair.proofs.HitsLemmas.{hits-overlap}
use Rattle.iv_pair.proofs.YieldLemmas.{ended, went}

-- if a line is shown for each hit, they are the rows
lines-rows : (output : IntersectOutput) (g : Sequences) (a : RecordValue) (found : List RecordValue)
    → (output ≡ Shared) ⊎ ((output ≡ SharedAndHit) ⊎ ((output ≡ Whole) ⊎ (output ≡ WholeAndHit)))
    → flat_map (hit_line output g a) found ≡ intersect_rows output g a found
lines-rows output g a found (inl e) = rw e refl
lines-rows output g a found (inr (inl e)) = rw e refl
lines-rows output g a found (inr (inr (inl e))) = rw e refl
lines-rows output g a found (inr (inr (inr e))) = rw e refl

-- a record has no line if it has a hit and none is asked for, or the other way round
pub not-asked : {S A : Type 0} (steps : S → Option A → S → Type 0) (v : A → RecordValue) (has : Bool) (first : Option A) (s t : S) (found : List RecordValue)
    (g : Sequences) (a : RecordValue) → AlwaysYields steps v s found → steps s first t → beq (is_some first) has ≡ false
    → (if has then intersect_rows IfHit g a found else intersect_rows IfNoHit g a found) ≡ []
not-asked steps v true None s t found g a all step other = ap (intersect_rows IfHit g a) (ended steps v found s t all step)
not-asked steps v true (Some x) s t found g a all step other = absurd (true≢false other)
not-asked steps v false None s t found g a all step other = absurd (true≢false other)
not-asked steps v false (Some x) s t found g a all step other = ap (intersect_rows IfNoHit g a) (went steps v found s t x all step).1

-- a line was put for each hit of a record
pub Puts-hits : {T E : Type 0} (output : IntersectOutput) (g : Sequences) (a : RecordValue) (second : List RecordValue) (old new : SinkState) (result : Result T E)
    → (AllOverlap a (hits_of second a) → Puts old new result (flat_map (hit_line output g a) (hits_of second a)))
    → (output ≡ Shared) ⊎ ((output ≡ SharedAndHit) ⊎ ((output ≡ Whole) ⊎ (output ≡ WholeAndHit))) → Puts old new result (intersect_rows output g a (hits_of second a))
Puts-hits output g a second old new result put which =
    subst (Puts old new result) (lines-rows output g a (hits_of second a) which) (put (hits-overlap second a))

-- ---- hit by hit, as an iterator gives them

module _ {S T : Type 0} (steps : S → Option T → S → Type 0) (row_of : T → RecordValue) (a : RecordValue) (line : RecordValue → List ℕ) where
  -- the lines of the hits before are put, and those of the hits that are left remain to be written
  pub record LinesLeft (s : S) (begun now : SinkState) (all : List ℕ) : Type 0 where
    pub found : List RecordValue
    pub given : AlwaysYields steps row_of s found
    pub overlap : AllOverlap a found
    pub put : Underway begun now (flat_map line found) all

  pub LinesLeft-begin : (s : S) (found : List RecordValue) (begun : SinkState) → AlwaysYields steps row_of s found → AllOverlap a found → LinesLeft s begun begun (flat_map line found)
  LinesLeft-begin s found begun given overlap = record { found = found; given = given; overlap = overlap; put = Underway-begin _ _ }

  module _ (s t : S) (x : T) (begun mid : SinkState) (all : List ℕ) (step : steps s (Some x) t) (l : LinesLeft s begun mid all) where
    first : (rest : List RecordValue) × (l.found ≡ row_of x ∷ rest) × AlwaysYields steps row_of t rest
    first = went steps row_of l.found s t x l.given step

    each : AllOverlap a (row_of x ∷ first.0)
    each = subst (λ (f : List RecordValue). AllOverlap a f) first.1 l.overlap

    put_first : Underway begun mid (line (row_of x) ++ flat_map line first.0) all
    put_first = subst (λ (f : List RecordValue). Underway begun mid (flat_map line f) all) first.1 l.put

    pub LinesLeft-overlaps : Overlaps a (row_of x)
    LinesLeft-overlaps = each.0

    pub LinesLeft-next : (now : SinkState) → Takes mid now (line (row_of x)) → LinesLeft t begun now all
    LinesLeft-next now took = record { found = first.0; given = first.2; overlap = each.1; put = Underway-more _ _ _ _ _ _ put_first took }

    pub LinesLeft-fails : (now : SinkState) → FailsIn mid now (line (row_of x)) → FailsIn begun now all
    LinesLeft-fails now fails = Underway-fails _ _ _ _ _ _ put_first fails

  pub LinesLeft-ends : (s t : S) (begun now : SinkState) (all : List ℕ) → steps s None t → LinesLeft s begun now all → Underway begun now [] all
  LinesLeft-ends s t begun now all step l = subst (λ (f : List RecordValue). Underway begun now (flat_map line f) all) (ended steps row_of l.found s t l.given step) l.put
