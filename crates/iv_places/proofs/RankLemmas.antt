-- Which sequences have a record.
use Rattle.std.proofs.Common.{◌≡◌, ◌∙◌, ℕ, ◌||◌, ◌==◌, Bool, List, [], ◌∷◌, Result, Ok, Err, IfOk, refl, ap}
use Rattle.std.specs.List.{list_any}
use Rattle.iv_places.specs.Inside.Places.{records_at}
use Rattle.iv_places.specs.Inside.Ranks.{has_rank, is_at, is_marked}
use Rattle.iv_places.specs.declared.placed_records.Place.{Place}

any-rows : (width : ℕ) (rests : List ℕ) (seq : ℕ) (ps : List Place) → list_any (is_at seq) ps ≡ list_any (has_rank seq) (records_at width rests ps)
any-rows width rests seq [] = refl
any-rows width rests seq (p ∷ ps) = ap (λ (b : Bool). (p.interval.seq == seq) || b) (any-rows width rests seq ps)

-- what is marked for places is marked for their records
pub any-records : {T E : Type 0} (r : Result T E) (marks : T → List Bool) (width : ℕ) (rests : List ℕ) (ps : List Place)
    → IfOk r (λ ranks. (seq : ℕ) → is_marked (marks ranks) seq ≡ list_any (is_at seq) ps)
    → IfOk r (λ ranks. (seq : ℕ) → is_marked (marks ranks) seq ≡ list_any (has_rank seq) (records_at width rests ps))
any-records (Ok ranks) marks width rests ps is = λ seq. is seq ∙ any-rows width rests seq ps
any-records (Err f) marks width rests ps is = tt
