-- What was read ahead of a walk.
use Rattle.std.proofs.Common.{◌≡◌, ◌∙◌, [], ◌∷◌, List, Option, Some, None, false, map, refl, sym, ap}
use Rattle.std.specs.Prelude.{slice_get}
use Rattle.std.specs.Map.Iter.{TakesFirst}
use Rattle.std.specs.Option.{is_some, option_map}
use Rattle.iv_lines.specs.Intervals.{interval_of}
use Rattle.iv_lines.specs.RecordValue.{RecordValue}
use Rattle.iv_places.specs.Inside.Places.{interval_in}
use Rattle.iv_places.specs.declared.placed_records.Place.{Place}
use Rattle.iv_cover.specs.RecordWalks.{GivesRecord, ShowsNext}
use Rattle.iv_cover.specs.RecordWalks.{ahead_of}

-- what a walk gave is ahead of those that are left
pub ahead-read : {T : Type 0} (old new : List T) (given : Option T) → TakesFirst (λ (item : T). item) old given new → ahead_of given new ≡ old
ahead-read old new None gives = gives.1 ∙ sym gives.0
ahead-read old new (Some r) gives = sym gives

-- a record that a walk gave is ahead of those that are left
pub given-ahead : {R : Type 0} (value : R → RecordValue) (old new : List RecordValue) (given : Option R) → GivesRecord value old given new → ahead_of (option_map value given) new ≡ old
given-ahead value old new None gives = gives.1 ∙ sym gives.0
given-ahead value old new (Some r) gives = sym gives

-- no record was read ahead
pub none-ahead : {R : Type 0} (value : R → RecordValue) (records : List RecordValue) (ahead : Option R) → is_some ahead ≡ false → ahead_of (option_map value ahead) records ≡ records
none-ahead value records None none = refl
none-ahead value records (Some r) none = cc

-- ---- what is next

-- the interval of the first place is that of the first record
pub shows-next : (places : List Place) (records : List RecordValue) (p : Place) → map interval_in places ≡ map interval_of records → Some p ≡ slice_get places 0 → ShowsNext records (Some p.interval)
shows-next [] records p is first = absurd cc
shows-next (q ∷ places) [] p is first = absurd cc
shows-next (q ∷ places) (r ∷ records) p is first =
    let same : q.interval ≡ interval_of r = cc in
    let here : p ≡ q = cc in
    (r, records, refl, ap (λ (x : Place). x.interval) here ∙ same)
