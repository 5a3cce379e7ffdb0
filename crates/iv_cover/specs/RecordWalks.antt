-- What a walk over records gives.
use Rattle.std.specs.Prelude.{◌≡◌, List, [], ◌∷◌, Option, Some, None}
use Rattle.iv_lines.specs.Intervals.{interval_of}
use Rattle.iv_lines.specs.RecordValue.{RecordValue}
use Rattle.iv_lines.specs.declared.interval.Interval.{Interval}

-- a call gave the first of the records that were left, or none if none was left
abbrev pub GivesRecord : {R : Type 0} → (R → RecordValue) → List RecordValue → Option R → List RecordValue → Type 0
GivesRecord value old None new = (old ≡ []) × (new ≡ [])
GivesRecord value old (Some r) new = old ≡ value r ∷ new

-- a call showed the interval of the first of the records that are left, or that none is left
abbrev pub ShowsNext : List RecordValue → Option Interval → Type 0
ShowsNext records None = records ≡ []
ShowsNext records (Some shown) = (r : RecordValue) × (others : List RecordValue) × (records ≡ r ∷ others) × (shown ≡ interval_of r)

-- what was read ahead, if there is something, and those that are left
abbrev pub ahead_of : {T : Type 0} → Option T → List T → List T
ahead_of None items = items
ahead_of (Some item) items = item ∷ items
