-- What is held of the records of a file.
use Rattle.std.specs.Prelude.{ℕ, map}
use Rattle.iv_lines.specs.Bed.{Bed}
use Rattle.iv_lines.specs.Intervals.{bare}
use Rattle.iv_lines.specs.RecordValue.{RecordValue}
use Rattle.iv_places.specs.declared.places.HeldColumns.{HeldColumns}
use Rattle.iv_places.specs.declared.places.HeldColumns.TheVariants as held

-- a record with only the columns that are held
abbrev pub held_as : HeldColumns → RecordValue → RecordValue
held_as held.All = λ r. r
held_as held.Interval = bare

-- how many columns are held of a record that has so many
abbrev pub held_width : HeldColumns → ℕ → ℕ
held_width held.All width = width
held_width held.Interval width = 3

-- a file with only the columns that are held
abbrev pub held_bed : HeldColumns → Bed → Bed
held_bed columns file = record { width = held_width columns file.width; records = map (held_as columns) file.records }
