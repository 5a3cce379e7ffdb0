-- Records as places beside the rests of their lines.
use Rattle.std.specs.Prelude.{◌≡◌, ◌*◌, ◌<◌, ◌≤◌, ◌==◌, ◌++◌, ℕ, All, List, ◌∷◌, [], codes, cond, drop, map}
use Rattle.std.specs.List.Sorted.{IsSortedBy}
use Rattle.std.specs.Ordering.{is_lt}
use Rattle.iv_lines.specs.Bytes.{line_feed}
use Rattle.iv_lines.specs.Intervals.{interval_of}
use Rattle.iv_lines.specs.Lines.{HasNoFeed}
use Rattle.iv_lines.specs.RecordText.{joined_record, rest_text}
use Rattle.iv_lines.specs.RecordValue.{RecordValue, record_cmp}
use Rattle.iv_lines.specs.Widths.{IsWidth}
use Rattle.iv_lines.specs.declared.interval.Interval.{Interval}
use Rattle.iv_places.specs.declared.order.PrefixKeyed.{PrefixKeyed}
use Rattle.iv_places.specs.declared.placed_records.Place.{Place}

-- what `Rests` holds: the rests, each with the line feed that ends it, and how many columns their records have
pub record HeldRests : Type 0 where
  pub width : ℕ
  pub bytes : List ℕ

-- the rest that a text begins with: all before the first line feed
abbrev pub rest_in : List ℕ → List ℕ
rest_in [] = []
rest_in (b ∷ bs) = cond (b == line_feed) [] (b ∷ rest_in bs)

-- the rest that begins at this byte, empty past the end
unfoldable pub rest_at : List ℕ → ℕ → List ℕ
rest_at rests at = rest_in (drop at rests)

-- the byte at which the rest of a place begins: each begins at a multiple of four bytes
abbrev pub rest_start : Place → ℕ
rest_start p = 4 * p.rest

-- the record at a place
abbrev pub record_at : ℕ → List ℕ → Place → RecordValue
record_at width rests p = joined_record p.interval.seq p.interval.start p.interval.stop (rest_at rests (rest_start p)) width

-- the records at places
abbrev pub records_at : ℕ → List ℕ → List Place → List RecordValue
records_at width rests places = map (record_at width rests) places

-- the place of a record whose rest begins after so many times four bytes
abbrev pub place_at : RecordValue → ℕ → Place
place_at r at = record { interval = interval_of r; rest = at }

-- the place has a base
abbrev pub HasBase : Place → Type 0
HasBase p = p.interval.start < p.interval.stop

-- the interval of a place
abbrev pub interval_in : Place → Interval
interval_in p = p.interval

-- the place of one with its prefix key
abbrev pub place_of : PrefixKeyed → Place
place_of keyed = keyed.place

-- a rest begins at this byte, and a line feed ends it
pub record IsEnded (rests : List ℕ) (at : ℕ) : Type 0 where
  pub rest : List ℕ
  pub others : List ℕ
  pub are : drop at rests ≡ rest ++ line_feed ∷ others
  pub plain : HasNoFeed rest

-- the place has a base, the width is one of a record, and beyond width 3 its rest is ended, and is all that its record prints after the
-- third column
pub record IsPlace (width : ℕ) (rests : List ℕ) (p : Place) : Type 0 where
  pub some : HasBase p
  pub known : IsWidth width
  pub ended : 4 ≤ width → IsEnded rests (rest_start p)
  pub whole : 4 ≤ width → codes "\t" ++ rest_at rests (rest_start p) ≡ rest_text (record_at width rests p)

-- the places are those of records of this width, which is one of a record
pub record ArePlaces (width : ℕ) (rests : List ℕ) (places : List Place) : Type 0 where
  pub low : 3 ≤ width
  pub high : width ≤ 6
  pub all : All (IsPlace width rests) places

-- the places are in the order of a track: no record belongs in front of the one before it
abbrev pub AreInOrder : ℕ → List ℕ → List Place → Type 0
AreInOrder width rests places = IsSortedBy (λ x y. is_lt (record_cmp (record_at width rests x) (record_at width rests y))) places
