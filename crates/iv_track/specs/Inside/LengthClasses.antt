-- How many records of a track are about as long as each other. This is a part of the state of `Track`, as seen by its proof.
use Rattle.std.specs.Prelude.{◌≡◌, ℕ, ◌-◌, ◌==◌, List, length, count_by, slice_index_or}
use Rattle.std.specs.Int.Count.{count_leading_zeros}
use Rattle.iv_lines.specs.RecordValue.{RecordValue}

-- how many binary digits the number of the record's positions has
abbrev pub length_class : RecordValue → ℕ
length_class r = 32 - count_leading_zeros 32 (r.stop - r.start)

-- how many of the records have so many digits
abbrev pub with_class : List RecordValue → ℕ → ℕ
with_class records k = count_by (λ r. length_class r == k) records

-- there is a counter for each number of digits, and it says how many of the records have so many
pub record AreClasses (counts : List ℕ) (records : List RecordValue) : Type 0 where
  pub classes : length counts ≡ 33
  pub counted : (k : ℕ) → slice_index_or counts k 0 ≡ with_class records k
