-- Records on one sequence, and the positions that a record covers.
use Rattle.std.specs.Prelude.{ℕ, ◌==◌, ◌&&◌, nat_lt, nat_le, Bool, List, filter}
use Rattle.iv_lines.specs.RecordValue.{RecordValue}

-- the records on the sequence of this rank
abbrev pub on : ℕ → List RecordValue → List RecordValue
on sequence records = filter (λ r. r.seq == sequence) records

-- the record covers position p, from 0, of the sequence of this rank
abbrev pub covers : ℕ → ℕ → RecordValue → Bool
covers sequence p r = (r.seq == sequence) && (nat_le r.start p && nat_lt p r.stop)
