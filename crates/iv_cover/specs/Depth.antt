-- How many records cover a position.
use Rattle.std.specs.Prelude.{ℕ, ◌==◌, ◌&&◌, nat_le, nat_lt, List, count_by}
use Rattle.iv_lines.specs.RecordValue.{RecordValue}

-- how many records cover position p of the sequence of this rank, copies counted
abbrev pub depth : List RecordValue → ℕ → ℕ → ℕ
depth records sequence p = count_by (λ r. (r.seq == sequence) && (nat_le r.start p && nat_lt p r.stop)) records
