-- How many columns a BED file has.
use Rattle.std.specs.Prelude.{ℕ, ◌≤◌}

-- from three, which give a record's interval, to six, with a name, a score and a strand
abbrev pub IsWidth : ℕ → Type 0
IsWidth n = (3 ≤ n) × (n ≤ 6)
