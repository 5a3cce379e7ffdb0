-- What digits mean, as they are read one by one.
use Rattle.std.specs.Prelude.{ℕ, ◌+◌, ◌*◌, ◌-◌, List, fold}

-- what digits mean, after a number read so far
abbrev pub decimal_from : ℕ → List ℕ → ℕ
decimal_from n bs = fold (λ n b. n * 10 + (b - 48)) n bs
