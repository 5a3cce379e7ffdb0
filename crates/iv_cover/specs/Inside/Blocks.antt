-- A record that keeps a position from starting a block.
use Rattle.std.specs.Prelude.{ℕ, ◌+◌, Bool, ◌&&◌, nat_lt, nat_le}

module _ {X : Type 0} (start stop : X → ℕ) (d : ℕ) where
  -- the record starts before x and reaches it, over a gap of at most d: start < x ≤ stop + d
  abbrev pub reaches : ℕ → X → Bool
  reaches x r = nat_lt (start r) x && nat_le x (stop r + d)
