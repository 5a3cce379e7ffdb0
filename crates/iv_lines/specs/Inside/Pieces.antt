-- Bytes that end with their line.
use Rattle.std.specs.Prelude.{◌≡◌, ◌⊎◌, ℕ, ◌++◌, List, [], ◌∷◌}
use Rattle.iv_lines.specs.Bytes.{line_feed}

-- the bytes end at a line feed
abbrev pub EndsAtFeed : List ℕ → Type 0
EndsAtFeed bytes = (front : List ℕ) × (bytes ≡ front ++ line_feed ∷ [])

-- the bytes are lines that are ended, each by its line feed, or there are none
abbrev pub IsEnded : List ℕ → Type 0
IsEnded bytes = (bytes ≡ []) ⊎ EndsAtFeed bytes
