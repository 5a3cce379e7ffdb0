-- The lines of a text.
use Rattle.std.specs.Prelude.{◌≢◌, All, ℕ, ◌==◌, ◌&&◌, Bool, false, cond, List, [], ◌∷◌}
use Rattle.std.specs.List.{onto_first}
use Rattle.iv_lines.specs.Bytes.{carriage_return, line_feed}

-- the bytes begin with this one
abbrev pub begins_with : ℕ → List ℕ → Bool
begins_with b [] = false
begins_with b (c ∷ cs) = c == b

-- A line feed ends a line. A carriage return directly before one is dropped. Any other byte is the first of the line that it is in;
-- if no line follows, it is a line of its own.
abbrev pub lines : List ℕ → List (List ℕ)
lines [] = []
lines (b ∷ bs) =
    cond (b == line_feed) ([] ∷ lines bs)
    (cond ((b == carriage_return) && begins_with line_feed bs) (lines bs)
    (onto_first b (lines bs)))

-- no line feed is among the bytes
abbrev pub HasNoFeed : List ℕ → Type 0
HasNoFeed bytes = All (λ b. b ≢ line_feed) bytes
