-- The blocks that are joined in a walk over records. This is the state of `JoinedBlocks`, as seen by its proof.
use Rattle.std.specs.Prelude.{ℕ, ◌≡◌, List, [], ◌∷◌, Option, Some, None, length}
use Rattle.iv_lines.specs.RecordValue.{RecordValue}
use Rattle.iv_lines.specs.declared.interval.Interval.{Interval}
use Rattle.iv_cover.specs.Inside.TrackBlocks.{BlockWithMembers, with_members}

-- a call gave the first of the blocks, and how many records are in it, or none if none is left
abbrev pub IsFirstOf : List BlockWithMembers → Option (Interval × ℕ) → List BlockWithMembers → Type 0
IsFirstOf old None new = (old ≡ []) × (new ≡ [])
IsFirstOf old (Some (block, count)) new = (members : List RecordValue) × (old ≡ with_members block members ∷ new) × (count ≡ length members)

-- a call gave the first of the blocks with its members, or none if none is left
abbrev pub GivesBlock : List BlockWithMembers → Option (Interval × List RecordValue) → List BlockWithMembers → Type 0
GivesBlock old None new = (old ≡ []) × (new ≡ [])
GivesBlock old (Some (block, members)) new = old ≡ with_members block members ∷ new

-- where the first of the blocks starts: the rank of its sequence, and the position
abbrev pub first_start : List BlockWithMembers → Option (ℕ × ℕ)
first_start [] = None
first_start (b ∷ blocks) = Some (b.sequence, b.start)
