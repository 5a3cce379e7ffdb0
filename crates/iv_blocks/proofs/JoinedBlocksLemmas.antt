-- The first of the blocks that are joined in a walk over records.
use Rattle.std.proofs.Common.{ℕ, ◌≡◌, ◌∙◌, ◌++◌, inl, inr, List, [], ◌∷◌, Option, Some, None, refl, sym, ap}
use Rattle.std.proofs.lemmas.Bool.{cases_Bool}
use Rattle.iv_lines.specs.RecordValue.{RecordValue}
use Rattle.iv_cover.specs.Inside.TrackBlocks.{BlockWithMembers}
use Rattle.iv_cover.specs.Inside.RemainingBlocks.{is_joined, block_of, block_with, remaining_blocks}
use Rattle.iv_cover.proofs.RemainingLemmas.{members_of, remaining-joined, remaining-members, remaining-split_up}
use Rattle.iv_cover.specs.RecordWalks.{ahead_of}
use Rattle.iv_blocks.specs.Inside.JoinedBlocks.{first_start}

-- a block that is open starts where it did
open-start : (d : ℕ) (records : List RecordValue) (b : BlockWithMembers) → first_start (remaining_blocks d (Some b) records) ≡ Some (b.sequence, b.start)
open-start d [] b = refl
open-start d (r ∷ records) b = elim (cases_Bool (is_joined d b r)) [
  | inl e ↦ ap first_start (remaining-joined d b r records e) ∙ open-start d records (block_with b r)
  | inr e ↦ ap first_start (remaining-split_up d b r records e)
]

-- the first of the blocks starts with the first record
pub remaining-start : (d : ℕ) (r : RecordValue) (records : List RecordValue) → first_start (remaining_blocks d None (r ∷ records)) ≡ Some (r.seq, r.start)
remaining-start d r records = open-start d records (block_of r)

-- the members of the first block are the first of the records that are left, in a walk that is begun again from the same place too
pub again-members : (d : ℕ) (again ahead : Option RecordValue) (records left : List RecordValue) → again ≡ ahead → records ≡ left → (b : BlockWithMembers) (more : List BlockWithMembers)
    → remaining_blocks d None (ahead_of ahead left) ≡ b ∷ more → ahead_of again records ≡ b.members ++ members_of more
again-members d again ahead records left first others b more is =
    (λ i. ahead_of (first i) (others i)) ∙ sym (remaining-members d (ahead_of ahead left) None) ∙ ap members_of is
