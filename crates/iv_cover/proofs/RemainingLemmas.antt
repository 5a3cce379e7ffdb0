-- One step of a walk over the records that are left.
use Rattle.std.proofs.Common.{ℕ, ◌≡◌, ◌∙◌, inl, inr, true, false, List, [], ◌∷◌, ◌++◌, Option, Some, None, refl, ap, ap₂, append_assoc}
use Rattle.std.specs.List.{flat_map}
use Rattle.std.proofs.lemmas.Bool.{cases_Bool, cond-true, cond-false}
use Rattle.iv_lines.specs.RecordValue.{RecordValue}
use Rattle.iv_cover.specs.Inside.TrackBlocks.{BlockWithMembers}
use Rattle.iv_cover.specs.Inside.RemainingBlocks.{is_joined, block_of, block_with, remaining_blocks}

-- a record that joins the open block
pub remaining-joined : (d : ℕ) (b : BlockWithMembers) (r : RecordValue) (rs : List RecordValue) → is_joined d b r ≡ true
    → remaining_blocks d (Some b) (r ∷ rs) ≡ remaining_blocks d (Some (block_with b r)) rs
remaining-joined d b r rs e =
    ap₂ (λ (l : List BlockWithMembers) (o : BlockWithMembers). l ++ remaining_blocks d (Some o) rs)
    (cond-true (is_joined d b r) [] (b ∷ []) e) (cond-true (is_joined d b r) (block_with b r) (block_of r) e)

-- a record that closes it
pub remaining-split_up : (d : ℕ) (b : BlockWithMembers) (r : RecordValue) (rs : List RecordValue) → is_joined d b r ≡ false
    → remaining_blocks d (Some b) (r ∷ rs) ≡ b ∷ remaining_blocks d None (r ∷ rs)
remaining-split_up d b r rs e =
    ap₂ (λ (l : List BlockWithMembers) (o : BlockWithMembers). l ++ remaining_blocks d (Some o) rs)
    (cond-false (is_joined d b r) [] (b ∷ []) e) (cond-false (is_joined d b r) (block_with b r) (block_of r) e)

-- ---- the records that are in the blocks

-- the members of a block that may be open
abbrev pub open_members : Option BlockWithMembers → List RecordValue
open_members None = []
open_members (Some b) = b.members

abbrev pub members_of : List BlockWithMembers → List RecordValue
members_of blocks = flat_map (λ b. b.members) blocks

-- each record that is left is in one of the remaining blocks, in order
pub remaining-members : (d : ℕ) (records : List RecordValue) (current : Option BlockWithMembers) → members_of (remaining_blocks d current records) ≡ open_members current ++ records
remaining-members d [] None = refl
remaining-members d [] (Some b) = refl
remaining-members d (r ∷ records) None = remaining-members d records (Some (block_of r))
remaining-members d (r ∷ records) (Some b) = elim (cases_Bool (is_joined d b r)) [
  | inl e ↦ ap members_of (remaining-joined d b r records e) ∙ remaining-members d records (Some (block_with b r)) ∙ append_assoc b.members (r ∷ []) records
  | inr e ↦ ap members_of (remaining-split_up d b r records e) ∙ ap (λ (l : List RecordValue). b.members ++ l) (remaining-members d records (Some (block_of r)))
]
