-- The members of a group that remain of a walk.
use Rattle.std.specs.Prelude.{ℕ, ◌+◌, ◌≤◌, List, Option, None, Some}
use Rattle.std.specs.List.{AllByRecursion}
use Rattle.iv_lines.specs.Ordered.{AreInOrder}
use Rattle.iv_lines.specs.RecordValue.{RecordValue}

-- the members, in order, and how many records of the sequence, of any strand, the walk goes past for them
pub record MembersLeft : Type 0 where
  pub members : List RecordValue
  pub passed_records : ℕ

-- the records that a walk has left are in order, and none is on a sequence before this one
pub record IsAhead (seq : ℕ) (records : List RecordValue) : Type 0 where
  pub ordered : AreInOrder records
  pub ranks : AllByRecursion (λ r. seq ≤ r.seq) records

-- a call that gives none takes one step more, to find the end
abbrev pub end_step : {A : Type 0} → Option A → ℕ
end_step None = 1
end_step (Some r) = 0

-- between two readings of a meter is at most one step for each record that the walk went past, and `more`
pub record TakesForEach (before after : ℕ) (old new : MembersLeft) (more : ℕ) : Type 0 where
  pub no_less : before ≤ after
  pub at_most : after + new.passed_records ≤ before + old.passed_records + more
