-- What an edit of a list leaves as it was.
use Rattle.std.specs.Prelude.{◌≡◌, ℕ, ◌+◌, ◌<◌, ◌≤◌, List, [], ◌++◌, length, take, drop, Option, Some, None}
use Rattle.std.specs.Vec.{vec_items}
use Rattle.std.specs.declared.vec.Vec.{Vec}

module _ {X : Type 0} where
  -- at most m others came for n items from the index p on: those before them and those after them are the same
  pub record IsReplaced (old : List X) (p n m : ℕ) (new : List X) : Type 0 where
    pub others : List X
    pub few : length others ≤ m
    pub are : new ≡ take p old ++ (others ++ drop (p + n) old)

  -- and the index q is of one of those others
  pub record IsAmong (old : List X) (p n m : ℕ) (new : List X) (q : ℕ) : Type 0 where
    pub replaced : IsReplaced old p n m new
    pub no_less : p ≤ q
    pub below : q < p + length replaced.others

-- the items of a list that may not have been made yet
abbrev pub listed : {X Z : Type 0} → Option (Vec X Z) → List X
listed None = []
listed (Some list) = vec_items list
