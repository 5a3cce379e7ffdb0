-- A region of a sequence, and the records that are in it or near it.
use Rattle.std.specs.Prelude.{ℕ, ◌+◌, ◌-◌, ◌*◌, ◌≤◌, ◌==◌, ◌&&◌, nat_lt, max, Bool, List, [], ◌∷◌, Option, Some, None, filter}
use Rattle.iv_lines.specs.RecordValue.{RecordValue}
use Rattle.iv_track.specs.declared.region.Region.{Region}

-- the interval from `from` to `to` shares a position with the one from `start` to `stop`; neither `to` nor `stop` is included
abbrev pub shares : ℕ → ℕ → ℕ → ℕ → Bool
shares start stop from to = nat_lt from stop && nat_lt start to

-- the record is on the sequence of this rank and shares a position with the interval from start to stop, which is not included
abbrev pub overlaps : ℕ → ℕ → ℕ → RecordValue → Bool
overlaps seq start stop q = (q.seq == seq) && shares start stop q.start q.stop

-- the records on the sequence of this rank that share a position with the interval from start to stop, in their order, copies repeated
abbrev pub hits : List RecordValue → ℕ → ℕ → ℕ → List RecordValue
hits records seq start stop = filter (λ q. (q.seq == seq) && shares start stop q.start q.stop) records

-- the greatest number of positions that a record has, 0 if there is no record
abbrev pub longest : List RecordValue → ℕ
longest [] = 0
longest (r ∷ records) = max (r.stop - r.start) (longest records)

-- the records on the region's sequence that start below its end, and so near before it that with twice the greatest length they
-- would reach it
abbrev pub near : Region → List RecordValue → List RecordValue
near at records = filter (λ r. (r.seq == at.seq) && (nat_lt r.start at.stop && nat_lt at.start (r.start + 2 * longest records))) records

-- what is left of a walk over the hits of a region: the hits, and how many records it may still pass before it ends
pub record HitsLeft : Type 0 where
  pub records : List RecordValue
  pub passes : ℕ

-- the last step of a walk, which finds no further hit
abbrev pub end_step : {X : Type 0} → Option X → ℕ
end_step None = 1
end_step (Some r) = 0

-- at most one step is between the two readings for each record that was passed, and so many more
pub record TakesForPassed (old new : ℕ) (before after : HitsLeft) (more : ℕ) : Type 0 where
  pub no_less : old ≤ new
  pub at_most : new + after.passes ≤ old + before.passes + more
