use Rattle.std.proofs.Common.{◌≡◌, map, take}
use Rattle.iv_pair.specs.Inside.Counts.{end_of}
use Rattle.iv_pair.proofs.count_sweep.ends_of.Given as goal

-- the ends of the places so far, in the order of the places
abbrev pub invariant-loop-place : goal.invariant-loop-place
invariant-loop-place g l = l.ends.items ≡ map end_of (take l.place-index l.places)
