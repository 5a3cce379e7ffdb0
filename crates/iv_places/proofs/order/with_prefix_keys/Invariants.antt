use Rattle.std.proofs.Common.{◌≡◌, map, take}
use Rattle.iv_places.specs.Inside.Places.{place_of}
use Rattle.iv_places.proofs.order.with_prefix_keys.Given as goal

abbrev pub invariant-loop-place : goal.invariant-loop-place
invariant-loop-place g l = map place_of l.keyed.items ≡ take l.place-index l.places
