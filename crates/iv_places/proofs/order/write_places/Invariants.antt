use Rattle.std.proofs.Common.{◌≡◌, length, map, take}
use Rattle.iv_places.specs.Inside.Places.{place_of}
use Rattle.iv_places.proofs.order.write_places.Given as goal

abbrev pub invariant-loop-index : goal.invariant-loop-index
invariant-loop-index g l = record {
  len : length l.places.items ≡ length l.fn.keyed;
  put : take l.index l.places.items ≡ take l.index (map place_of l.fn.keyed);
}
