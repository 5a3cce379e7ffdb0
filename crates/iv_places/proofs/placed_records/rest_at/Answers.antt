use Rattle.std.proofs.Common.{sym, arith}
use Rattle.iv_places.specs.Inside.Places.{rest_start}
use Rattle.iv_places.proofs.RestLemmas.{rest-found, rest-last, rest-past}
use Rattle.iv_places.proofs.placed_records.rest_at.Goals as goal

pub returns-then-from-rests : goal.returns-then-from-rests
returns-then-from-rests c = sym (rest-past c.args.rests.now (rest_start c.args.place) (omega (arith, c.if-from-rests.true)))

pub returns-in-Some : goal.returns-in-Some
returns-in-Some c = rest-found c.args.rests.now (rest_start c.args.place) c.in-Some.feed c.in-Some.ensures.0 c.in-Some.ensures.1

pub returns-in-None : goal.returns-in-None
returns-in-None c = rest-last c.args.rests.now (rest_start c.args.place) c.in-None.ensures
