use Rattle.std.proofs.Common.{sym, subst, arith}
use Rattle.iv_lines.specs.Lines.{HasNoFeed}
use Rattle.iv_places.proofs.PlaceLemmas.{plain-at}
use Rattle.iv_places.proofs.placed_records.record_of.Goals as goal

pub of_rest-requires-2-clause-plain : goal.of_rest-requires-2-clause-plain
of_rest-requires-2-clause-plain c =
    subst HasNoFeed (sym c.rest_at.ensures) (plain-at c.args.width c.args.rests.now c.args.place (omega (arith, c.if-width-lt4.false)) c.requires)
