use Rattle.std.proofs.Common.{◌∙◌, refl, sym}
use Rattle.iv_workspace.proofs.ResizeLemmas.{no_record-past, track-past, second-past, second-there, rows-some, rows-within}
use Rattle.iv_workspace.proofs.session.Session.has_record_past.Goals as goal

pub returns-then-length-end : goal.returns-then-length-end
returns-then-length-end g c =
    no_record-past _ c.args.self.now _ c.args.seq c.args.length c.length_or_zero-end.result c.self.view_is c.self.invariant.0
    c.length_or_zero-end.ensures c.if-length-end.true

pub returns-then-track_reaches_past : goal.returns-then-track_reaches_past
returns-then-track_reaches_past g c =
    track-past _ c.args.self.now c.args.seq c.args.length c.self.view_is (sym c.track_reaches_past.ensures ∙ c.if-track_reaches_past.true)

pub track_reaches_past-requires-clause-some : goal.track_reaches_past-requires-clause-some
track_reaches_past-requires-clause-some g c = rows-some c.self.inside.genome c.self.inside.track c.self.invariant.0.track_is

pub track_reaches_past-requires-clause-within : goal.track_reaches_past-requires-clause-within
track_reaches_past-requires-clause-within g c =
    rows-within c.self.inside.genome c.self.inside.track c.self.invariant.0.track_is c.args.seq c.length_or_zero-end.result c.length_or_zero-end.ensures

pub second_reaches_past-requires-clause-some : goal.second_reaches_past-requires-clause-some
second_reaches_past-requires-clause-some g c =
    let i = c.self.inside in
    rows-some i.genome c.in-Some.second (second-there i.genome i.second c.in-Some.second c.self.invariant.0.second_is c.in-Some.is)

pub second_reaches_past-requires-clause-within : goal.second_reaches_past-requires-clause-within
second_reaches_past-requires-clause-within g c =
    let i = c.self.inside in
    rows-within i.genome c.in-Some.second (second-there i.genome i.second c.in-Some.second c.self.invariant.0.second_is c.in-Some.is) c.args.seq c.length_or_zero-end.result
    c.length_or_zero-end.ensures

pub returns-in-Some : goal.returns-in-Some
returns-in-Some g c =
    second-past _ c.args.self.now _ c.args.seq c.args.length c.second_reaches_past.result c.self.view_is (sym c.track_reaches_past.ensures ∙ c.if-track_reaches_past.false) c.in-Some.is
    c.second_reaches_past.ensures

pub returns-in-None : goal.returns-in-None
returns-in-None g c =
    second-past _ c.args.self.now _ c.args.seq c.args.length _ c.self.view_is (sym c.track_reaches_past.ensures ∙ c.if-track_reaches_past.false) c.in-None.is refl
