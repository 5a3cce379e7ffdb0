use Rattle.std.specs.Prelude.{IsSomeAnd, IfSome}
use Rattle.std.proofs.Common.{Option, sym, ap, subst}
use Rattle.iv_lines.specs.Read.{Fits}
use Rattle.iv_track.specs.Tracked.{Tracked}
use Rattle.iv_workspace.specs.Edits.{EditFits, FitsIn}
use Rattle.iv_workspace.specs.States.{State}
use Rattle.iv_workspace.specs.Inside.States.{IsTrackOn}
use Rattle.iv_workspace.specs.Inside.ViewStates.{all_seen}
use Rattle.iv_workspace.specs.declared.session.edits.Target.{Target}
use Rattle.iv_workspace.proofs.EditLemmas.{track-edited, fits-second, session-second}
use Rattle.iv_workspace.proofs.SessionLemmas.{session-stales}
use Rattle.iv_workspace.proofs.session.Session.edit.Goals as goal

pub invariant_of-self-in-First : goal.invariant_of-self-in-First
invariant_of-self-in-First g c =
    let i = c.self.inside in
    let e = c.args.edit.now in
    let done = c.in_ok-edit_track-in-First.ensures.ok in
    let fits : EditFits (Fits i.genome i.track.width) e =
    subst (λ (s : State). EditFits (Fits s.genome s.track.width) e) (sym c.self.view_is) (subst (λ (to : Target). EditFits (FitsIn c.args.self.now to) e) c.in-First.is c.requires) in
    let on : IsTrackOn i.genome c.edit_track.new.track =
    subst (IsTrackOn i.genome) (sym (ap (λ (s : State). s.track) done.1)) (track-edited i.genome i.track e c.self.invariant.0.track_is fits done.0) in
    (session-stales i.genome i.track c.edit_track.new.track i.second _ _ c.self.invariant.0 on done.2, c.edit_track.ensures.right)

pub invariant_of-self-in-Second : goal.invariant_of-self-in-Second
invariant_of-self-in-Second g c =
    let i = c.self.inside in
    let e = c.args.edit.now in
    let t = c.in-Some.second in
    let done = c.in_ok-edit_second-in-Second.ensures in
    let there = fits-second e _ c.args.self.now c.self.view_is (subst (λ (to : Target). EditFits (FitsIn c.args.self.now to) e) c.in-Second.is c.requires) in
    let fits : EditFits (Fits i.genome t.width) e = subst (λ (o : Option Tracked). IsSomeAnd o (λ u. EditFits (Fits i.genome u.width) e)) c.in-Some.is there in
    let was : IsTrackOn i.genome t = subst (λ (o : Option Tracked). IfSome o (IsTrackOn i.genome)) c.in-Some.is c.self.invariant.0.second_is in
    let on : IsTrackOn i.genome c.edit_second.new.second = subst (IsTrackOn i.genome) (sym done.ok) (track-edited i.genome t e was fits done.there) in
    (session-second i.genome i.track i.second c.edit_second.new.second (all_seen i.views) c.self.invariant.0 on, c.self.invariant.1)
