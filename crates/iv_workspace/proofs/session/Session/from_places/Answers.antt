use Rattle.std.proofs.Common.{◌≡◌, Option, sym, subst}
use Rattle.std.specs.Prelude.{IfSome}
use Rattle.iv_track.specs.Tracked.{Tracked}
use Rattle.iv_workspace.specs.States.{tracked}
use Rattle.iv_workspace.specs.Inside.States.{IsTrackOn}
use Rattle.iv_workspace.proofs.SessionLemmas.{second-of_file, track-of_file}
use Rattle.iv_workspace.proofs.session.Session.from_places.Goals as goal

pub invariant_of-result : goal.invariant_of-result
invariant_of-result g c =
    let a = c.args in
    let is : c.in_ok-track.track ≡ tracked a.first a.limit = c.in_ok-track.ensures in
    let known = rw c.width-width.ensures.value at c.width-width.ensures.known in (
      record {
        track_is = subst (IsTrackOn a.genome) (sym is) (track-of_file a.genome a.first a.limit known c.requires.fit c.requires.few);
        second_is = subst (λ (o : Option Tracked). IfSome o (IsTrackOn a.genome)) (sym c.in_ok-second.ensures.value)
            (second-of_file a.genome a.second a.limit c.in_ok-second.ensures.known c.requires.second_fit c.requires.second_few);
        served = rw c.new.ensures tt;
        fresh = rw c.new.ensures tt;
      },
      rw c.new.ensures (tt, tt),
    )
