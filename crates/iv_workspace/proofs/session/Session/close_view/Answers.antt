use Rattle.std.proofs.Common.{◌∙◌, refl, ap, sym, subst}
use Rattle.std.specs.Map.{remove_entry}
use Rattle.std.specs.Str.{bytes_eq}
use Rattle.std.specs.Prelude.{IsSome}
use Rattle.iv_lines.specs.Named.{names_of}
use Rattle.iv_workspace.specs.Inside.ViewStates.{all_seen}
use Rattle.iv_workspace.specs.States.{State}
use Rattle.iv_workspace.specs.Inside.States.{IsServed, IsWrittenFresh}
use Rattle.iv_workspace.specs.Views.{view_named}
use Rattle.iv_workspace.proofs.OpenViewLemmas.{all-removed}
use Rattle.iv_workspace.proofs.SessionLemmas.{views-changed}
use Rattle.iv_workspace.proofs.session.Session.close_view.Goals as goal

pub returns-in_default-clause-why : goal.returns-in_default-clause-why
returns-in_default-clause-why g c = (refl, sym (c.in_default.ensures.seen ∙ ap (λ (s : State). view_named s.views c.args.name.now) c.self.view_is))

pub invariant_of-self : goal.invariant_of-self
invariant_of-self g c =
    let i = c.self.inside in (
      record {
        track_is = c.self.invariant.0.track_is;
        second_is = c.self.invariant.0.second_is;
        served = rw c.remove.ensures.seen (all-removed (λ v. IsServed i.second v.view) c.args.name.now (all_seen i.views) c.self.invariant.0.served);
        fresh = rw c.remove.ensures.seen (all-removed IsWrittenFresh c.args.name.now (all_seen i.views) c.self.invariant.0.fresh);
      },
      c.remove.ensures.right (names_of i.genome) i.track.records c.self.invariant.1,
    )

pub returns-clause-there : goal.returns-clause-there
returns-clause-there g c = subst (λ o. IsSome o) (c.in-Some.ensures.seen ∙ ap (λ (s : State). view_named s.views c.args.name.now) c.self.view_is) refl

pub returns-clause-ok : goal.returns-clause-ok
returns-clause-ok g c =
    views-changed (remove_entry (bytes_eq c.args.name.now)) _ c.args.self.now (all_seen c.remove.new.self) c.self.view_is c.remove.ensures.seen
