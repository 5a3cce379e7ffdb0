use Rattle.std.specs.Prelude.{IfErr}
use Rattle.std.proofs.Common.{◌≡◌, ◌∙◌, ◌<◌, List, ap, sym, subst, arith}
use Rattle.std.proofs.lemmas.Result.{err_from_is_err_and}
use Rattle.iv_lines.specs.Ordered.{added, copies}
use Rattle.iv_lines.specs.Read.{Fits}
use Rattle.iv_lines.specs.RecordValue.{RecordValue}
use Rattle.iv_lines.specs.declared.fault.Fault.TheVariants as fault
use Rattle.iv_ledger.specs.Steps.{TakesUpTo}
use Rattle.iv_track.specs.Tracked.{Tracked}
use Rattle.iv_track.proofs.Edits.{refused-absent}
use Rattle.iv_workspace.specs.Edits.{EditFits, IsEdited, RefusesEdit, most_steps}
use Rattle.iv_workspace.specs.OpenViews.{all_steps}
use Rattle.iv_workspace.specs.Inside.States.{over}
use Rattle.iv_workspace.specs.Inside.ViewStates.{all_seen}
use Rattle.iv_workspace.specs.declared.session.edits.Edit.{Edit}
use Rattle.iv_workspace.specs.declared.session.edits.Target.TheVariants as target
use Rattle.iv_workspace.specs.declared.views.states.Change.TheVariants.{Added, Removed}
use Rattle.iv_workspace.proofs.EditLemmas.{Changed, changed-added, changed-removed, replaced-is, staged-there}
use Rattle.iv_workspace.proofs.OpenViewLemmas.{stales-trans, stales-steps}
use Rattle.iv_workspace.proofs.session.edits.edit_track.Goals as goal

pub returns-in_err-add-in-Add-clause-why : goal.returns-in_err-add-in-Add-clause-why
returns-in_err-add-in-Add-clause-why g c =
    let t = c.args.track.now in
    let p = err_from_is_err_and c.from_residual.result c.from_residual.ensures.1 in
    subst (λ (e : Edit). IfErr c.from_residual.result (RefusesEdit e t)) (sym c.in-Add.is)
    (rw (p.1, p.2) c.in_err-add-in-Add.ensures.why)

pub repair-requires-clause-fit : goal.repair-requires-clause-fit
repair-requires-clause-fit g c =
    let t = c.args.track.now in
    let fits : Fits c.args.genome.now t.width c.in-Add.feature = subst (λ (e : Edit). EditFits (Fits c.args.genome.now t.width) e) c.in-Add.is c.requires.fits in
    let is : Changed Added c.args.genome.now t c.add.new.self c.in-Add.feature =
    changed-added c.args.genome.now t c.add.new.self c.in-Add.feature c.requires.on.fit fits c.in_ok-add-in-Add.ensures.ok in
    is.fit

pub repair-requires-in-Remove : goal.repair-requires-in-Remove
repair-requires-in-Remove g c =
    let t = c.args.track.now in
    let e = c.in_ok-remove-in-Remove.ensures in
    let fits : Fits c.args.genome.now t.width c.in-Remove.feature = subst (λ (e : Edit). EditFits (Fits c.args.genome.now t.width) e) c.in-Remove.is c.requires.fits in
    let is : Changed Removed c.args.genome.now t c.remove.new.self c.in-Remove.feature =
    changed-removed c.args.genome.now t c.remove.new.self c.in-Remove.feature c.requires.on.fit fits e.was_ordered e.there e.ok in
    record { right = record { before = t.records; right = c.requires.right; changed = is.changed }; fit = is.fit; fits = is.fits }

pub returns-in_ok-remove-in-Remove-clause-ok : goal.returns-in_ok-remove-in-Remove-clause-ok
returns-in_ok-remove-in-Remove-clause-ok g c =
    let t = c.args.track.now in
    let e = c.in_ok-remove-in-Remove.ensures in
    let views = all_seen c.repair-in-Remove.new.self in
    subst (λ (e : Edit). IsEdited target.First e (over t (all_seen c.args.views.now)) (over c.remove.new.self views)) (sym c.in-Remove.is) (
      e.there,
      ap (λ (u : Tracked). over u views) e.ok,
      c.repair-in-Remove.ensures.stales,
    )

pub returns-in_ok-remove-in-Remove-clause-steps : goal.returns-in_ok-remove-in-Remove-clause-steps
returns-in_ok-remove-in-Remove-clause-steps g c =
    let t = c.args.track.now in
    let e = c.in_ok-remove-in-Remove.ensures in
    let r = c.in-Remove.feature in
    let views = all_seen c.args.views.now in
    let fits : Fits c.args.genome.now t.width r = subst (λ (e : Edit). EditFits (Fits c.args.genome.now t.width) e) c.in-Remove.is c.requires.fits in
    let is : Changed Removed c.args.genome.now t c.remove.new.self r =
    changed-removed c.args.genome.now t c.remove.new.self r c.requires.on.fit fits e.was_ordered e.there e.ok in
    let same : all_steps views (added c.remove.new.self.records r) r ≡ all_steps views t.records r = ap (λ (l : List RecordValue). all_steps views l r) (sym is.changed) in
    let more = c.repair-in-Remove.ensures.steps in
    subst (λ (e : Edit). TakesUpTo c.args.meter.now c.repair-in-Remove.new.meter (most_steps target.First e (over t views))) (sym c.in-Remove.is)
    (record { no_less = omega (arith, e.steps.no_less, more.no_less); at_most = omega (arith, same, e.steps.at_most, more.at_most) })

pub returns-then-copies-eq0-clause-why : goal.returns-then-copies-eq0-clause-why
returns-then-copies-eq0-clause-why g c =
    let t = c.args.track.now in
    let none : copies t.records c.in-Replace.old ≡ 0 = omega (arith, c.copies.ensures.value, c.if-copies-eq0.true) in
    subst (λ (e : Edit). RefusesEdit e t fault.Absent) (sym c.in-Replace.is) none

pub returns-in_err-stage-in-Replace-clause-why : goal.returns-in_err-stage-in-Replace-clause-why
returns-in_err-stage-in-Replace-clause-why g c =
    let t = c.args.track.now in
    let p = err_from_is_err_and c.from_residual-in_err-stage-in-Replace.result c.from_residual-in_err-stage-in-Replace.ensures.1 in
    let there : 0 < copies t.records c.in-Replace.old = omega (arith, c.copies.ensures.value, c.if-copies-eq0.false) in
    subst (λ (e : Edit). IfErr c.from_residual-in_err-stage-in-Replace.result (RefusesEdit e t)) (sym c.in-Replace.is)
    (rw (p.1, p.2) (there, c.in_err-stage-in-Replace.ensures.memory))

pub repair-requires-in-Replace-clause-fit : goal.repair-requires-in-Replace-clause-fit
repair-requires-in-Replace-clause-fit g c =
    let t = c.args.track.now in
    let fits : Fits c.args.genome.now t.width c.in-Replace.old × Fits c.args.genome.now t.width c.in-Replace.new = subst (λ (e : Edit). EditFits (Fits c.args.genome.now t.width) e) c.in-Replace.is c.requires.fits in
    let is : Changed Added c.args.genome.now t c.stage.new.self c.in-Replace.new =
    changed-added c.args.genome.now t c.stage.new.self c.in-Replace.new c.requires.on.fit fits.1 c.in_ok-stage-in-Replace.ensures.ok in
    is.fit

pub unreachable-requires : goal.unreachable-requires
unreachable-requires g c =
    let t = c.args.track.now in
    let before = c.in-Replace.old in
    let there : 0 < copies t.records before = omega (arith, c.copies.ensures.value, c.if-copies-eq0.false) in
    omega (arith, staged-there t c.stage.new.self before c.in-Replace.new there c.in_ok-stage-in-Replace.ensures.ok, refused-absent c.stage.new.self before _ c.in_default.ensures.why)

pub repair-requires-in-Replace-2 : goal.repair-requires-in-Replace-2
repair-requires-in-Replace-2 g c =
    let t = c.args.track.now in
    let genome = c.args.genome.now in
    let fits : Fits genome t.width c.in-Replace.old × Fits genome t.width c.in-Replace.new = subst (λ (e : Edit). EditFits (Fits genome t.width) e) c.in-Replace.is c.requires.fits in
    let staged = c.in_ok-stage-in-Replace.ensures.ok in
    let one : Changed Added genome t c.stage.new.self c.in-Replace.new = changed-added genome t c.stage.new.self c.in-Replace.new c.requires.on.fit fits.1 staged in
    let two : Changed Removed genome c.stage.new.self c.remove-in-Replace.new.self c.in-Replace.old =
    changed-removed genome c.stage.new.self c.remove-in-Replace.new.self c.in-Replace.old one.fit
    (subst (λ (u : Tracked). Fits genome u.width c.in-Replace.old) (sym staged) fits.0) c.in-Ok.ensures.was_ordered c.in-Ok.ensures.there c.in-Ok.ensures.ok in
    record { right = record { before = c.stage.new.self.records; right = c.repair-in-Replace.ensures.right; changed = two.changed }; fit = two.fit; fits = two.fits }

pub returns-in-Ok-clause-ok : goal.returns-in-Ok-clause-ok
returns-in-Ok-clause-ok g c =
    let t = c.args.track.now in
    let views = all_seen c.repair-in-Replace-2.new.self in
    let there : 0 < copies t.records c.in-Replace.old = omega (arith, c.copies.ensures.value, c.if-copies-eq0.false) in
    subst (λ (e : Edit). IsEdited target.First e (over t (all_seen c.args.views.now)) (over c.remove-in-Replace.new.self views)) (sym c.in-Replace.is) (
      there,
      ap (λ (u : Tracked). over u views)
          (replaced-is t c.stage.new.self c.remove-in-Replace.new.self c.in-Replace.old c.in-Replace.new c.copies.ensures.ordered there c.in_ok-stage-in-Replace.ensures.ok c.in-Ok.ensures.ok),
      stales-trans _ _ _ c.repair-in-Replace.ensures.stales c.repair-in-Replace-2.ensures.stales,
    )

pub returns-in-Ok-clause-steps : goal.returns-in-Ok-clause-steps
returns-in-Ok-clause-steps g c =
    let t = c.args.track.now in
    let genome = c.args.genome.now in
    let r = c.in-Replace.old in
    let q = c.in-Replace.new in
    let views = all_seen c.args.views.now in
    let fits : Fits genome t.width r × Fits genome t.width q = subst (λ (e : Edit). EditFits (Fits genome t.width) e) c.in-Replace.is c.requires.fits in
    let staged = c.in_ok-stage-in-Replace.ensures.ok in
    let one : Changed Added genome t c.stage.new.self q = changed-added genome t c.stage.new.self q c.requires.on.fit fits.1 staged in
    let two : Changed Removed genome c.stage.new.self c.remove-in-Replace.new.self r =
    changed-removed genome c.stage.new.self c.remove-in-Replace.new.self r one.fit
    (subst (λ (u : Tracked). Fits genome u.width r) (sym staged) fits.0) c.in-Ok.ensures.was_ordered c.in-Ok.ensures.there c.in-Ok.ensures.ok in
    let with_r = added c.remove-in-Replace.new.self.records r in
    let first : all_steps views c.stage.new.self.records q ≡ all_steps views (added t.records q) q = ap (λ (l : List RecordValue). all_steps views l q) one.changed in
    let second : all_steps views with_r r ≡ all_steps views (added t.records q) r = ap (λ (l : List RecordValue). all_steps views l r) (sym two.changed ∙ one.changed) in
    let less = stales-steps views (all_seen c.repair-in-Replace.new.self) with_r r c.repair-in-Replace.ensures.stales in
    let a = c.repair-in-Replace.ensures.steps in
    let b = c.repair-in-Replace-2.ensures.steps in
    let stage = c.in_ok-stage-in-Replace.ensures.steps in
    let remove = c.in-Ok.ensures.steps in
    subst (λ (e : Edit). TakesUpTo c.args.meter.now c.repair-in-Replace-2.new.meter (most_steps target.First e (over t views))) (sym c.in-Replace.is)
    (record {
      no_less = omega (arith, c.copies.ensures.steps.no_less, stage.no_less, a.no_less, remove.no_less, b.no_less);
      at_most = omega (arith, first, second, less, c.copies.ensures.steps.at_most, stage.at_most, a.at_most, remove.at_most, b.at_most);
    })
