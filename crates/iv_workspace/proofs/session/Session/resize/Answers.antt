use Rattle.std.proofs.Common.{◌∙◌, List, ℕ, sym, ap, subst}
use Rattle.iv_lines.specs.Named.{names_of, name_index}
use Rattle.iv_lines.proofs.LengthLemmas.{names-with_length, rank-within}
use Rattle.iv_workspace.specs.Inside.ViewStates.{AreRight, all_seen}
use Rattle.iv_workspace.specs.States.{State}
use Rattle.iv_workspace.proofs.ResizeLemmas.{session-resized, resized-unknown, resized-shorter, resized-fixed, resized-in}
use Rattle.iv_workspace.proofs.session.Session.resize.Goals as goal

pub returns-in_default-clause-why : goal.returns-in_default-clause-why
returns-in_default-clause-why g c =
    resized-unknown c.args.self.now c.args.name.now c.args.length (ap (λ (s : State). name_index s.genome c.args.name.now) (sym c.self.view_is) ∙ sym c.in_default.ensures.value)

pub returns-then-has_record_past-clause-why : goal.returns-then-has_record_past-clause-why
returns-then-has_record_past-clause-why g c =
    resized-shorter c.args.self.now c.args.name.now c.args.length c.in-Some.seq
    (ap (λ (s : State). name_index s.genome c.args.name.now) (sym c.self.view_is) ∙ sym c.in-Some.ensures.value)
    (sym c.has_record_past.ensures ∙ c.if-has_record_past.true)

pub returns-then-has_other_bases-clause-why : goal.returns-then-has_other_bases-clause-why
returns-then-has_other_bases-clause-why g c =
    resized-fixed c.args.self.now c.args.name.now c.args.length c.in-Some.seq
    (ap (λ (s : State). name_index s.genome c.args.name.now) (sym c.self.view_is) ∙ sym c.in-Some.ensures.value)
    (sym c.has_record_past.ensures ∙ c.if-has_record_past.false)
    (sym c.has_other_bases.ensures ∙ c.if-has_other_bases.true)

pub set_length-requires-clause-there : goal.set_length-requires-clause-there
set_length-requires-clause-there g c = rank-within c.self.inside.genome c.args.name.now c.in-Some.seq (sym c.in-Some.ensures.value)

pub invariant_of-self : goal.invariant_of-self
invariant_of-self g c =
    let i = c.self.inside in (
      session-resized _ c.args.self.now c.set_length.new.self (all_seen i.views) c.in-Some.seq c.args.length c.self.view_is c.self.invariant.0 c.set_length.ensures
          (sym c.has_record_past.ensures ∙ c.if-has_record_past.false),
      subst (λ (names : List (List ℕ)). AreRight i.views names i.track.records) (sym (ap names_of c.set_length.ensures ∙ names-with_length i.genome c.in-Some.seq c.args.length)) c.self.invariant.1,
    )

pub returns-clause-ok : goal.returns-clause-ok
returns-clause-ok g c =
    resized-in _ c.args.self.now c.set_length.new.self c.args.name.now c.in-Some.seq c.args.length c.self.view_is c.in-Some.ensures.value
    (sym c.has_record_past.ensures ∙ c.if-has_record_past.false) (sym c.has_other_bases.ensures ∙ c.if-has_other_bases.false) c.set_length.ensures
