use Rattle.std.proofs.Common.{List, inl, inr, ap, sym, subst, ◌∙◌, ℕ}
use Rattle.iv_lines.specs.RecordValue.{RecordValue}
use Rattle.iv_blocks.specs.Inside.MembersLeft.{IsAhead}
use Rattle.iv_blocks.proofs.MembersLemmas.{ahead-walked, remaining-walked}
use Rattle.iv_blocks.proofs.group.Members.of.Goals as goal
use Rattle.iv_blocks.proofs.group.Members.of.Goals.{then-from-to, else-from-to}

pub invariant_of-result : goal.invariant_of-result
invariant_of-result g c =
    subst (λ (l : List RecordValue). IsAhead c.args.group.seq l) (sym c.walk.ensures.records) (ahead-walked c.args.group.seq c.from.result c.args.track.now.records c.walk.ensures.ordered)

pub returns-clause-members : goal.returns-clause-members
returns-clause-members g c =
    remaining-walked c.args.group c.args.from c.args.to c.from.result c.if-from-to.from.1 c.args.track.now.records c.walk.result c.walk.ensures.records
    (elim c.if-from-to.branch [
      | then-from-to w ↦ inl (c.from.ensures ∙ ap (λ (p : ℕ × ℕ). p.0) w.from-is, ap (λ (p : ℕ × ℕ). p.1) w.from-is)
      | else-from-to w ↦ inr (w.if-from-to.false, ap (λ (p : ℕ × ℕ). p.1) w.from-is)
    ])
