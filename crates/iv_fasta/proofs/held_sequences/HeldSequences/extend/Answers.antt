use Rattle.std.proofs.Common.{◌≡◌, ◌+◌, ◌++◌, ℕ, [], List, cond, ap, sym, ◌∙◌, arith, length, length-append}
use Rattle.std.proofs.lemmas.Bool.{cond-true, cond-false}
use Rattle.iv_fasta.specs.Inside.Drafts.{cut}
use Rattle.iv_fasta.proofs.CutLemmas.{cut-part, rises-more}
use Rattle.iv_fasta.proofs.held_sequences.HeldSequences.extend.Goals as goal
use Rattle.iv_fasta.proofs.held_sequences.HeldSequences.extend.Goals.{then-holds, else-holds}

pub invariant_of-self-2 : goal.invariant_of-self-2
invariant_of-self-2 g c =
    let self = c.args.self.now in
    let more = ap length c.in_ok-extend_from_slice.ensures.items in
    record {
      in_order = rises-more (λ h. h.start) 0 self.headers (length self.bases.items) (length c.extend_from_slice.new.self.items) (omega (arith, more, length-append self.bases.items c.if-holds.held.now)) self.in_order;
      counted = rises-more (λ h. h.before) 0 self.headers self.count (self.count + length c.args.bases.now) (omega arith) self.counted;
    }

pub returns-clause-ok : goal.returns-clause-ok
returns-clause-ok g c =
    let self = c.args.self.now in
    let part : c.if-holds.held.now ≡ cond c.args.holds c.args.bases.now [] = elim c.if-holds.branch [
      | then-holds w ↦ ap (λ b. b.now) w.held-is ∙ sym (cond-true _ _ _ w.if-holds.true)
      | else-holds w ↦ ap (λ b. b.now) w.held-is ∙ sym (cond-false _ _ _ w.if-holds.false)
    ] in
    ap (λ (l : List ℕ). cut self.headers l (self.count + length c.args.bases.now)) (c.in_ok-extend_from_slice.ensures.items ∙ ap (λ (l : List ℕ). self.bases.items ++ l) part)
    ∙ cut-part 0 0 self.headers self.bases.items c.args.bases.now c.args.holds self.count self.in_order self.counted
