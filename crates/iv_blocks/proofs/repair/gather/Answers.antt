use Rattle.std.proofs.Common.{◌≡◌, ◌++◌, ◌∷◌, [], List, length, refl, sym, ap, ◌∙◌, arith, append_assoc, append-nil}
use Rattle.iv_lines.specs.RecordValue.{RecordValue}
use Rattle.iv_blocks.proofs.repair.gather.Goals as goal

-- one more is read
read-more : (read : List RecordValue) (r : RecordValue) (left rest all : List RecordValue) → read ++ left ≡ all → left ≡ r ∷ rest → (read ++ r ∷ []) ++ rest ≡ all
read-more read r left rest all h is = append_assoc read (r ∷ []) rest ∙ ap (λ (l : List RecordValue). read ++ l) (sym is) ∙ h

-- nothing is left
read-all : (read left all : List RecordValue) → read ++ left ≡ all → left ≡ [] → read ≡ all
read-all read left all h none = sym (append-nil read) ∙ ap (λ (l : List RecordValue). read ++ l) (sym none) ∙ h

pub loop-feature-init : goal.loop-feature-init
loop-feature-init g c = record { all = rw c.new-records.ensures.items refl; no_less = omega arith; paid = omega arith }

pub loop-feature-smaller : goal.loop-feature-smaller
loop-feature-smaller g c = omega (arith, ap length c.in-Some.ensures.member)

pub loop-feature-preserved : goal.loop-feature-preserved
loop-feature-preserved g c =
    let i = c.loop-feature.invariant in
    let steps = c.in-Some.ensures.steps in
    record {
      all = rw c.in_ok-push.ensures.items (read-more c.loop-feature.records.items c.in-Some.feature c.loop-feature.members.members c.next.new.self.members c.args.members.members i.all c.in-Some.ensures.member);
      no_less = omega (arith, i.no_less, steps.no_less);
      paid = omega (arith, i.paid, steps.at_most);
    }

pub returns-in_err-push-clause-steps : goal.returns-in_err-push-clause-steps
returns-in_err-push-clause-steps g c =
    let i = c.loop-feature.invariant in
    let steps = c.in-Some.ensures.steps in
    record { no_less = omega (arith, i.no_less, steps.no_less); at_most = omega (arith, i.paid, steps.at_most) }

pub returns-clause-records : goal.returns-clause-records
returns-clause-records g c = read-all _ _ _ c.loop-feature.invariant.all c.in_default.ensures.member.0

pub returns-clause-steps : goal.returns-clause-steps
returns-clause-steps g c =
    let i = c.loop-feature.invariant in
    let steps = c.in_default.ensures.steps in
    record { no_less = omega (arith, i.no_less, steps.no_less); at_most = omega (arith, i.paid, steps.at_most) }
