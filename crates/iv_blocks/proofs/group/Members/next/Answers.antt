use Rattle.std.proofs.Common.{◌≡◌, ◌+◌, ◌<◌, ◌≤◌, ◌⊎◌, inl, inr, List, [], ◌∷◌, length, ap, sym, subst, ◌∙◌, arith}
use Rattle.iv_lines.specs.RecordValue.{RecordValue}
use Rattle.iv_blocks.specs.Inside.MembersLeft.{MembersLeft, IsAhead}
use Rattle.iv_blocks.specs.Inside.Groups.{between_on, members_between}
use Rattle.iv_blocks.proofs.MembersLemmas.{ahead-rest, past-members, past-records, rest-none, here-records, here-member, other-member}
use Rattle.iv_blocks.proofs.group.Members.next.Given.{Over}
use Rattle.iv_blocks.proofs.group.Members.next.Goals as goal
use Rattle.iv_blocks.proofs.group.Members.next.Goals.{then-seq-self-via-then-seq-self, then-seq-self-via-else-seq-self+then-start-from}

pub loop-feature-init : goal.loop-feature-init
loop-feature-init g c = record {
  ahead = c.self.invariant;
  members = ap (λ (m : MembersLeft). m.members) c.self.view_is;
  no_less = omega arith;
  paid = omega (arith, ap (λ (m : MembersLeft). m.passed_records) c.self.view_is);
}

-- the record is past the range
past : (g : Over) (c : goal.Joined-then-seq-self g) → (c.in-Some.feature.seq ≡ c.loop-feature.self-inside.group.seq → ⊥) ⊎ (c.loop-feature.self-inside.to ≤ c.in-Some.feature.start)
past g c = elim c.then-seq-self.branch [
  | then-seq-self-via-then-seq-self w ↦ inl (λ same. w.if-seq-self.true (c.seq.ensures ∙ same))
  | then-seq-self-via-else-seq-self+then-start-from w ↦ inr (omega (arith, w.if-start-from.true, w.start.ensures, w.from.ensures))
]

pub invariant_of-self : goal.invariant_of-self
invariant_of-self g c =
    let m = c.loop-feature.self-inside in
    ahead-rest m.group.seq c.in-Some.feature c.next.new.self (subst (λ (l : List RecordValue). IsAhead m.group.seq l) c.in-Some.ensures.feature c.loop-feature.invariant.ahead)

pub returns-then-seq-self-clause-member : goal.returns-then-seq-self-clause-member
returns-then-seq-self-clause-member g c =
    let i = c.loop-feature.invariant in
    let m = c.loop-feature.self-inside in
    let r = c.in-Some.feature in
    let rest = c.next.new.self in
    let ahead : IsAhead m.group.seq (r ∷ rest) = subst (λ (l : List RecordValue). IsAhead m.group.seq l) c.in-Some.ensures.feature i.ahead in
    let none : members_between m.group 0 m.to (r ∷ rest) ≡ [] = past-members m.group m.to r rest ahead (past g c) in
    (sym i.members ∙ ap (members_between m.group 0 m.to) c.in-Some.ensures.feature ∙ none, rest-none _ r rest none)

pub returns-then-seq-self-clause-steps : goal.returns-then-seq-self-clause-steps
returns-then-seq-self-clause-steps g c =
    let i = c.loop-feature.invariant in
    let m = c.loop-feature.self-inside in
    let r = c.in-Some.feature in
    let rest = c.next.new.self in
    let ahead : IsAhead m.group.seq (r ∷ rest) = subst (λ (l : List RecordValue). IsAhead m.group.seq l) c.in-Some.ensures.feature i.ahead in
    let none : length (between_on m.group.seq 0 m.to rest) ≡ 0 = ap length (rest-none _ r rest (past-records m.group.seq m.to r rest ahead (past g c))) in
    record {
      no_less = omega (arith, i.no_less, c.in-Some.ensures.steps.no_less);
      at_most = omega (arith, i.paid, c.in-Some.ensures.steps.at_most, none);
    }

pub invariant_of-self-then-has : goal.invariant_of-self-then-has
invariant_of-self-then-has g c =
    let m = c.loop-feature.self-inside in
    ahead-rest m.group.seq c.in-Some.feature c.next.new.self (subst (λ (l : List RecordValue). IsAhead m.group.seq l) c.in-Some.ensures.feature c.loop-feature.invariant.ahead)

pub returns-then-has-clause-member : goal.returns-then-has-clause-member
returns-then-has-clause-member g c =
    let i = c.loop-feature.invariant in
    let m = c.loop-feature.self-inside in
    let r = c.in-Some.feature in
    let below : r.start < m.to = omega (arith, c.if-start-from.false, c.start.ensures, c.from.ensures) in
    sym i.members ∙ ap (members_between m.group 0 m.to) c.in-Some.ensures.feature
    ∙ here-member m.group m.to r c.next.new.self below (sym c.has.ensures ∙ c.if-has.true)

pub returns-then-has-clause-steps : goal.returns-then-has-clause-steps
returns-then-has-clause-steps g c =
    let i = c.loop-feature.invariant in
    let m = c.loop-feature.self-inside in
    let r = c.in-Some.feature in
    let rest = c.next.new.self in
    let below : r.start < m.to = omega (arith, c.if-start-from.false, c.start.ensures, c.from.ensures) in
    let passed : length (between_on m.group.seq 0 m.to (r ∷ rest)) ≡ length (between_on m.group.seq 0 m.to rest) + 1 = here-records m.group.seq m.to r rest (sym c.seq.ensures ∙ c.if-seq-self.false) below in
    let before : length (between_on m.group.seq 0 m.to m.records) ≡ length (between_on m.group.seq 0 m.to (r ∷ rest)) = ap (λ (l : List RecordValue). length (between_on m.group.seq 0 m.to l)) c.in-Some.ensures.feature in
    record {
      no_less = omega (arith, i.no_less, c.in-Some.ensures.steps.no_less);
      at_most = omega (arith, i.paid, c.in-Some.ensures.steps.at_most, passed, before);
    }

pub loop-feature-smaller : goal.loop-feature-smaller
loop-feature-smaller g c = omega (arith, ap length c.in-Some.ensures.feature)

pub loop-feature-preserved : goal.loop-feature-preserved
loop-feature-preserved g c =
    let i = c.loop-feature.invariant in
    let m = c.loop-feature.self-inside in
    let r = c.in-Some.feature in
    let rest = c.next.new.self in
    let below : r.start < m.to = omega (arith, c.if-start-from.false, c.start.ensures, c.from.ensures) in
    let passed : length (between_on m.group.seq 0 m.to (r ∷ rest)) ≡ length (between_on m.group.seq 0 m.to rest) + 1 = here-records m.group.seq m.to r rest (sym c.seq.ensures ∙ c.if-seq-self.false) below in
    let before : length (between_on m.group.seq 0 m.to m.records) ≡ length (between_on m.group.seq 0 m.to (r ∷ rest)) = ap (λ (l : List RecordValue). length (between_on m.group.seq 0 m.to l)) c.in-Some.ensures.feature in
    record {
      ahead = ahead-rest m.group.seq r rest (subst (λ (l : List RecordValue). IsAhead m.group.seq l) c.in-Some.ensures.feature i.ahead);
      members = sym (other-member m.group m.to r rest (sym c.has.ensures ∙ c.if-has.false)) ∙ sym (ap (members_between m.group 0 m.to) c.in-Some.ensures.feature) ∙ i.members;
      no_less = omega (arith, i.no_less, c.in-Some.ensures.steps.no_less);
      paid = omega (arith, i.paid, c.in-Some.ensures.steps.at_most, passed, before);
    }

pub returns-clause-member : goal.returns-clause-member
returns-clause-member g c =
    let m = c.loop-feature.self-inside in
    let none = c.in_default.ensures.feature in
    (sym c.loop-feature.invariant.members ∙ ap (members_between m.group 0 m.to) none.0, ap (members_between m.group 0 m.to) none.1)

pub returns-clause-steps : goal.returns-clause-steps
returns-clause-steps g c =
    let i = c.loop-feature.invariant in
    let m = c.loop-feature.self-inside in
    let none : length (between_on m.group.seq 0 m.to c.next.new.self) ≡ 0 = ap (λ (l : List RecordValue). length (between_on m.group.seq 0 m.to l)) c.in_default.ensures.feature.1 in
    record {
      no_less = omega (arith, i.no_less, c.in_default.ensures.steps.no_less);
      at_most = omega (arith, i.paid, c.in_default.ensures.steps.at_most, none);
    }
