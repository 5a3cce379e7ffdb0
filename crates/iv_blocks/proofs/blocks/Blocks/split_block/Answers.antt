use Rattle.std.proofs.Common.{◌≡◌, ◌⊎◌, inl, inr, ◌+◌, ◌<◌, ◌≤◌, ℕ, List, [], ◌∷◌, length, max, refl, ap, sym, subst, ◌∙◌, arith}
use Rattle.std.proofs.lemmas.Bool.{cases_lt}
use Rattle.iv_lines.specs.RecordValue.{RecordValue}
use Rattle.iv_lines.proofs.ListLemmas.{all-mem}
use Rattle.iv_ledger.specs.Entries.{IsLedger}
use Rattle.iv_blocks.specs.Inside.MembersLeft.{MembersLeft}
use Rattle.iv_blocks.specs.Inside.Groups.{between_on, members_between}
use Rattle.iv_blocks.specs.KeptBlocks.{KeptBlocks, key_cmp}
use Rattle.iv_blocks.specs.declared.options.BlockOptions.{BlockOptions}
use Rattle.iv_blocks.proofs.GroupSweeps.{IsSweeping, swept-from, sweep-all, sweep-none, sweep-pays, count-within, on_ok_both}
use Rattle.iv_blocks.proofs.NearSweeps.{IsNear, near-as, near-first, near-join, near-next, near-open, near-end, near-rest, near-some, near-begin, count-later}
use Rattle.iv_blocks.proofs.blocks.Blocks.split_block.Goals as goal
use Rattle.iv_blocks.proofs.blocks.Blocks.split_block.Goals.{then-low-from, else-low-from}

pub returns-in_default-clause-ok : goal.returns-in_default-clause-ok
returns-in_default-clause-ok g c =
    let a = c.args in
    let from = c.first_near-from.result in
    let known = swept-from a.self.now a.genome.now a.track.now.records a.group a.block.0 a.block.1 a.track.now.width c.of-members.ensures.ordered c.requires.fit c.requires.rest.stops in
    let none : members_between a.group from a.block.1 a.track.now.records ≡ [] = sym (ap (λ (m : MembersLeft). m.members) c.of-members.ensures.members) ∙ c.in_default.ensures.member.0 in
    elim (cases_lt a.block.0 from) [
      | inl below ↦ absurd (near-some a.self.now a.genome.now a.track.now.records a.group a.block a.gone known c.requires.rest from below (omega (arith, below, c.first_near-from.ensures.within))
          (λ q m. all-mem (λ r. r.start < from → r.stop + a.self.now.options.distance < a.gone.0) a.track.now.records (c.first_near-from.ensures.near below) q m) none)
      | inr above ↦
          let at : a.block.0 ≡ from = omega (arith, above, c.first_near-from.ensures.from) in
          sweep-none a.self.now a.genome.now a.track.now.records a.group a.block.0 a.block.1 known c.requires.apart
          (ap (λ (n : ℕ). members_between a.group n a.block.1 a.track.now.records) at ∙ none)
          (subst (λ (b : KeptBlocks). IsLedger key_cmp b.entries) c.self.view_is c.len-ordered.ensures.ordered)
    ]

pub returns-in_default-clause-steps : goal.returns-in_default-clause-steps
returns-in_default-clause-steps g c =
    let a = c.args in
    let passed_records : c.of-members.result.passed_records ≡ length (between_on a.group.seq c.first_near-from.result a.block.1 a.track.now.records) = ap (λ (m : MembersLeft). m.passed_records) c.of-members.ensures.members in
    let fewer = count-later a.group.seq a.block.0 c.first_near-from.result a.block.1 a.track.now.records c.first_near-from.ensures.from in
    record {
      no_less = omega (arith, c.of-members.ensures.steps.no_less, c.in_default.ensures.steps.no_less);
      at_most = omega (arith, c.of-members.ensures.steps.at_most, c.in_default.ensures.steps.at_most, passed_records, fewer);
    }

pub feature-init : goal.feature-init
feature-init g c =
    let a = c.args in
    let from = c.first_near-from.result in
    let known = swept-from a.self.now a.genome.now a.track.now.records a.group a.block.0 a.block.1 a.track.now.width c.of-members.ensures.ordered c.requires.fit c.requires.rest.stops in
    let r = c.in-Some.first in
    let rest = c.next.new.self.members in
    let steps = c.in-Some.ensures.steps in
    let all : members_between a.group from a.block.1 a.track.now.records ≡ r ∷ rest =
    sym (ap (λ (m : MembersLeft). m.members) c.of-members.ensures.members) ∙ c.in-Some.ensures.member in
    let passed_records : c.of-members.result.passed_records ≡ length (between_on a.group.seq from a.block.1 a.track.now.records) = ap (λ (m : MembersLeft). m.passed_records) c.of-members.ensures.members in
    let fewer = count-later a.group.seq a.block.0 from a.block.1 a.track.now.records c.first_near-from.ensures.from in
    let placed : c.bounds_of-start.result ≡ (r.start, r.stop) = c.bounds_of-start.ensures in
    let starts : c.bounds_of-start.result.0 ≡ r.start = ap (λ (p : ℕ × ℕ). p.0) placed in
    let stops : c.bounds_of-start.result.1 ≡ r.stop = ap (λ (p : ℕ × ℕ). p.1) placed in
    record {
      sweep = elim c.if-low-from.branch [
        | then-low-from w ↦ near-as a.self.now a.genome.now a.track.now.records a.group a.block a.gone a.self.now c.if-low-from.start c.bounds_of-start.result.1 a.block.0 r.stop rest
            (omega (arith, w.start-is)) stops
            (near-begin a.self.now a.genome.now a.track.now.records a.group a.block a.gone known c.requires.rest from r rest w.if-low-from.true (omega (arith, w.if-low-from.true, c.first_near-from.ensures.within))
            (λ q m. all-mem (λ p. p.start < from → p.stop + a.self.now.options.distance < a.gone.0) a.track.now.records (c.first_near-from.ensures.near w.if-low-from.true) q m) all)
        | else-low-from w ↦
            let at : a.block.0 ≡ from = omega (arith, w.if-low-from.false, c.first_near-from.ensures.from) in
            near-as a.self.now a.genome.now a.track.now.records a.group a.block a.gone a.self.now c.if-low-from.start c.bounds_of-start.result.1 r.start r.stop rest
            (omega (arith, w.start-is, starts)) stops
            (near-first a.self.now a.genome.now a.track.now.records a.group a.block a.gone known c.requires.rest r rest (ap (λ (n : ℕ). members_between a.group n a.block.1 a.track.now.records) at ∙ all))
      ];
      no_less = omega (arith, c.of-members.ensures.steps.no_less, steps.no_less);
      paid = omega (arith, c.of-members.ensures.steps.at_most, steps.at_most, passed_records, fewer);
    }

pub returns-in_default-next-clause-ok : goal.returns-in_default-next-clause-ok
returns-in_default-next-clause-ok g c =
    let a = c.args in
    let known = swept-from a.self.now a.genome.now a.track.now.records a.group a.block.0 a.block.1 a.track.now.width c.of-members.ensures.ordered c.requires.fit c.requires.rest.stops in
    let n : IsNear a.self.now a.genome.now a.track.now.records a.group a.block a.gone c.feature.self c.feature.start c.feature.reached [] =
    subst (λ (l : List RecordValue). IsNear a.self.now a.genome.now a.track.now.records a.group a.block a.gone c.feature.self c.feature.start c.feature.reached l) c.in_default-next.ensures.member.0 c.feature.invariant.sweep in
    on_ok_both c.insert_block.result c.insert_block.ensures.ok c.insert_block.ensures.ordered (λ put ordered.
    sweep-all a.self.now a.genome.now a.track.now.records a.group a.block.0 a.block.1 known c.feature.self c.insert_block.new.self c.feature.start c.feature.reached
    (near-end a.self.now a.genome.now a.track.now.records a.group a.block a.gone known c.requires.rest c.feature.self c.feature.start c.feature.reached n) c.requires.apart put ordered)

pub returns-in_default-next-clause-steps : goal.returns-in_default-next-clause-steps
returns-in_default-next-clause-steps g c =
    let a = c.args in
    let i = c.feature.invariant in
    let known = swept-from a.self.now a.genome.now a.track.now.records a.group a.block.0 a.block.1 a.track.now.width c.of-members.ensures.ordered c.requires.fit c.requires.rest.stops in
    let n : IsNear a.self.now a.genome.now a.track.now.records a.group a.block a.gone c.feature.self c.feature.start c.feature.reached [] =
    subst (λ (l : List RecordValue). IsNear a.self.now a.genome.now a.track.now.records a.group a.block a.gone c.feature.self c.feature.start c.feature.reached l) c.in_default-next.ensures.member.0 i.sweep in
    let s : IsSweeping a.self.now a.genome.now a.track.now.records a.group a.block.0 a.block.1 c.feature.self c.feature.start c.feature.reached [] =
    near-end a.self.now a.genome.now a.track.now.records a.group a.block a.gone known c.requires.rest c.feature.self c.feature.start c.feature.reached n in
    let long : c.feature.start < c.feature.reached = s.put.last.block.long in
    let pays = sweep-pays a.self.now a.genome.now a.track.now.records a.group a.block.0 a.block.1 known c.feature.self c.feature.start c.feature.reached [] s in
    let within = count-within a.group.seq a.block.0 c.feature.reached a.block.1 a.track.now.records (omega (arith, s.above, long)) s.within in
    let next = c.in_default-next.ensures.steps in
    record {
      no_less = omega (arith, i.no_less, next.no_less, c.insert_block.ensures.steps.no_less);
      at_most = omega (arith, i.paid, next.at_most, c.insert_block.ensures.steps.at_most, pays, within);
    }

pub feature-smaller-then-from-joined : goal.feature-smaller-then-from-joined
feature-smaller-then-from-joined g c = omega (arith, ap length c.in-Some-next.ensures.member)

pub feature-preserved-then-from-joined : goal.feature-preserved-then-from-joined
feature-preserved-then-from-joined g c =
    let a = c.args in
    let i = c.feature.invariant in
    let known = swept-from a.self.now a.genome.now a.track.now.records a.group a.block.0 a.block.1 a.track.now.width c.of-members.ensures.ordered c.requires.fit c.requires.rest.stops in
    let r = c.in-Some-next.feature in
    let rest = c.next-in-feature.new.self.members in
    let steps = c.in-Some-next.ensures.steps in
    let n : IsNear a.self.now a.genome.now a.track.now.records a.group a.block a.gone c.feature.self c.feature.start c.feature.reached (r ∷ rest) =
    subst (λ (l : List RecordValue). IsNear a.self.now a.genome.now a.track.now.records a.group a.block a.gone c.feature.self c.feature.start c.feature.reached l) c.in-Some-next.ensures.member i.sweep in
    let same : c.feature.self.options.distance ≡ a.self.now.options.distance = ap (λ (o : BlockOptions). o.distance) n.sweep.options in
    let placed : c.bounds_of-next_start.result ≡ (r.start, r.stop) = c.bounds_of-next_start.ensures in
    let starts : c.bounds_of-next_start.result.0 ≡ r.start = ap (λ (p : ℕ × ℕ). p.0) placed in
    let stops : c.bounds_of-next_start.result.1 ≡ r.stop = ap (λ (p : ℕ × ℕ). p.1) placed in
    let joins : (r.start ≤ a.gone.0) ⊎ (r.start ≤ c.feature.reached + a.self.now.options.distance) = elim (cases_lt a.gone.0 r.start) [
      | inl past ↦ inr (omega (arith, past, c.if-from-joined.true, c.from.ensures, c.from-in-feature.ensures, c.max-joined.ensures, c.reach.ensures, same, starts))
      | inr early ↦ inl early
    ] in
    record {
      sweep = near-as a.self.now a.genome.now a.track.now.records a.group a.block a.gone c.feature.self c.feature.start c.max-reached.result c.feature.start (max c.feature.reached r.stop) rest
          refl (omega (arith, c.max-reached.ensures, stops))
          (near-join a.self.now a.genome.now a.track.now.records a.group a.block a.gone known c.requires.rest c.feature.self c.feature.start c.feature.reached r rest n joins);
      no_less = omega (arith, i.no_less, steps.no_less);
      paid = omega (arith, i.paid, steps.at_most);
    }

pub returns-in_err-insert_block-clause-steps : goal.returns-in_err-insert_block-clause-steps
returns-in_err-insert_block-clause-steps g c =
    let a = c.args in
    let i = c.feature.invariant in
    let known = swept-from a.self.now a.genome.now a.track.now.records a.group a.block.0 a.block.1 a.track.now.width c.of-members.ensures.ordered c.requires.fit c.requires.rest.stops in
    let r = c.in-Some-next.feature in
    let rest = c.next-in-feature.new.self.members in
    let next = c.in-Some-next.ensures.steps in
    let n : IsNear a.self.now a.genome.now a.track.now.records a.group a.block a.gone c.feature.self c.feature.start c.feature.reached (r ∷ rest) =
    subst (λ (l : List RecordValue). IsNear a.self.now a.genome.now a.track.now.records a.group a.block a.gone c.feature.self c.feature.start c.feature.reached l) c.in-Some-next.ensures.member i.sweep in
    let starts : c.bounds_of-next_start.result.0 ≡ r.start = ap (λ (p : ℕ × ℕ). p.0) (c.bounds_of-next_start.ensures) in
    let s : IsSweeping a.self.now a.genome.now a.track.now.records a.group a.block.0 a.block.1 c.feature.self c.feature.start c.feature.reached (r ∷ rest) =
    near-next a.self.now a.genome.now a.track.now.records a.group a.block a.gone known c.requires.rest c.feature.self c.feature.start c.feature.reached r rest n
    (omega (arith, c.if-from-joined.false, c.from.ensures, c.from-in-feature.ensures, c.max-joined.ensures, starts)) in
    let long : c.feature.start < c.feature.reached = s.put.last.block.long in
    record {
      no_less = omega (arith, i.no_less, next.no_less, c.insert_block-else-from-joined.ensures.steps.no_less);
      at_most = omega (
        arith,
        i.paid,
        next.at_most,
        c.insert_block-else-from-joined.ensures.steps.at_most,
        sweep-pays a.self.now a.genome.now a.track.now.records a.group a.block.0 a.block.1 known c.feature.self c.feature.start c.feature.reached (r ∷ rest) s,
        count-within a.group.seq a.block.0 c.feature.reached a.block.1 a.track.now.records (omega (arith, s.above, long)) s.within,
      );
    }

pub feature-smaller : goal.feature-smaller
feature-smaller g c = omega (arith, ap length c.in-Some-next.ensures.member)

pub feature-preserved : goal.feature-preserved
feature-preserved g c =
    let a = c.args in
    let i = c.feature.invariant in
    let known = swept-from a.self.now a.genome.now a.track.now.records a.group a.block.0 a.block.1 a.track.now.width c.of-members.ensures.ordered c.requires.fit c.requires.rest.stops in
    let r = c.in-Some-next.feature in
    let rest = c.next-in-feature.new.self.members in
    let next = c.in-Some-next.ensures.steps in
    let n : IsNear a.self.now a.genome.now a.track.now.records a.group a.block a.gone c.feature.self c.feature.start c.feature.reached (r ∷ rest) =
    subst (λ (l : List RecordValue). IsNear a.self.now a.genome.now a.track.now.records a.group a.block a.gone c.feature.self c.feature.start c.feature.reached l) c.in-Some-next.ensures.member i.sweep in
    let same : c.feature.self.options.distance ≡ a.self.now.options.distance = ap (λ (o : BlockOptions). o.distance) n.sweep.options in
    let placed : c.bounds_of-next_start.result ≡ (r.start, r.stop) = c.bounds_of-next_start.ensures in
    let starts : c.bounds_of-next_start.result.0 ≡ r.start = ap (λ (p : ℕ × ℕ). p.0) placed in
    let stops : c.bounds_of-next_start.result.1 ≡ r.stop = ap (λ (p : ℕ × ℕ). p.1) placed in
    let after : a.gone.0 ≤ r.start = omega (arith, c.if-from-joined.false, c.from.ensures, c.from-in-feature.ensures, c.max-joined.ensures, starts) in
    let parts : c.feature.reached + a.self.now.options.distance < r.start = omega (arith, c.if-from-joined.false, c.from.ensures, c.from-in-feature.ensures, c.max-joined.ensures, c.reach.ensures, same, starts) in
    let s : IsSweeping a.self.now a.genome.now a.track.now.records a.group a.block.0 a.block.1 c.feature.self c.feature.start c.feature.reached (r ∷ rest) =
    near-next a.self.now a.genome.now a.track.now.records a.group a.block a.gone known c.requires.rest c.feature.self c.feature.start c.feature.reached r rest n after in
    let long : c.feature.start < c.feature.reached = s.put.last.block.long in
    record {
      sweep = near-as a.self.now a.genome.now a.track.now.records a.group a.block a.gone c.insert_block-else-from-joined.new.self c.bounds_of-next_start.result.0 c.bounds_of-next_start.result.1 r.start r.stop rest
          starts stops
          (near-open a.self.now a.genome.now a.track.now.records a.group a.block a.gone known c.requires.rest c.feature.self c.insert_block-else-from-joined.new.self c.feature.start c.feature.reached r rest n after parts c.in_ok-insert_block.ensures.ok);
      no_less = omega (arith, i.no_less, next.no_less, c.insert_block-else-from-joined.ensures.steps.no_less);
      paid = omega (
        arith,
        i.paid,
        next.at_most,
        c.insert_block-else-from-joined.ensures.steps.at_most,
        sweep-pays a.self.now a.genome.now a.track.now.records a.group a.block.0 a.block.1 known c.feature.self c.feature.start c.feature.reached (r ∷ rest) s,
        count-within a.group.seq a.block.0 c.feature.reached c.bounds_of-next_start.result.0 a.track.now.records (omega (arith, s.above, long)) (omega (arith, parts, starts)),
      );
    }

pub returns-clause-ok : goal.returns-clause-ok
returns-clause-ok g c =
    let a = c.args in
    let known = swept-from a.self.now a.genome.now a.track.now.records a.group a.block.0 a.block.1 a.track.now.width c.of-members.ensures.ordered c.requires.fit c.requires.rest.stops in
    let s : IsSweeping a.self.now a.genome.now a.track.now.records a.group a.block.0 a.block.1 c.feature.self c.feature.start a.block.1 [] =
    near-rest a.self.now a.genome.now a.track.now.records a.group a.block a.gone known c.requires.rest c.feature.self c.feature.start c.feature.reached c.feature.members.members (omega (arith, c.feature-test.false)) c.feature.invariant.sweep in
    on_ok_both c.insert_block-2.result c.insert_block-2.ensures.ok c.insert_block-2.ensures.ordered (λ put ordered.
    sweep-all a.self.now a.genome.now a.track.now.records a.group a.block.0 a.block.1 known c.feature.self c.insert_block-2.new.self c.feature.start a.block.1 s c.requires.apart put ordered)

pub returns-clause-steps : goal.returns-clause-steps
returns-clause-steps g c =
    let a = c.args in
    let i = c.feature.invariant in
    let known = swept-from a.self.now a.genome.now a.track.now.records a.group a.block.0 a.block.1 a.track.now.width c.of-members.ensures.ordered c.requires.fit c.requires.rest.stops in
    let s : IsSweeping a.self.now a.genome.now a.track.now.records a.group a.block.0 a.block.1 c.feature.self c.feature.start a.block.1 [] =
    near-rest a.self.now a.genome.now a.track.now.records a.group a.block a.gone known c.requires.rest c.feature.self c.feature.start c.feature.reached c.feature.members.members (omega (arith, c.feature-test.false)) i.sweep in
    let pays = sweep-pays a.self.now a.genome.now a.track.now.records a.group a.block.0 a.block.1 known c.feature.self c.feature.start a.block.1 [] s in
    record {
      no_less = omega (arith, i.no_less, c.insert_block-2.ensures.steps.no_less);
      at_most = omega (arith, i.paid, c.insert_block-2.ensures.steps.at_most, pays);
    }
