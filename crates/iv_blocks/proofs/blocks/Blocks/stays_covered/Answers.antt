use Rattle.std.proofs.Common.{◌≡◌, ◌∙◌, ℕ, arith, ap, sym, leb-true}
use Rattle.iv_blocks.specs.Inside.MembersLeft.{MembersLeft}
use Rattle.iv_blocks.specs.KeptBlocks.{KeptBlocks}
use Rattle.iv_blocks.specs.Groups.{listed}
use Rattle.iv_blocks.proofs.blocks.Blocks.stays_covered.Goals as goal

pub returns-clause-covered : goal.returns-clause-covered
returns-clause-covered g c far =
    let a = c.args in
    let options : listed c.self.inside.options.summaries ≡ listed a.self.now.options.summaries = ap (λ (k : KeptBlocks). listed k.options.summaries) c.self.view_is in
    let placed = c.bounds_of-first_start.ensures in
    let starts : c.bounds_of-first_start.result.0 ≡ c.in-Some.first.start = ap (λ (p : ℕ × ℕ). p.0) placed in
    let stops : c.bounds_of-first_start.result.1 ≡ c.in-Some.first.stop = ap (λ (p : ℕ × ℕ). p.1) placed in
    record {
      plain = sym options ∙ c.self.invariant (sym c.if-has_results.ensures);
      first = c.in-Some.first;
      rest = c.next.new.self.members;
      members = sym (ap (λ (m : MembersLeft). m.members) c.of-members.ensures.members) ∙ c.in-Some.ensures.member;
      starts = omega (arith, c.if-first_start-start.false, starts);
      reaches = omega (arith, leb-true a.stop c.bounds_of-first_start.result.1 far, stops);
    }
