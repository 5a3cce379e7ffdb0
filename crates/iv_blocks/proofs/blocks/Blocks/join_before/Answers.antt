use Rattle.std.proofs.Common.{refl, ap, ◌∙◌, arith, inl, inr}
use Rattle.iv_blocks.specs.KeptBlocks.{KeptBlocks}
use Rattle.iv_blocks.specs.Inside.Lookups.{kept_in}
use Rattle.iv_blocks.proofs.TakeLemmas.{keeps-all, keeps-taken, without-here}
use Rattle.iv_blocks.proofs.blocks.Blocks.join_before.Goals as goal

pub returns-in_default : goal.returns-in_default
returns-in_default g c =
    let a = c.args in
    record {
      kept = keeps-all a.group a.self.now c.requires;
      joined = inr (record { same = λ x. refl; joined_is = refl; apart = inl c.in_default.ensures.found });
      steps = record { no_less = omega (arith, c.before-2.ensures.steps); at_most = omega (arith, c.before-2.ensures.steps) };
    }

pub returns-then-from-reach : goal.returns-then-from-reach
returns-then-from-reach g c =
    let a = c.args in
    record {
      kept = keeps-all a.group a.self.now c.requires;
      joined = inr (record {
        same = λ x. refl;
        joined_is = refl;
        apart = inr ((c.in-Some.low, c.in-Some.last), c.in-Some.ensures.found, omega (arith, c.if-from-reach.true, c.reach.ensures, c.from.ensures));
      });
      steps = record { no_less = omega (arith, c.before-2.ensures.steps); at_most = omega (arith, c.before-2.ensures.steps) };
    }

pub returns : goal.returns
returns g c =
    let a = c.args in
    record {
      kept = keeps-taken a.group a.self.now a.self.now c.remove_block.new.self c.in-Some.low (keeps-all a.group a.self.now c.requires) c.remove_block.ensures.taken c.remove_block.ensures.ordered;
      joined = inl (record {
        stops = c.in-Some.last;
        last = c.in-Some.ensures.found;
        reaches = omega (arith, c.if-from-reach.false, c.reach.ensures, c.from.ensures);
        high = c.max.ensures;
        taken = λ x. ap (λ (l : KeptBlocks). kept_in l.entries a.group x) c.remove_block.ensures.taken ∙ without-here a.self.now.entries a.group c.in-Some.low c.requires x;
      });
      steps = record { no_less = omega (arith, c.before-2.ensures.steps, c.remove_block.ensures.steps); at_most = omega (arith, c.before-2.ensures.steps, c.remove_block.ensures.steps) };
    }
