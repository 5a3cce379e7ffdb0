use Rattle.std.proofs.Common.{◌≡◌, ◌+◌, ◌-◌, ℕ, length, None, if◌then◌else◌, ◌==◌, refl, ap, ◌∙◌, arith}
use Rattle.iv_blocks.specs.KeptBlocks.{KeptBlocks}
use Rattle.iv_blocks.specs.declared.options.BlockOptions.{BlockOptions}
use Rattle.iv_blocks.specs.Inside.Lookups.{kept_in}
use Rattle.iv_blocks.proofs.TakeLemmas.{keeps-all, keeps-taken, without-here, without-fewer}
use Rattle.iv_blocks.proofs.JoinLemmas.{joining-begun, joining-more, joining-done, joining-count}
use Rattle.iv_blocks.proofs.blocks.Blocks.join_after.Goals as goal

pub gather-init : goal.gather-init
gather-init g c =
    let a = c.args in
    record {
      kept = keeps-all a.group a.self.now c.requires.ordered;
      taken = 0;
      state = joining-begun a.self.now.options.distance (kept_in a.self.now.entries a.group) a.from a.high c.requires.upward;
      steps = record { no_less = omega arith; at_most = omega arith };
    }

pub gather-preserved : goal.gather-preserved
gather-preserved g c =
    let a = c.args in
    let b = c.gather.invariant in
    let here : (x : ℕ) → kept_in c.remove_block.new.self.entries a.group x ≡ (if x == c.in-Some.start then None else kept_in c.gather.self.entries a.group x) =
    λ x. ap (λ (l : KeptBlocks). kept_in l.entries a.group x) c.remove_block.ensures.taken ∙ without-here c.gather.self.entries a.group c.in-Some.start b.kept.ordered x in
    let distance : c.gather.self.options.distance ≡ a.self.now.options.distance = ap (λ (o : BlockOptions). o.distance) b.kept.options in
    rw c.max-high.ensures (record {
      kept = keeps-taken a.group a.self.now c.gather.self c.remove_block.new.self c.in-Some.start b.kept c.remove_block.ensures.taken c.remove_block.ensures.ordered;
      taken = b.taken + 1;
      state = joining-more a.self.now.options.distance (kept_in a.self.now.entries a.group) (kept_in c.gather.self.entries a.group) a.from a.high c.gather.high b.taken b.state
          (kept_in c.remove_block.new.self.entries a.group) (c.in-Some.start, c.in-Some.stop) c.in-Some.ensures.found
          (omega (arith, c.if-from-reach.false, c.from-in-Some.ensures, c.reach.ensures, distance)) here;
      steps = record { no_less = omega (arith, b.steps, c.from.ensures.steps, c.remove_block.ensures.steps); at_most = omega (arith, b.steps, c.from.ensures.steps, c.remove_block.ensures.steps) };
    })

pub gather-smaller : goal.gather-smaller
gather-smaller g c =
    let fewer = without-fewer c.gather.self.entries c.args.group c.in-Some.start _ c.in-Some.ensures.found.is in
    omega (arith, fewer, ap (λ (l : KeptBlocks). length l.entries) c.remove_block.ensures.taken)

pub returns-then-from-reach : goal.returns-then-from-reach
returns-then-from-reach g c =
    let a = c.args in
    let b = c.gather.invariant in
    let distance : c.gather.self.options.distance ≡ a.self.now.options.distance = ap (λ (o : BlockOptions). o.distance) b.kept.options in
    let count = joining-count a.self.now.options.distance (kept_in a.self.now.entries a.group) (kept_in c.gather.self.entries a.group) a.from a.high c.gather.high b.taken b.state
    (c.gather.high + a.self.now.options.distance + 1 - a.from) refl in
    record {
      kept = b.kept;
      joined = joining-done a.self.now.options.distance (kept_in a.self.now.entries a.group) (kept_in c.gather.self.entries a.group) a.from a.high c.gather.high b.taken b.state
          (λ x above within. c.in-Some.ensures.found.none x above (omega (arith, c.if-from-reach.true, c.from-in-Some.ensures, c.reach.ensures, distance)));
      steps = record { no_less = omega (arith, b.steps, c.from.ensures.steps); at_most = omega (arith, b.steps, c.from.ensures.steps, count) };
    }

pub returns-in_default : goal.returns-in_default
returns-in_default g c =
    let a = c.args in
    let b = c.gather.invariant in
    let count = joining-count a.self.now.options.distance (kept_in a.self.now.entries a.group) (kept_in c.gather.self.entries a.group) a.from a.high c.gather.high b.taken b.state
    (c.gather.high + a.self.now.options.distance + 1 - a.from) refl in
    record {
      kept = b.kept;
      joined = joining-done a.self.now.options.distance (kept_in a.self.now.entries a.group) (kept_in c.gather.self.entries a.group) a.from a.high c.gather.high b.taken b.state
          (λ x above within. c.in_default.ensures.found x above);
      steps = record { no_less = omega (arith, b.steps, c.from.ensures.steps); at_most = omega (arith, b.steps, c.from.ensures.steps, count) };
    }
