use Rattle.std.proofs.Common.{◌≡◌, ◌∙◌, Bool, ap, length, sym, arith, true, false}
use Rattle.iv_bytes.proofs.PutLemmas.{FailsIn-front, Puts-back, Puts-err}
use Rattle.iv_blocks.specs.Groups.{sides}
use Rattle.iv_blocks.specs.KeptBlocks.{KeptBlocks}
use Rattle.iv_blocks.proofs.RegionLemmas.{text-together, text-apart, count-together, count-apart}
use Rattle.iv_blocks.proofs.blocks.Blocks.print_merge_in.Goals as goal

pub returns-then-not-self : goal.returns-then-not-self
returns-then-not-self g c =
    let a = c.args in
    let together : a.self.now.options.stranded ≡ false = sym (ap (λ (b : KeptBlocks). b.options.stranded) c.self.view_is) ∙ c.if-not-self.true in
    let one = ap (λ (b : Bool). length (sides b)) together in
    let count = count-together a.self.now.options a.genome.now a.track.now.records a.region.seq a.region.start a.region.stop together in
    let steps = c.print_side_in.ensures.steps in
    record {
      text = rw (text-together a.self.now.options a.genome.now a.track.now.records a.region.seq a.region.start a.region.stop together) c.print_side_in.ensures.text;
      steps = record { no_less = omega (arith, steps); at_most = omega (arith, steps, count, one) };
    }

pub returns-in_err-print_side_in : goal.returns-in_err-print_side_in
returns-in_err-print_side_in g c =
    let a = c.args in
    let apart : a.self.now.options.stranded ≡ true = sym (ap (λ (b : KeptBlocks). b.options.stranded) c.self.view_is) ∙ c.if-not-self.false in
    let two = ap (λ (b : Bool). length (sides b)) apart in
    let count = count-apart a.self.now.options a.genome.now a.track.now.records a.region.seq a.region.start a.region.stop apart in
    let steps = c.in_err-print_side_in.ensures.steps in
    record {
      text = rw (text-apart a.self.now.options a.genome.now a.track.now.records a.region.seq a.region.start a.region.stop apart)
          (Puts-err _ _ c.from_residual.result _ c.from_residual.ensures.0 (FailsIn-front _ _ _ _ c.in_err-print_side_in.ensures.text));
      steps = record { no_less = omega (arith, steps); at_most = omega (arith, steps, count, two) };
    }

pub returns : goal.returns
returns g c =
    let a = c.args in
    let apart : a.self.now.options.stranded ≡ true = sym (ap (λ (b : KeptBlocks). b.options.stranded) c.self.view_is) ∙ c.if-not-self.false in
    let two = ap (λ (b : Bool). length (sides b)) apart in
    let count = count-apart a.self.now.options a.genome.now a.track.now.records a.region.seq a.region.start a.region.stop apart in
    let first = c.in_ok-print_side_in.ensures.steps in
    let second = c.print_side_in-3.ensures.steps in
    record {
      text = rw (text-apart a.self.now.options a.genome.now a.track.now.records a.region.seq a.region.start a.region.stop apart)
          (Puts-back _ _ _ c.print_side_in-3.result _ _ c.in_ok-print_side_in.ensures.text c.print_side_in-3.ensures.text);
      steps = record { no_less = omega (arith, first, second); at_most = omega (arith, first, second, count, two) };
    }
