use Rattle.std.proofs.Common.{◌≡◌, ◌∙◌, ◌∷◌, true, false, sym, ap, arith, length}
use Rattle.std.specs.List.{take_while}
use Rattle.iv_bytes.proofs.PutLemmas.{Underway-begin, Underway-more, Underway-fails, Underway-ends, Puts-err}
use Rattle.iv_track.proofs.StepLemmas.{takes_none, takes_one_more}
use Rattle.iv_blocks.specs.Inside.Regions.{goes_on}
use Rattle.iv_blocks.specs.Inside.StoredBlocks.{entry_shown}
use Rattle.iv_blocks.specs.KeptBlocks.{Key, Kept, Entries}
use Rattle.iv_blocks.proofs.BlockCursorLemmas.{take-first, take-none}
use Rattle.iv_blocks.proofs.merge.put_blocks.Goals as goal

pub loop-block-init : goal.loop-block-init
loop-block-init g c = record { put = Underway-begin _ _; no_less = omega arith; at_most = omega arith }

pub loop-block-preserved : goal.loop-block-preserved
loop-block-preserved g c =
    let i = c.loop-block.invariant in
    let e : Key × Kept = entry_shown c.in-Some.block in
    let first : c.loop-block.walk ≡ e ∷ c.next.new.self = c.in-Some.ensures.next in
    let goes : goes_on c.args.until e ≡ true = sym (c.goes_on.ensures e.1) ∙ c.if-not-goes_on.false in
    let more = take-first (goes_on c.args.until) c.loop-block.walk c.next.new.self e first goes in
    let one = takes_one_more _ _ _ 0 (takes_none c.loop-block.meter) c.in-Some.ensures.step in
    record {
      put = Underway-more _ _ _ _ _ _ (rw more at i.put) c.in_ok-put_block.ensures;
      no_less = omega (arith, i.no_less, one);
      at_most = omega (arith, i.at_most, one, ap (λ (l : Entries). length l) more);
    }

pub returns-in_err-put_block : goal.returns-in_err-put_block
returns-in_err-put_block g c =
    let i = c.loop-block.invariant in
    let e : Key × Kept = entry_shown c.in-Some.block in
    let first : c.loop-block.walk ≡ e ∷ c.next.new.self = c.in-Some.ensures.next in
    let goes : goes_on c.args.until e ≡ true = sym (c.goes_on.ensures e.1) ∙ c.if-not-goes_on.false in
    let more = take-first (goes_on c.args.until) c.loop-block.walk c.next.new.self e first goes in
    let one = takes_one_more _ _ _ 0 (takes_none c.loop-block.meter) c.in-Some.ensures.step in
    record {
      text = Puts-err _ _ c.from_residual.result _ c.from_residual.ensures.0
          (Underway-fails _ _ _ _ _ _ (rw more at i.put) c.in_err-put_block.ensures);
      steps = record { no_less = omega (arith, i.no_less, one); at_most = omega (arith, i.at_most, one) };
    }

pub returns-then-not-goes_on : goal.returns-then-not-goes_on
returns-then-not-goes_on g c =
    let i = c.loop-block.invariant in
    let e : Key × Kept = entry_shown c.in-Some.block in
    let first : c.loop-block.walk ≡ e ∷ c.next.new.self = c.in-Some.ensures.next in
    let ends : goes_on c.args.until e ≡ false = sym (c.goes_on.ensures e.1) ∙ c.if-not-goes_on.true in
    let none = ap (λ (l : Entries). take_while (goes_on c.args.until) l) first ∙ take-none (goes_on c.args.until) (e ∷ c.next.new.self) ends in
    let one = takes_one_more _ _ _ 0 (takes_none c.loop-block.meter) c.in-Some.ensures.step in
    record {
      text = Underway-ends _ _ _ (rw none at i.put);
      steps = record { no_less = omega (arith, i.no_less, one); at_most = omega (arith, i.at_most, one) };
    }

pub returns : goal.returns
returns g c =
    let i = c.loop-block.invariant in
    let one = takes_one_more _ _ _ 0 (takes_none c.loop-block.meter) c.in_default.ensures.step in
    record {
      text = Underway-ends _ _ _ (rw c.in_default.ensures.next.0 at i.put);
      steps = record { no_less = omega (arith, i.no_less, one); at_most = omega (arith, i.at_most, one) };
    }
