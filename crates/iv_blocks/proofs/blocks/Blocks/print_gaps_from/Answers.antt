use Rattle.std.proofs.Common.{◌<◌, subst, arith}
use Rattle.iv_bytes.proofs.PutLemmas.{Underway-begin, Underway-more, Underway-fails, Underway-ends, Underway-last, Puts-err}
use Rattle.iv_lines.specs.Genome.{sequence_name}
use Rattle.iv_lines.specs.Named.{names_of}
use Rattle.iv_blocks.specs.KeptBlocks.{AreBlocksOf}
use Rattle.iv_blocks.specs.declared.options.BlockOptions.{BlockOptions}
use Rattle.iv_blocks.proofs.GapRegionLemmas.{text-next, count-next, begins-next, stops-past, left-last, left-none}
use Rattle.iv_blocks.proofs.blocks.Blocks.print_gaps_from.Goals as goal

pub gaps-init : goal.gaps-init
gaps-init g c = record {
  put = Underway-begin _ _;
  begins = c.requires.begins;
  past = c.requires.past;
  no_less = omega arith;
  at_most = omega arith;
}

pub gaps-smaller : goal.gaps-smaller
gaps-smaller g c =
    let a = c.args in
    let right = subst (λ (o : BlockOptions). AreBlocksOf o (names_of a.genome.now) a.track.now.records a.self.now.entries) c.requires.joined c.requires.right in
    let found = c.in-Some.ensures.found in
    let long = stops-past a.genome.now a.track.now.width a.track.now.records a.self.now.entries right c.requires.fit a.region.seq a.limited a.region.start a.region.stop c.gaps.low (c.in-Some.next, c.in-Some.high) found in
    omega (arith, long, found.within, c.gaps-test.true, c.from.ensures)

pub gaps-preserved : goal.gaps-preserved
gaps-preserved g c =
    let a = c.args in
    let i = c.gaps.invariant in
    let right = subst (λ (o : BlockOptions). AreBlocksOf o (names_of a.genome.now) a.track.now.records a.self.now.entries) c.requires.joined c.requires.right in
    let found = c.in-Some.ensures.found in
    let near : c.gaps.low < a.region.stop = omega (arith, c.gaps-test.true, c.from.ensures) in
    let past = i.past c.in-Some.next _ found.within found.is in
    let next = text-next a.genome.now a.track.now.width a.track.now.records a.self.now.entries right c.requires.fit a.region.seq a.limited a.region.start a.region.stop (sequence_name a.genome.now a.region.seq) c.gaps.low (c.in-Some.next, c.in-Some.high) i.begins found near past in
    let count = count-next a.genome.now a.track.now.width a.track.now.records a.self.now.entries right c.requires.fit a.region.seq a.limited a.region.start a.region.stop c.gaps.low (c.in-Some.next, c.in-Some.high) i.begins found near past in
    let long = stops-past a.genome.now a.track.now.width a.track.now.records a.self.now.entries right c.requires.fit a.region.seq a.limited a.region.start a.region.stop c.gaps.low (c.in-Some.next, c.in-Some.high) found in
    let steps = c.in-Some.ensures.steps in
    record {
      put = Underway-more _ _ _ _ _ _ (rw next at i.put) (rw c.name_or_empty-name.ensures at c.in_ok-put_gap.ensures);
      begins = begins-next a.genome.now a.track.now.width a.track.now.records a.self.now.entries right c.requires.fit a.region.seq a.limited a.region.start a.region.stop c.gaps.low (c.in-Some.next, c.in-Some.high) found;
      past = λ x b above e. i.past x b (omega (arith, above, long, found.within)) e;
      no_less = omega (arith, i.no_less, steps);
      at_most = omega (arith, i.at_most, count, steps);
    }

pub returns-in_err-put_gap : goal.returns-in_err-put_gap
returns-in_err-put_gap g c =
    let a = c.args in
    let i = c.gaps.invariant in
    let right = subst (λ (o : BlockOptions). AreBlocksOf o (names_of a.genome.now) a.track.now.records a.self.now.entries) c.requires.joined c.requires.right in
    let found = c.in-Some.ensures.found in
    let near : c.gaps.low < a.region.stop = omega (arith, c.gaps-test.true, c.from.ensures) in
    let past = i.past c.in-Some.next _ found.within found.is in
    let next = text-next a.genome.now a.track.now.width a.track.now.records a.self.now.entries right c.requires.fit a.region.seq a.limited a.region.start a.region.stop (sequence_name a.genome.now a.region.seq) c.gaps.low (c.in-Some.next, c.in-Some.high) i.begins found near past in
    let steps = c.in-Some.ensures.steps in
    record {
      text = Puts-err _ _ c.from_residual.result _ c.from_residual.ensures.0
          (Underway-fails _ _ _ _ _ _ (rw next at i.put) (rw c.name_or_empty-name.ensures at c.in_err-put_gap.ensures));
      steps = record { no_less = omega (arith, i.no_less, steps); at_most = omega (arith, i.at_most, steps) };
    }

pub returns-in_default : goal.returns-in_default
returns-in_default g c =
    let a = c.args in
    let i = c.gaps.invariant in
    let right = subst (λ (o : BlockOptions). AreBlocksOf o (names_of a.genome.now) a.track.now.records a.self.now.entries) c.requires.joined c.requires.right in
    let near : c.gaps.low < a.region.stop = omega (arith, c.gaps-test.true, c.from.ensures) in
    let last = left-last a.genome.now a.track.now.width a.track.now.records a.self.now.entries right c.requires.fit a.region.seq a.limited a.region.start a.region.stop c.gaps.low i.begins c.in_default.ensures.found near in
    let steps = c.in_default.ensures.steps in
    record {
      text = Underway-last _ _ _ _ c.put_last_gap.result _ (rw last at i.put) (rw (c.name_or_empty-name.ensures, c.length_or_zero-end.ensures) at c.put_last_gap.ensures);
      steps = record { no_less = omega (arith, i.no_less, steps); at_most = omega (arith, i.at_most, steps) };
    }

pub returns : goal.returns
returns g c =
    let a = c.args in
    let i = c.gaps.invariant in
    let right = subst (λ (o : BlockOptions). AreBlocksOf o (names_of a.genome.now) a.track.now.records a.self.now.entries) c.requires.joined c.requires.right in
    let none = left-none a.genome.now a.track.now.width a.track.now.records a.self.now.entries right c.requires.fit a.region.seq a.limited a.region.start a.region.stop c.gaps.low (omega (arith, c.gaps-test.false, c.from.ensures)) in
    record {
      text = Underway-ends _ _ _ (rw none at i.put);
      steps = record { no_less = omega (arith, i.no_less); at_most = omega (arith, i.at_most) };
    }
