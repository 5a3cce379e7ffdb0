use Rattle.std.proofs.Common.{◌≡◌, ◌∙◌, ap, arith, length, None}
use Rattle.std.specs.List.{flat_map, take_while}
use Rattle.iv_track.proofs.StepLemmas.{takes_none, takes_one_more}
use Rattle.iv_blocks.specs.Inside.Regions.{goes_on}
use Rattle.iv_blocks.specs.Inside.Texts.{entry_row}
use Rattle.iv_blocks.specs.KeptBlocks.{KeptBlocks, Entries}
use Rattle.iv_blocks.proofs.MergeLemmas.{rows-are, count-is, take-always}
use Rattle.iv_blocks.proofs.blocks.Blocks.print_merge.Goals as goal

pub returns : goal.returns
returns g c =
    let a = c.args in
    let all : take_while (goes_on None) c.walk_all-walk.result ≡ a.self.now.entries
    = take-always c.walk_all-walk.result ∙ c.walk_all-walk.ensures.entries ∙ ap (λ (b : KeptBlocks). b.entries) c.self.view_is in
    let rows = ap (λ (l : Entries). flat_map (entry_row a.genome.now) l) all ∙ rows-are a.self.now.options a.genome.now a.track.now.width a.track.now.records a.self.now.entries c.requires.right c.requires.fit in
    let count = ap (λ (l : Entries). length l) all ∙ count-is a.self.now.options a.genome.now a.track.now.width a.track.now.records a.self.now.entries c.requires.right c.requires.fit in
    let one = takes_one_more _ _ _ 0 (takes_none a.meter.now) c.walk_all-walk.ensures.step in
    let steps = c.put_blocks.ensures.steps in
    record {
      text = rw rows at c.put_blocks.ensures.text;
      steps = record { no_less = omega (arith, one, steps); at_most = omega (arith, one, steps, count) };
    }
