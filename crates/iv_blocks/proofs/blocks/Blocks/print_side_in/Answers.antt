use Rattle.std.proofs.Common.{◌≡◌, ◌∙◌, ap, ap₂, arith, filter, length, Some}
use Rattle.std.specs.List.{flat_map, take_while}
use Rattle.std.specs.Ordering.{is_le}
use Rattle.iv_lines.proofs.ListLemmas.{mem-filter}
use Rattle.iv_track.proofs.StepLemmas.{takes_none, takes_one_more}
use Rattle.iv_blocks.specs.Inside.Groups.{is_minus}
use Rattle.iv_blocks.specs.Inside.Insertion.{key_of}
use Rattle.iv_blocks.specs.Inside.Regions.{goes_on}
use Rattle.iv_blocks.specs.Inside.Texts.{entry_row}
use Rattle.iv_blocks.specs.KeptBlocks.{Key, Kept, KeptBlocks, Entries, key_cmp}
use Rattle.iv_blocks.specs.declared.group.Group.{Group}
use Rattle.iv_blocks.proofs.EntryLemmas.{from}
use Rattle.iv_blocks.proofs.RegionLemmas.{ascends-all, ascends-filter, is_early, rows-in, count-in, take-early}
use Rattle.iv_blocks.proofs.blocks.Blocks.print_side_in.Goals as goal

pub returns : goal.returns
returns g c =
    let a = c.args in
    let t = is_minus a.side in
    let group : Group = record { seq = a.region.seq; side = a.side } in
    let low = c.reaching_from-low.result in
    let entries = a.self.now.entries in
    let walked : c.walk-walk.result ≡ from (key_of group low) entries
    = c.walk-walk.ensures.entries ∙ ap₂ (λ (k : Key) (l : Entries). from k l) c.key.ensures (ap (λ (b : KeptBlocks). b.entries) c.self.view_is) in
    let early : take_while (goes_on (Some (group, a.region.stop))) c.walk-walk.result ≡ filter (is_early a.region.seq t a.region.stop) (from (key_of group low) entries)
    = ap (λ (l : Entries). take_while (goes_on (Some (group, a.region.stop))) l) walked
    ∙ take-early a.region.seq t a.region.stop low (from (key_of group low) entries)
    (ascends-filter (λ e. is_le (key_cmp (key_of group low) e.0)) entries (ascends-all entries c.requires.right.ordered))
    (λ f m. (mem-filter (λ (e : Key × Kept). is_le (key_cmp (key_of group low) e.0)) entries f m).1) in
    let rows = ap (λ (l : Entries). flat_map (entry_row a.genome.now) l) early
    ∙ rows-in a.self.now.options a.genome.now a.track.now.width a.track.now.records entries c.requires.right c.requires.fit a.region.seq t a.region.start a.region.stop low c.reaching_from-low.ensures.low in
    let count = ap (λ (l : Entries). length l) early
    ∙ count-in a.self.now.options a.genome.now a.track.now.width a.track.now.records entries c.requires.right c.requires.fit a.region.seq t a.region.start a.region.stop low c.reaching_from-low.ensures.low in
    let one = takes_one_more _ _ _ 0 (takes_none c.reaching_from-low.new.meter) c.walk-walk.ensures.step in
    let first = c.reaching_from-low.ensures.steps in
    let steps = c.put_blocks.ensures.steps in
    record {
      text = rw rows at c.put_blocks.ensures.text;
      steps = record { no_less = omega (arith, first, one, steps); at_most = omega (arith, first, one, steps, count) };
    }
