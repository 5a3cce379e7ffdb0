use Rattle.std.proofs.Common.{◌≡◌, ◌∙◌, ℕ, refl, sym, ap, subst}
use Rattle.iv_lines.specs.Named.{names_of}
use Rattle.iv_blocks.specs.KeptBlocks.{AreBlocksOf, KeptBlocks}
use Rattle.iv_blocks.specs.Inside.Lookups.{kept_in}
use Rattle.iv_blocks.specs.Inside.Insertion.{with_block}
use Rattle.iv_blocks.specs.Inside.Repairs.{JoinsBefore, JoinsAfter}
use Rattle.iv_blocks.specs.declared.options.BlockOptions.{BlockOptions}
use Rattle.iv_blocks.proofs.GroupRepairLemmas.{IsEdit, edit-added, beside-added, added-all, added-takes}
use Rattle.iv_blocks.proofs.blocks.BlocksKept.added.Given.{Over}
use Rattle.iv_blocks.proofs.GroupSweeps.{on_ok_both}
use Rattle.iv_blocks.proofs.blocks.BlocksKept.added.Goals as goal

pub returns-in_default-clause-right : goal.returns-in_default-clause-right
returns-in_default-clause-right g c =
    let a = c.args in
    let before = c.requires.right in
    beside-added a.self.now.options c.self.inside.options (names_of a.genome.now) before.others a.track.now.records a.feature.now a.self.now.entries
    (ap (λ (b : KeptBlocks). b.options) c.self.view_is) c.in_default.ensures before.rows_are before.right

-- what is known once all is joined
edit : (g : Over) (c : goal.After-insert_block g) → IsEdit c.args.self.now.options c.in-Some.group c.args.feature.now c.requires.right.others c.args.track.now.records
edit g c =
    let a = c.args in
    edit-added a.self.now.options c.self.inside.options c.in-Some.group a.feature.now c.requires.right.others a.track.now.records a.genome.now a.track.now.width
    (ap (λ (b : KeptBlocks). b.options) c.self.view_is) c.in-Some.ensures c.requires.right.rows_are c.requires.fit

joined : (g : Over) (c : goal.After-insert_block g) → JoinsBefore c.args.self.now.options.distance (kept_in c.args.self.now.entries c.in-Some.group)
    (kept_in c.join_before-low.new.self.entries c.in-Some.group) c.args.feature.now.start c.args.feature.now.stop c.join_before-low.result
joined g c =
    let a = c.args in
    let first = c.join_before-low in
    subst (λ (p : ℕ × ℕ). JoinsBefore a.self.now.options.distance (kept_in a.self.now.entries c.in-Some.group) (kept_in first.new.self.entries c.in-Some.group) p.0 p.1 first.result)
    c.bounds_of-start.ensures first.ensures.joined

after : (g : Over) (c : goal.After-insert_block g) → JoinsAfter c.args.self.now.options.distance (kept_in c.join_before-low.new.self.entries c.in-Some.group)
    (kept_in c.join_after-high.new.self.entries c.in-Some.group) c.args.feature.now.start c.join_before-low.result.1 c.join_after-high.result
after g c =
    let first = c.join_before-low in
    let second = c.join_after-high in
    let old = kept_in first.new.self.entries c.in-Some.group in
    let new = kept_in second.new.self.entries c.in-Some.group in
    subst (λ (p : ℕ × ℕ). JoinsAfter c.args.self.now.options.distance old new p.0 first.result.1 second.result) c.bounds_of-start.ensures
    (subst (λ (p : BlockOptions). JoinsAfter p.distance old new c.bounds_of-start.result.0 first.result.1 second.result) first.ensures.kept.options second.ensures.joined)

pub returns-clause-right : goal.returns-clause-right
returns-clause-right g c =
    let a = c.args in
    let first = c.join_before-low in
    let second = c.join_after-high in
    let all = c.insert_block.new.self in
    let done = with_block second.new.self a.genome.now a.track.now.records c.in-Some.group first.result.0 second.result in
    on_ok_both c.insert_block.result c.insert_block.ensures.ok c.insert_block.ensures.ordered
    (λ put sorted.
    let same : all.options ≡ a.self.now.options = ap (λ (b : KeptBlocks). b.options) {x = all} {y = done} put ∙ second.ensures.kept.options ∙ first.ensures.kept.options in
    subst (λ (o : BlockOptions). AreBlocksOf o (names_of a.genome.now) a.track.now.records all.entries) (sym same)
    (added-all a.self.now.options (names_of a.genome.now) c.in-Some.group a.feature.now c.requires.right.others a.track.now.records (edit g c)
    a.self.now first.new.self second.new.self first.result second.result c.requires.right.right (joined g c) (after g c)
    all a.genome.now refl first.ensures.kept second.ensures.kept first.ensures.kept.options put sorted))

pub returns-clause-steps : goal.returns-clause-steps
returns-clause-steps g c =
    let a = c.args in
    let first = c.join_before-low in
    let second = c.join_after-high in
    added-takes a.self.now.options (names_of a.genome.now) c.in-Some.group a.feature.now c.requires.right.others a.track.now.records (edit g c)
    a.self.now first.new.self second.new.self first.result second.result c.requires.right.right (joined g c) (after g c)
    c.bounds_of-start.result.0 first.new.self.options.distance a.meter.now first.new.meter second.new.meter c.insert_block.new.meter
    (ap (λ (p : ℕ × ℕ). p.0) c.bounds_of-start.ensures) (ap (λ (p : BlockOptions). p.distance) first.ensures.kept.options)
    first.ensures.steps second.ensures.steps c.insert_block.ensures.steps
