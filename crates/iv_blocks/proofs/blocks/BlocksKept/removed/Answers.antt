use Rattle.std.proofs.Common.{◌≡◌, ◌≤◌, ◌∙◌, ℕ, refl, ap, sym, subst}
use Rattle.std.proofs.lemmas.Result.{on_ok_weaker}
use Rattle.iv_lines.specs.Named.{names_of}
use Rattle.iv_lines.specs.Ordered.{added}
use Rattle.iv_blocks.specs.KeptBlocks.{AreBlocksOf, KeptBlocks}
use Rattle.iv_blocks.specs.Inside.Groups.{between, members_between}
use Rattle.iv_blocks.specs.Inside.Lookups.{kept_in, IsLastBlock}
use Rattle.iv_blocks.specs.Inside.Insertion.{AreInserted}
use Rattle.iv_blocks.specs.Inside.Repairs.{AreOthers, without_block}
use Rattle.iv_blocks.specs.declared.options.BlockOptions.{BlockOptions}
use Rattle.iv_blocks.proofs.GroupRepairLemmas.{IsEdit, edit-removed, beside-removed, removed-found, removed-others, removed-takes, removed-covered, covered-takes, removed-all}
use Rattle.iv_blocks.proofs.blocks.BlocksKept.removed.Given.{Over}
use Rattle.iv_blocks.proofs.blocks.BlocksKept.removed.Goals as goal

pub returns-in_default-clause-right : goal.returns-in_default-clause-right
returns-in_default-clause-right g c =
    let a = c.args in
    beside-removed a.self.now.options c.self.inside.options (names_of a.genome.now) a.track.now.records a.feature.now a.self.now.entries
    (ap (λ (b : KeptBlocks). b.options) c.self.view_is) c.in_default.ensures c.requires.right

pub unreachable-requires : goal.unreachable-requires
unreachable-requires g c =
    let a = c.args in
    let edit = edit-removed a.self.now.options c.self.inside.options c.in-Some.group a.feature.now a.track.now.records a.genome.now a.track.now.width
    (ap (λ (b : KeptBlocks). b.options) c.self.view_is) c.in-Some.ensures c.requires.fit c.requires.fits in
    removed-found a.self.now.options (names_of a.genome.now) c.in-Some.group a.feature.now a.track.now.records (added a.track.now.records a.feature.now) edit a.self.now c.requires.right
    (λ x within. c.in_default-before.ensures.found x (subst (λ (p : ℕ × ℕ). x ≤ p.0) (sym c.bounds_of-start.ensures) within))

-- what is known once the block is found
edit : (g : Over) (c : goal.After-split_block-arg-2-1 g) → IsEdit c.args.self.now.options c.in-Some.group c.args.feature.now c.args.track.now.records (added c.args.track.now.records c.args.feature.now)
edit g c =
    let a = c.args in
    edit-removed a.self.now.options c.self.inside.options c.in-Some.group a.feature.now a.track.now.records a.genome.now a.track.now.width
    (ap (λ (b : KeptBlocks). b.options) c.self.view_is) c.in-Some.ensures c.requires.fit c.requires.fits

last : (g : Over) (c : goal.After-split_block-arg-2-1 g) → IsLastBlock (kept_in c.args.self.now.entries c.in-Some.group) c.args.feature.now.start (c.in-Some-before.low, c.in-Some-before.high)
last g c =
    subst (λ (p : ℕ × ℕ). IsLastBlock (kept_in c.args.self.now.entries c.in-Some.group) p.0 (c.in-Some-before.low, c.in-Some-before.high)) c.bounds_of-start.ensures c.in-Some-before.ensures.found

pub split_block-requires-clause-apart : goal.split_block-requires-clause-apart
split_block-requires-clause-apart g c =
    let is : IsEdit c.args.self.now.options c.in-Some.group c.args.feature.now c.args.track.now.records (added c.args.track.now.records c.args.feature.now) = edit g c in
    is.apart ∙ sym (ap (λ (b : KeptBlocks). b.options.stranded) c.remove_block.ensures.taken)

pub split_block-requires-clause-rest : goal.split_block-requires-clause-rest
split_block-requires-clause-rest g c =
    let a = c.args in
    let starts = ap (λ (p : ℕ × ℕ). p.0) c.bounds_of-start.ensures in
    let stops = ap (λ (p : ℕ × ℕ). p.1) c.bounds_of-start.ensures in
    let distance : a.self.now.options.distance ≡ c.remove_block.new.self.options.distance = sym (ap (λ (b : KeptBlocks). b.options.distance) c.remove_block.ensures.taken) in
    subst (λ (d : ℕ). AreOthers d (c.in-Some-before.low, c.in-Some-before.high) (c.bounds_of-start.result.0, c.bounds_of-start.result.1)
    (members_between c.in-Some.group c.in-Some-before.low c.in-Some-before.high a.track.now.records)) distance
    (removed-others a.self.now.options (names_of a.genome.now) c.in-Some.group a.feature.now a.track.now.records (added a.track.now.records a.feature.now) (edit g c) a.self.now c.requires.right
    (c.in-Some-before.low, c.in-Some-before.high) (last g c) c.bounds_of-start.result.0 c.bounds_of-start.result.1 starts stops)

pub returns-clause-right : goal.returns-clause-right
returns-clause-right g c =
    let a = c.args in
    on_ok_weaker c.split_block.result
    (λ (put : AreInserted c.in-Some.group (names_of a.genome.now) (between c.in-Some-before.low c.in-Some-before.high a.track.now.records) (without_block a.self.now c.in-Some.group c.in-Some-before.low) c.split_block.new.self).
    subst (λ (o : BlockOptions). AreBlocksOf o (names_of a.genome.now) a.track.now.records c.split_block.new.self.entries) (sym put.options)
    (removed-all a.self.now.options (names_of a.genome.now) c.in-Some.group a.feature.now a.track.now.records (added a.track.now.records a.feature.now) (edit g c.before) a.self.now c.requires.right
    (c.in-Some-before.low, c.in-Some-before.high) (last g c.before) c.split_block.new.self refl put))
    (rw c.remove_block.ensures.taken at c.split_block.ensures.ok)

pub returns-clause-built_for : goal.returns-clause-built_for
returns-clause-built_for g c =
    on_ok_weaker c.split_block.result
    (λ (put : AreInserted c.in-Some.group (names_of c.args.genome.now) (between c.in-Some-before.low c.in-Some-before.high c.args.track.now.records) (without_block c.args.self.now c.in-Some.group c.in-Some-before.low) c.split_block.new.self).
    put.options)
    (rw c.remove_block.ensures.taken at c.split_block.ensures.ok)

pub returns-clause-steps : goal.returns-clause-steps
returns-clause-steps g c =
    let a = c.args in
    let starts = ap (λ (p : ℕ × ℕ). p.0) c.bounds_of-start.ensures in
    let stops = ap (λ (p : ℕ × ℕ). p.1) c.bounds_of-start.ensures in
    removed-takes a.self.now.options (names_of a.genome.now) c.in-Some.group a.feature.now a.track.now.records (added a.track.now.records a.feature.now) (edit g c.before) a.self.now c.requires.right
    (c.in-Some-before.low, c.in-Some-before.high) (last g c.before) c.bounds_of-start.result.0 c.bounds_of-start.result.1
    a.meter.now c.before-2.new.meter c.stays_covered.new.meter c.remove_block.new.meter c.split_block.new.meter starts stops refl
    c.before-2.ensures.steps c.stays_covered.ensures.steps c.remove_block.ensures.steps c.split_block.ensures.steps

pub returns-then-stays_covered-clause-right : goal.returns-then-stays_covered-clause-right
returns-then-stays_covered-clause-right g c =
    let a = c.args in
    let options : c.self.inside.options ≡ a.self.now.options = ap (λ (b : KeptBlocks). b.options) c.self.view_is in
    let is : IsEdit a.self.now.options c.in-Some.group a.feature.now a.track.now.records (added a.track.now.records a.feature.now) =
    edit-removed a.self.now.options c.self.inside.options c.in-Some.group a.feature.now a.track.now.records a.genome.now a.track.now.width options c.in-Some.ensures c.requires.fit c.requires.fits in
    removed-covered a.self.now.options (names_of a.genome.now) c.in-Some.group a.feature.now a.track.now.records (added a.track.now.records a.feature.now) is a.self.now c.requires.right
    c.bounds_of-start.result.0 c.bounds_of-start.result.1 (ap (λ (p : ℕ × ℕ). p.0) c.bounds_of-start.ensures) (ap (λ (p : ℕ × ℕ). p.1) c.bounds_of-start.ensures)
    (c.stays_covered.ensures.covered c.if-stays_covered.true)

pub returns-then-stays_covered-clause-steps : goal.returns-then-stays_covered-clause-steps
returns-then-stays_covered-clause-steps g c =
    let a = c.args in
    let options : c.self.inside.options ≡ a.self.now.options = ap (λ (b : KeptBlocks). b.options) c.self.view_is in
    let is : IsEdit a.self.now.options c.in-Some.group a.feature.now a.track.now.records (added a.track.now.records a.feature.now) =
    edit-removed a.self.now.options c.self.inside.options c.in-Some.group a.feature.now a.track.now.records a.genome.now a.track.now.width options c.in-Some.ensures c.requires.fit c.requires.fits in
    covered-takes a.self.now.options (names_of a.genome.now) c.in-Some.group a.feature.now a.track.now.records (added a.track.now.records a.feature.now) is a.self.now c.requires.right
    (c.in-Some-before.low, c.in-Some-before.high)
    (subst (λ (p : ℕ × ℕ). IsLastBlock (kept_in a.self.now.entries c.in-Some.group) p.0 (c.in-Some-before.low, c.in-Some-before.high)) c.bounds_of-start.ensures c.in-Some-before.ensures.found)
    c.bounds_of-start.result.0 c.bounds_of-start.result.1 a.meter.now c.before-2.new.meter c.stays_covered.new.meter
    (ap (λ (p : ℕ × ℕ). p.0) c.bounds_of-start.ensures) (ap (λ (p : ℕ × ℕ). p.1) c.bounds_of-start.ensures) refl c.before-2.ensures.steps c.stays_covered.ensures.steps
