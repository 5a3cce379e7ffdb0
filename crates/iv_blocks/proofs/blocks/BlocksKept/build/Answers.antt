use Rattle.std.proofs.Common.{◌∙◌, ℕ, List, map, sym, ap, subst, arith}
use Rattle.iv_lines.specs.Named.{names_of}
use Rattle.iv_cover.proofs.WalkLemmas.{merge-all}
use Rattle.iv_ledger.specs.Entries.{IsLedger, value_at}
use Rattle.iv_ledger.proofs.SeenLemmas.{seen-same}
use Rattle.iv_blocks.specs.KeptBlocks.{AreBlocksOf, Entries, Key, key_cmp}
use Rattle.iv_blocks.specs.Groups.{listed}
use Rattle.iv_blocks.specs.Inside.StoredBlocks.{StoredBlocks}
use Rattle.iv_blocks.specs.Inside.UnstrandedBlocks.{kept_entry, stop_entry}
use Rattle.iv_blocks.specs.IntervalOptions.{IsByIntervals}
use Rattle.iv_blocks.specs.declared.options.BlockOptions.{BlockOptions}
use Rattle.iv_blocks.proofs.Builds.{built-none, built-next, built-all}
use Rattle.iv_blocks.proofs.UnstrandedLemmas.{all-lie, kept-ordered, kept-found, stops-ordered, stops-found}
use Rattle.iv_blocks.proofs.StoredLemmas.{plain-ordered}
use Rattle.iv_blocks.proofs.blocks.BlocksKept.build.Goals as goal

-- ---- if the options are plain

pub finish-requires-clause-ascend : goal.finish-requires-clause-ascend
finish-requires-clause-ascend g c =
    let o = c.args.options in
    let s = c.args.genome.now in
    let records = c.args.track.now.records in
    let plain : IsByIntervals o.distance o = c.is_by_intervals.ensures.0 c.if-is_by_intervals.true in
    let given = c.in_ok-stops_of.ensures in
    let made = given.entries ∙ ap (map stop_entry) (merge-all o.distance s records given.order (all-lie s c.args.track.now.width records c.requires.fit)) in
    subst (IsLedger key_cmp) (sym (seen-same _ ∙ made)) (stops-ordered o s c.args.track.now.width records c.requires.fit plain.together plain.nothing)

pub returns-then-is_by_intervals-clause-right : goal.returns-then-is_by_intervals-clause-right
returns-then-is_by_intervals-clause-right g c =
    let o = c.args.options in
    let s = c.args.genome.now in
    let records = c.args.track.now.records in
    let plain : IsByIntervals o.distance o = c.is_by_intervals.ensures.0 c.if-is_by_intervals.true in
    let given = c.in_ok-stops_of.ensures in
    let made = given.entries ∙ ap (map stop_entry) (merge-all o.distance s records given.order (all-lie s c.args.track.now.width records c.requires.fit)) in
    let stops = c.in_ok-stops.stops in
    subst (λ (b : StoredBlocks). AreBlocksOf o (names_of s) records b.entries) (sym c.plain.ensures) (record {
      ordered = plain-ordered stops c.in_ok-stops.ensures.ordered;
      blocks = stops-found o s c.args.track.now.width records c.requires.fit plain.together plain.nothing stops (λ k.
          ap (λ (l : List (Key × ℕ)). value_at key_cmp l k) (c.in_ok-stops.ensures.entries ∙ seen-same _ ∙ made));
    })

-- ---- if strands are together

pub finish-requires-then-not-options-clause-ascend : goal.finish-requires-then-not-options-clause-ascend
finish-requires-then-not-options-clause-ascend g c =
    let o = c.args.options in
    let s = c.args.genome.now in
    let records = c.args.track.now.records in
    let given = c.in_ok-entries_of.ensures in
    let made = given.entries ∙ ap (map (kept_entry s (listed o.summaries))) (merge-all o.distance s records given.order (all-lie s c.args.track.now.width records c.requires.fit)) in
    subst (IsLedger key_cmp) (sym (seen-same _ ∙ made)) (kept-ordered o s c.args.track.now.width records c.requires.fit c.if-not-options.true)

pub returns-then-not-options-clause-right : goal.returns-then-not-options-clause-right
returns-then-not-options-clause-right g c =
    let o = c.args.options in
    let s = c.args.genome.now in
    let records = c.args.track.now.records in
    let given = c.in_ok-entries_of.ensures in
    let made = given.entries ∙ ap (map (kept_entry s (listed o.summaries))) (merge-all o.distance s records given.order (all-lie s c.args.track.now.width records c.requires.fit)) in
    subst (λ (b : StoredBlocks). AreBlocksOf o (names_of s) records b.entries) (sym c.with_results.ensures) (record {
      ordered = c.in_ok-blocks.ensures.ordered;
      blocks = λ k.
          ap (λ (l : Entries). value_at key_cmp l k) (c.in_ok-blocks.ensures.entries ∙ seen-same _ ∙ made)
          ∙ kept-found o s c.args.track.now.width records c.requires.fit c.if-not-options.true k;
    })

-- ---- if they are apart

pub loop-seq-init : goal.loop-seq-init
loop-seq-init g c = built-none c.args.genome.now c.args.track.now.records (record { options = c.args.options; entries = c.new.result.entries }) (ap (λ (b : StoredBlocks). b.entries) c.new.ensures)

pub insert_sequence-requires-clause-apart : goal.insert_sequence-requires-clause-apart
insert_sequence-requires-clause-apart g c = ap (λ (o : BlockOptions). o.stranded) c.loop-seq.invariant.for_options ∙ c.if-not-options.false

pub loop-seq-preserved : goal.loop-seq-preserved
loop-seq-preserved g c =
    let a = c.args in
    built-next a.genome.now a.track.now.width a.track.now.records c.requires.fit a.options c.loop-seq.seq c.loop-seq.blocks c.insert_sequence.new.self c.loop-seq.invariant c.in_ok-insert_sequence.ensures

pub returns-clause-right : goal.returns-clause-right
returns-clause-right g c =
    let a = c.args in
    subst (λ (o : BlockOptions). AreBlocksOf o (names_of a.genome.now) a.track.now.records c.loop-seq.blocks.entries) (sym c.loop-seq.invariant.for_options)
    (built-all a.genome.now a.track.now.width a.track.now.records c.requires.fit a.options c.loop-seq.seq c.loop-seq.blocks c.loop-seq.invariant (omega (arith, c.count-seq-end.ensures.value, c.loop-seq-test.false)))

pub returns-clause-built_for : goal.returns-clause-built_for
returns-clause-built_for g c = c.loop-seq.invariant.for_options
