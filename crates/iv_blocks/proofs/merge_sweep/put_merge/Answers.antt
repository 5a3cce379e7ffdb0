use Rattle.std.proofs.Common.{◌≡◌, ◌∙◌, ℕ, List, map}
use Rattle.std.specs.List.{flat_map}
use Rattle.std.proofs.lemmas.List.Folds.{flat_map-map}
use Rattle.iv_bytes.proofs.PutLemmas.{Underway-begin, Underway-more, Underway-fails, Underway-ends, Puts-err}
use Rattle.iv_lines.specs.Genome.{Sequences}
use Rattle.iv_lines.specs.RecordValue.{RecordValue}
use Rattle.iv_cover.specs.Inside.TrackBlocks.{blocks_of}
use Rattle.iv_blocks.specs.Inside.BlockSweeps.{interval_of, interval_row}
use Rattle.iv_blocks.specs.MergeRows.{merge_text}
use Rattle.iv_blocks.specs.IntervalOptions.{IsByIntervals}
use Rattle.iv_blocks.specs.declared.options.BlockOptions.{BlockOptions}
use Rattle.iv_blocks.proofs.MergeTexts.{text-blocks}
use Rattle.iv_blocks.proofs.merge_sweep.put_merge.Goals as goal

-- the rows of all blocks are the text
text-is : (d : ℕ) (g : Sequences) (records : List RecordValue) (o : BlockOptions) → IsByIntervals d o
    → flat_map (interval_row g) (map interval_of (blocks_of d g records)) ≡ merge_text o g records
text-is d g records o plain = flat_map-map (interval_row g) interval_of (blocks_of d g records) ∙ text-blocks d g records o plain

pub loop-block-init : goal.loop-block-init
loop-block-init g c = rw ((rw c.again.ensures at c.of-blocks.ensures.blocks) c.requires.order c.args.genome.now c.requires.on_genome) (Underway-begin _ _)

pub loop-block-preserved : goal.loop-block-preserved
loop-block-preserved g c = Underway-more _ _ _ _ _ _ (rw c.in-Some.ensures.1 at c.loop-block.invariant) c.in_ok-put_interval_row.ensures

pub returns-in_err-put_interval_row : goal.returns-in_err-put_interval_row
returns-in_err-put_interval_row g c = λ o plain.
    rw (← text-is c.args.distance c.args.genome.now c.args.records.now o plain)
    (Puts-err _ _ c.from_residual.result _ c.from_residual.ensures.0
    (Underway-fails _ _ _ _ _ _ (rw c.in-Some.ensures.1 at c.loop-block.invariant) c.in_err-put_interval_row.ensures))

pub returns : goal.returns
returns g c = λ o plain.
    rw (← text-is c.args.distance c.args.genome.now c.args.records.now o plain)
    (Underway-ends _ _ _ (rw c.in_default.ensures.0 at c.loop-block.invariant))
