use Rattle.std.proofs.Common.{sym}
use Rattle.iv_depth.specs.Inside.Walks.{depth_by}
use Rattle.iv_depth.proofs.Lookups.{run_start-none, run_start-elsewhere, run_start-here}
use Rattle.iv_depth.proofs.region.run_start.Goals as goal

pub returns-in_default-clause-start : goal.returns-in_default-clause-start
returns-in_default-clause-start g c =
    run_start-none (depth_by c.args.changes.now c.args.seq) c.args.seq c.args.position c.requires.0 c.args.changes.now c.requires.1 (sym c.in_default.ensures.entry)

pub returns-then-change_seq-seq-clause-start : goal.returns-then-change_seq-seq-clause-start
returns-then-change_seq-seq-clause-start g c =
    run_start-elsewhere (depth_by c.args.changes.now c.args.seq) c.args.seq c.args.position c.requires.0 c.args.changes.now c.requires.1
    (c.in-Some.field-0-0.now, c.in-Some.field-0-1.now) (sym c.in-Some.ensures.entry) c.if-change_seq-seq.true

pub returns-clause-start : goal.returns-clause-start
returns-clause-start g c =
    run_start-here (depth_by c.args.changes.now c.args.seq) c.args.seq c.args.position c.requires.0 c.args.changes.now c.requires.1
    (c.in-Some.field-0-0.now, c.in-Some.field-0-1.now) (sym c.in-Some.ensures.entry) c.if-change_seq-seq.false
