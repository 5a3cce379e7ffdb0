use Rattle.iv_bytes.proofs.PutLemmas.{Takes-nothing}
use Rattle.iv_depth.proofs.Stretches.{rows-none, rows-bare, rows-covered, rows-one}
use Rattle.iv_depth.proofs.depth_rows.put_stretch.Goals as goal

pub returns-then-start-stop : goal.returns-then-start-stop
returns-then-start-stop g c = rw (rows-none c.args.output c.args.name.now (λ _. c.args.depth) c.args.start c.args.stop c.if-start-stop.true) (Takes-nothing _)

pub returns-then-depth-eq0 : goal.returns-then-depth-eq0
returns-then-depth-eq0 g c = rw (c.in-Covered.is, rows-bare c.args.name.now c.args.depth c.args.start c.args.stop c.if-start-stop.false c.if-depth-eq0.true) (Takes-nothing _)

pub returns-else-depth-eq0 : goal.returns-else-depth-eq0
returns-else-depth-eq0 g c = rw (c.in-Covered.is, rows-covered c.args.name.now c.args.depth c.args.start c.args.stop c.if-start-stop.false c.if-depth-eq0.false) c.put_run.ensures

pub returns-in-All : goal.returns-in-All
returns-in-All g c = rw (c.in-All.is, rows-one c.args.name.now c.args.depth c.args.start c.args.stop c.if-start-stop.false) c.put_run-in-All.ensures
