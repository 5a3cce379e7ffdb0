use Rattle.std.proofs.Common.{◌≡◌, ◌<◌, ◌≤◌, max, arith, refl}
use Rattle.iv_bytes.proofs.PutLemmas.{Underway-last, Puts-err}
use Rattle.iv_pair.proofs.UncoveredLemmas.{Remains-begin, Remains-next, Remains-fails, Remains-last, Remains-covered, within}
use Rattle.iv_pair.proofs.YieldLemmas.{ended, went}
use Rattle.iv_pair.proofs.subtract.put_uncovered.Goals as goal

pub loop-hit-init : goal.loop-hit-init
loop-hit-init g c = λ second order given.
    rw (c.start-from.ensures, c.into_iter-hit-iterator.ensures.into_iter_gives) (_, given, Remains-begin _ second _ _ _ _ _ order refl)

pub returns-in_err-put_part : goal.returns-in_err-put_part
returns-in_err-put_part g c = λ second order given.
    let i = c.loop-hit.invariant second order given in
    let w = went g.H.Iterator.next_gives g.T.BedRecord.as_record i.0 _ _ _ i.1 c.in-Some.ensures.steps in
    let hit = g.T.BedRecord.as_record c.in-Some.hit in
    let some : hit.start < hit.stop = rw c.stop-stop.ensures.value at c.stop-stop.ensures.some in
    let inside : hit.start < (g.R.BedRecord.as_record c.args.feature.now).stop = within _ second _ _ _ _ c.loop-hit.from hit i.0 w.0 _ w.1 some i.2 in
    let at : c.min.result ≡ hit.start = omega (arith, c.min.ensures, c.start-start.ensures, c.stop.ensures.value, inside) in
    Puts-err _ _ c.from_residual.result _ c.from_residual.ensures.0
    (Remains-fails _ second _ _ _ _ c.loop-hit.from hit i.0 w.0 _ w.1 some i.2 _ (rw at at c.in_err-put_part.ensures))

pub loop-hit-preserved : goal.loop-hit-preserved
loop-hit-preserved g c = λ second order given.
    let i = c.loop-hit.invariant second order given in
    let w = went g.H.Iterator.next_gives g.T.BedRecord.as_record i.0 _ _ _ i.1 c.in-Some.ensures.steps in
    let hit = g.T.BedRecord.as_record c.in-Some.hit in
    let some : hit.start < hit.stop = rw c.stop-stop.ensures.value at c.stop-stop.ensures.some in
    let inside : hit.start < (g.R.BedRecord.as_record c.args.feature.now).stop = within _ second _ _ _ _ c.loop-hit.from hit i.0 w.0 _ w.1 some i.2 in
    let at : c.min.result ≡ hit.start = omega (arith, c.min.ensures, c.start-start.ensures, c.stop.ensures.value, inside) in
    rw (c.max-from.ensures, c.stop-stop.ensures.value)
    (w.0, w.2, Remains-next _ second _ _ _ _ c.loop-hit.from hit i.0 w.0 _ w.1 some i.2 _ (rw at at c.in_ok-put_part.ensures))

pub returns-then-from-stop : goal.returns-then-from-stop
returns-then-from-stop g c = λ second order given.
    let i = c.loop-hit.invariant second order given in
    let w = went g.H.Iterator.next_gives g.T.BedRecord.as_record i.0 _ _ _ i.1 c.in-Some.ensures.steps in
    let hit = g.T.BedRecord.as_record c.in-Some.hit in
    let some : hit.start < hit.stop = rw c.stop-stop.ensures.value at c.stop-stop.ensures.some in
    let inside : hit.start < (g.R.BedRecord.as_record c.args.feature.now).stop = within _ second _ _ _ _ c.loop-hit.from hit i.0 w.0 _ w.1 some i.2 in
    let at : c.min.result ≡ hit.start = omega (arith, c.min.ensures, c.start-start.ensures, c.stop.ensures.value, inside) in
    let past : (g.R.BedRecord.as_record c.args.feature.now).stop ≤ max c.loop-hit.from hit.stop = omega (arith, c.max-from.ensures, c.stop-stop.ensures.value, c.stop-in-loop-hit.ensures.value, c.if-from-stop.true) in
    Remains-covered _ second _ _ _ _ _ w.0 _ past
    (Remains-next _ second _ _ _ _ c.loop-hit.from hit i.0 w.0 _ w.1 some i.2 _ (rw at at c.in_ok-put_part.ensures))

pub returns : goal.returns
returns g c = λ second order given.
    let i = c.loop-hit.invariant second order given in
    Underway-last _ _ _ _ c.put_part-2.result _
    (Remains-last _ second _ _ _ _ c.loop-hit.from i.0 _ (ended g.H.Iterator.next_gives g.T.BedRecord.as_record i.0 _ _ i.1 c.in-None.ensures.steps) i.2)
    (rw c.stop-2.ensures.value at c.put_part-2.ensures)
