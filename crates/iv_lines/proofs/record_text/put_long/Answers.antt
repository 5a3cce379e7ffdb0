use Rattle.iv_bytes.proofs.PutLemmas.{Puts-err}
use Rattle.iv_lines.proofs.JoinedLemmas.{front-is, long-fails, long-put}
use Rattle.iv_lines.proofs.record_text.put_long.Goals as goal

pub returns-in_err-put_after_numbers : goal.returns-in_err-put_after_numbers
returns-in_err-put_after_numbers g c =
    let begins = front-is c.args.genome.now c.args.feature.now c.seq.result c.start.result c.stop.result c.name_or_empty-name.result.now
    c.name_or_empty-name.ensures c.seq.ensures c.start.ensures c.stop.ensures.value in
    Puts-err _ _ c.from_residual.result _ c.from_residual.ensures.0
    (long-fails _ _ _ _ c.args.front.now c.args.rest.now _ c.args.tail.now begins c.requires.whole (c.in_err-put_after_numbers.ensures))

pub returns : goal.returns
returns g c =
    let begins = front-is c.args.genome.now c.args.feature.now c.seq.result c.start.result c.stop.result c.name_or_empty-name.result.now
    c.name_or_empty-name.ensures c.seq.ensures c.start.ensures c.stop.ensures.value in
    long-put _ _ _ _ _ _ c.args.front.now c.args.rest.now _ c.args.tail.now begins c.requires.whole (c.in_ok-put_after_numbers.ensures) c.put_after.ensures
