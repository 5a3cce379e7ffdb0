use Rattle.std.proofs.Common.{sym}
use Rattle.iv_fasta.proofs.CutLemmas.{sequence-is, sequence-is_placed, sequence-counted, cut-past}
use Rattle.iv_fasta.proofs.held_sequences.HeldSequences.sequence.Goals as goal

pub returns-in_err-name-clause-value : goal.returns-in_err-name-clause-value
returns-in_err-name-clause-value g c =
    let self = c.args.self.now in
    rw c.from_residual.ensures (sym (cut-past self.headers self.bases.items self.count c.args.index (sym c.in_err-name.ensures.value)))

pub returns-clause-value : goal.returns-clause-value
returns-clause-value g c =
    let self = c.args.self.now in
    sequence-is self.headers self.bases.items c.in_ok-name.name.now c.in_ok-name.header.now c.args.index c.end_before-stop.result.0 c.end_before-stop.result.1 self.count c.in_ok-name.ensures.value
    c.end_before-stop.ensures.stop c.end_before-stop.ensures.before

pub returns-clause-within : goal.returns-clause-within
returns-clause-within g c =
    let self = c.args.self.now in
    sequence-is_placed self.headers self.bases.items c.in_ok-name.name.now c.in_ok-name.header.now c.args.index c.end_before-stop.result.0 self.in_order c.in_ok-name.ensures.value c.end_before-stop.ensures.stop

pub overflow_sub-result : goal.overflow_sub-result
overflow_sub-result g c =
    let self = c.args.self.now in
    sequence-counted self.headers self.count c.args.index c.end_before-stop.result.1 (c.in_ok-name.name.now, c.in_ok-name.header.now) self.counted c.in_ok-name.ensures.value c.end_before-stop.ensures.before
