use Rattle.std.proofs.Common.{◌∙◌, ap, arith}
use Rattle.std.specs.Prelude.{unwrap_or}
use Rattle.iv_track.proofs.StepLemmas.{takes_none, takes_one_more}
use Rattle.iv_ledger.proofs.RoomLemmas.{always_on_err}
use Rattle.iv_pair.proofs.LengthLemmas.{count_at, raised_rows, raised_tally}
use Rattle.iv_pair.proofs.lengths.raise.Goals as goal

pub overflow_add-count : goal.overflow_add-count
overflow_add-count g c =
    omega (arith, c.unwrap_or-count.ensures ∙ ap (λ o. unwrap_or o 0) (c.copied.ensures ∙ c.get.ensures.value), count_at c.args.lengths.now c.args.lengths.now c.args.key c.requires.tally, c.requires.room)

pub returns-clause-ok : goal.returns-clause-ok
returns-clause-ok g c =
    let count = c.unwrap_or-count.ensures ∙ ap (λ o. unwrap_or o 0) (c.copied.ensures ∙ c.get.ensures.value) in (
      raised_tally c.args.lengths.now c.put.new.self c.args.key c.requires.tally c.unwrap_or-count.result count c.in_ok-put.ensures.ok c.in_ok-put.ensures.ordered c.requires.small,
      raised_rows c.args.lengths.now c.put.new.self c.args.key c.requires.tally c.unwrap_or-count.result count c.in_ok-put.ensures.ok,
    )

pub returns-clause-steps : goal.returns-clause-steps
returns-clause-steps g c = takes_one_more _ _ _ 1 (takes_one_more _ _ _ 0 (takes_none _) c.get.ensures.step) c.put.ensures.step

pub returns-in_err-put-clause-memory : goal.returns-in_err-put-clause-memory
returns-in_err-put-clause-memory g c =
    always_on_err c.from_residual.result
    (count_at c.args.lengths.now c.args.lengths.now c.args.key c.requires.tally ∙ ap (λ o. unwrap_or o 0) c.in_err-put.ensures.absent)

pub returns-in_err-put-clause-steps : goal.returns-in_err-put-clause-steps
returns-in_err-put-clause-steps g c = takes_one_more _ _ _ 1 (takes_one_more _ _ _ 0 (takes_none _) c.get.ensures.step) c.put.ensures.step
