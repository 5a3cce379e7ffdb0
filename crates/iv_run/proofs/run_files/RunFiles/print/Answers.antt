use Rattle.std.proofs.Common.{◌≡◌, sym, ◌∙◌}
use Rattle.std.proofs.lemmas.Result.{err_from_is_err_and}
use Rattle.iv_bytes.proofs.PutLemmas.{Takes-finished, FailsIn-finished, same-top}
use Rattle.iv_run.proofs.run_files.RunFiles.print.Goals as goal

pub returns-in_err-finish : goal.returns-in_err-finish
returns-in_err-finish g c =
    let p = err_from_is_err_and c.from_residual-in_err-finish.result c.from_residual-in_err-finish.ensures.1 in
    let took = rw (c.new-buffer.ensures.same, c.new-buffer.ensures.empty) at c.in_ok-put.ensures.text in
    let named : c.put.new.sink.sink.ghost_name ≡ c.new-buffer.result.sink.ghost_name = (same-top _ _ _ _ _ _ took.moved.same).0 in
    let same = c.sink-2-1.given.1 (sym c.new-buffer.ensures.same_reference ∙ sym named) in
    rw (p.1, p.2, same) (FailsIn-finished _ _ _ _ _ _ _ took c.in_err-finish.ensures)

pub returns : goal.returns
returns g c =
    let took = rw (c.new-buffer.ensures.same, c.new-buffer.ensures.empty) at c.in_ok-put.ensures.text in
    let named : c.put.new.sink.sink.ghost_name ≡ c.new-buffer.result.sink.ghost_name = (same-top _ _ _ _ _ _ took.moved.same).0 in
    let same = c.sink-2-1.given.1 (sym c.new-buffer.ensures.same_reference ∙ sym named) in
    rw same (Takes-finished _ _ _ _ _ _ _ took c.in_ok-finish.ensures)
