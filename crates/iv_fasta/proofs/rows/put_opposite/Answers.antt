use Rattle.std.proofs.Common.{◌∙◌, ap, length, List, ℕ, subst, arith}
use Rattle.std.proofs.lemmas.List.{take_at}
use Rattle.iv_bytes.specs.Sinks.{Takes, FailsIn}
use Rattle.iv_bytes.proofs.PutLemmas.{Underway-fails, Underway-more, Puts-err}
use Rattle.iv_fasta.proofs.OppositeLemmas.{length-opposite, opposite-parts}
use Rattle.iv_fasta.proofs.rows.put_opposite.Goals as goal

pub returns-in_err-put_all : goal.returns-in_err-put_all
returns-in_err-put_all g c =
    let next = opposite-parts c.loop-rest.rest.now c.split_at.result.0.now c.split_at.result.1.now _ c.split_at.ensures.front c.split_at.ensures.back in
    Puts-err _ _ c.from_residual.result _ c.from_residual.ensures.0
    (Underway-fails _ _ _ _ _ _ (rw next at c.loop-rest.invariant)
    (subst (λ (l : List ℕ). FailsIn (g.S.Sink.state c.loop-rest.sink) (g.S.Sink.state c.put_all.new.sink) l)
    (take_at c.write_opposite.new.chunk _ c.min-count.result (omega (arith, ap length c.write_opposite.ensures, length-opposite c.split_at.result.1.now, c.split_at.ensures.back_len)) ∙ c.write_opposite.ensures) c.in_err-put_all.ensures))

pub loop-rest-preserved : goal.loop-rest-preserved
loop-rest-preserved g c =
    let next = opposite-parts c.loop-rest.rest.now c.split_at.result.0.now c.split_at.result.1.now _ c.split_at.ensures.front c.split_at.ensures.back in
    Underway-more _ _ _ _ _ _ (rw next at c.loop-rest.invariant)
    (subst (λ (l : List ℕ). Takes (g.S.Sink.state c.loop-rest.sink) (g.S.Sink.state c.put_all.new.sink) l)
    (take_at c.write_opposite.new.chunk _ c.min-count.result (omega (arith, ap length c.write_opposite.ensures, length-opposite c.split_at.result.1.now, c.split_at.ensures.back_len)) ∙ c.write_opposite.ensures) c.in_ok-put_all.ensures)
