use Rattle.std.proofs.Common.{◌≡◌, ◌++◌, ℕ, List, [], true, Err, ap, ◌∙◌, arith, refl}
use Rattle.iv_lines.specs.Fault.{fault_at}
use Rattle.iv_lines.proofs.PieceLemmas.{rest-whole}
use Rattle.iv_fasta.specs.FastaReading.{Progress, said}
use Rattle.iv_fasta.proofs.BlockLemmas.{length-after}
use Rattle.iv_fasta.proofs.SaidLemmas.{none-read, reads-on, refused-on, line-fault}
use Rattle.iv_fasta.proofs.fasta_draft.FastaDraft.take_text.Goals as goal

pub loop-taken-init : goal.loop-taken-init
loop-taken-init g c = record {
  within = omega arith;
  few = omega arith;
  wanted = refl;
  ok = none-read c.args.genome.now c.args.self.now c.args.text.now c.args.is_last;
}

pub loop-taken-preserved : goal.loop-taken-preserved
loop-taken-preserved g c =
    let l = c.loop-taken in
    let text = c.args.text.now in
    record {
      within = omega (arith, l.invariant.within, c.in-Ok.ensures.taken.0.0, length-after text l.taken);
      few = omega (arith, l.invariant.few, c.in-Ok.ensures.taken.0.1);
      wanted = c.take_some.ensures.taken.1 ∙ l.invariant.wanted;
      ok = reads-on c.args.genome.now c.args.self.now l.self c.take_some.new.self text _ l.taken c.in-Ok.size c.args.is_last l.invariant.ok (rest-whole text l.taken) c.in-Ok.ensures.ok;
    }

pub returns-in-Err-clause-err : goal.returns-in-Err-clause-err
returns-in-Err-clause-err g c =
    let l = c.loop-taken in
    let text = c.args.text.now in
    line-fault l.self.number c.in-Err.cause c.at.result (λ f. (more : List ℕ) → (c.args.is_last ≡ true → more ≡ []) → said c.args.genome.now c.args.self.now (text ++ more) ≡ Err f) (c.at.ensures ∙ ap (λ (q : Progress). fault_at q.number c.in-Err.cause) c.self.view_is)
    (refused-on c.args.genome.now c.args.self.now l.self text _ l.taken c.args.is_last c.in-Err.cause l.invariant.ok (rest-whole text l.taken) c.in-Err.ensures.err)
