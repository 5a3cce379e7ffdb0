use Rattle.std.proofs.Common.{ℕ, sym, ◌∙◌, ap, ◌==◌}
use Rattle.iv_fasta.proofs.CutLemmas.{length-cut}
use Rattle.iv_fasta.proofs.held_sequences.HeldSequences.is_empty.Goals as goal

pub returns : goal.returns
returns g c =
    let self = c.args.self.now in
    ap (λ (n : ℕ). n == 0) (c.len.ensures.value ∙ sym (length-cut self.headers self.bases.items self.count))
