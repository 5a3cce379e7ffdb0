use Rattle.std.proofs.Common.{ℕ, List, ap, sym, ◌∙◌, inr, Ok, Result}
use Rattle.std.specs.Option.{option_map}
use Rattle.iv_lines.specs.declared.fault.LoadFault.{LoadFault}
use Rattle.iv_lines.proofs.PieceLemmas.{handed-on}
use Rattle.iv_fasta.specs.Fasta.{Bases}
use Rattle.iv_fasta.specs.FastaReading.{Progress, Wanted, ended}
use Rattle.iv_fasta.specs.Inside.Drafts.{cut}
use Rattle.iv_fasta.specs.Inside.BaseRanges.{placed}
use Rattle.iv_fasta.proofs.LengthLemmas.{lengths-right}
use Rattle.iv_fasta.proofs.fasta_draft.FastaDraft.finish.Goals as goal

pub returns-in_err-check_lengths-clause-err : goal.returns-in_err-check_lengths-clause-err
returns-in_err-check_lengths-clause-err g c =
    let wanted : Wanted = option_map (λ ranks. ranks.items) c.self.inside.wanted in
    handed-on c.from_residual.result _ _ c.from_residual.ensures.1
    (inr (ap (λ (q : Progress). ended c.args.genome.now q.wanted q.draft.sequences) (sym c.self.view_is) ∙ c.in_err-check_lengths.ensures.err wanted))

pub returns-clause-ok : goal.returns-clause-ok
returns-clause-ok g c =
    let held = c.self.inside.held in
    let wanted : Wanted = option_map (λ ranks. ranks.items) c.self.inside.wanted in
    ap (λ (q : Progress). ended c.args.genome.now q.wanted q.draft.sequences) (sym c.self.view_is)
    ∙ lengths-right c.args.genome.now wanted (cut held.headers held.bases.items held.count) c.in_ok-check_lengths.ensures.ok
    ∙ ap {B = Result Bases LoadFault} (λ (b : Bases). Ok b) (sym c.in_ok-ranges.ensures.value)
    ∙ ap {B = Result Bases LoadFault} (λ (l : List ℕ). Ok (placed c.in_ok-ranges.ranges.items l)) (sym c.into_bases.ensures)
