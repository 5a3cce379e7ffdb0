use Rattle.std.proofs.Common.{◌++◌, ℕ, List, ap, ◌∙◌}
use Rattle.std.specs.Option.{option_map}
use Rattle.iv_lines.specs.Chains.{if_ok}
use Rattle.iv_fasta.specs.FastaReading.{Progress, Wanted, said, ended}
use Rattle.iv_fasta.specs.Inside.Drafts.{begun_with}
use Rattle.iv_fasta.proofs.SummaryLemmas.{text-remaining}
use Rattle.iv_fasta.proofs.fasta_reader.FastaReader.new.Goals as goal

pub returns-clause-read_on : goal.returns-clause-read_on
returns-clause-read_on g c = λ genome text ranked.
    let wanted : Wanted = option_map (λ ranks. ranks.items) c.args.wanted in
    ap (λ (p : Progress). if_ok (said genome p (c.new-2.result.items ++ text)) (λ d. ended genome p.wanted d.sequences)) c.new.ensures
    ∙ ap (λ (l : List ℕ). if_ok (said genome (begun_with wanted) (l ++ text)) (λ d. ended genome wanted d.sequences)) c.new-2.ensures.items
    ∙ text-remaining genome wanted text ranked
