use Rattle.std.proofs.Common.{◌∙◌, sym}
use Rattle.std.specs.Option.{option_map}
use Rattle.iv_fasta.specs.FastaReading.{held_by_rank}
use Rattle.iv_fasta.specs.Inside.Drafts.{cut}
use Rattle.iv_fasta.proofs.SummaryLemmas.{bases-wanted, bases-unwanted}
use Rattle.iv_fasta.proofs.held_sequences.HeldSequences.wanted_range_at.Goals as goal

pub returns-then-wants-clause-value : goal.returns-then-wants-clause-value
returns-then-wants-clause-value g c =
    let self = c.args.self.now in
    c.range_at.ensures.value
    ∙ sym (bases-wanted (option_map (λ ranks. ranks.items) c.args.wanted.now) (held_by_rank c.args.genome.now (cut self.headers self.bases.items self.count)) c.args.seq (sym c.wants.ensures ∙ c.if-wants.true))

pub returns-else-wants-clause-value : goal.returns-else-wants-clause-value
returns-else-wants-clause-value g c =
    let self = c.args.self.now in
    sym (bases-unwanted (option_map (λ ranks. ranks.items) c.args.wanted.now) (held_by_rank c.args.genome.now (cut self.headers self.bases.items self.count)) c.args.seq (sym c.wants.ensures ∙ c.if-wants.false))
