use Rattle.std.proofs.Common.{ap, sym, ◌∙◌}
use Rattle.std.specs.Option.{option_map}
use Rattle.iv_lines.proofs.NamedLemmas.{unnamed}
use Rattle.iv_fasta.specs.FastaReading.{Summary}
use Rattle.iv_fasta.specs.Inside.Drafts.{cut}
use Rattle.iv_fasta.proofs.CutLemmas.{index-cut, lookup-at, index-there}
use Rattle.iv_fasta.proofs.held_sequences.HeldSequences.range_of.Goals as goal

pub returns-in-Some-sequence-clause-value : goal.returns-in-Some-sequence-clause-value
returns-in-Some-sequence-clause-value g c =
    let self = c.args.self.now in
    sym (ap (option_map (λ (s : Summary). s.bases)) (lookup-at (cut self.headers self.bases.items self.count) c.args.name.now c.in-Some.index _
    (index-cut self.headers self.bases.items self.count c.args.name.now ∙ sym c.in-Some.ensures.value) (sym c.in-Some-sequence.ensures.value)))

pub returns-in-None-sequence-clause-value : goal.returns-in-None-sequence-clause-value
returns-in-None-sequence-clause-value g c =
    let self = c.args.self.now in
    absurd (index-there (cut self.headers self.bases.items self.count) c.args.name.now c.in-Some.index
    (index-cut self.headers self.bases.items self.count c.args.name.now ∙ sym c.in-Some.ensures.value) (sym c.in-None-sequence.ensures.value))

pub returns-in-None-clause-value : goal.returns-in-None-clause-value
returns-in-None-clause-value g c =
    let self = c.args.self.now in
    sym (ap (option_map (λ (s : Summary). s.bases)) (unnamed (cut self.headers self.bases.items self.count) c.args.name.now
    (index-cut self.headers self.bases.items self.count c.args.name.now ∙ sym c.in-None.ensures.value)))
