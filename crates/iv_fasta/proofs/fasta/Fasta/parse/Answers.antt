use Rattle.std.proofs.Common.{[], ap, sym, ◌∙◌, inl, inr}
use Rattle.iv_lines.specs.Lines.{lines}
use Rattle.iv_lines.proofs.PieceLemmas.{handed-on}
use Rattle.iv_fasta.specs.Fasta.{fasta_of}
use Rattle.iv_fasta.specs.Inside.FastaMeaning.{sequences_said}
use Rattle.iv_fasta.proofs.FastaMeaningLemmas.{fasta-value}
use Rattle.iv_fasta.proofs.LengthLemmas.{lengths-of}
use Rattle.iv_fasta.proofs.ReadingLemmas.{text-so}
use Rattle.iv_fasta.proofs.fasta.Fasta.parse.Goals as goal

pub returns-in_err-take_piece-clause-err : goal.returns-in_err-take_piece-clause-err
returns-in_err-take_piece-clause-err g c =
    let genome = c.args.genome.now in
    let begun = ap (fasta_of genome) (sym c.as_slice.ensures.value)
    ∙ sym (text-so genome c.new-reader.result c.as_slice.result.now (λ text. c.new-reader.ensures.read_on genome text c.lemma_of_names.ensures)) in
    handed-on c.from_residual.result _ _ c.from_residual.ensures.1
    (elim c.in_err-take_piece.ensures.err [ inl memory ↦ inl memory | inr refused ↦ inr (begun ∙ refused []) ])

pub returns-in_err-fasta-clause-err : goal.returns-in_err-fasta-clause-err
returns-in_err-fasta-clause-err g c =
    let genome = c.args.genome.now in
    let begun = ap (fasta_of genome) (sym c.as_slice.ensures.value)
    ∙ sym (text-so genome c.new-reader.result c.as_slice.result.now (λ text. c.new-reader.ensures.read_on genome text c.lemma_of_names.ensures)) in
    handed-on c.from_residual-in_err-fasta.result _ _ c.from_residual-in_err-fasta.ensures.1
    (elim c.in_err-fasta.ensures.err [ inl memory ↦ inl memory | inr refused ↦ inr (begun ∙ c.in_ok-take_piece.ensures.ok [] ∙ refused) ])

pub returns-clause-ok : goal.returns-clause-ok
returns-clause-ok g c =
    let genome = c.args.genome.now in
    let begun = ap (fasta_of genome) (sym c.as_slice.ensures.value)
    ∙ sym (text-so genome c.new-reader.result c.as_slice.result.now (λ text. c.new-reader.ensures.read_on genome text c.lemma_of_names.ensures)) in
    begun ∙ c.in_ok-take_piece.ensures.ok [] ∙ c.in_ok-fasta.ensures.ok

pub returns-clause-lengths : goal.returns-clause-lengths
returns-clause-lengths g c =
    let genome = c.args.genome.now in
    let text = c.args.text.items in
    let begun = ap (fasta_of genome) (sym c.as_slice.ensures.value)
    ∙ sym (text-so genome c.new-reader.result c.as_slice.result.now (λ text. c.new-reader.ensures.read_on genome text c.lemma_of_names.ensures)) in
    let means = (fasta-value genome text _).0 (begun ∙ c.in_ok-take_piece.ensures.ok [] ∙ c.in_ok-fasta.ensures.ok) in
    lengths-of genome (sequences_said (lines text)) _ c.lemma_of_names.ensures means.1 means.2
