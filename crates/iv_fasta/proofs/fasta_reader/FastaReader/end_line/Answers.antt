use Rattle.std.proofs.Common.{◌≡◌, ◌++◌, ap, sym, ◌∙◌, inl, inr, take, drop}
use Rattle.iv_lines.proofs.PieceLemmas.{handed-on}
use Rattle.iv_fasta.specs.FastaReading.{Reading, read_on}
use Rattle.iv_fasta.proofs.ReadingLemmas.{carried-so}
use Rattle.iv_fasta.proofs.fasta_reader.FastaReader.end_line.Goals as goal

pub returns-in_err-take-clause-err : goal.returns-in_err-take-clause-err
returns-in_err-take-clause-err g c =
    let genome = c.args.genome.now in
    let piece = c.args.piece.now in
    let size = c.first_end-size.result in
    let in_self = c.self.inside in
    let line : c.as_slice.result.now ≡ in_self.tail.items ++ take size piece = c.as_slice.ensures.value ∙ ap (λ v. v.items) c.replace-line.ensures.value ∙ c.in_ok-keep.ensures.ok in
    handed-on c.from_residual-in_err-take.result _ _ c.from_residual-in_err-take.ensures.1
    (elim c.in_err-take.ensures.err [
      | inl memory ↦ inl memory
      | inr refused ↦ inr (λ more.
          ap (λ (r : Reading). read_on genome r (piece ++ more)) (sym c.self.view_is)
          ∙ carried-so genome in_self.draft in_self.tail.items c.replace-line.new.dest.items c.as_slice.result.now piece more size (ap (λ v. v.items) c.replace-line.ensures.after ∙ c.new.ensures.items) line
          ∙ refused (drop size piece ++ more))
    ])

pub returns-clause-ok : goal.returns-clause-ok
returns-clause-ok g c = λ more.
    let genome = c.args.genome.now in
    let piece = c.args.piece.now in
    let size = c.first_end-size.result in
    let in_self = c.self.inside in
    let line : c.as_slice.result.now ≡ in_self.tail.items ++ take size piece = c.as_slice.ensures.value ∙ ap (λ v. v.items) c.replace-line.ensures.value ∙ c.in_ok-keep.ensures.ok in
    ap (λ (r : Reading). read_on genome r (piece ++ more)) (sym c.self.view_is)
    ∙ carried-so genome in_self.draft in_self.tail.items c.replace-line.new.dest.items c.as_slice.result.now piece more size (ap (λ v. v.items) c.replace-line.ensures.after ∙ c.new.ensures.items) line
    ∙ c.in_ok-take.ensures.ok (drop size piece ++ more)
