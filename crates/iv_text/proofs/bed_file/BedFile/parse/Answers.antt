use Rattle.std.proofs.Common.{◌∙◌, ℕ, All, List, [], Result, Ok, ap, sym, subst, inl, inr}
use Rattle.iv_text.specs.BedFile.{Bed}
use Rattle.iv_lines.specs.Read.{Fits}
use Rattle.iv_lines.specs.RecordValue.{RecordValue}
use Rattle.iv_lines.specs.declared.fault.LoadFault.{LoadFault}
use Rattle.iv_text.specs.BedReading.{finished}
use Rattle.iv_lines.proofs.PieceLemmas.{handed-on}
use Rattle.iv_text.proofs.BedReadingLemmas.{text-whole}
use Rattle.iv_places.specs.declared.places.HeldColumns.TheVariants as held
use Rattle.iv_text.proofs.bed_file.BedFile.parse.Goals as goal

pub returns-in_err-take_piece-clause-err : goal.returns-in_err-take_piece-clause-err
returns-in_err-take_piece-clause-err g c =
    let empty = c.args.empty_width in
    handed-on c.from_residual.result _ _ c.from_residual.ensures.1
    (elim c.in_err-take_piece.ensures.err [
      | inl memory ↦ inl memory
      | inr refused ↦ inr (text-whole c.args.genome.now c.args.limit empty c.args.text.now _ c.new-draft.ensures ∙ ap (finished held.All empty) (refused []))
    ])

pub returns-in_err-file-clause-err : goal.returns-in_err-file-clause-err
returns-in_err-file-clause-err g c =
    let empty = c.args.empty_width in
    let whole = text-whole c.args.genome.now c.args.limit empty c.args.text.now _ c.new-draft.ensures ∙ ap (finished held.All empty) (c.in_ok-take_piece.ensures.ok []) in
    handed-on c.from_residual-in_err-file.result _ _ c.from_residual-in_err-file.ensures.1
    (elim c.in_err-file.ensures.err [
      | inl memory ↦ inl memory
      | inr refused ↦ inr (whole ∙ ap (finished held.All empty) refused)
    ])

pub returns-clause-ok : goal.returns-clause-ok
returns-clause-ok g c =
    let empty = c.args.empty_width in
    let done : ℕ → List RecordValue → Result Bed LoadFault = λ w records. Ok (record { width = w; records = records }) in
    text-whole c.args.genome.now c.args.limit empty c.args.text.now _ c.new-draft.ensures
    ∙ ap (finished held.All empty) (c.in_ok-take_piece.ensures.ok [])
    ∙ c.in_ok-file.ensures.ok
    ∙ ap (λ w. done w c.in_ok-file.file.records) (sym c.width.ensures.value)
    ∙ ap (done c.width.result) (sym (c.in_ok-to_records.ensures ∙ c.records.ensures))

pub returns-clause-fit : goal.returns-clause-fit
returns-clause-fit g c =
    subst (λ records. All (Fits c.args.genome.now c.width.result) records) (sym (c.in_ok-to_records.ensures ∙ c.records.ensures))
    (subst (λ w. All (Fits c.args.genome.now w) c.in_ok-file.file.records) (sym c.width.ensures.value) c.in_ok-file.ensures.fit)
