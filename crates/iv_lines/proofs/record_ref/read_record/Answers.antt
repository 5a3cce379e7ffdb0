use Rattle.std.proofs.Common.{◌≡◌, ◌≤◌, ◌∙◌, false, not, ap, sym, subst, arith}
use Rattle.std.specs.Prelude.{IsSome}
use Rattle.iv_lines.specs.Read.{bad_text}
use Rattle.iv_lines.specs.RecordText.{joined_record}
use Rattle.iv_lines.proofs.SoundLemmas.{plain-cells}
use Rattle.iv_lines.proofs.record_ref.read_record.Goals as goal
use Rattle.iv_lines.proofs.record_ref.read_record.Goals.{else-width-ge4-via-then-width-ge4+else-is_bad_text, else-width-ge4-via-else-width-ge4, else-width-ge5-via-then-width-ge5+else-is_bad_text-2, else-width-ge5-via-else-width-ge5, else-width-ge6-via-then-width-ge6+else-is_none, else-width-ge6-via-else-width-ge6}

pub of_rest-requires-clause-plain : goal.of_rest-requires-clause-plain
of_rest-requires-clause-plain g c =
    let w = c.args.width in
    let rest = c.in-Some.cells.rest.now in
    let cut = c.cut_columns-others in
    let name : 4 ≤ w → bad_text (joined_record 0 0 0 rest w).name ≡ false = λ wide. elim c.else-width-ge4.branch [
      | else-width-ge4-via-then-width-ge4+else-is_bad_text v ↦ ap bad_text (sym cut.ensures.name) ∙ sym v.is_bad_text.ensures ∙ v.if-is_bad_text.false
      | else-width-ge4-via-else-width-ge4 v ↦ absurd (omega (arith, wide, v.if-width-ge4.false))
    ] in
    let score : 5 ≤ w → bad_text (joined_record 0 0 0 rest w).score ≡ false = λ wide. elim c.else-width-ge5.branch [
      | else-width-ge5-via-then-width-ge5+else-is_bad_text-2 v ↦ ap bad_text (sym cut.ensures.score) ∙ sym v.is_bad_text-then-width-ge5.ensures ∙ v.if-is_bad_text-2.false
      | else-width-ge5-via-else-width-ge5 v ↦ absurd (omega (arith, wide, v.if-width-ge5.false))
    ] in
    let strand : 6 ≤ w → IsSome (joined_record 0 0 0 rest w).strand = λ wide. elim c.else-width-ge6.branch [
      | else-width-ge6-via-then-width-ge6+else-is_none v ↦ subst IsSome cut.ensures.strand (v.is_none.ensures ∙ ap not v.if-is_none.false)
      | else-width-ge6-via-else-width-ge6 v ↦ absurd (omega (arith, wide, v.if-width-ge6.false))
    ] in
    plain-cells w rest c.in-Some.ensures.none (c.in-Some.ensures.whole strand) name score strand
