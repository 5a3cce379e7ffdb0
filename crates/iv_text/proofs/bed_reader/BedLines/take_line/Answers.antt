use Rattle.std.proofs.Common.{◌≡◌, ◌∙◌, sym, subst, inl, inr, drop}
use Rattle.iv_lines.specs.Lines.{lines}
use Rattle.iv_lines.specs.Widths.{IsWidth}
use Rattle.iv_lines.specs.declared.fault.LoadCause.{LoadCause}
use Rattle.iv_lines.specs.declared.fault.LoadCause.TheVariants as cause
use Rattle.iv_text.specs.BedReading.{AreSoundLines, LinesRead}
use Rattle.iv_text.specs.Inside.BedReading.{RefusesLine, TakesLine}
use Rattle.iv_lines.proofs.PieceLemmas.{handed-on}
use Rattle.iv_text.proofs.BedReadingLemmas.{columns-of, columns-refused, full-refused, one-sound, one-taken, one-width, record-refused, unread-taken}
use Rattle.iv_text.proofs.bed_reader.BedLines.take_line.Goals as goal

pub returns-then-is_skipped_line-clause-ok : goal.returns-then-is_skipped_line-clause-ok
returns-then-is_skipped_line-clause-ok g c =
    let text = c.args.text.now in
    let size = c.split_line-size.result.1 in
    let same : c.take_fast.new.self ≡ c.args.self.now = rw c.in_default.is at c.in_ok-size.ensures.ok in (
      c.split_line-size.ensures.some,
      c.split_line-size.ensures.within.1,
      subst (λ (l : LinesRead). TakesLine c.args.columns c.args.reader.now c.args.limit c.args.self.now l text size) (sym same)
          (unread-taken c.args.columns c.args.reader.now c.args.limit c.args.self.now (lines text) (lines (drop size text)) c.split_line-size.result.0.now c.split_line-size.ensures.lines (sym c.is_skipped_line.ensures ∙ c.if-is_skipped_line.true)),
    )

pub returns-in_default-width_for-clause-err : goal.returns-in_default-width_for-clause-err
returns-in_default-width_for-clause-err g c =
    let genome = c.args.reader.now in
    let text = c.args.text.now in
    let old = c.take_fast.new.self in
    let same : old ≡ c.args.self.now = rw c.in_default.is at c.in_ok-size.ensures.ok in
    inr (subst (λ (l : LinesRead). RefusesLine c.args.columns genome c.args.limit l text cause.Columns) same
    (columns-refused c.args.columns genome c.args.limit old (lines text) (lines (drop c.split_line-size.result.1 text)) c.split_line-size.result.0.now
    c.split_line-size.ensures.lines (sym c.is_skipped_line.ensures ∙ c.if-is_skipped_line.false) (rw c.width.ensures at c.in_default-width_for.ensures)))

pub returns-in-Err-clause-err : goal.returns-in-Err-clause-err
returns-in-Err-clause-err g c =
    let genome = c.args.reader.now in
    let text = c.args.text.now in
    let old = c.take_fast.new.self in
    let same : old ≡ c.args.self.now = rw c.in_default.is at c.in_ok-size.ensures.ok in
    let wide = rw c.width.ensures at c.in-Some-width_for.ensures in
    inr (subst (λ (l : LinesRead). RefusesLine c.args.columns genome c.args.limit l text (cause.Record c.in-Err.fault)) same
    (record-refused c.args.columns genome c.args.limit old (lines text) (lines (drop c.split_line-size.result.1 text)) c.split_line-size.result.0.now
    c.in-Some-width_for.width c.in-Err.fault c.split_line-size.ensures.lines (sym c.is_skipped_line.ensures ∙ c.if-is_skipped_line.false) wide.0 wide.1 wide.2 (sym c.in-Err.ensures.value)))

pub take_one-requires : goal.take_one-requires
take_one-requires g c =
    let genome = c.args.reader.now in
    let old = c.take_fast.new.self in
    let same : old ≡ c.args.self.now = rw c.in_default.is at c.in_ok-size.ensures.ok in
    let wide = rw c.width.ensures at c.in-Some-width_for.ensures in
    let fits = c.in-Ok.ensures.fits in
    record {
      alike = one-width c.args.columns genome c.args.limit old c.split_line-size.result.0.now c.in-Some-width_for.width c.in-Ok.record
          (subst (λ (l : LinesRead). AreSoundLines c.args.columns genome c.args.limit l) (sym same) c.requires.sound) wide.0 fits;
      width = subst IsWidth (sym fits.width_is) (wide.1, wide.2);
      sound = columns-of genome c.in-Some-width_for.width c.in-Ok.record fits;
    }

pub returns-in_err-take_one-clause-err : goal.returns-in_err-take_one-clause-err
returns-in_err-take_one-clause-err g c =
    let genome = c.args.reader.now in
    let text = c.args.text.now in
    let old = c.take_fast.new.self in
    let same : old ≡ c.args.self.now = rw c.in_default.is at c.in_ok-size.ensures.ok in
    let wide = rw c.width.ensures at c.in-Some-width_for.ensures in
    handed-on c.from_residual-in_err-take_one.result _ _ c.from_residual-in_err-take_one.ensures.1
    (elim c.in_err-take_one.ensures.err [
      | inl memory ↦ inl memory
      | inr full ↦ inr (subst (λ (f : LoadCause). RefusesLine c.args.columns genome c.args.limit c.args.self.now text f) (sym full.0)
          (subst (λ (l : LinesRead). RefusesLine c.args.columns genome c.args.limit l text cause.TooMany) same
          (full-refused c.args.columns genome c.args.limit old (lines text) (lines (drop c.split_line-size.result.1 text)) c.split_line-size.result.0.now c.in-Some-width_for.width c.in-Ok.record c.split_line-size.ensures.lines
          (sym c.is_skipped_line.ensures ∙ c.if-is_skipped_line.false) wide.0 wide.1 wide.2 (sym c.in-Ok.ensures.value) full.1)))
    ])

pub returns-clause-sound : goal.returns-clause-sound
returns-clause-sound g c =
    let genome = c.args.reader.now in
    let old = c.take_fast.new.self in
    let same : old ≡ c.args.self.now = rw c.in_default.is at c.in_ok-size.ensures.ok in
    let wide = rw c.width.ensures at c.in-Some-width_for.ensures in
    let taken = c.in_ok-take_one.ensures in
    one-sound c.args.columns genome c.args.limit old c.take_one.new.self c.args.text.now c.split_line-size.result.0.now c.split_line-size.result.1 c.in-Some-width_for.width c.in-Ok.record wide.0 wide.1 wide.2
    c.in-Ok.ensures.fits taken.free taken.ok (subst (λ (l : LinesRead). AreSoundLines c.args.columns genome c.args.limit l) (sym same) c.requires.sound)

pub returns-clause-ok : goal.returns-clause-ok
returns-clause-ok g c =
    let genome = c.args.reader.now in
    let text = c.args.text.now in
    let size = c.split_line-size.result.1 in
    let old = c.take_fast.new.self in
    let same : old ≡ c.args.self.now = rw c.in_default.is at c.in_ok-size.ensures.ok in
    let wide = rw c.width.ensures at c.in-Some-width_for.ensures in
    let taken = c.in_ok-take_one.ensures in (
      c.split_line-size.ensures.some,
      c.split_line-size.ensures.within.1,
      subst (λ (l : LinesRead). TakesLine c.args.columns genome c.args.limit l c.take_one.new.self text size) same
          (one-taken c.args.columns genome c.args.limit old c.take_one.new.self text c.split_line-size.result.0.now size c.in-Some-width_for.width c.in-Ok.record wide.0 wide.1 wide.2
          c.in-Ok.ensures.fits taken.free taken.ok c.split_line-size.ensures.lines (sym c.is_skipped_line.ensures ∙ c.if-is_skipped_line.false) (sym c.in-Ok.ensures.value)),
    )
