use Rattle.std.proofs.Common.{◌∙◌, sym, subst, inl, inr}
use Rattle.iv_lines.specs.Widths.{IsWidth}
use Rattle.iv_lines.specs.declared.fault.LoadCause.{LoadCause}
use Rattle.iv_text.specs.Inside.BedReading.{RefusesLine}
use Rattle.iv_lines.proofs.PieceLemmas.{handed-on}
use Rattle.iv_text.proofs.BedReadingLemmas.{known-wide, fast-columns, fast-full, fast-sound, fast-taken, fast-width}
use Rattle.iv_text.proofs.bed_reader.BedLines.take_fast.Goals as goal

pub take_one-requires : goal.take_one-requires
take_one-requires g c =
    let genome = c.args.reader.now in
    let old = c.args.self.now in
    let w = c.in-Some.width in
    let known = sym c.width.ensures ∙ c.in-Some.is in
    let wide = known-wide c.args.columns genome c.args.limit old w c.requires.sound known in
    let fast = c.in-Some-read_fast.ensures in
    record {
      alike = fast-width c.args.columns genome c.args.limit old w c.args.text.now c.in-Some-read_fast.record c.in-Some-read_fast.size fast wide known c.requires.sound;
      width = subst IsWidth (sym fast.fits.width_is) wide;
      sound = fast-columns c.args.columns genome c.args.limit old w c.args.text.now c.in-Some-read_fast.record c.in-Some-read_fast.size fast wide known;
    }

pub returns-in_err-take_one-clause-err : goal.returns-in_err-take_one-clause-err
returns-in_err-take_one-clause-err g c =
    let genome = c.args.reader.now in
    let old = c.args.self.now in
    let w = c.in-Some.width in
    let known = sym c.width.ensures ∙ c.in-Some.is in
    let wide = known-wide c.args.columns genome c.args.limit old w c.requires.sound known in
    handed-on c.from_residual.result _ _ c.from_residual.ensures.1
    (elim c.in_err-take_one.ensures.err [
      | inl memory ↦ inl memory
      | inr full ↦ inr (subst (λ (f : LoadCause). RefusesLine c.args.columns genome c.args.limit old c.args.text.now f) (sym full.0)
          (fast-full c.args.columns genome c.args.limit old w c.args.text.now c.in-Some-read_fast.record c.in-Some-read_fast.size c.in-Some-read_fast.ensures wide known full.1))
    ])

pub returns-clause-sound : goal.returns-clause-sound
returns-clause-sound g c =
    let genome = c.args.reader.now in
    let old = c.args.self.now in
    let w = c.in-Some.width in
    let known = sym c.width.ensures ∙ c.in-Some.is in
    let wide = known-wide c.args.columns genome c.args.limit old w c.requires.sound known in
    let taken = c.in_ok-take_one.ensures in
    fast-sound c.args.columns genome c.args.limit old w c.args.text.now c.in-Some-read_fast.record c.in-Some-read_fast.size c.in-Some-read_fast.ensures wide known c.take_one.new.self taken.free taken.ok c.requires.sound

pub returns-clause-ok : goal.returns-clause-ok
returns-clause-ok g c =
    let genome = c.args.reader.now in
    let old = c.args.self.now in
    let w = c.in-Some.width in
    let known = sym c.width.ensures ∙ c.in-Some.is in
    let wide = known-wide c.args.columns genome c.args.limit old w c.requires.sound known in
    let taken = c.in_ok-take_one.ensures in
    fast-taken c.args.columns genome c.args.limit old w c.args.text.now c.in-Some-read_fast.record c.in-Some-read_fast.size c.in-Some-read_fast.ensures wide known c.take_one.new.self taken.free taken.ok
