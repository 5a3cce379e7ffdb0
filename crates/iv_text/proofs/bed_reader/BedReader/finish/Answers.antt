use Rattle.std.proofs.Common.{◌≡◌, ◌≤◌, ◌∙◌, All, ℕ, List, [], Option, Result, Ok, subst, sym, ap, inl, inr, unwrap_or, append-nil}
use Rattle.iv_text.specs.BedFile.{Bed}
use Rattle.iv_lines.specs.Lines.{lines}
use Rattle.iv_lines.specs.RecordValue.{RecordValue}
use Rattle.iv_lines.specs.declared.fault.LoadFault.{LoadFault}
use Rattle.iv_places.specs.HeldColumns.{held_width}
use Rattle.iv_lines.specs.Read.{Fits}
use Rattle.iv_text.specs.BedReading.{Reading, after, read_on, finished}
use Rattle.iv_lines.proofs.PieceLemmas.{handed-on}
use Rattle.iv_text.proofs.BedReadingLemmas.{all-fit, held-known, held-same, sound-kept}
use Rattle.iv_text.proofs.bed_reader.BedReader.finish.Given.{Over}
use Rattle.iv_text.proofs.bed_reader.BedReader.finish.Goals.{After-width-width}
use Rattle.iv_text.proofs.bed_reader.BedReader.finish.Goals as goal

pub returns-in_err-take_lines-clause-err : goal.returns-in_err-take_lines-clause-err
returns-in_err-take_lines-clause-err g c =
    let genome = c.args.genome.now in
    let limit = c.args.limit in
    let read = c.self.inside.read in
    let line : List ℕ = c.as_slice.result.now in
    handed-on c.from_residual.result _ _ c.from_residual.ensures.1
    (elim c.in_err-take_lines.ensures.err [
      | inl memory ↦ inl memory
      | inr refused ↦ inr (
          ap (λ (r : Reading). read_on c.args.columns genome limit r []) (sym c.self.view_is)
          ∙ ap (λ (t : List ℕ). after c.args.columns genome limit read (lines t)) (append-nil c.self.inside.tail.items ∙ sym c.as_slice.ensures.value)
          ∙ ap (after c.args.columns genome limit read) (sym (append-nil (lines line)))
          ∙ refused [])
    ])

-- what is held fits the genome at its width
kept : (g : Over) (c : After-width-width g) → (3 ≤ c.width-width.result) × (c.width-width.result ≤ 6) × All (Fits c.args.genome.now c.width-width.result) c.finish-found.result.1.records
kept g c =
    let new = c.take_lines.new.self in
    let wide = sound-kept c.args.columns c.args.genome.now c.args.limit new c.args.empty_width c.in_ok-take_lines.ensures.sound c.requires.width.0 c.requires.width.1 in
    let width : held_width c.args.columns (unwrap_or new.width c.args.empty_width) ≡ c.width-width.result =
    ap (λ (o : Option ℕ). held_width c.args.columns (unwrap_or o c.args.empty_width)) (sym c.finish-found.ensures.width) ∙ ap (held_width c.args.columns) (sym c.unwrap_or.ensures) ∙ sym c.width-width.ensures in
    let known = held-known c.args.columns (unwrap_or new.width c.args.empty_width) wide.0 wide.1 in
    let fit = all-fit c.args.columns c.args.genome.now (unwrap_or new.width c.args.empty_width) new.records wide.2 in (
      subst (λ (w : ℕ). 3 ≤ w) width known.0,
      subst (λ (w : ℕ). w ≤ 6) width known.1,
      subst (λ (records : List RecordValue). All (Fits c.args.genome.now c.width-width.result) records) (sym c.finish-found.ensures.held)
          (subst (λ (w : ℕ). All (Fits c.args.genome.now w) new.records) width fit),
    )

pub set_width-requires-clause-all : goal.set_width-requires-clause-all
set_width-requires-clause-all g c = λ k e within. ((kept g (goal.at.set_width-requires-clause-all g c).After-width-width).2 k e within).width_is

pub set_width-requires-clause-known : goal.set_width-requires-clause-known
set_width-requires-clause-known g c = let known = kept g (goal.at.set_width-requires-clause-known g c).After-width-width in (known.0, known.1)

pub returns-clause-ok : goal.returns-clause-ok
returns-clause-ok g c =
    let which = c.args.columns in
    let genome = c.args.genome.now in
    let limit = c.args.limit in
    let empty = c.args.empty_width in
    let read = c.self.inside.read in
    let new = c.take_lines.new.self in
    let line : List ℕ = c.as_slice.result.now in
    let done : ℕ → List RecordValue → Result Bed LoadFault = λ w records. Ok (record { width = held_width which w; records = records }) in
    let wide = sound-kept which genome limit new empty c.in_ok-take_lines.ensures.sound c.requires.width.0 c.requires.width.1 in
    ap (finished which empty)
    (ap (λ (r : Reading). read_on which genome limit r []) (sym c.self.view_is)
    ∙ ap (λ (t : List ℕ). after which genome limit read (lines t)) (append-nil c.self.inside.tail.items ∙ sym c.as_slice.ensures.value)
    ∙ ap (after which genome limit read) (sym (append-nil (lines line)))
    ∙ c.in_ok-take_lines.ensures.ok [])
    ∙ ap (done (unwrap_or new.width empty)) (held-same which genome limit _ new.records wide.2)
    ∙ ap (λ w. done w new.records) (ap (λ o. unwrap_or o empty) (sym c.finish-found.ensures.width) ∙ sym c.unwrap_or.ensures)
    ∙ ap (λ items. done c.unwrap_or.result items) (sym c.finish-found.ensures.held)
    ∙ ap (λ w. Ok (record { width = w; records = c.finish-found.result.1.records })) (sym c.width-width.ensures)
    ∙ ap Ok (sym c.set_width.ensures)

pub returns-clause-fit : goal.returns-clause-fit
returns-clause-fit g c =
    subst (λ (file : Bed). All (Fits c.args.genome.now file.width) file.records) (sym c.set_width.ensures) (kept g (goal.at.returns-clause-fit g c).After-width-width).2
