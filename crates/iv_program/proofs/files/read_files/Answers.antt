use Rattle.std.proofs.Common.{refl, subst}
use Rattle.iv_lines.proofs.PieceLemmas.{handed-on}
use Rattle.iv_args.specs.declared.plan.Slot.TheVariants.{Sizes, First, Other, Bases}
use Rattle.iv_places.specs.declared.places.HeldColumns.{HeldColumns}
use Rattle.iv_program.specs.Inside.Runs.{HasFiles}
use Rattle.iv_program.proofs.RunLemmas.{all-read, all-texts, before-bases, before-first, before-other, has-files, none-read, plan-texts, stops-at}
use Rattle.iv_program.proofs.files.read_files.Goals as goal

pub returns-in_err-reader-clause-err : goal.returns-in_err-reader-clause-err
returns-in_err-reader-clause-err g c =
    let why = c.in_err-reader.ensures.err in
    handed-on c.from_residual.result _ _ c.from_residual.ensures.1
    (stops-at c.args.plan.now Sizes c.args.plan.now.sizes (g.F.InputFiles.state c.read_sizes-begun.new.files) _ _ why.0 refl
    (none-read (g.F.InputFiles.state c.args.files.now)) (rw (why.1, c.sizes_file.ensures) at c.read_sizes-begun.ensures.err))

pub returns-in_err-in_slot-clause-err : goal.returns-in_err-in_slot-clause-err
returns-in_err-in_slot-clause-err g c =
    let begun = rw (c.in_ok-reader.ensures.ok, c.sizes_file.ensures) at c.read_sizes-begun.ensures.ok in
    let sizes = begun.1 in
    let why = c.in_err-in_slot.ensures.err in
    handed-on c.from_residual-in_err-in_slot.result _ _ c.from_residual-in_err-in_slot.ensures.1
    (stops-at c.args.plan.now First c.args.plan.now.first (g.F.InputFiles.state c.read_first.new.files) _ _ why.0 refl
    (before-first c.args.plan.now sizes) (rw (why.1, c.first_file.ensures) at c.read_first.ensures.err))

pub returns-in_err-read_second_if_named-clause-err : goal.returns-in_err-read_second_if_named-clause-err
returns-in_err-read_second_if_named-clause-err g c =
    let begun = rw (c.in_ok-reader.ensures.ok, c.sizes_file.ensures) at c.read_sizes-begun.ensures.ok in
    let sizes = begun.1 in
    let first = rw (c.in_ok-in_slot.ensures.ok, c.first_file.ensures) at c.read_first.ensures.ok in
    let why = c.in_err-read_second_if_named.ensures.err in
    handed-on c.from_residual-in_err-read_second_if_named.result _ _ c.from_residual-in_err-read_second_if_named.ensures.1
    (stops-at c.args.plan.now Other why.1.0 (g.F.InputFiles.state c.read_second_if_named.new.files) _ _ why.0 why.1.1 (before-other c.args.plan.now sizes first.1) why.1.2)

pub returns-in_err-read_fasta_if_named-clause-err : goal.returns-in_err-read_fasta_if_named-clause-err
returns-in_err-read_fasta_if_named-clause-err g c =
    let begun = rw (c.in_ok-reader.ensures.ok, c.sizes_file.ensures) at c.read_sizes-begun.ensures.ok in
    let sizes = begun.1 in
    let first = rw (c.in_ok-in_slot.ensures.ok, c.first_file.ensures) at c.read_first.ensures.ok in
    let second = c.in_ok-read_second_if_named.ensures.ok in
    let why = c.in_err-read_fasta_if_named.ensures.err in
    handed-on c.from_residual-in_err-read_fasta_if_named.result _ _ c.from_residual-in_err-read_fasta_if_named.ensures.1
    (stops-at c.args.plan.now Bases why.1.0 (g.F.InputFiles.state c.read_fasta_if_named.new.files) _ _ why.0 why.1.1 (before-bases c.args.plan.now sizes first.1 second.1) why.1.2)

pub returns-clause-ok : goal.returns-clause-ok
returns-clause-ok g c =
    let plan = c.args.plan.now in
    let begun = rw (c.in_ok-reader.ensures.ok, c.sizes_file.ensures) at c.read_sizes-begun.ensures.ok in
    let sizes = begun.1 in
    let first = rw (c.in_ok-in_slot.ensures.ok, c.first_file.ensures) at c.read_first.ensures.ok in
    let second = c.in_ok-read_second_if_named.ensures.ok in
    let fasta = c.in_ok-read_fasta_if_named.ensures.ok in
    let texts = plan-texts plan sizes first.1 second.1 fasta.3 in (
      texts,
      all-texts plan sizes first.1 second.1 fasta.3,
      subst (λ (which : HeldColumns). HasFiles which c.args.for_rows plan texts c.finish.result) begun.2.columns
          (has-files plan c.in_ok-reader.reader c.read_first.new.reader c.read_second_if_named.new.reader c.read_fasta_if_named.new.reader begun.2.width begun.2.limit
          first.2 second.2 fasta.4 c.args.for_rows begun.0 c.finish.result begun.2.are fasta.2 c.finish.ensures),
    )

pub returns-clause-after : goal.returns-clause-after
returns-clause-after g c =
    let begun = rw (c.in_ok-reader.ensures.ok, c.sizes_file.ensures) at c.read_sizes-begun.ensures.ok in
    let sizes = begun.1 in
    let first = rw (c.in_ok-in_slot.ensures.ok, c.first_file.ensures) at c.read_first.ensures.ok in
    all-read c.args.plan.now sizes first.1 c.in_ok-read_second_if_named.ensures.ok.1 c.in_ok-read_fasta_if_named.ensures.ok.3
