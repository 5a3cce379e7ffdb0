use Rattle.std.proofs.Common.{◌≡◌, sym, ◌∙◌, ap, inr, Ok, true, false, ◌∷◌, [], length, nat_le, arith}
use Rattle.std.proofs.lemmas.Bool.{le-leb, lt-leb}
use Rattle.std.specs.Option.{is_some}
use Rattle.std.proofs.lemmas.Result.{err_from_is_err_and}
use Rattle.iv_lines.specs.Fields.{columns as columns_of}
use Rattle.iv_lines.specs.Named.{name_index}
use Rattle.iv_lines.specs.Read.{column}
use Rattle.iv_lines.specs.GenomeFile.{has_cause}
use Rattle.iv_lines.specs.declared.fault.LoadCause.TheVariants as cause
use Rattle.iv_lines.proofs.FileLemmas.{line-skipped, line-refused, line-taken}
use Rattle.iv_lines.proofs.ReadLemmas.{skip, hit}
use Rattle.iv_lines.proofs.genome.take_line.Goals as goal

pub returns-then-is_skipped-clause-ok : goal.returns-then-is_skipped-clause-ok
returns-then-is_skipped-clause-ok g c = line-skipped c.args.genome.now c.args.line.now (sym c.is_skipped.ensures ∙ c.if-is_skipped.true)

pub returns-in_err-name-clause-err : goal.returns-in_err-name-clause-err
returns-in_err-name-clause-err g c =
    let p = err_from_is_err_and c.from_residual.result c.from_residual.ensures.1 in
    rw (p.1, p.2) (inr (line-refused c.args.genome.now c.args.line.now c.in_err-name.field-0.0 (sym c.is_skipped.ensures ∙ c.if-is_skipped.false) (c.in_err-name.ensures.err c.args.genome.now)))

pub returns-then-is_some-clause-err : goal.returns-then-is_some-clause-err
returns-then-is_some-clause-err g c =
    let seqs = c.args.genome.now in
    let cs = columns_of c.args.line.now in
    let name : column cs 0 ≡ c.in_ok-name.name.now = ap (λ p. p.0) c.in_ok-name.ensures.ok in
    let there : is_some (name_index seqs (column cs 0)) ≡ true =
    ap (λ n. is_some (name_index seqs n)) name ∙ ap is_some (sym c.rank.ensures.value) ∙ sym c.is_some.ensures ∙ c.if-is_some.true in
    inr (line-refused seqs c.args.line.now cause.Repeated (sym c.is_skipped.ensures ∙ c.if-is_skipped.false)
    (c.in_ok-name.ensures.none seqs ∙ hit (has_cause seqs cs) cause.Repeated (cause.TooMany ∷ []) there))

pub returns-then-count-ge1000000-clause-err : goal.returns-then-count-ge1000000-clause-err
returns-then-count-ge1000000-clause-err g c =
    let seqs = c.args.genome.now in
    let cs = columns_of c.args.line.now in
    let name : column cs 0 ≡ c.in_ok-name.name.now = ap (λ p. p.0) c.in_ok-name.ensures.ok in
    let there : is_some (name_index seqs (column cs 0)) ≡ false =
    ap (λ n. is_some (name_index seqs n)) name ∙ ap is_some (sym c.rank.ensures.value) ∙ sym c.is_some.ensures ∙ c.if-is_some.false in
    let full : nat_le 1000000 (length seqs) ≡ true = le-leb 1000000 (length seqs) (omega (arith, c.count.ensures.value)) in
    inr (line-refused seqs c.args.line.now cause.TooMany (sym c.is_skipped.ensures ∙ c.if-is_skipped.false)
    (c.in_ok-name.ensures.none seqs ∙ skip (has_cause seqs cs) cause.Repeated (cause.TooMany ∷ []) there
    ∙ hit (has_cause seqs cs) cause.TooMany [] full))

pub returns-clause-ok : goal.returns-clause-ok
returns-clause-ok g c =
    let seqs = c.args.genome.now in
    let cs = columns_of c.args.line.now in
    let name : column cs 0 ≡ c.in_ok-name.name.now = ap (λ p. p.0) c.in_ok-name.ensures.ok in
    let there : is_some (name_index seqs (column cs 0)) ≡ false =
    ap (λ n. is_some (name_index seqs n)) name ∙ ap is_some (sym c.rank.ensures.value) ∙ sym c.is_some.ensures ∙ c.if-is_some.false in
    let room : nat_le 1000000 (length seqs) ≡ false = lt-leb 1000000 (length seqs) (omega (arith, c.count.ensures.value)) in
    line-taken seqs c.args.line.now c.in_ok-name.name.now c.in_ok-name.length (sym c.is_skipped.ensures ∙ c.if-is_skipped.false)
    (c.in_ok-name.ensures.none seqs ∙ skip (has_cause seqs cs) cause.Repeated (cause.TooMany ∷ []) there
    ∙ skip (has_cause seqs cs) cause.TooMany [] room)
    c.in_ok-name.ensures.ok
    ∙ ap Ok (sym c.in_ok-push.ensures.ok)
