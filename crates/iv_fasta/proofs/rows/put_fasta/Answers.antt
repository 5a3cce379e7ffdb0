use Rattle.iv_bytes.proofs.PutLemmas.{FailsIn-front, FailsIn-back, Puts-back, Puts-err}
use Rattle.iv_fasta.proofs.RowLemmas.{row-is}
use Rattle.iv_fasta.proofs.rows.put_fasta.Goals as goal

pub returns-in_err-put_front : goal.returns-in_err-put_front
returns-in_err-put_front g c =
    let there = rw (c.seq.ensures, c.start.ensures, c.stop.ensures.value) at c.in-Some.ensures in
    rw (row-is c.args.output c.args.genome.now c.args.fasta.now (g.R.BedRecord.as_record c.args.feature.now) c.in-Some.bases.now there)
    (Puts-err _ _ c.from_residual.result _ c.from_residual.ensures.0 (FailsIn-front _ _ _ _ c.in_err-put_front.ensures))

pub returns-in_err-put_bases : goal.returns-in_err-put_bases
returns-in_err-put_bases g c =
    let there = rw (c.seq.ensures, c.start.ensures, c.stop.ensures.value) at c.in-Some.ensures in
    rw (row-is c.args.output c.args.genome.now c.args.fasta.now (g.R.BedRecord.as_record c.args.feature.now) c.in-Some.bases.now there)
    (Puts-err _ _ c.from_residual-in_err-put_bases.result _ c.from_residual-in_err-put_bases.ensures.0
    (FailsIn-back _ _ _ _ _ c.in_ok-put_front.ensures (FailsIn-front _ _ _ _ (rw (c.shown_strand-strand.ensures) at c.in_err-put_bases.ensures))))

pub returns : goal.returns
returns g c =
    let there = rw (c.seq.ensures, c.start.ensures, c.stop.ensures.value) at c.in-Some.ensures in
    rw (row-is c.args.output c.args.genome.now c.args.fasta.now (g.R.BedRecord.as_record c.args.feature.now) c.in-Some.bases.now there)
    (Puts-back _ _ _ c.put_all.result _ _ c.in_ok-put_front.ensures
    (Puts-back _ _ _ c.put_all.result _ _ (rw (c.shown_strand-strand.ensures) at c.in_ok-put_bases.ensures) c.put_all.ensures))
