use Rattle.iv_bytes.proofs.PutLemmas.{Takes-nothing}
use Rattle.iv_pair.proofs.LineLemmas.{not-asked}
use Rattle.iv_pair.proofs.intersect.put_if.Goals as goal

pub returns : goal.returns
returns g c = λ found all.
    rw (not-asked g.H.Iterator.next_gives g.T.BedRecord.as_record c.args.has c.next.result _ _ found c.args.genome.now (g.R.BedRecord.as_record c.args.feature.now) all c.next.ensures.steps (rw c.is_some.ensures at c.if-is_some-has.false))
    (Takes-nothing _)
