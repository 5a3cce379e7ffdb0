use Rattle.std.proofs.Common.{◌∷◌, List, subst}
use Rattle.iv_bytes.proofs.PutLemmas.{FailsIn-front, Puts-back, Puts-err, Takes-nothing}
use Rattle.iv_lines.specs.RecordValue.{RecordValue}
use Rattle.iv_pair.specs.Inside.HitLines.{AllOverlap}
use Rattle.iv_pair.proofs.YieldLemmas.{ended, went}
use Rattle.iv_pair.proofs.intersect.put_hits.Goals as goal

pub returns-in_default : goal.returns-in_default
returns-in_default g c = λ found given all. rw (ended g.H.Iterator.next_gives g.T.BedRecord.as_record found _ _ given c.in_default.ensures.steps) (Takes-nothing _)

pub returns-in_err-put_hit : goal.returns-in_err-put_hit
returns-in_err-put_hit g c = λ found given all.
    let w = went g.H.Iterator.next_gives g.T.BedRecord.as_record found _ _ _ given c.in-Some.ensures.steps in
    let each : AllOverlap (g.R.BedRecord.as_record c.args.feature.now) (g.T.BedRecord.as_record c.in-Some.hit ∷ w.0) = subst (λ (l : List RecordValue). AllOverlap (g.R.BedRecord.as_record c.args.feature.now) l) w.1 all in
    rw w.1 (Puts-err _ _ c.from_residual.result _ c.from_residual.ensures.0
    (FailsIn-front _ _ _ _ ((rw c.to_ref-feature.ensures at c.in_err-put_hit.ensures) each.0)))

pub returns : goal.returns
returns g c = λ found given all.
    let w = went g.H.Iterator.next_gives g.T.BedRecord.as_record found _ _ _ given c.in-Some.ensures.steps in
    let each : AllOverlap (g.R.BedRecord.as_record c.args.feature.now) (g.T.BedRecord.as_record c.in-Some.hit ∷ w.0) = subst (λ (l : List RecordValue). AllOverlap (g.R.BedRecord.as_record c.args.feature.now) l) w.1 all in
    rw w.1 (Puts-back _ _ _ _ _ _ ((rw c.to_ref-feature.ensures at c.in_ok-put_hit.ensures) each.0) ((rw c.to_ref-feature.ensures at c.put_each_hit.ensures) w.0 w.2 each.1))
