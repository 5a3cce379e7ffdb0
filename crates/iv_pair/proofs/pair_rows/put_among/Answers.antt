use Rattle.std.proofs.Common.{◌≡◌, ◌∙◌}
use Rattle.std.proofs.lemmas.Iterator.Consumers.{YieldsList-from_first}
use Rattle.iv_pair.specs.Hits.{hits_of}
use Rattle.iv_pair.proofs.pair_rows.put_among.Goals as goal

pub returns : goal.returns
returns g c = λ second order same.
    let found : c.of-hits.result ≡ hits_of (g.W.RecordWalk.left c.args.records) c.args.feature.now = rw (c.seq.ensures, c.start.ensures, c.stop.ensures.value) at c.of-hits.ensures in
    c.put_pair_rows.ensures second order (YieldsList-from_first g.W.Record.BedRecord.as_record (λ h. h) _ (found ∙ same)).runs
