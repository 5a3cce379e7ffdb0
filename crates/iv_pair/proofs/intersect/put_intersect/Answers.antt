use Rattle.std.proofs.Common.{sym}
use Rattle.std.proofs.lemmas.Iterator.Consumers.{count_from_yields_List}
use Rattle.iv_pair.specs.Hits.{hits_of}
use Rattle.iv_pair.proofs.LineLemmas.{Puts-hits}
use Rattle.iv_pair.proofs.intersect.put_intersect.Goals as goal

pub returns-in-Shared : goal.returns-in-Shared
returns-in-Shared g c = λ second given. Puts-hits c.args.output _ _ second _ _ _ (c.put_hits.ensures _ given) c.in-Shared.is

pub returns-in-Count : goal.returns-in-Count
returns-in-Count g c = λ second given.
    rw c.in-Count.is (c.put_count.ensures (hits_of second (g.R.BedRecord.as_record c.args.feature.now))
    (sym (count_from_yields_List {steps = g.H.Iterator.next_gives} {v = g.T.BedRecord.as_record} c.args.hits c.count.result c.count.ensures.ran record { runs = given })))
