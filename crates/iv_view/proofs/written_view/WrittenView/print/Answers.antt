use Rattle.std.proofs.Common.{◌≡◌, ◌∙◌}
use Rattle.iv_track.proofs.WalkLemmas.{filter-from_first}
use Rattle.iv_view.proofs.written_view.WrittenView.print.Goals as goal

pub returns-in-Getfasta-clause-text : goal.returns-in-Getfasta-clause-text
returns-in-Getfasta-clause-text g c =
    let all : c.walk-records.result ≡ c.args.track.now.records = c.walk-records.ensures.records ∙ filter-from_first c.args.track.now.records in
    rw c.in-Getfasta.is (rw (all, c.in-Getfasta.is) at c.put_each.ensures)
