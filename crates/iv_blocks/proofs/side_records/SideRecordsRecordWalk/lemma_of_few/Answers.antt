use Rattle.std.proofs.Common.{List, length, ap, arith}
use Rattle.iv_lines.specs.RecordValue.{RecordValue}
use Rattle.iv_track.proofs.WalkLemmas.{few}
use Rattle.iv_blocks.specs.Inside.Groups.{is_on}
use Rattle.iv_blocks.proofs.side_records.SideRecordsRecordWalk.lemma_of_few.Goals as goal

pub returns : goal.returns
returns c =
    let i = c.self.inside in
    omega (arith, ap (λ (l : List RecordValue). length l) c.self.view_is, few (is_on i.side) i.records, c.lemma_of_few.ensures)
