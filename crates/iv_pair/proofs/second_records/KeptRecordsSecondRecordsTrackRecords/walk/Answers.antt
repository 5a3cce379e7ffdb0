use Rattle.std.proofs.Common.{◌∙◌}
use Rattle.iv_track.proofs.WalkLemmas.{filter-from_first}
use Rattle.iv_pair.proofs.second_records.KeptRecordsSecondRecordsTrackRecords.walk.Goals as goal

pub returns : goal.returns
returns g c = c.walk.ensures.records ∙ filter-from_first c.self.inside.second.now.records ∙ c.self.view_is
