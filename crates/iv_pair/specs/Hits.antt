-- Which records of a second file share a position with a record.
use Rattle.std.specs.Prelude.{List}
use Rattle.iv_lines.specs.RecordValue.{RecordValue}
use Rattle.iv_track.specs.Regions.{hits}

-- the records that share a position with a record
abbrev pub hits_of : List RecordValue → RecordValue → List RecordValue
hits_of records a = hits records a.seq a.start a.stop
