use Rattle.std.proofs.Common.{◌+◌, ◌≤◌, length}
use Rattle.std.specs.Option.{option_map}
use Rattle.std.specs.Prelude.{vec_len, vec_capacity}
use Rattle.iv_cover.specs.RecordWalks.{ahead_of}
use Rattle.iv_depth.proofs.GatheredLemmas.{IsTaking}
use Rattle.iv_depth.proofs.edges.SequenceEdges.take_records.Given as goal

-- some records were taken, and there is room for the others
abbrev pub invariant-loop-record : goal.invariant-loop-record
invariant-loop-record g l =
    let left = ahead_of (option_map g.W.Record.BedRecord.as_record l.self-inside.ahead) (g.W.RecordWalk.left l.self-inside.records) in record {
      taking : IsTaking l.seq l.fn.self.left left l.self-inside.starts.items l.self-inside.stops.items;
      starts : length left + vec_len l.self-inside.starts ≤ vec_capacity l.self-inside.starts;
      stops : length left + vec_len l.self-inside.stops ≤ vec_capacity l.self-inside.stops;
    }

abbrev pub decreases-loop-record : goal.decreases-loop-record
decreases-loop-record g l = length (ahead_of (option_map g.W.Record.BedRecord.as_record l.self-inside.ahead) (g.W.RecordWalk.left l.self-inside.records))
