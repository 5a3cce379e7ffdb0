use Rattle.std.proofs.Common.{◌≡◌, ◌-◌, filter, length, vec_capacity}
use Rattle.std.specs.List.{flat_map, range_with_len}
use Rattle.iv_bytes.proofs.PutLemmas.{Underway}
use Rattle.iv_lines.specs.Genome.{seq_count}
use Rattle.iv_blocks.specs.Groups.{listed, sides}
use Rattle.iv_blocks.specs.MergeRows.{merge_text, side_rows}
use Rattle.iv_cover.specs.Results.{HasRoom}
use Rattle.iv_places.proofs.SequenceLemmas.{is_from}
use Rattle.iv_blocks.proofs.merge_sweep.MergeSweep.print.Given as goal

-- the rows of the sequences from this rank on remain to be written
abbrev pub invariant-loop-seq : goal.invariant-loop-seq
invariant-loop-seq g l = record {
  put : Underway (g.S.Sink.state l.fn.sink) (g.S.Sink.state l.sink)
      (flat_map (λ seq. flat_map (side_rows l.fn.self.0 l.genome l.fn.self.1 seq) (sides l.fn.self.0.stranded)) (range_with_len l.seq (seq_count l.genome - l.seq)))
      (merge_text l.fn.self.0 l.genome l.fn.self.1);
  left_is : l.left ≡ filter (is_from l.seq) l.fn.self.1;
  options_are : l.self-inside.options ≡ l.fn.self.0;
  records_are : l.self-inside.records ≡ l.fn.self.1;
  room : HasRoom (vec_capacity l.self-inside.values) (length l.fn.self.1) (listed l.fn.self.0.summaries);
}
