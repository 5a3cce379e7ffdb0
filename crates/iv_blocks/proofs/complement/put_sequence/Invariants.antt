use Rattle.std.proofs.Common.{◌≡◌, length}
use Rattle.std.specs.List.{flat_map, take_while}
use Rattle.iv_bytes.proofs.PutLemmas.{Underway}
use Rattle.iv_blocks.specs.Inside.BlockCursor.{gaps_between, starts_until, drop_while, TakesForEach}
use Rattle.iv_blocks.specs.ComplementRows.{gap_row}
use Rattle.iv_blocks.proofs.complement.put_sequence.Given as goal

-- the gaps from `start` on remain to be written
abbrev pub invariant-loop-block : goal.invariant-loop-block
invariant-loop-block g l = record {
  put : Underway (g.S.Sink.state l.fn.sink) (g.S.Sink.state l.sink)
      (flat_map (gap_row l.name) (gaps_between l.shown l.start l.length (take_while (starts_until l.seq l.length) (g.B.BlocksAhead.left l.blocks))))
      (flat_map (gap_row l.name) (gaps_between l.empty_wanted 0 l.length (take_while (starts_until l.seq l.length) (g.B.BlocksAhead.left l.fn.blocks))));
  past : drop_while (starts_until l.seq l.length) (g.B.BlocksAhead.left l.fn.blocks) ≡ drop_while (starts_until l.seq l.length) (g.B.BlocksAhead.left l.blocks);
  steps : TakesForEach (g.B.BlocksAhead.steps l.fn.counter) (g.B.BlocksAhead.steps l.counter) (g.B.BlocksAhead.left l.fn.blocks) (g.B.BlocksAhead.left l.blocks);
}

abbrev pub decreases-loop-block : goal.decreases-loop-block
decreases-loop-block g l = length (g.B.BlocksAhead.left l.blocks)
