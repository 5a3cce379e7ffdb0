use Rattle.std.proofs.Common.{rules, arith, refl, ◌+◌}
use Rattle.iv_ledger.proofs.ReplacedLemmas.{among_same}
use Rattle.iv_ledger.proofs.RoomLemmas.{filled_split, room_left, room_right, split_among}
use Rattle.iv_ledger.proofs.entry_index.with_room.Goals as goal

pub returns-then-at-half-clause-ok : goal.returns-then-at-half-clause-ok
returns-then-at-half-clause-ok g c = room_left c.in_ok-halve.ensures.ok c.index.ensures c.len-len.ensures (search rules) c.requires.filled refl (omega arith) c.args.at.index c.if-at-half.true

pub returns-then-at-half-clause-filled : goal.returns-then-at-half-clause-filled
returns-then-at-half-clause-filled g c = filled_split c.in_ok-halve.ensures.ok c.index.ensures c.len-len.ensures (search rules) c.requires.filled refl (omega arith)

pub returns-clause-ok : goal.returns-clause-ok
returns-clause-ok g c = room_right c.in_ok-halve.ensures.ok c.index.ensures c.len-len.ensures (search rules) c.requires.filled refl (omega arith) c.args.at.index (omega (arith, c.if-at-half.false)) c.requires.within

pub returns-clause-filled : goal.returns-clause-filled
returns-clause-filled g c = filled_split c.in_ok-halve.ensures.ok c.index.ensures c.len-len.ensures (search rules) c.requires.filled refl (omega arith)

pub returns-then-len-lt-MOST_IN_CHUNK-clause-others : goal.returns-then-len-lt-MOST_IN_CHUNK-clause-others
returns-then-len-lt-MOST_IN_CHUNK-clause-others g c = among_same c.args.chunks.now.items c.args.at.chunk (search rules)

pub returns-then-at-half-clause-others : goal.returns-then-at-half-clause-others
returns-then-at-half-clause-others g c = split_among c.in_ok-halve.ensures.ok c.index.ensures c.len-len.ensures (search rules) c.requires.filled refl (omega arith) c.args.at.chunk (omega arith) (omega arith)

pub returns-clause-others : goal.returns-clause-others
returns-clause-others g c = split_among c.in_ok-halve.ensures.ok c.index.ensures c.len-len.ensures (search rules) c.requires.filled refl (omega arith) (c.args.at.chunk + 1) (omega arith) (omega arith)
