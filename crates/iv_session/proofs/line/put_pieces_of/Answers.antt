use Rattle.std.proofs.Common.{append_assoc}
use Rattle.iv_session.proofs.line.put_pieces_of.Goals as goal

pub returns : goal.returns
returns g c = simp append_assoc (rw (c.as_bytes.ensures.value, c.format.ensures.text) at c.put_pieces.ensures)
