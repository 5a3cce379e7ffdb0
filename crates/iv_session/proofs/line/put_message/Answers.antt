use Rattle.std.proofs.Common.{◌≡◌, sym, ◌∙◌}
use Rattle.iv_bytes.proofs.PutLemmas.{Puts-finished, same-top}
use Rattle.iv_session.proofs.line.put_message.Goals as goal

pub returns : goal.returns
returns g c =
    let named : c.put_pieces_of.new.messages.sink.ghost_name ≡ c.new-buffer.result.sink.ghost_name = (same-top _ _ _ _ _ _ c.in_ok-put_pieces_of.ensures.moved.same).0 in
    let took = rw (c.new-buffer.ensures.same, c.new-buffer.ensures.empty) at c.in_ok-put_pieces_of.ensures in
    let puts = Puts-finished _ _ _ _ _ _ _ c.finish.result took c.finish.ensures in
    let same = c.messages-2-1.given.1 (sym c.new-buffer.ensures.same_reference ∙ sym named) in
    rw same puts
