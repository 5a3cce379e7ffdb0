use Rattle.std.proofs.Common.{rules, arith, refl, sym, ap, ◌∙◌, ◌≡◌, ◌++◌, ◌∷◌, Some}
use Rattle.iv_ledger.specs.Inside.Chunks.{concatenated, before, from}
use Rattle.iv_ledger.specs.Inside.Seen.{seen_chunks}
use Rattle.iv_ledger.proofs.RoomLemmas.{always_on_err}
use Rattle.iv_ledger.proofs.MapLemmas.{found_value, gap_value}
use Rattle.iv_ledger.proofs.LedgerLemmas.{seen_read, seen_insert, stored_written, kept_all, stored_kept, put_insert, stored_put}
use Rattle.iv_ledger.proofs.ledger.Ledger.put.Goals as goal

pub invariant_of-self : goal.invariant_of-self
invariant_of-self g c = stored_written (g.O.Order.read c.self.inside.order) g.met.O.Order.total c.in-Ok.ensures.found c.deref.ensures.value c.self.invariant.whole.in_chunks c.self.view_is c.index_mut.ensures.value c.index_mut-in-Ok.ensures.value c.replace.ensures.after c.self.invariant

pub returns-in-Ok-clause-before : goal.returns-in-Ok-clause-before
returns-in-Ok-clause-before g c = sym (found_value (seen_read (g.O.Order.read c.self.inside.order) g.met.O.Order.total c.in-Ok.ensures.found c.deref.ensures.value c.self.invariant.whole.in_chunks c.self.view_is c.index_mut.ensures.value c.index_mut-in-Ok.ensures.value) ∙ ap Some (sym c.replace.ensures.value))

pub returns-in-Ok-clause-ok : goal.returns-in-Ok-clause-ok
returns-in-Ok-clause-ok g c = seen_insert (g.O.Order.read c.self.inside.order) g.met.O.Order.total c.in-Ok.ensures.found c.deref.ensures.value c.self.invariant.whole.in_chunks c.self.view_is c.index_mut.ensures.value c.index_mut-in-Ok.ensures.value c.replace.ensures.after

pub returns-in-Ok-clause-ordered : goal.returns-in-Ok-clause-ordered
returns-in-Ok-clause-ordered g c = (stored_written (g.O.Order.read c.self.inside.order) g.met.O.Order.total c.in-Ok.ensures.found c.deref.ensures.value c.self.invariant.whole.in_chunks c.self.view_is c.index_mut.ensures.value c.index_mut-in-Ok.ensures.value c.replace.ensures.after c.self.invariant).whole.in_chunks.ordered

pub returns-then-self-eq-MOST_ENTRIES-clause-absent : goal.returns-then-self-eq-MOST_ENTRIES-clause-absent
returns-then-self-eq-MOST_ENTRIES-clause-absent g c = gap_value c.in-Err.ensures.absent (ap (seen_chunks (g.O.Order.read c.self.inside.order)) c.deref.ensures.value) c.self.view_is

pub returns-in_err-make_room-in-Err-clause-absent : goal.returns-in_err-make_room-in-Err-clause-absent
returns-in_err-make_room-in-Err-clause-absent g c = always_on_err _ (gap_value c.in-Err.ensures.absent (ap (seen_chunks (g.O.Order.read c.self.inside.order)) c.deref.ensures.value) c.self.view_is)

pub invariant_of-self-in_err-key-in-Err : goal.invariant_of-self-in_err-key-in-Err
invariant_of-self-in_err-key-in-Err g c = stored_kept (g.O.Order.read c.self.inside.order) (g.O.Order.read c.keep.new.self) (g.O.Order.IsKey c.self.inside.order) (g.O.Order.IsKey c.keep.new.self) c.keep.ensures.kept c.self.invariant c.self.inside.chunks.items refl c.self.invariant.filled

pub returns-in_err-key-in-Err-clause-absent : goal.returns-in_err-key-in-Err-clause-absent
returns-in_err-key-in-Err-clause-absent g c = always_on_err _ (gap_value c.in-Err.ensures.absent (ap (seen_chunks (g.O.Order.read c.self.inside.order)) c.deref.ensures.value) c.self.view_is)

pub returns-in_err-key-in-Err-clause-err : goal.returns-in_err-key-in-Err-clause-err
returns-in_err-key-in-Err-clause-err g c = always_on_err _ (kept_all (g.O.Order.read c.self.inside.order) (g.O.Order.read c.keep.new.self) (g.O.Order.IsKey c.self.inside.order) (g.O.Order.IsKey c.keep.new.self) c.keep.ensures.kept c.self.invariant c.self.inside.chunks.items refl ∙ c.self.view_is)

pub returns-in_err-key-in-Err-clause-ordered : goal.returns-in_err-key-in-Err-clause-ordered
returns-in_err-key-in-Err-clause-ordered g c = (stored_kept (g.O.Order.read c.self.inside.order) (g.O.Order.read c.keep.new.self) (g.O.Order.IsKey c.self.inside.order) (g.O.Order.IsKey c.keep.new.self) c.keep.ensures.kept c.self.invariant c.self.inside.chunks.items refl c.self.invariant.filled).whole.in_chunks.ordered

pub invariant_of-self-in_err-put-in-Err : goal.invariant_of-self-in_err-put-in-Err
invariant_of-self-in_err-put-in-Err g c = stored_kept (g.O.Order.read c.self.inside.order) (g.O.Order.read c.keep.new.self) (g.O.Order.IsKey c.self.inside.order) (g.O.Order.IsKey c.keep.new.self) c.keep.ensures.kept c.self.invariant c.insert_at-put.new.chunks.items (search rules) c.insert_at-put.ensures.filled

pub returns-in_err-put-in-Err-clause-absent : goal.returns-in_err-put-in-Err-clause-absent
returns-in_err-put-in-Err-clause-absent g c = always_on_err _ (gap_value c.in-Err.ensures.absent (ap (seen_chunks (g.O.Order.read c.self.inside.order)) c.deref.ensures.value) c.self.view_is)

pub returns-in_err-put-in-Err-clause-err : goal.returns-in_err-put-in-Err-clause-err
returns-in_err-put-in-Err-clause-err g c = always_on_err _ (kept_all (g.O.Order.read c.self.inside.order) (g.O.Order.read c.keep.new.self) (g.O.Order.IsKey c.self.inside.order) (g.O.Order.IsKey c.keep.new.self) c.keep.ensures.kept c.self.invariant c.insert_at-put.new.chunks.items (search rules) ∙ c.self.view_is)

pub returns-in_err-put-in-Err-clause-ordered : goal.returns-in_err-put-in-Err-clause-ordered
returns-in_err-put-in-Err-clause-ordered g c = (stored_kept (g.O.Order.read c.self.inside.order) (g.O.Order.read c.keep.new.self) (g.O.Order.IsKey c.self.inside.order) (g.O.Order.IsKey c.keep.new.self) c.keep.ensures.kept c.self.invariant c.insert_at-put.new.chunks.items (search rules) c.insert_at-put.ensures.filled).whole.in_chunks.ordered

pub invariant_of-self-in-Err : goal.invariant_of-self-in-Err
invariant_of-self-in-Err g c =
    let at = c.in-Err.gap in
    let cs = c.self.inside.chunks.items in
    let written : concatenated c.insert_at-put.new.chunks.items ≡ before cs at ++ (c.in_ok-key-in-Err.key, c.args.value) ∷ from cs at = search rules in
    stored_put (g.O.Order.read c.self.inside.order) (g.O.Order.read c.keep.new.self) (g.O.Order.IsKey c.self.inside.order) (g.O.Order.IsKey c.keep.new.self) c.keep.ensures.kept c.self.invariant c.insert_at-put.new.chunks.items c.in-Err.ensures.absent c.deref.ensures.value c.self.view_is c.in_ok-key-in-Err.key c.args.value c.in_ok-key-in-Err.ensures.key written g.met.O.Order.total (omega (arith, c.self.invariant.whole.small, c.if-self-eq-MOST_ENTRIES.false)) c.insert_at-put.ensures.filled

pub returns-in_ok-put-in-Err-clause-before : goal.returns-in_ok-put-in-Err-clause-before
returns-in_ok-put-in-Err-clause-before g c = sym (gap_value c.in-Err.ensures.absent (ap (seen_chunks (g.O.Order.read c.self.inside.order)) c.deref.ensures.value) c.self.view_is)

pub returns-in_ok-put-in-Err-clause-ok : goal.returns-in_ok-put-in-Err-clause-ok
returns-in_ok-put-in-Err-clause-ok g c =
    let at = c.in-Err.gap in
    let cs = c.self.inside.chunks.items in
    let written : concatenated c.insert_at-put.new.chunks.items ≡ before cs at ++ (c.in_ok-key-in-Err.key, c.args.value) ∷ from cs at = search rules in
    put_insert (g.O.Order.read c.self.inside.order) (g.O.Order.read c.keep.new.self) (g.O.Order.IsKey c.self.inside.order) (g.O.Order.IsKey c.keep.new.self) c.keep.ensures.kept c.self.invariant c.insert_at-put.new.chunks.items c.in-Err.ensures.absent c.deref.ensures.value c.self.view_is c.in_ok-key-in-Err.key c.args.value c.in_ok-key-in-Err.ensures.key written

pub returns-in_ok-put-in-Err-clause-ordered : goal.returns-in_ok-put-in-Err-clause-ordered
returns-in_ok-put-in-Err-clause-ordered g c =
    let at = c.in-Err.gap in
    let cs = c.self.inside.chunks.items in
    let written : concatenated c.insert_at-put.new.chunks.items ≡ before cs at ++ (c.in_ok-key-in-Err.key, c.args.value) ∷ from cs at = search rules in
    (stored_put (g.O.Order.read c.self.inside.order) (g.O.Order.read c.keep.new.self) (g.O.Order.IsKey c.self.inside.order) (g.O.Order.IsKey c.keep.new.self) c.keep.ensures.kept c.self.invariant c.insert_at-put.new.chunks.items c.in-Err.ensures.absent c.deref.ensures.value c.self.view_is c.in_ok-key-in-Err.key c.args.value c.in_ok-key-in-Err.ensures.key written g.met.O.Order.total (omega (arith, c.self.invariant.whole.small, c.if-self-eq-MOST_ENTRIES.false)) c.insert_at-put.ensures.filled).whole.in_chunks.ordered
