use Rattle.std.proofs.Common.{rules, arith, ◌≡◌, ◌<◌, ◌++◌, ◌∷◌, ◌≤◌, ◌∙◌, length, subst, sym, ap, vec_len}
use Rattle.iv_ledger.proofs.ChunkLemmas.{concatenated-set_same, concatenated-set_inserted, before-from}
use Rattle.iv_ledger.proofs.RoomLemmas.{always_on_err}
use Rattle.iv_ledger.specs.Inside.Chunks.{IsIndexWithRoom, before, from}
use Rattle.iv_ledger.specs.Inside.Replaced.{IsAmong, IsReplaced}
use Rattle.iv_ledger.proofs.ReplacedLemmas.{replaced_none, replaced_among}
use Rattle.iv_ledger.proofs.entry_index.insert_at.Goals as goal

pub returns-in_err-insert-clause-err : goal.returns-in_err-insert-clause-err
returns-in_err-insert-clause-err g c =
    let old = c.args.chunks.now.items in
    let new = c.with_room.new.chunks.items in
    let q = c.in_ok-index.index in
    let place : IsIndexWithRoom old c.args.at new q = search rules in
    always_on_err c.from_residual-in_err-insert.result (
    concatenated-set_same new q.chunk c.index_mut.result.now place.chunk_in_range c.index_mut.ensures.value c.insert.new.self (search rules)
    ∙ sym (before-from new q)
    ∙ ap (λ xs. xs ++ from new q) place.same_before
    ∙ ap (λ xs. before old c.args.at ++ xs) place.same_from
    ∙ before-from old c.args.at
    )

pub returns-clause-ok : goal.returns-clause-ok
returns-clause-ok g c =
    let old = c.args.chunks.now.items in
    let new = c.with_room.new.chunks.items in
    let q = c.in_ok-index.index in
    let place : IsIndexWithRoom old c.args.at new q = search rules in
    let x = c.index_mut.result.now in
    let is = c.index_mut.ensures.value in
    let within = subst (λ y. q.index ≤ vec_len y) (sym is) (place.index_in_range x) in
    concatenated-set_inserted new q.chunk x place.chunk_in_range is c.insert.new.self q.index c.args.entry (omega (arith, within, x.ok.0)) (search rules)
    ∙ ap (λ xs. xs ++ c.args.entry ∷ from new q) place.same_before
    ∙ ap (λ xs. before old c.args.at ++ c.args.entry ∷ xs) place.same_from

pub returns-in_err-index-clause-others : goal.returns-in_err-index-clause-others
returns-in_err-index-clause-others g c =
    let old = c.args.chunks.now.items in
    let at = c.args.at.chunk in
    let same : old ≡ c.with_room.new.chunks.items = search rules in
    subst (λ xs. IsReplaced old at 1 2 xs) same (replaced_none old at 1 2 (omega arith))

pub returns-in_err-insert-clause-others : goal.returns-in_err-insert-clause-others
returns-in_err-insert-clause-others g c =
    let old = c.args.chunks.now.items in
    let at = c.args.at.chunk in
    let lt : at < length old = search rules in
    let among : IsAmong old at 1 2 c.with_room.new.chunks.items c.in_ok-index.index.chunk = search rules in
    replaced_among among (omega (arith, lt)) c.insert.new.self

pub returns-clause-others : goal.returns-clause-others
returns-clause-others g c =
    let old = c.args.chunks.now.items in
    let at = c.args.at.chunk in
    let lt : at < length old = search rules in
    let among : IsAmong old at 1 2 c.with_room.new.chunks.items c.in_ok-index.index.chunk = search rules in
    replaced_among among (omega (arith, lt)) c.insert.new.self
