use Rattle.std.proofs.Common.{rules, arith, sym, ap, subst, ◌∙◌, ◌≡◌, ◌<◌, ◌≤◌, ◌+◌, ◌++◌, length, get_or, drop, map, vec_len}
use Rattle.std.specs.Vec.{vec_items}
use Rattle.std.specs.List.{between}
use Rattle.std.proofs.lemmas.Slice.{between_to_end}
use Rattle.std.specs.Prelude.{All}
use Rattle.std.proofs.lemmas.List.Elements.{All-drop}
use Rattle.iv_ledger.specs.Inside.Chunks.{concatenated, AreFilled, IsFilled}
use Rattle.iv_ledger.specs.Inside.Seen.{seen}
use Rattle.iv_ledger.proofs.ChunkLemmas.{from_at}
use Rattle.iv_ledger.proofs.SeenLemmas.{seen-from}
use Rattle.iv_ledger.proofs.LedgerLemmas.{keys_from}
use Rattle.iv_ledger.proofs.walk.Walk.from_index.Goals as goal

pub invariant_of-t-7 : goal.invariant_of-t-7
invariant_of-t-7 g c =
    let P : g.row.K.Denot × g.row.V.Denot → Type 0 = λ e. g.O.Order.IsKey c.args.order.now e.0 in
    let cs = c.args.chunks.now in
    let n = c.args.at.chunk in
    let i = c.args.at.index in
    let x = c.in-Some.chunk.now in
    let lt : n < length cs = search rules in
    let is : x ≡ get_or cs n x = search rules in
    let within = subst (λ y. i ≤ vec_len y) (sym is) (c.requires.within.index_in_range (omega arith) x) in
    let items = c.deref.result.now in
    let first : between i (length items) items ≡ drop i (vec_items x) = between_to_end items i (length items) (omega arith) ∙ ap (drop i) c.deref.ensures.value in
    let others : between (n + 1) (length cs) cs ≡ drop (n + 1) cs = between_to_end cs (n + 1) (length cs) (omega arith) in
    let parts =
    ap (λ xs. xs ++ concatenated (between (n + 1) (length cs) cs)) first
    ∙ ap (λ ds. drop i (vec_items x) ++ concatenated ds) others
    ∙ sym (from_at cs n x lt is i (omega (arith, within, x.ok.0))) in (
      subst AreFilled (sym others) (All-drop IsFilled (n + 1) cs c.requires.filled),
      subst (All P) (sym parts) (keys_from P cs c.args.at c.requires.keys),
    )

pub returns-in-Some : goal.returns-in-Some
returns-in-Some g c =
    let read = g.O.Order.read c.args.order.now in
    let cs = c.args.chunks.now in
    let n = c.args.at.chunk in
    let i = c.args.at.index in
    let x = c.in-Some.chunk.now in
    let lt : n < length cs = search rules in
    let is : x ≡ get_or cs n x = search rules in
    let within = subst (λ y. i ≤ vec_len y) (sym is) (c.requires.within.index_in_range (omega arith) x) in
    let items = c.deref.result.now in
    let first : between i (length items) items ≡ drop i (vec_items x) = between_to_end items i (length items) (omega arith) ∙ ap (drop i) c.deref.ensures.value in
    let others : between (n + 1) (length cs) cs ≡ drop (n + 1) cs = between_to_end cs (n + 1) (length cs) (omega arith) in
    ap (map (seen read)) (
    ap (λ xs. xs ++ concatenated (between (n + 1) (length cs) cs)) first
    ∙ ap (λ ds. drop i (vec_items x) ++ concatenated ds) others
    ∙ sym (from_at cs n x lt is i (omega (arith, within, x.ok.0)))
    )
    ∙ sym (seen-from read cs c.args.at)
