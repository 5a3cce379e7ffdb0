use Rattle.std.proofs.Common.{rules, ◌≡◌, take, drop}
use Rattle.std.specs.Vec.{vec_items}
use Rattle.std.proofs.lemmas.List.Elements.{at_read}
use Rattle.iv_ledger.proofs.entry_index.halve.Goals as goal

pub returns-clause-ok : goal.returns-clause-ok
returns-clause-ok g c =
    let x = c.index_mut.result.now in
    let left = c.move_tail.new.left in
    let right = c.move_tail.new.right in
    let cs = c.args.chunks.now.items in
    let at = c.args.chunk in
    let n = c.args.half in
    record {
      left = left;
      right = right;
      are = search rules;
      first = at_read cs (λ y. vec_items left ≡ take n (vec_items y)) at x (search rules) (search rules) c.move_tail.ensures.kept;
      others = at_read cs (λ y. vec_items right ≡ drop n (vec_items y)) at x (search rules) (search rules) c.move_tail.ensures.moved;
    }
