use Rattle.std.proofs.Common.{rules, ap, get_or, set, subst, sym, ◌∙◌}
use Rattle.iv_ledger.specs.Inside.Chunks.{AreFilled, AreSmall, concatenated}
use Rattle.iv_ledger.specs.Inside.Replaced.{IsReplaced}
use Rattle.iv_ledger.proofs.JoinLemmas.{join_same, join_filled, join_replaced}
use Rattle.iv_ledger.proofs.entry_index.join_next.Goals as goal

pub returns-clause-same : goal.returns-clause-same
returns-clause-same g c =
    let at = c.args.chunk in
    let small : AreSmall c.args.chunks.now.items at = search rules in
    let are = c.remove-next.ensures.items in
    let x = c.index_mut.result.now in
    let is_x = c.index_mut.ensures.value ∙ ap (λ cs. get_or cs at x) are in
    ap (λ cs. concatenated (set cs at c.append_all.new.left)) are ∙ join_same small is_x c.remove-next.ensures.value c.append_all.new.left c.append_all.ensures.all

pub returns-clause-filled : goal.returns-clause-filled
returns-clause-filled g c =
    let at = c.args.chunk in
    let small : AreSmall c.args.chunks.now.items at = search rules in
    let are = c.remove-next.ensures.items in
    let x = c.index_mut.result.now in
    let is_x = c.index_mut.ensures.value ∙ ap (λ cs. get_or cs at x) are in
    subst (λ cs. AreFilled (set cs at c.append_all.new.left)) (sym are) (join_filled small is_x c.remove-next.ensures.value c.append_all.new.left c.append_all.ensures.all c.requires.filled)

pub returns-clause-others : goal.returns-clause-others
returns-clause-others g c = λ _.
    let old = c.args.chunks.now.items in
    let at = c.args.chunk in
    let small : AreSmall old at = search rules in
    let are = c.remove-next.ensures.items in
    let x = c.index_mut.result.now in
    let is_x = c.index_mut.ensures.value ∙ ap (λ cs. get_or cs at x) are in
    subst (λ cs. IsReplaced old at 2 1 (set cs at c.append_all.new.left)) (sym are) (join_replaced small is_x c.remove-next.ensures.value c.append_all.new.left c.append_all.ensures.all)
