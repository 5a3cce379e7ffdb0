use Rattle.std.proofs.Common.{◌∙◌, Some, map, sym, ap}
use Rattle.std.specs.Option.{option_copied}
use Rattle.std.proofs.lemmas.Result.{err_from_is_err_and}
use Rattle.iv_view.specs.Merge.{said_by, nothing_said}
use Rattle.iv_view.proofs.NarrowingLemmas.{merge-read, options_beside}
use Rattle.iv_view.proofs.merge.read_merge.Goals as goal

pub returns-in_err-summaries : goal.returns-in_err-summaries
returns-in_err-summaries c =
    let p = err_from_is_err_and c.from_residual-in_err-summaries.result c.from_residual-in_err-summaries.ensures.1 in
    let said = c.said.inside in
    let read = merge-read (said_by (map (λ argument. argument.now) c.args.arguments.now) nothing_said) (option_copied said.distance) (option_copied said.columns) (option_copied said.ops) said.stranded
    (sym c.read.ensures ∙ c.in_ok-said.ensures.ok_part ∙ ap Some (sym c.said.view_is)) c.in_ok-distance.distance (sym c.read_distance.ensures ∙ c.in_ok-distance.ensures.ok_part)
    (c.in_ok-lists.lists.columns.items, c.in_ok-lists.lists.ops.items) (sym (rw c.in_ok-lists.ensures.ok_part at c.read_lists.ensures))
    c.read_summaries.result (rw (c.as_slice.ensures.value, c.as_slice-2.ensures.value) at c.read_summaries.ensures) in
    rw (p.1, p.2) (sym (read ∙ ap (options_beside said.stranded c.in_ok-distance.distance) c.in_err-summaries.was))

pub returns : goal.returns
returns c =
    let said = c.said.inside in
    let read = merge-read (said_by (map (λ argument. argument.now) c.args.arguments.now) nothing_said) (option_copied said.distance) (option_copied said.columns) (option_copied said.ops) said.stranded
    (sym c.read.ensures ∙ c.in_ok-said.ensures.ok_part ∙ ap Some (sym c.said.view_is)) c.in_ok-distance.distance (sym c.read_distance.ensures ∙ c.in_ok-distance.ensures.ok_part)
    (c.in_ok-lists.lists.columns.items, c.in_ok-lists.lists.ops.items) (sym (rw c.in_ok-lists.ensures.ok_part at c.read_lists.ensures))
    c.read_summaries.result (rw (c.as_slice.ensures.value, c.as_slice-2.ensures.value) at c.read_summaries.ensures) in
    sym (read ∙ ap (options_beside said.stranded c.in_ok-distance.distance) c.in_ok-summaries.was)
