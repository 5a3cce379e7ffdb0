use Rattle.std.proofs.Common.{◌≡◌, ◌∙◌, [], map, get_or, sym, ap, subst}
use Rattle.std.specs.Str.{bytes_eq}
use Rattle.iv_view.specs.Merge.{MergeArgs, said_by, nothing_said}
use Rattle.iv_view.proofs.MergeArgsLemmas.{going-flag, going-value}
use Rattle.iv_view.proofs.merge.MergeArgs.read.Goals as goal

pub options-preserved-then-eq : goal.options-preserved-then-eq
options-preserved-then-eq c =
    let ws = c.options.rest.now in
    going-flag ws (record { ref_ptr = (0, 0); now = [] }) _ _ c.in-len1-up.len_at_least (ap (bytes_eq (get_or ws 0 (record { ref_ptr = (0, 0); now = [] })).now) (sym c.as_slice.ensures) ∙ sym c.if-eq.ensures) c.if-said.false
    (subst (λ (s : MergeArgs). said_by (map (λ argument. argument.now) ws) s ≡ said_by (map (λ argument. argument.now) c.args.arguments.now) nothing_said) (sym c.said.view_is) c.options.invariant)

pub options-preserved : goal.options-preserved
options-preserved c =
    let ws = c.options.rest.now in
    going-value ws (record { ref_ptr = (0, 0); now = [] }) (record { ref_ptr = (0, 0); now = [] }) c.options.said c.take.new.self _ c.in-len1-up.len_at_least c.in-len1-up-after.len_at_least (ap (bytes_eq (get_or ws 0 (record { ref_ptr = (0, 0); now = [] })).now) (sym c.as_slice.ensures) ∙ sym c.if-eq.ensures) c.in_ok-take.ensures c.options.invariant
