use Rattle.std.proofs.Common.{◌≡◌, ◌+◌, ◌≤◌, map, length}
use Rattle.iv_lines.specs.Fields.{fields}
use Rattle.iv_lines.specs.Bytes.{comma}
use Rattle.iv_view.specs.Lists.{all_some}
use Rattle.iv_view.proofs.ListLemmas.{with_rest}
use Rattle.iv_view.proofs.merge.read_items.Given as goal

abbrev pub invariant-loop-field : goal.invariant-loop-field
invariant-loop-field g l = record {
  said : with_rest l.items.items (all_some (map g.T.Item.says l.fields)) ≡ all_some (map g.T.Item.says (fields comma l.text));
  count : length l.items.items + length l.fields ≡ length (fields comma l.text);
  few : length l.items.items ≤ 16;
}

abbrev pub decreases-loop-field : goal.decreases-loop-field
decreases-loop-field g l = length l.fields
