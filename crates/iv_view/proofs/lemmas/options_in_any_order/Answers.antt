use Rattle.std.proofs.Common.{◌∷◌}
use Rattle.iv_view.specs.Merge.{nothing_said}
use Rattle.iv_view.proofs.OptionLemmas.{same-front, same-swapped}
use Rattle.iv_view.proofs.lemmas.options_in_any_order.Goals as goal

pub returns : goal.returns
returns c = λ front back a b. same-front front (a ∷ b ∷ back) (b ∷ a ∷ back) (same-swapped a b back) nothing_said
