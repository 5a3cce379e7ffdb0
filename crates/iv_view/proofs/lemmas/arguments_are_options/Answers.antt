use Rattle.iv_view.proofs.OptionLemmas.{said-means}
use Rattle.iv_view.proofs.lemmas.arguments_are_options.Goals as goal

pub returns : goal.returns
returns c = said-means
