use Rattle.iv_view.proofs.OptionLemmas.{never-twice}
use Rattle.iv_view.proofs.lemmas.no_option_twice.Goals as goal

pub returns : goal.returns
returns c = never-twice
