use Rattle.iv_cover.specs.Summaries.{different}
use Rattle.iv_cover.proofs.DifferentLemmas.{ascends-different, different-from, different-has, one_list}
use Rattle.iv_cover.proofs.lemmas.different_values_ascend.Goals as goal

pub returns-clause-ascend : goal.returns-clause-ascend
returns-clause-ascend c = ascends-different

pub returns-clause-members : goal.returns-clause-members
returns-clause-members c = λ values value. (different-from values value, different-has values value)

pub returns-clause-alone : goal.returns-clause-alone
returns-clause-alone c = λ values others up same.
    one_list others (different values) up (ascends-different values)
    (λ value has. different-has values value ((same value).0 has))
    (λ value has. (same value).1 (different-from values value has))
