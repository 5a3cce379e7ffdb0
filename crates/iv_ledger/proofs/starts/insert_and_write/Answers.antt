use Rattle.std.proofs.Common.{rules}
use Rattle.iv_ledger.proofs.ReplacedLemmas.{replaced_follow}
use Rattle.iv_ledger.proofs.starts.insert_and_write.Goals as goal

pub returns : goal.returns
returns g c = record { others = replaced_follow c.insert_start.ensures.others c.write_start.ensures.others (search rules) (search rules) }
