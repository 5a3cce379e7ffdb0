use Rattle.std.proofs.Common.{rules, arith, subst}
use Rattle.iv_ledger.specs.Inside.Replaced.{IsReplaced}
use Rattle.iv_ledger.proofs.ReplacedLemmas.{replaced_none, replaced_inserted}
use Rattle.iv_ledger.proofs.starts.insert_start.Goals as goal

pub returns-in_default : goal.returns-in_default
returns-in_default g c = record { others = replaced_none c.args.list.now.items c.args.chunk 0 1 (omega arith) }

pub returns : goal.returns
returns g c =
    let old = c.args.list.now.items in
    let at = c.args.chunk in
    record { others = subst (λ xs. IsReplaced old at 0 1 xs) (search rules) (replaced_inserted old at c.in-Some.start) }
