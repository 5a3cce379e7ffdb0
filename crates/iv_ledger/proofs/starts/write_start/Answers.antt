use Rattle.std.proofs.Common.{rules, arith}
use Rattle.iv_ledger.proofs.ReplacedLemmas.{replaced_none, replaced_written}
use Rattle.iv_ledger.proofs.starts.write_start.Goals as goal

pub returns-then-at-gt0 : goal.returns-then-at-gt0
returns-then-at-gt0 g c = record { others = replaced_none c.args.list.now.items c.args.at.chunk 1 1 (omega arith) }

pub returns-in_default : goal.returns-in_default
returns-in_default g c = record { others = replaced_none c.args.list.now.items c.args.at.chunk 1 1 (omega arith) }

pub returns : goal.returns
returns g c = record { others = replaced_written c.args.list.now.items c.args.at.chunk c.in-Some.start (search rules) }
