use Rattle.std.proofs.Common.{refl, arith, ◌∙◌}
use Rattle.std.proofs.lemmas.List.{length-take-le}
use Rattle.iv_bytes.proofs.PullLemmas.{copied_piece}
use Rattle.iv_bytes.proofs.memory.MemSourceSource.pull.Goals as goal

pub returns-clause-ok : goal.returns-clause-ok
returns-clause-ok c = record {
  from = copied_piece c.args.self.now.bytes.now c.args.into.now c.copy_from_slice.new.self c.args.self.now.at c.min-n.result (omega arith) (c.copy_from_slice.ensures.len ∙ length-take-le c.min-n.result c.args.into.now (omega arith)) c.copy_from_slice.ensures.after;
  failed = refl;
  ends = c.counted-self.ensures;
}
