use Rattle.std.proofs.Common.{Option, None, IfSome}
use Rattle.std.proofs.lemmas.List.Elements.{All-replicate}
use Rattle.iv_text.specs.Inside.OnePass.{IsNamed}
use Rattle.iv_text.specs.declared.record_reader.Named.{Named}
use Rattle.iv_text.proofs.record_reader.RecordReader.new.Goals as goal

pub invariant_of-result : goal.invariant_of-result
invariant_of-result g c = (tt, All-replicate (λ (slot : Option Named). IfSome slot (λ n. IsNamed c.args.genome.now n.name.now n.rank n.length)) 256 None tt)
