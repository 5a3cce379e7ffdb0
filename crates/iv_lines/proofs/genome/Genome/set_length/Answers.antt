use Rattle.std.proofs.Common.{◌∙◌, ap, arith}
use Rattle.indexmap.specs.Layout.{length-set_value_at}
use Rattle.iv_lines.specs.Genome.{Sequences, with_length}
use Rattle.iv_lines.proofs.LengthLemmas.{with_length-is}
use Rattle.iv_lines.proofs.genome.Genome.set_length.Goals as goal

pub invariant_of-self : goal.invariant_of-self
invariant_of-self g c = omega (arith, length-set_value_at c.self.inside.lengths c.args.rank c.args.length, c.self.invariant)

pub returns : goal.returns
returns g c = with_length-is c.self.inside.lengths c.args.rank c.args.length ∙ ap (λ (s : Sequences). with_length s c.args.rank c.args.length) c.self.view_is
