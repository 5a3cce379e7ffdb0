use Rattle.iv_fasta.proofs.BaseRangeLemmas.{part-is}
use Rattle.iv_fasta.proofs.fasta.Fasta.bases.Goals as goal

pub returns : goal.returns
returns g c =
    part-is c.args.self.now c.self.inside.ranges.items c.self.inside.bases.items c.deref.result.now c.args.seq c.args.start c.args.stop c.min-from.result c.min-to.result c.in_ok-range.range
    c.self.view_is c.deref.ensures.value c.self.invariant c.in_ok-range.ensures c.min-to.ensures c.min-from.ensures
