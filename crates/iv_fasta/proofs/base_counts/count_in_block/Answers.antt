use Rattle.std.proofs.Common.{get_or}
use Rattle.iv_lines.proofs.BlockLemmas.{before-outside, none-outside}
use Rattle.iv_fasta.proofs.BlockLemmas.{value-base}
use Rattle.iv_fasta.proofs.base_counts.count_in_block.Goals as goal

pub returns-then-others-eq0-clause-bases : goal.returns-then-others-eq0-clause-bases
returns-then-others-eq0-clause-bases c k lt = value-base (get_or c.args.text.now k 0) (c.type_inv.text k).fits (none-outside 33 93 c.args.text.now c.requires c.if-others-eq0.true k lt)

pub returns-clause-bases : goal.returns-clause-bases
returns-clause-bases c k lt = value-base (get_or c.args.text.now k 0) (c.type_inv.text k).fits ((before-outside 33 93 c.args.text.now c.requires c.if-others-eq0.false).0 k lt)

pub returns-clause-few : goal.returns-clause-few
returns-clause-few c = (before-outside 33 93 c.args.text.now c.requires c.if-others-eq0.false).1
