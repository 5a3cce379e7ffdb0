use Rattle.iv_cover.proofs.WalkLemmas.{merge-all}
use Rattle.iv_blocks.proofs.joined_blocks.JoinedBlocks.of.Goals as goal

pub returns-clause-blocks : goal.returns-clause-blocks
returns-clause-blocks g c = λ order s lie. merge-all c.args.distance s (g.W.RecordWalk.left c.args.records) order lie
