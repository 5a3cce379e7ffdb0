use Rattle.iv_blocks.proofs.Builds.{IsBuiltTo}
use Rattle.iv_blocks.proofs.blocks.BlocksKept.build.Given as goal

-- the sequences of lower ranks have their blocks
abbrev pub invariant-loop-seq : goal.invariant-loop-seq
invariant-loop-seq g l = IsBuiltTo l.genome l.track.records l.fn.options l.seq l.blocks
