-- Which options a plain merge has.
use Rattle.std.specs.Prelude.{◌≡◌, ℕ, false, []}
use Rattle.iv_blocks.specs.Groups.{listed}
use Rattle.iv_blocks.specs.declared.options.BlockOptions.{BlockOptions}

-- the options of a merge at this distance that joins both strands and has no summaries
pub record IsByIntervals (distance : ℕ) (o : BlockOptions) : Type 0 where
  pub far : o.distance ≡ distance
  pub together : o.stranded ≡ false
  pub nothing : listed o.summaries ≡ []
