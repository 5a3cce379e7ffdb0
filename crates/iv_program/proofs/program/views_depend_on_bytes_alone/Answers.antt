use Rattle.iv_program.proofs.SoundLemmas.{prints-just}
use Rattle.iv_program.proofs.program.views_depend_on_bytes_alone.Goals as goal

pub returns : goal.returns
returns c = prints-just
