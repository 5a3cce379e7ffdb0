use Rattle.iv_program.proofs.FileLemmas.{opens-each}
use Rattle.iv_program.proofs.files.each_is_opened_once.Goals as goal

pub returns : goal.returns
returns c = opens-each
