use Rattle.iv_run.proofs.FilesReadingLemmas.{takes-second}
use Rattle.iv_run.proofs.run_files.FilesReader.read_second.Goals as goal

pub returns-clause-ok : goal.returns-clause-ok
returns-clause-ok g c =
    let read = c.in_ok-held.ensures.ok in
    let takes = takes-second read.0 c.args.self.now c.in_ok-held.held read.2 in
    (read.0, read.1, rw c.take_second.ensures takes)
