use Rattle.iv_run.proofs.FilesReadingLemmas.{takes-second}
use Rattle.iv_run.proofs.run_files.FilesReader.parse_second.Goals as goal

pub returns : goal.returns
returns g c = rw (c.in-Some.is, c.take_second.ensures) (takes-second c.in-Some.text.now c.args.self.now c.parse_bed-held.result c.parse_bed-held.ensures.says)
