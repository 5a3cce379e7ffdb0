use Rattle.std.proofs.Common.{◌∙◌, ap, subst}
use Rattle.std.specs.Option.{option_map}
use Rattle.iv_run.specs.Loading.{Parsed}
use Rattle.iv_run.specs.RunFiles.{AreAskedFor, FilesRead, IsFasta}
use Rattle.iv_run.proofs.FilesReadingLemmas.{takes-bases}
use Rattle.iv_run.proofs.run_files.FilesReader.read_fasta.Goals as goal

pub returns-clause-ok : goal.returns-clause-ok
returns-clause-ok g c =
    let wanted = option_map (λ ranks. ranks.items) c.in_ok-wanted.wanted in
    let read = c.in_ok-held.ensures.ok in
    let same = ap (λ s. s.files) c.self-inside.view_is ∙ ap (λ (r : FilesRead). r.files) c.self.view_is in
    let fasta = subst (λ (f : Parsed). IsFasta wanted f.genome read.0 c.in_ok-held.held) same read.2 in (
      wanted,
      read.0,
      subst (λ (f : Parsed). AreAskedFor c.args.for_rows f.first wanted) same c.in_ok-wanted.ensures,
      read.1,
      rw c.take_fasta.ensures (takes-bases wanted read.0 c.args.self.now c.in_ok-held.held fasta),
    )
