use Rattle.std.proofs.Common.{◌∙◌, None, ap, subst}
use Rattle.iv_run.specs.Loading.{Parsed}
use Rattle.iv_run.specs.RunFiles.{FilesRead, IsFasta}
use Rattle.iv_run.proofs.FilesReadingLemmas.{takes-bases}
use Rattle.iv_run.proofs.FastaPieceLemmas.{fasta-parsed}
use Rattle.iv_run.proofs.run_files.FilesReader.parse_fasta.Goals as goal

pub returns : goal.returns
returns g c =
    let text = c.in-Some.text.items in
    let same = ap (λ s. s.files) c.self-inside.view_is ∙ ap (λ (r : FilesRead). r.files) c.self.view_is in
    let fasta = subst (λ (f : Parsed). IsFasta None f.genome text c.parse-held.result) same
    (fasta-parsed c.self-inside.inside.0.0.genome text c.parse-held.result c.parse-held.ensures.ok c.parse-held.ensures.err) in
    rw (c.in-Some.is, c.take_fasta.ensures) (takes-bases None text c.args.self.now c.parse-held.result fasta)
