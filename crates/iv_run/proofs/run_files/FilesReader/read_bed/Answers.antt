use Rattle.std.proofs.Common.{◌^◌, List, ℕ, None, subst, arith}
use Rattle.iv_run.specs.Files.{ReadsWhole}
use Rattle.iv_run.specs.RunFiles.{FilesRead, IsParsed}
use Rattle.iv_run.proofs.PieceLemmas.{says-begun, says-few, says-sound}
use Rattle.iv_run.proofs.run_files.FilesReader.read_bed.Goals as goal

pub finish-requires-clause-sound : goal.finish-requires-clause-sound
finish-requires-clause-sound g c =
    let columns = c.self-inside.inside.0.1.1.1.0 in
    let files = c.self-inside.inside.0.0 in
    let read = c.in_ok-all.ensures.ok in
    says-sound columns files.genome files.limit read.0 c.in_ok-all.all (read.2 None (says-begun columns files.genome files.limit c.new.result c.new.ensures))

pub finish-requires-clause-few : goal.finish-requires-clause-few
finish-requires-clause-few g c =
    let columns = c.self-inside.inside.0.1.1.1.0 in
    let files = c.self-inside.inside.0.0 in
    let read = c.in_ok-all.ensures.ok in
    says-few columns files.genome files.limit read.0 c.in_ok-all.all (2 ^ 64) (read.2 None (says-begun columns files.genome files.limit c.new.result c.new.ensures)) (omega (arith, read.1.few, c.requires))

pub returns-clause-ok : goal.returns-clause-ok
returns-clause-ok g c =
    let columns = c.self-inside.inside.0.1.1.1.0 in
    let files = c.self-inside.inside.0.0 in
    let read = c.in_ok-all.ensures.ok in
    let old = g.R.Source.state c.args.source.now in
    let new = g.R.Source.state c.read_pieces.new.source in
    subst (λ (r : FilesRead). (text : List ℕ) × ReadsWhole old new c.args.most text × IsParsed r.columns r.files.genome r.width r.files.limit text c.finish.result) c.self.view_is
    (subst (λ s. (text : List ℕ) × ReadsWhole old new c.args.most text × IsParsed s.columns s.files.genome s.empty_width s.files.limit text c.finish.result) c.self-inside.view_is
    (read.0, read.1, c.finish.ensures.says read.0 (read.2 None (says-begun columns files.genome files.limit c.new.result c.new.ensures))))
