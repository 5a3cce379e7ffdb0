use Rattle.std.proofs.Common.{◌∙◌}
use Rattle.iv_track.specs.Regions.{HitsLeft}
use Rattle.iv_workspace.proofs.ResizeLemmas.{hit-past}
use Rattle.iv_workspace.proofs.session.lengths.track_reaches_past.Goals as goal

pub returns : goal.returns
returns g c =
    c.is_some.ensures
    ∙ hit-past (λ (h : HitsLeft). h.records) c.args.seq c.args.length c.args.end c.args.track.now.records c.hits.result c.next.new.self c.next.result c.requires.some c.requires.within c.hits.ensures.records c.next.ensures.feature
