use Rattle.std.proofs.Common.{◌≡◌, ◌<◌, ◌≤◌, ◌^◌, ◌∙◌, sym, ap, arith, length, w64}
use Rattle.std.specs.Prelude.{pos}
use Rattle.std.proofs.lemmas.Int.{to_z_pos}
use Rattle.std.proofs.lemmas.List.Sums.{count_by-le-length}
use Rattle.iv_lines.specs.CoveredPositions.{covers}
use Rattle.iv_cover.specs.Depth.{depth}
use Rattle.iv_depth.proofs.DepthLemmas.{AreChangesOn-of, text_in-of, covered_in-of, depth-by}
use Rattle.iv_depth.proofs.depth.Depth.print_depth_in.Goals as goal

pub put_region-requires-clause-right : goal.put_region-requires-clause-right
put_region-requires-clause-right g c =
    let entries : c.self.inside.changes ≡ c.args.self.now = c.self.view_is in
    AreChangesOn-of c.args.genome.now c.args.track.now.width c.args.track.now.records c.self.inside.changes c.requires.fit (rw entries c.requires.right) (omega (arith, c.len-few.ensures)) c.args.region.seq

pub put_region-requires-clause-at : goal.put_region-requires-clause-at
put_region-requires-clause-at g c =
    let entries : c.self.inside.changes ≡ c.args.self.now = c.self.view_is in
    let by = depth-by c.args.genome.now c.args.track.now.width c.args.track.now.records c.self.inside.changes c.requires.fit (rw entries c.requires.right) c.args.region.seq c.args.region.start in
    let few : depth c.args.track.now.records c.args.region.seq c.args.region.start ≤ length c.args.track.now.records = count_by-le-length (covers c.args.region.seq c.args.region.start) c.args.track.now.records in
    let low : c.args.at < 2 ^ 63 = omega (arith, few, c.requires.at, c.len-few.ensures) in
    to_z_pos w64 c.args.at low ∙ ap pos (c.requires.at ∙ sym by)

pub returns-clause-text : goal.returns-clause-text
returns-clause-text g c =
    let entries : c.self.inside.changes ≡ c.args.self.now = c.self.view_is in
    let text = text_in-of c.args.genome.now c.args.track.now.width c.args.track.now.records c.self.inside.changes c.requires.fit (rw entries c.requires.right) c.args.output c.args.region.seq c.args.region.start c.args.region.stop in
    rw (← text) c.put_region.ensures.text

pub returns-clause-steps : goal.returns-clause-steps
returns-clause-steps g c =
    let entries : c.self.inside.changes ≡ c.args.self.now = c.self.view_is in
    let count = covered_in-of c.args.genome.now c.args.track.now.width c.args.track.now.records c.self.inside.changes c.requires.fit (rw entries c.requires.right) c.args.region.seq c.args.region.start c.args.region.stop in
    rw (← count) c.put_region.ensures.steps
