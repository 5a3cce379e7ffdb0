use Rattle.std.proofs.Common.{◌≡◌, arith}
use Rattle.iv_depth.proofs.DepthLemmas.{AreAhead-of, text-of, entries-of}
use Rattle.iv_depth.proofs.depth.Depth.print.Goals as goal

pub put_genome-requires : goal.put_genome-requires
put_genome-requires g c =
    let entries : c.self.inside.changes ≡ c.args.self.now = c.self.view_is in
    AreAhead-of c.args.genome.now c.args.track.now.width c.args.track.now.records c.self.inside.changes c.requires.fit (rw entries c.requires.right) (omega (arith, c.len-few.ensures))

pub returns-clause-text : goal.returns-clause-text
returns-clause-text g c =
    let entries : c.self.inside.changes ≡ c.args.self.now = c.self.view_is in
    let text = text-of c.args.genome.now c.args.track.now.width c.args.track.now.records c.self.inside.changes c.requires.fit (rw entries c.requires.right) c.args.output in
    rw (← text) c.put_genome.ensures.text

pub returns-clause-steps : goal.returns-clause-steps
returns-clause-steps g c =
    let entries : c.self.inside.changes ≡ c.args.self.now = c.self.view_is in
    let few = entries-of c.args.genome.now c.args.track.now.width c.args.track.now.records c.self.inside.changes c.requires.fit (rw entries c.requires.right) in
    record { no_less = omega (arith, c.put_genome.ensures.steps); at_most = omega (arith, c.put_genome.ensures.steps, few) }
