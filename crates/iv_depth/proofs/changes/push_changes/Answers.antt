use Rattle.std.proofs.Common.{◌≡◌, ◌∙◌, ◌∷◌, ◌++◌, [], rules, w64, to_z, of_z, SFits}
use Rattle.std.proofs.lemmas.Int.{to_z-of_z}
use Rattle.iv_depth.proofs.NetChangesLemmas.{building-begin, building-next, building-all}
use Rattle.iv_depth.proofs.changes.push_changes.Goals as goal

pub loop-position-init : goal.loop-position-init
loop-position-init g c = building-begin c.args.seq c.args.edges c.args.built.now c.requires.0 c.requires.1 c.requires.2.rise

pub loop-position-preserved : goal.loop-position-preserved
loop-position-preserved g c =
    let z = c.in-Some.change in
    let fits : SFits w64 z = search rules in
    let same : to_z w64 (of_z w64 z) ≡ z = to_z-of_z w64 z fits in
    building-next c.args.seq c.args.edges c.args.built.now c.loop-position.edges c.next_change.new.self c.loop-position.built c.push.new.self c.in-Some.position z c.in-Some.ensures.change
    (c.in_ok-push.ensures.ok ∙ (λ i. c.loop-position.built ++ ((c.args.seq, c.in-Some.position), same i) ∷ [])) c.loop-position.invariant

pub returns : goal.returns
returns g c = λ records are of.
    building-all c.args.seq c.args.edges c.args.built.now c.loop-position.edges c.next_change.new.self c.loop-position.built c.in_default.ensures.change c.loop-position.invariant records are of
