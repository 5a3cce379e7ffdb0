use Rattle.std.proofs.Common.{◌≡◌, ◌+◌, length, arith, subst, rules, w64, to_z, of_z}
use Rattle.std.specs.Prelude.{ℤ, pos, ◌+ℤ◌, ◌-ℤ◌}
use Rattle.std.proofs.lemmas.Int.{ints, to_z-of_z}
use Rattle.std.proofs.lemmas.Result.{on_ok_weaker}
use Rattle.iv_depth.specs.Inside.Changes.{Bumps}
use Rattle.iv_depth.proofs.ChangesLemmas.{Shifts-of}
use Rattle.iv_depth.proofs.BoundLemmas.{change-small, AreChangesOf-within, Bumps-within}
use Rattle.iv_depth.proofs.changes.shift.Goals as goal

pub bump-requires-clause-small : goal.bump-requires-clause-small
bump-requires-clause-small g c =
    let known = c.requires.known in
    change-small c.args.changes.now (length known.records) (c.seq.result, c.start.result) known.right.ordered
    (omega (arith, known.few)) (AreChangesOf-within known.records c.args.changes.now known.right)

pub bump-requires-2-clause-small : goal.bump-requires-2-clause-small
bump-requires-2-clause-small g c =
    let known = c.requires.known in
    let same : to_z w64 (of_z w64 c.args.by) ≡ c.args.by = to_z-of_z w64 c.args.by c.ranges.by in
    let first : Bumps c.args.changes.now c.bump.new.changes (c.seq.result, c.start.result) c.args.by
    = subst (λ (z : ℤ). Bumps c.args.changes.now c.bump.new.changes (c.seq.result, c.start.result) z) same c.in_ok-bump.ensures.ok in
    change-small c.bump.new.changes (length known.records + 1) (c.seq-2.result, c.stop.result) first.ordered
    (omega (arith, known.few))
    (Bumps-within (length known.records) c.args.changes.now c.bump.new.changes (c.seq.result, c.start.result) c.args.by first c.requires.by.0 c.requires.by.1 (AreChangesOf-within known.records c.args.changes.now known.right))

pub returns-clause-ok : goal.returns-clause-ok
returns-clause-ok g c =
    let r = c.args.feature.now in
    let same : to_z w64 (of_z w64 c.args.by) ≡ c.args.by = to_z-of_z w64 c.args.by c.ranges.by in
    let first : Bumps c.args.changes.now c.bump.new.changes (r.seq, r.start) c.args.by
    = rw (← c.seq.ensures, ← c.start.ensures) (subst (λ (z : ℤ). Bumps c.args.changes.now c.bump.new.changes (c.seq.result, c.start.result) z) same c.in_ok-bump.ensures.ok) in
    let less : to_z w64 (of_z w64 (pos 0 -ℤ to_z w64 (of_z w64 c.args.by))) ≡ pos 0 -ℤ to_z w64 (of_z w64 c.args.by)
    = to_z-of_z w64 (pos 0 -ℤ to_z w64 (of_z w64 c.args.by)) (rw same (search rules)) in
    let none : to_z w64 (of_z w64 (pos 0 -ℤ to_z w64 (of_z w64 c.args.by))) +ℤ c.args.by ≡ pos 0 = omega (arith, ints, less, same) in
    on_ok_weaker c.bump-2.result
    (λ second. Shifts-of r c.args.by _ c.args.changes.now c.bump.new.changes c.bump-2.new.changes _ _ c.lemma_of_interval.ensures.some first second c.seq-2.ensures c.stop.ensures.value none)
    c.bump-2.ensures.ok
