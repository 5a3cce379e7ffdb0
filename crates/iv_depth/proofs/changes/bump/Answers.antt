use Rattle.std.proofs.Common.{◌≡◌, ◌≢◌, pos, ◌+ℤ◌, arith, rules, w64, SFits, to_z, of_z, ◌∙◌, sym, ap, Some, None}
use Rattle.std.proofs.lemmas.Int.{ints, to_z-of_z}
use Rattle.std.specs.Map.{set_value}
use Rattle.std.specs.BTreeMap.{is_at, insert_entry}
use Rattle.iv_ledger.specs.Entries.{value_at, pair_cmp}
use Rattle.iv_depth.proofs.ChangesLemmas.{Bumps-insert_entry, Bumps-taken, Bumps-set, found-put}
use Rattle.iv_track.proofs.TrackLemmas.{set_gives}
use Rattle.iv_depth.proofs.changes.bump.Goals as goal

pub returns-in_default-clause-ok : goal.returns-in_default-clause-ok
returns-in_default-clause-ok g c =
    let same : to_z w64 (of_z w64 c.args.by) ≡ c.args.by = to_z-of_z w64 c.args.by c.ranges.by in
    let put : c.put.new.self ≡ insert_entry pair_cmp c.args.changes.now c.args.key c.args.by = rw same at c.in_ok-before.ensures.ok in
    let absent : value_at pair_cmp c.args.changes.now c.args.key ≡ None = sym c.in_ok-before.ensures.before ∙ c.in_default.is in
    rw put (Bumps-insert_entry c.args.changes.now c.args.key c.args.by absent c.requires.by.2 (rw put at c.put.ensures.ordered))

pub overflow_add-change : goal.overflow_add-change
overflow_add-change g c =
    let fits : SFits w64 c.in-Some.before = search rules in
    let found : value_at pair_cmp c.args.changes.now c.args.key ≡ Some c.in-Some.before = sym c.in_ok-before.ensures.before ∙ c.in-Some.is in
    let small = c.requires.small c.in-Some.before found in
    omega (arith, ints, small, c.requires.by)

pub returns-then-cancels-clause-ok : goal.returns-then-cancels-clause-ok
returns-then-cancels-clause-ok g c =
    let fits : SFits w64 c.in-Some.before = search rules in
    let same : to_z w64 (of_z w64 c.args.by) ≡ c.args.by = to_z-of_z w64 c.args.by c.ranges.by in
    let put : c.put.new.self ≡ insert_entry pair_cmp c.args.changes.now c.args.key c.args.by = rw same at c.in_ok-before.ensures.ok in
    let found : value_at pair_cmp c.args.changes.now c.args.key ≡ Some c.in-Some.before = sym c.in_ok-before.ensures.before ∙ c.in-Some.is in
    let small = c.requires.small c.in-Some.before found in
    let test = c.if-cancels.true in
    let none : c.in-Some.before +ℤ c.args.by ≡ pos 0 = omega (arith, ints, small, c.requires.by, test) in
    Bumps-taken c.args.changes.now c.put.new.self c.take.new.self c.args.key c.in-Some.before c.args.by c.put.ensures.was_ordered found put none c.take.ensures.rest c.take.ensures.ordered

pub returns-else-cancels-clause-ok : goal.returns-else-cancels-clause-ok
returns-else-cancels-clause-ok g c =
    let fits : SFits w64 c.in-Some.before = search rules in
    let same : to_z w64 (of_z w64 c.args.by) ≡ c.args.by = to_z-of_z w64 c.args.by c.ranges.by in
    let put : c.put.new.self ≡ insert_entry pair_cmp c.args.changes.now c.args.key c.args.by = rw same at c.in_ok-before.ensures.ok in
    let found : value_at pair_cmp c.args.changes.now c.args.key ≡ Some c.in-Some.before = sym c.in_ok-before.ensures.before ∙ c.in-Some.is in
    let small = c.requires.small c.in-Some.before found in
    let test = c.if-cancels.false in
    let other : c.in-Some.before +ℤ c.args.by ≢ pos 0 = λ e. test (omega (arith, ints, small, c.requires.by, e)) in
    let sum : to_z w64 (of_z w64 (to_z w64 (of_z w64 c.in-Some.before) +ℤ to_z w64 (of_z w64 c.args.by))) ≡ c.in-Some.before +ℤ c.args.by = omega (arith, ints, small, c.requires.by) in
    let there = found-put c.args.changes.now c.put.new.self c.set.new.self c.args.key c.in-Some.before c.args.by c.put.ensures.was_ordered found put in
    let set = set_gives c.set.result _ _ _ _ there c.set.ensures.written c.set.ensures.absent in
    Bumps-set c.args.changes.now c.put.new.self c.set.new.self c.args.key c.in-Some.before c.args.by c.put.ensures.was_ordered found put other
    (set ∙ ap (set_value (is_at (pair_cmp c.args.key)) c.put.new.self) sum) c.set.ensures.ordered
