use Rattle.std.proofs.Common.{◌≡◌, length, drop, arith, ◌≤◌, ◌<◌, ◌≢◌, rules, ap, ◌∙◌}
use Rattle.std.proofs.lemmas.List.Elements.{All-take}
use Rattle.iv_lines.proofs.PieceLemmas.{handed-on}
use Rattle.iv_session.proofs.ReadLemmas.{InLine-more, ReadsLine-break, StopsInLine-input, StopsInLine-full, StopsInLine-part, ends-feed, ends-nothing}
use Rattle.iv_session.proofs.script.read_line.Goals as goal

pub returns-in_err-fill-clause-err : goal.returns-in_err-fill-clause-err
returns-in_err-fill-clause-err g c =
    handed-on c.from_residual.result _ _ c.from_residual.ensures.1
    (StopsInLine-input _ _ c.fill.new.self _ _ _ _ _ _ c.loop-held.invariant c.in_err-fill.ensures.reads
    c.in_err-fill.ensures.none c.in_err-fill.ensures.err)

pub returns-then-left-eq0-clause-err : goal.returns-then-left-eq0-clause-err
returns-then-left-eq0-clause-err g c =
    let some : 0 < length c.fill.new.self = search rules in
    let none : c.args.left ≡ 0 = omega (arith, c.if-left-eq0.true) in
    StopsInLine-full _ _ c.fill.new.self _ _ _ _ _ _ c.loop-held.invariant c.in_ok-fill.ensures.reads
    (rw c.if-branch.true at c.in_ok-fill.ensures.ok) some none c.fill.ensures.few

pub returns-in_err-take_part-in-Some-clause-err : goal.returns-in_err-take_part-in-Some-clause-err
returns-in_err-take_part-in-Some-clause-err g c =
    let found = rw c.bytes-bytes.ensures at c.in-Some.ensures in
    let some : 0 < length c.fill.new.self = search rules in
    let room : 0 < c.args.left = omega (arith, c.if-left-eq0.false) in
    handed-on c.from_residual-in_err-take_part-in-Some.result _ _ c.from_residual-in_err-take_part-in-Some.ensures.1
    (StopsInLine-part _ _ c.fill.new.self _ _ _ _ _ c.loop-held.line.items c.in-Some.n _ c.loop-held.invariant c.in_ok-fill.ensures.reads
    (rw c.if-branch.true at c.in_ok-fill.ensures.ok) room some (omega (arith, found.0)) found.2 (ends-feed c.fill.new.self c.in-Some.n found.0 found.1)
    c.fill.ensures.few c.in_err-take_part-in-Some.ensures.err)

pub returns-in-Some-clause-ok : goal.returns-in-Some-clause-ok
returns-in-Some-clause-ok g c =
    let found = rw c.bytes-bytes.ensures at c.in-Some.ensures in (
      omega (arith, c.if-left-eq0.false),
      ReadsLine-break _ _ c.fill.new.self _ _ _ _ _ _ c.loop-held.line.items _ c.in-Some.n c.loop-held.invariant c.in_ok-fill.ensures.reads
          (rw c.if-branch.true at c.in_ok-fill.ensures.ok) found.0 found.1 found.2 c.in_ok-take_part-in-Some.ensures.fits c.fill.ensures.few
          (c.skip.ensures ∙ ap (drop 1) c.in_ok-take_part-in-Some.ensures.held)
          (rw c.in_ok-take_part-in-Some.ensures.line at c.drop_return.ensures),
    )

pub loop-held-preserved : goal.loop-held-preserved
loop-held-preserved g c =
    let plain = rw c.bytes-bytes.ensures at c.in-None.ensures in
    let size : length c.bytes-bytes.result.now ≡ length c.fill.new.self = ap length c.bytes-bytes.ensures in
    let within : length c.bytes-bytes.result.now ≤ length c.fill.new.self = omega (arith, size) in
    InLine-more _ _ c.fill.new.self _ _ _ _ _ _ c.loop-held.line.items _ (length c.bytes-bytes.result.now) c.loop-held.invariant
    c.in_ok-fill.ensures.reads (rw c.if-branch.true at c.in_ok-fill.ensures.ok)
    (All-take (λ b. b ≢ 10) (length c.bytes-bytes.result.now) c.fill.new.self plain) (omega (arith, c.if-left-eq0.false)) within
    c.in_ok-take_part-in-None.ensures.fits c.in_ok-take_part-in-None.ensures.held c.in_ok-take_part-in-None.ensures.line

pub returns-in_err-take_part-in-None-clause-err : goal.returns-in_err-take_part-in-None-clause-err
returns-in_err-take_part-in-None-clause-err g c =
    let plain = rw c.bytes-bytes.ensures at c.in-None.ensures in
    let size : length c.bytes-bytes.result.now ≡ length c.fill.new.self = ap length c.bytes-bytes.ensures in
    let within : length c.bytes-bytes.result.now ≤ length c.fill.new.self = omega (arith, size) in
    let all : length c.fill.new.self ≤ length c.bytes-bytes.result.now = omega (arith, size) in
    let some : 0 < length c.fill.new.self = search rules in
    let room : 0 < c.args.left = omega (arith, c.if-left-eq0.false) in
    handed-on c.from_residual-in_err-take_part-in-None.result _ _ c.from_residual-in_err-take_part-in-None.ensures.1
    (StopsInLine-part _ _ c.fill.new.self _ _ _ _ _ c.loop-held.line.items (length c.bytes-bytes.result.now) _ c.loop-held.invariant
    c.in_ok-fill.ensures.reads (rw c.if-branch.true at c.in_ok-fill.ensures.ok) room some within
    (All-take (λ b. b ≢ 10) (length c.bytes-bytes.result.now) c.fill.new.self plain)
    (ends-nothing c.fill.new.self (length c.bytes-bytes.result.now) all) c.fill.ensures.few
    c.in_err-take_part-in-None.ensures.err)
