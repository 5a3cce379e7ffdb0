use Rattle.std.proofs.Common.{◌≡◌, ◌+◌, ◌<◌, ◌≤◌, ◌^◌, ◌++◌, ℕ, List, [], length, take, refl, ap, arith, length-append, length-take}
use Rattle.std.proofs.lemmas.Result.{err_from_is_err_and}
use Rattle.iv_run.specs.declared.exit_reason.FileFault.TheVariants.{Memory, TooLong}
use Rattle.iv_run.proofs.ReadingLemmas.{HasGiven-begin, HasGiven-more, ReadsWhole-end, StopsReading-piece}
use Rattle.iv_run.proofs.run_files.read_pieces.Goals as goal

-- a front has as many bytes as it is to have
taken : (n : ℕ) (bytes : List ℕ) → n ≤ length bytes → length (take n bytes) ≡ n
taken n bytes within = omega (arith, length-take n bytes)

pub pieces-init : goal.pieces-init
pieces-init g c = ([], HasGiven-begin _, refl, omega arith, λ wanted begun. begun)

pub take-requires : goal.take-requires
take-requires g c =
    let front = c.pieces.invariant.0 in
    let piece = take c.in_ok-n.n c.pull.new.into in
    let size : length piece ≡ c.in_ok-n.n = taken c.in_ok-n.n c.pull.new.into c.in_ok-n.ensures.some in
    let few : length front + length piece < 2 ^ 63 = omega (arith, c.pieces.invariant.2, c.pieces.invariant.3, c.if-n-most.false, size, c.requires.most) in
    (c.requires.begun.0, front, c.pieces.invariant.4 c.requires.begun.0 c.requires.begun.1, few)

pub returns-in_err-reading-clause-err : goal.returns-in_err-reading-clause-err
returns-in_err-reading-clause-err g c =
    let front = c.pieces.invariant.0 in
    let piece = take c.in_ok-n.n c.pull.new.into in
    let size : length piece ≡ c.in_ok-n.n = taken c.in_ok-n.n c.pull.new.into c.in_ok-n.ensures.some in
    let few : length front + length piece ≤ c.args.most = omega (arith, c.pieces.invariant.2, c.pieces.invariant.3, c.if-n-most.false, size) in
    let p = err_from_is_err_and c.from_residual-in_err-reading.result c.from_residual-in_err-reading.ensures.1 in
    rw (p.1, p.2, c.in_err-reading.ensures.err) (StopsReading-piece _ _ _ c.args.most front piece c.in_ok-n.n Memory c.pieces.invariant.1 c.in_ok-n.ensures.ok few)

pub pieces-preserved : goal.pieces-preserved
pieces-preserved g c =
    let front = c.pieces.invariant.0 in
    let piece = take c.in_ok-n.n c.pull.new.into in
    let size : length piece ≡ c.in_ok-n.n = taken c.in_ok-n.n c.pull.new.into c.in_ok-n.ensures.some in (
      front ++ piece,
      HasGiven-more _ _ _ front piece c.in_ok-n.n c.pieces.invariant.1 c.in_ok-n.ensures.ok,
      omega (arith, c.pieces.invariant.2, length-append front piece, size),
      omega (arith, c.pieces.invariant.3, c.if-n-most.false),
      λ wanted begun. c.in_ok-reading.ensures.ok wanted front (c.pieces.invariant.4 wanted begun),
    )

pub returns-then-n-eq0-clause-ok : goal.returns-then-n-eq0-clause-ok
returns-then-n-eq0-clause-ok g c =
    let front = c.pieces.invariant.0 in
    let piece = take c.in_ok-n.n c.pull.new.into in
    let few : length front ≤ c.args.most = omega (arith, c.pieces.invariant.2, c.pieces.invariant.3) in
    let none : piece ≡ [] = ap (λ (n : ℕ). take n c.pull.new.into) c.if-n-eq0.true in (
      front,
      ReadsWhole-end _ _ _ c.args.most front piece c.in_ok-n.n c.pieces.invariant.1 few c.in_ok-n.ensures.ok none (c.in_ok-n.ensures.end c.if-n-eq0.true),
      c.pieces.invariant.4,
    )

pub returns-then-n-most-clause-err : goal.returns-then-n-most-clause-err
returns-then-n-most-clause-err g c =
    let front = c.pieces.invariant.0 in
    let piece = take c.in_ok-n.n c.pull.new.into in
    let size : length piece ≡ c.in_ok-n.n = taken c.in_ok-n.n c.pull.new.into c.in_ok-n.ensures.some in
    let over : c.args.most < length front + length piece = omega (arith, c.pieces.invariant.2, c.pieces.invariant.3, c.if-n-most.true, size) in
    StopsReading-piece _ _ _ c.args.most front piece c.in_ok-n.n TooLong c.pieces.invariant.1 c.in_ok-n.ensures.ok over
