use Rattle.std.proofs.Common.{◌∙◌, ℕ, sym, ap, subst, arith}
use Rattle.iv_lines.specs.Ordered.{added_by}
use Rattle.iv_lines.specs.Inside.Ordered.{copies_by}
use Rattle.iv_track.specs.Copies.{expanded}
use Rattle.iv_track.specs.Tracked.{Tracked}
use Rattle.iv_pair.specs.Inside.Lengths.{AreLengths}
use Rattle.iv_pair.proofs.LengthLemmas.{AreLengths-room, AreLengths-added, AreLengths-back, absent-uncounted, raised-there}
use Rattle.iv_ledger.specs.Entries.{pair_cmp}
use Rattle.iv_ledger.proofs.RoomLemmas.{always_on_err}
use Rattle.iv_pair.proofs.second.stage.Goals as goal

pub raise-requires-clause-room : goal.raise-requires-clause-room
raise-requires-clause-room g c =
    omega (arith, AreLengths-room c.args.lengths.now c.args.track.now.records c.length_of-length.result c.requires.counted, c.requires.room, c.len-few.ensures.bounded)

pub lower-requires-clause-there : goal.lower-requires-clause-there
lower-requires-clause-there g c = raised-there c.args.lengths.now c.raise.new.lengths c.length_of-length.result c.in_ok-raise.ensures.ok.1

pub returns-in_err-raise-clause-memory : goal.returns-in_err-raise-clause-memory
returns-in_err-raise-clause-memory g c =
    always_on_err c.from_residual.result
    (absent-uncounted c.args.lengths.now c.args.track.now.records c.args.feature.now c.requires.counted c.len-few.ensures.ordered
    (ap (λ (k : ℕ × ℕ). copies_by pair_cmp (expanded c.args.lengths.now) k) (sym c.length_of-length.ensures.is) ∙ c.in_err-raise.ensures.memory))

pub returns-in-Ok-clause-counted : goal.returns-in-Ok-clause-counted
returns-in-Ok-clause-counted g c =
    subst (λ (t : Tracked). AreLengths c.raise.new.lengths t.records) (sym c.in-Ok.ensures.ok)
    (AreLengths-added c.args.lengths.now c.raise.new.lengths c.args.track.now.records c.args.feature.now c.requires.counted c.in_ok-raise.ensures.ok.0
    (c.in_ok-raise.ensures.ok.1 ∙ ap (added_by pair_cmp (expanded c.args.lengths.now)) c.length_of-length.ensures.is))

pub returns-in-Err-clause-counted : goal.returns-in-Err-clause-counted
returns-in-Err-clause-counted g c =
    subst (λ (t : Tracked). AreLengths c.lower.new.lengths t.records) (sym c.in-Err.ensures.err)
    (AreLengths-back c.args.lengths.now c.raise.new.lengths c.lower.new.lengths c.args.track.now.records c.length_of-length.result c.requires.counted c.in_ok-raise.ensures.ok.1
    (record { tally = c.lower.ensures.lowered.0; records = c.lower.ensures.lowered.1 }))
