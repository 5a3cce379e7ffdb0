use Rattle.std.proofs.Common.{◌∙◌, ℕ, ◌<◌, sym, ap, subst}
use Rattle.iv_lines.specs.Inside.Ordered.{copies_by}
use Rattle.iv_track.specs.Copies.{removed_by, expanded}
use Rattle.iv_track.specs.Tracked.{Tracked}
use Rattle.iv_pair.specs.Inside.Lengths.{AreLengths}
use Rattle.iv_pair.proofs.LengthLemmas.{AreLengths-removed, counted-there}
use Rattle.iv_ledger.specs.Entries.{pair_cmp}
use Rattle.iv_pair.proofs.second.remove_record.Goals as goal

pub lower-requires-clause-there : goal.lower-requires-clause-there
lower-requires-clause-there g c =
    subst (λ (k : ℕ × ℕ). 0 < copies_by pair_cmp (expanded c.args.lengths.now) k) (sym c.length_of.ensures.is)
    (counted-there c.args.lengths.now c.args.track.now.records c.args.feature.now c.requires.counted c.in_ok-remove.ensures.was_ordered c.in_ok-remove.ensures.there)

pub returns-clause-counted : goal.returns-clause-counted
returns-clause-counted g c =
    subst (λ (t : Tracked). AreLengths c.lower.new.lengths t.records) (sym c.in_ok-remove.ensures.ok)
    (AreLengths-removed c.args.lengths.now c.lower.new.lengths c.args.track.now.records c.args.feature.now c.requires.counted c.in_ok-remove.ensures.was_ordered c.in_ok-remove.ensures.there
    (record {
      tally = c.lower.ensures.lowered.0;
      records = c.lower.ensures.lowered.1 ∙ ap (removed_by pair_cmp (expanded c.args.lengths.now)) c.length_of.ensures.is;
    }))
