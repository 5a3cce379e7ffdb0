use Rattle.std.proofs.Common.{◌≡◌, ◌∙◌, List, length, sym, ap, subst, arith}
use Rattle.std.specs.Prelude.{filter}
use Rattle.std.proofs.lemmas.List.Kept.{IsStrictlySortedBy-filter}
use Rattle.iv_lines.specs.RecordValue.{RecordValue, record_cmp, records_total}
use Rattle.std.specs.List.Sorted.{IsStrictlySortedBy}
use Rattle.std.specs.Map.{keys_of}
use Rattle.std.specs.Ordering.{is_le}
use Rattle.iv_track.proofs.EntryIndexLemmas.{filter-least}
use Rattle.iv_track.specs.Copies.{expanded}
use Rattle.iv_track.specs.Tracked.{Tracked, different_records, is_from}
use Rattle.iv_lines.specs.Ordered.{AreInOrder}
use Rattle.iv_track.proofs.Counts.{in_order-expanded}
use Rattle.iv_track.proofs.DifferentLemmas.{different-expanded, keys-filter}
use Rattle.iv_track.proofs.TrackLemmas.{len-rows}
use Rattle.iv_track.proofs.WalkLemmas.{few, expanded-filter, present-filter}
use Rattle.iv_track.proofs.track.Track.entries_from.Given as given
use Rattle.iv_track.proofs.track.Track.entries_from.Goals as goal

-- the entries of the walk are those of the map from there on
passed : (g : given.Over) (c : goal.After-walk g) → c.walk.result ≡ filter (λ e. is_from c.args.seq c.args.start e.0) c.self.inside.ledger
passed g c =
    let i = c.self.inside in
    c.walk.ensures.entries
    ∙ ap (λ (r : RecordValue). filter (λ e. is_le (record_cmp r e.0)) i.ledger) c.least_at.ensures
    ∙ filter-least c.args.seq c.args.start i.ledger c.self.invariant.track.placed c.self.invariant.track.wide

-- and their records those of the track
meant : (g : given.Over) (c : goal.After-walk g)
    → expanded (filter (λ e. is_from c.args.seq c.args.start e.0) c.self.inside.ledger) ≡ filter (is_from c.args.seq c.args.start) c.args.self.now.records
meant g c =
    expanded-filter (is_from c.args.seq c.args.start) c.self.inside.ledger
    ∙ ap (λ (t : Tracked). filter (is_from c.args.seq c.args.start) t.records) c.self.view_is

pub returns-clause-records : goal.returns-clause-records
returns-clause-records g c = ap expanded (passed g c) ∙ meant g c

pub returns-clause-present : goal.returns-clause-present
returns-clause-present g c = rw (passed g c) (present-filter (λ e. is_from c.args.seq c.args.start e.0) c.self.inside.ledger c.self.invariant.track.present)

pub returns-clause-few : goal.returns-clause-few
returns-clause-few g c =
    let i = c.self.inside in
    let t = c.self.invariant.track in
    omega (
      arith,
      ap (λ (l : List RecordValue). length l) (ap expanded (passed g c) ∙ expanded-filter (is_from c.args.seq c.args.start) i.ledger),
      few (is_from c.args.seq c.args.start) (expanded i.ledger),
      len-rows i.ledger i.len i.width i.limit t,
      t.room,
      t.bounded,
    )

pub returns-clause-ordered : goal.returns-clause-ordered
returns-clause-ordered g c =
    subst (λ (t : Tracked). AreInOrder t.records) c.self.view_is (in_order-expanded record_cmp records_total c.self.inside.ledger c.self.invariant.track.ordered)

pub returns-clause-each : goal.returns-clause-each
returns-clause-each g c =
    let i = c.self.inside in
    let test = is_from c.args.seq c.args.start in
    let sorted = subst (IsStrictlySortedBy record_cmp) (sym (keys-filter test i.ledger)) (IsStrictlySortedBy-filter record_cmp test (keys_of i.ledger) c.self.invariant.track.ordered) in
    ap length (passed g c)
    ∙ sym (different-expanded record_cmp records_total (filter (λ e. test e.0) i.ledger) sorted (present-filter (λ e. test e.0) i.ledger c.self.invariant.track.present))
    ∙ ap different_records (meant g c)
