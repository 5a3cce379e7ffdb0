use Rattle.std.proofs.Common.{◌≡◌, ◌∙◌, ℕ, List, filter, sym, ap, subst, arith}
use Rattle.iv_lines.specs.Ordered.{AreInOrder}
use Rattle.iv_lines.specs.RecordValue.{RecordValue, record_cmp}
use Rattle.iv_lines.proofs.InOrderLemmas.{in_order-filter}
use Rattle.iv_track.specs.Tracked.{is_from}
use Rattle.iv_pair.specs.Inside.HitFinder.{HitAlike}
use Rattle.iv_pair.specs.Inside.Lengths.{AreUpTo}
use Rattle.iv_pair.proofs.CarryLemmas.{alike-anew}
use Rattle.iv_pair.proofs.second_records.KeptRecordsSecondRecordsTrackRecords.skip_to.Goals.{then-seq-self, else-seq-self}
use Rattle.iv_pair.proofs.second_records.KeptRecordsSecondRecordsTrackRecords.skip_to.Goals as goal

pub returns-clause-alike : goal.returns-clause-alike
returns-clause-alike g c =
    let seq = c.args.seq in
    let start = c.args.start in
    let all = c.args.self.now in
    let now = c.if-seq-self.self-inside in
    let facts : (now.second.now.records ≡ all) × AreUpTo seq now.longest all = elim c.if-seq-self.branch [
      | then-seq-self w ↦ rw w.self-inside-is (c.self.view_is, subst (λ (l : List RecordValue). AreUpTo seq w.longest-self-inside.result l) c.self.view_is w.longest-self-inside.ensures)
      | else-seq-self w ↦ rw w.self-inside-is (c.self.view_is, subst (λ (l : List RecordValue). AreUpTo seq c.self.inside.longest l) c.self.view_is (subst (λ (s : ℕ). AreUpTo s c.self.inside.longest c.self.inside.second.now.records) (sym w.if-seq-self.false) c.self.invariant))
    ] in
    let from = c.first_start-from.result in
    let walked = c.walk.ensures.records ∙ ap (filter (is_from seq from)) facts.0 in
    subst (λ (l : List RecordValue). HitAlike seq start l all) (sym walked) (alike-anew all seq start from now.longest facts.1 (omega (arith, c.first_start-from.ensures)))

pub returns-clause-order : goal.returns-clause-order
returns-clause-order g c =
    let seq = c.args.seq in
    let now = c.if-seq-self.self-inside in
    let from = c.first_start-from.result in
    subst AreInOrder (sym c.walk.ensures.records) (in_order-filter record_cmp (is_from seq from) now.second.now.records c.walk.ensures.ordered)
