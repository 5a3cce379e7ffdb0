use Rattle.std.proofs.Common.{◌≡◌, ◌∙◌, ◌<◌, sym, ap, arith, List}
use Rattle.iv_lines.specs.RecordValue.{RecordValue, record_cmp, records_total}
use Rattle.iv_lines.specs.Ordered.{copies, added}
use Rattle.iv_track.specs.Tracked.{Tracked, removed}
use Rattle.iv_lines.proofs.OrderedLemmas.{copies-added}
use Rattle.iv_track.proofs.Counts.{removed-added}
use Rattle.iv_track.proofs.Edits.{refused-absent}
use Rattle.iv_lines.proofs.RecordLemmas.{rows_exact}
use Rattle.iv_track.proofs.track.Track.replace.Goals as goal

pub unreachable-requires : goal.unreachable-requires
unreachable-requires g c =
    let records = c.args.self.now.records in
    let none : copies (added records c.args.new.now) c.args.old.now ≡ 0 = ap (λ (t : Tracked). copies t.records c.args.old.now) (sym c.in_ok-stage.ensures.ok) ∙ refused-absent c.stage.new.self c.args.old.now _ c.in-Err.ensures.why in
    omega (arith, none, copies-added record_cmp records c.args.new.now c.args.old.now, c.copies.ensures.value, c.if-copies-eq0.false)

pub returns-clause-ok : goal.returns-clause-ok
returns-clause-ok g c =
    let t = c.args.self.now in
    let some : 0 < copies t.records c.args.old.now = omega (arith, c.copies.ensures.value, c.if-copies-eq0.false) in
    let with_rows : List RecordValue → Tracked = λ records. record { records = records; width = t.width; limit = t.limit } in
    c.in-Ok.ensures.ok
    ∙ ap (λ (s : Tracked). record s { records = removed s.records c.args.old.now }) c.in_ok-stage.ensures.ok
    ∙ ap with_rows (removed-added record_cmp records_total rows_exact t.records c.args.new.now c.args.old.now c.copies.ensures.ordered some)
