use Rattle.std.proofs.Common.{ℕ, ◌≡◌, ◌+◌, ◌<◌, ◌∙◌, sym, ap, arith, List, length, subst}
use Rattle.std.specs.Prelude.{unwrap_or, slice_index_or, slice_set}
use Rattle.iv_lines.specs.RecordValue.{RecordValue, record_cmp}
use Rattle.std.specs.BTreeMap.{insert_entry}
use Rattle.iv_ledger.specs.Entries.{value_at}
use Rattle.iv_lines.specs.Ordered.{added, copies}
use Rattle.iv_track.specs.Tracked.{Tracked}
use Rattle.iv_track.specs.Copies.{expanded}
use Rattle.iv_track.specs.Inside.LengthClasses.{AreClasses, length_class}
use Rattle.iv_track.proofs.ClassLemmas.{classes-added, classes-room}
use Rattle.iv_track.proofs.TrackLemmas.{count_here, count-le-len, len-rows, staged_rows, staged_track}
use Rattle.iv_ledger.proofs.RoomLemmas.{always_on_err}
use Rattle.iv_track.proofs.track.Track.stage.Goals as goal

pub overflow_add-count : goal.overflow_add-count
overflow_add-count g c =
    let i = c.self.inside in
    let e : c.unwrap_or-count.result ≡ unwrap_or (value_at record_cmp i.ledger c.args.feature.now) 0 = c.unwrap_or-count.ensures ∙ ap (λ o. unwrap_or o 0) (c.copied.ensures ∙ c.get.ensures.value) in
    record { fits = omega (arith, e, count-le-len i.ledger i.len i.width i.limit c.args.feature.now c.self.invariant.track, c.self.invariant.track.room, c.self.invariant.track.bounded) }

pub invariant_of-self-2 : goal.invariant_of-self-2
invariant_of-self-2 g c =
    let i = c.self.inside in
    let e = c.unwrap_or-count.ensures ∙ ap (λ o. unwrap_or o 0) (c.copied.ensures ∙ c.get.ensures.value) in
    record {
      track = staged_track i.ledger c.put.new.self i.len i.width i.limit c.args.feature.now c.self.invariant.track c.unwrap_or-count.result e (c.in_ok-put.ensures.ok ∙ ap (λ (r : RecordValue). insert_entry record_cmp i.ledger r (c.unwrap_or-count.result + 1)) c.again.ensures) c.in_ok-put.ensures.ordered
          (c.requires.width ∙ sym (ap (λ (t : Tracked). t.width) c.self.view_is))
          (omega (arith, c.width-width.ensures.value, c.width-width.ensures.known.0))
          c.lemma_of_interval.ensures
          (omega (arith, c.requires.room, len-rows i.ledger i.len i.width i.limit c.self.invariant.track, ap (λ (t : Tracked). length t.records) c.self.view_is, ap (λ (t : Tracked). t.limit) c.self.view_is));
      lengths =
          let within : length_class c.args.feature.now < 33 = omega (arith, c.length_class-class.ensures.is, c.length_class-class.ensures.within) in
          let records = staged_rows i.ledger c.put.new.self i.len i.width i.limit c.args.feature.now c.self.invariant.track c.unwrap_or-count.result e (c.in_ok-put.ensures.ok ∙ ap (λ (r : RecordValue). insert_entry record_cmp i.ledger r (c.unwrap_or-count.result + 1)) c.again.ensures) in
          subst (λ (l : List ℕ). AreClasses l (expanded c.put.new.self))
          (sym (c.add.ensures ∙ ap (λ k. slice_set i.lengths k (slice_index_or i.lengths k 0 + 1)) c.length_class-class.ensures.is))
          (subst (AreClasses (slice_set i.lengths (length_class c.args.feature.now) (slice_index_or i.lengths (length_class c.args.feature.now) 0 + 1))) (sym records) (classes-added i.lengths (expanded i.ledger) c.args.feature.now c.self.invariant.lengths within));
    }

pub returns-clause-ok : goal.returns-clause-ok
returns-clause-ok g c =
    let i = c.self.inside in
    let e = c.unwrap_or-count.ensures ∙ ap (λ o. unwrap_or o 0) (c.copied.ensures ∙ c.get.ensures.value) in
    let with_rows : List RecordValue → Tracked = λ records. record { records = records; width = i.width; limit = i.limit } in
    ap with_rows (staged_rows i.ledger c.put.new.self i.len i.width i.limit c.args.feature.now c.self.invariant.track c.unwrap_or-count.result e (c.in_ok-put.ensures.ok ∙ ap (λ (r : RecordValue). insert_entry record_cmp i.ledger r (c.unwrap_or-count.result + 1)) c.again.ensures))
    ∙ ap (λ (t : Tracked). record t { records = added t.records c.args.feature.now }) c.self.view_is

pub returns-in_err-put-clause-memory : goal.returns-in_err-put-clause-memory
returns-in_err-put-clause-memory g c =
    let i = c.self.inside in
    always_on_err c.from_residual.result (
    ap (λ (t : Tracked). copies t.records c.args.feature.now) (sym c.self.view_is)
    ∙ count_here i.ledger i.len i.width i.limit c.args.feature.now c.self.invariant.track
    ∙ ap (λ (r : RecordValue). unwrap_or (value_at record_cmp i.ledger r) 0) (sym c.again.ensures)
    ∙ ap (λ o. unwrap_or o 0) c.in_err-put.ensures.absent
    )

pub add-requires-clause-room : goal.add-requires-clause-room
add-requires-clause-room g c =
    let i = c.self.inside in
    omega (arith, classes-room i.lengths (expanded i.ledger) c.length_class-class.result c.self.invariant.lengths, len-rows i.ledger i.len i.width i.limit c.self.invariant.track, c.self.invariant.track.room, c.self.invariant.track.bounded)
