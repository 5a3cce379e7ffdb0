use Rattle.std.proofs.Common.{◌≡◌, ◌∙◌, ◌∷◌, ◌+◌, ◌-◌, ℕ, List, length, map, reverse, sym, ap, subst, arith}
use Rattle.std.specs.Prelude.{All}
use Rattle.std.proofs.lemmas.Result.{IfOk-weaker}
use Rattle.iv_ledger.specs.Entries.{IsLedger}
use Rattle.iv_ledger.specs.Inside.Seen.{seen}
use Rattle.iv_lines.specs.RecordValue.{record_cmp, records_total}
use Rattle.iv_places.specs.Inside.Places.{HeldRests, IsPlace, record_at}
use Rattle.iv_places.specs.declared.placed_records.Place.{Place}
use Rattle.iv_track.specs.Inside.Counted.{AreCounted, grouped}
use Rattle.iv_track.proofs.CountedLemmas.{grouped-counted}
use Rattle.iv_track.proofs.GroupLemmas.{grouped-all, grouped-next}
use Rattle.iv_track.proofs.counted.count_copies.Given as given
use Rattle.iv_track.proofs.counted.count_copies.Goals as goal

pub loop-place-preserved : goal.loop-place-preserved
loop-place-preserved g c =
    let width = c.rests.inside.width in
    let bytes = c.rests.inside.bytes.items in
    let rests = c.into_parts-places.result.1 in
    let left = c.pop.new.self.items in
    let copies = c.take_copies-copies.result in
    grouped-next record_cmp (record_at width bytes) (IsPlace width bytes) c.args.places.records c.loop-place.entries c.push.new.self c.loop-place.places.items left c.give_back.new.places.items c.in-Some.place copies (length left + 1 - copies)
    c.in-Some.ensures.items (c.give_back.ensures ∙ c.take_copies-copies.ensures.left)
    (
    subst (λ (r : HeldRests). grouped record_cmp (map (record_at r.width r.bytes) (c.in-Some.place ∷ reverse left)) ≡ (record_at r.width r.bytes c.in-Some.place, copies) ∷ grouped record_cmp (map (record_at r.width r.bytes) (reverse c.give_back.new.places.items)))
    (sym c.rests.view_is)
    (subst (λ (l : List Place). grouped record_cmp (map (record_at rests.width rests.bytes) (c.in-Some.place ∷ reverse left)) ≡ (record_at rests.width rests.bytes c.in-Some.place, copies) ∷ grouped record_cmp (map (record_at rests.width rests.bytes) (reverse l))) (sym c.give_back.ensures) c.take_copies-copies.ensures.counted)
    )
    c.in_ok-push.ensures.ok c.loop-place.invariant

-- at the end
module _ (g : given.Over) (c : goal.After-of g) where
  meant : map (seen (record_at c.of.result.rests.width c.of.result.rests.bytes)) c.loop-place.entries ≡ grouped record_cmp c.args.places.records
  meant =
      ap (λ (r : HeldRests). map (seen (record_at r.width r.bytes)) c.loop-place.entries) (c.of.ensures ∙ sym c.rests.view_is)
      ∙ grouped-all record_cmp (record_at c.rests.inside.width c.rests.inside.bytes.items) (IsPlace c.rests.inside.width c.rests.inside.bytes.items) c.args.places.records c.loop-place.entries c.loop-place.places.items
      (omega (arith, c.loop-place.places.ok.0, c.in_default.ensures.cases.0)) c.loop-place.invariant

pub finish-requires-clause-keys : goal.finish-requires-clause-keys
finish-requires-clause-keys g c = subst (λ (r : HeldRests). All (λ (e : Place × ℕ). IsPlace r.width r.bytes e.0) c.loop-place.entries) (sym (c.of.ensures ∙ sym c.rests.view_is)) c.loop-place.invariant.keys

pub finish-requires-clause-ascend : goal.finish-requires-clause-ascend
finish-requires-clause-ascend g c = subst (IsLedger record_cmp) (sym (meant g c)) (grouped-counted record_cmp records_total c.args.places.records c.requires.order).ordered

pub returns : goal.returns
returns g c =
    IfOk-weaker c.finish.result _ _ (λ l h. subst (λ es. AreCounted record_cmp es c.args.places.records) (sym (h ∙ meant g c.before.before)) (grouped-counted record_cmp records_total c.args.places.records c.requires.order)) c.finish.ensures.entries
