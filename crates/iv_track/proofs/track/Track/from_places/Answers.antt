use Rattle.std.proofs.Common.{◌≡◌, ℕ, List, [], length, subst, sym, ap, arith, ◌∙◌}
use Rattle.std.specs.Prelude.{All}
use Rattle.iv_lines.specs.Bed.{Bed}
use Rattle.iv_lines.specs.Ordered.{AreInOrder, ordered}
use Rattle.iv_lines.specs.RecordValue.{RecordValue, IsPlaced, record_cmp}
use Rattle.iv_lines.proofs.OrderedLemmas.{length-all_added, ordered-in_order}
use Rattle.iv_track.specs.Tracked.{Tracked}
use Rattle.iv_track.specs.Inside.LengthClasses.{AreClasses}
use Rattle.iv_track.proofs.BuiltLemmas.{counted-keys, counted-ordered, counted_track, ordered-again}
use Rattle.iv_track.proofs.PackLemmas.{ordered-same}
use Rattle.iv_track.proofs.track.Track.from_places.Goals as goal

-- records that were put in order are as many
as-many : (sorted places : Bed) → sorted ≡ record places { records = ordered places.records } → length sorted.records ≡ length places.records
as-many sorted places is = ap (λ (b : Bed). length b.records) is ∙ omega (arith, length-all_added record_cmp places.records [])

pub overflow_cast-len : goal.overflow_cast-len
overflow_cast-len g c =
    record { fits = omega (arith, c.len-len.ensures, ap (λ (l : List RecordValue). length l) c.records.ensures, as-many c.sort.new.self c.args.places c.in_ok-sort.ensures, c.requires.few, c.requires.limit) }

pub count_copies-requires : goal.count_copies-requires
count_copies-requires g c = record {
  few = omega (arith, as-many c.sort.new.self c.args.places c.in_ok-sort.ensures, c.requires.few, c.requires.limit);
  order = subst (λ (b : Bed). AreInOrder b.records) (sym c.in_ok-sort.ensures) (ordered-in_order c.args.places.records);
}

pub of-lengths-requires : goal.of-lengths-requires
of-lengths-requires g c = omega (arith, ap (λ (l : List RecordValue). length l) c.records-2.ensures, as-many c.sort.new.self c.args.places c.in_ok-sort.ensures, c.requires.few, c.requires.limit)

pub invariant_of-result : goal.invariant_of-result
invariant_of-result g c =
    let sorted = c.sort.new.self.records in
    let counted = c.in_ok-ledger.ensures in
    let len : c.len-len.result ≡ length sorted = c.len-len.ensures ∙ ap (λ (l : List RecordValue). length l) c.records.ensures in
    let in_order : AreInOrder sorted = subst (λ (b : Bed). AreInOrder b.records) (sym c.in_ok-sort.ensures) (ordered-in_order c.args.places.records) in
    record {
      track = counted_track c.in_ok-ledger.ledger sorted counted c.len-len.result c.width-width.result c.args.limit len c.width-width.ensures.each c.width-width.ensures.known.0
          (counted-keys c.in_ok-ledger.ledger sorted counted IsPlaced (subst (All IsPlaced) c.records-2.ensures c.of-lengths.ensures.placed))
          (omega (arith, len, as-many c.sort.new.self c.args.places c.in_ok-sort.ensures, c.requires.few))
          c.requires.limit;
      lengths = subst (AreClasses c.of-lengths.result) (c.records-2.ensures ∙ sym (counted-ordered c.in_ok-ledger.ledger sorted counted ∙ ordered-same sorted in_order)) c.of-lengths.ensures.classes;
    }

pub returns : goal.returns
returns g c =
    let with : List RecordValue → ℕ → Tracked = λ records width. record { records = records; width = width; limit = c.args.limit } in
    (λ i. with (counted-ordered c.in_ok-ledger.ledger c.sort.new.self.records c.in_ok-ledger.ensures i) (c.width-width.ensures.value i))
    ∙ ap (λ (b : Bed). with (ordered b.records) b.width) c.in_ok-sort.ensures
    ∙ ap (λ (records : List RecordValue). with records c.args.places.width) (ordered-again c.args.places.records)
