use Rattle.std.proofs.Common.{All, List, map, sym, ap, subst, ◌≡◌, ◌∙◌}
use Rattle.iv_lines.specs.Bed.{Bed}
use Rattle.iv_lines.specs.RecordValue.{RecordValue}
use Rattle.iv_lines.specs.Ordered.{AreInOrder}
use Rattle.iv_places.specs.Cover.{is_covered}
use Rattle.iv_places.specs.Inside.Cover.{AreApart}
use Rattle.iv_places.specs.Inside.Joins.{joined_places}
use Rattle.iv_lines.specs.Intervals.{bare}
use Rattle.iv_places.specs.Inside.Places.{IsPlace, records_at}
use Rattle.iv_places.specs.declared.placed_records.Place.{Place}
use Rattle.iv_places.proofs.BareLemmas.{rows-bare}
use Rattle.iv_places.proofs.JoinLemmas.{all-bare, covered-joined, places-joined, rows-joined_apart, rows-joined_order}
use Rattle.iv_places.proofs.PlaceLemmas.{all-based}
use Rattle.iv_places.proofs.places.Places.join.Goals as goal

pub invariant_of-self : goal.invariant_of-self
invariant_of-self g c = record {
  low = c.self.invariant.low;
  high = c.self.invariant.high;
  all = subst (All (IsPlace c.self.inside.rests.width c.self.inside.rests.bytes)) (sym c.join_places.ensures)
      (places-joined c.self.inside.rests.width c.self.inside.rests.bytes c.self.inside.places.items c.self.invariant.all);
}

pub returns : goal.returns
returns g c =
    let b = c.self.inside in
    let old = b.places.items in
    let rests = b.rests.bytes in
    let new = c.join_places.new.places.items in
    let order : AreInOrder (records_at b.rests.width rests old) = subst (λ (bed : Bed). AreInOrder bed.records) (sym c.self.view_is) c.requires in
    let left : c.drop_columns.new.self.records ≡ map bare (records_at b.rests.width rests new) = ap (λ (bed : Bed). bed.records) c.drop_columns.ensures in
    let is : c.drop_columns.new.self.records ≡ records_at 3 rests (joined_places old) =
    left ∙ sym (rows-bare b.rests.width rests new) ∙ ap (λ (ps : List Place). records_at 3 rests ps) c.join_places.ensures in
    record {
      width = ap (λ (bed : Bed). bed.width) c.drop_columns.ensures;
      bare = subst (λ (records : List RecordValue). All (λ (r : RecordValue). r ≡ bare r) records) (sym left) (all-bare (records_at b.rests.width rests new));
      order = subst AreInOrder (sym is) (rows-joined_order b.rests.width 3 rests old (all-based b.rests.width rests old c.self.invariant.all) order);
      covered = λ seq p.
          ap (λ (records : List RecordValue). is_covered records seq p) is
          ∙ covered-joined b.rests.width 3 rests old order seq p
          ∙ ap (λ (bed : Bed). is_covered bed.records seq p) c.self.view_is;
      apart = subst AreApart (sym is) (rows-joined_apart b.rests.width 3 rests old order);
    }
