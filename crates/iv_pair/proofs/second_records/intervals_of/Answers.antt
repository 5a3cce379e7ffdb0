use Rattle.std.proofs.Common.{◌≡◌, ◌++◌, ◌∷◌, ◌∙◌, [], All, List, map, sym, ap, subst, append-nil}
use Rattle.std.proofs.lemmas.List.Elements.{All-nil, All-append, All-cons}
use Rattle.iv_text.specs.BedFile.{Bed}
use Rattle.iv_lines.specs.RecordValue.{RecordValue}
use Rattle.iv_lines.specs.Intervals.{bare}
use Rattle.iv_places.specs.Inside.Places.{HasBase, place_at, records_at}
use Rattle.iv_places.specs.declared.placed_records.Place.{Place}
use Rattle.iv_track.proofs.WalkLemmas.{filter-from_first}
use Rattle.iv_pair.proofs.CopyLemmas.{copied-next}
use Rattle.iv_pair.proofs.second_records.intervals_of.Goals as goal

pub loop-feature-init : goal.loop-feature-init
loop-feature-init g c =
    let second = c.args.second.now.records in
    let none : c.in_ok-places.places.items ≡ [] = c.in_ok-places.ensures.items in
    let all : c.walk-records.result ≡ second = c.walk-records.ensures.records ∙ filter-from_first second in
    record {
      bases = subst (All HasBase) (sym none) (All-nil HasBase);
      records = ap (λ (l : List Place). records_at 3 [] l ++ map bare c.walk-records.result) none ∙ ap (λ (l : List RecordValue). map bare l) all;
    }

pub loop-feature-preserved : goal.loop-feature-preserved
loop-feature-preserved g c =
    let i = c.loop-feature.invariant in
    let pushed : c.push.new.self.items ≡ c.loop-feature.places.items ++ c.place_of.result ∷ [] = c.in_ok-push.ensures.items in
    let is : c.push.new.self.items ≡ c.loop-feature.places.items ++ place_at c.in-Some.feature 0 ∷ [] = pushed ∙ ap (λ (l : Place). c.loop-feature.places.items ++ l ∷ []) c.place_of.ensures.is in
    record {
      bases = subst (All HasBase) (sym pushed) (All-append HasBase c.loop-feature.places.items (c.place_of.result ∷ []) i.bases (All-cons HasBase c.place_of.result [] c.place_of.ensures.base (All-nil HasBase)));
      records = ap (λ (l : List Place). records_at 3 [] l ++ map bare c.next.new.self) is
          ∙ copied-next c.loop-feature.places.items c.in-Some.feature c.loop-feature.records c.next.new.self (map bare c.args.second.now.records) c.in-Some.ensures.feature i.records;
    }

pub of_intervals-requires : goal.of_intervals-requires
of_intervals-requires g c = c.loop-feature.invariant.bases

pub returns : goal.returns
returns g c =
    let i = c.loop-feature.invariant in
    let copied = records_at 3 [] c.loop-feature.places.items in
    ap (λ (b : Bed). b.records) c.of_intervals.ensures
    ∙ sym (append-nil copied)
    ∙ ap (λ (l : List RecordValue). copied ++ map bare l) (sym c.in_default.ensures.feature.0)
    ∙ i.records
