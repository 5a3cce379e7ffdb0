use Rattle.std.proofs.Common.{◌≡◌, map, ap, sym, subst, ◌∙◌}
use Rattle.std.specs.List.Sorted.{IsPermutation}
use Rattle.std.proofs.lemmas.List.Sorted.{IsPermutation-map}
use Rattle.iv_places.specs.Inside.Places.{place_of}
use Rattle.iv_places.proofs.order.sort_by_prefix_keys.Goals as goal

pub returns : goal.returns
returns g c =
    let keyed = c.in_ok-keyed.keyed.items in
    let sorted = c.sort_unstable_by.new.self.items in
    let moved = IsPermutation-map place_of keyed sorted c.sort_unstable_by.ensures.permutation in
    let same : map place_of keyed ≡ c.args.places.now.items = c.in_ok-keyed.ensures ∙ c.deref.ensures.value in
    let put : c.write_places.new.places.items ≡ map place_of sorted = c.write_places.ensures ∙ ap (map place_of) c.deref-2.ensures.value in
    subst (λ places. IsPermutation places c.write_places.new.places.items) same (subst (IsPermutation (map place_of keyed)) (sym put) moved)
