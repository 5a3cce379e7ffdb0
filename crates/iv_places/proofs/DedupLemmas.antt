-- What `dedup_by` leaves if its closure joins places.
use Rattle.std.proofs.Common.{◌≡◌, Bool, true, false, cond, List, [], ◌∷◌, MatchBool, ap, subst, ◌∙◌}
use Rattle.std.specs.List.Retain.{DedupsFrom, IsDeduped}
use Rattle.iv_places.specs.Inside.Joins.{touches, grown, joined_places, joined_from}
use Rattle.iv_places.specs.declared.placed_records.Place.{Place}

-- a call on a place and the last one that stays: it answers whether they touch, leaves the first, and joins it to the last if they do
abbrev pub Joins : Place → Place → Bool → Place → Place → Type 0
Joins place last answer place' last' = (answer ≡ touches last place) × (place' ≡ place) × (last' ≡ cond (touches last place) (grown last place) last)

module _ {S : Type 0} (R : S → Place → Place → Bool → S → Place → Place → Type 0) (calls : (s : S) (x k : Place) (b : Bool) (t : S) (x' k' : Place) → R s x k b t x' k' → Joins x k b x' k') where
  -- what is left of the places after x, by what the call gave
  abbrev Rest : Place → Place → List Place → List Place → S → Place → Place → Bool → Type 0
  Rest x k xs ys t x' k' b = MatchBool b (DedupsFrom R t k' xs ys) ((zs : List Place) × DedupsFrom R t x' xs zs × (ys ≡ k' ∷ zs))

  from_dedup : (xs : List Place) (s : S) (k : Place) (ys : List Place) → DedupsFrom R s k xs ys → ys ≡ joined_from k xs
  from_dedup [] s k ys answer = answer
  from_dedup (x ∷ xs) s k ys answer =
      let one : Joins x k answer.0 answer.2 answer.3 = calls s x k answer.0 answer.1 answer.2 answer.3 answer.4 in
      (elim (touches k x) as (λ c. answer.3 ≡ cond c (grown k x) k → Rest x k xs ys answer.1 answer.2 answer.3 c → ys ≡ cond c (joined_from (grown k x) xs) (k ∷ joined_from x xs)) [
        | true ↦ λ last rest. from_dedup xs answer.1 answer.3 ys rest ∙ ap (λ (y : Place). joined_from y xs) last
        | false ↦ λ last rest. rest.2 ∙ (λ i. last i ∷ (from_dedup xs answer.1 answer.2 rest.0 rest.1 ∙ ap (λ (y : Place). joined_from y xs) one.1) i)
      ]) one.2 (subst (Rest x k xs ys answer.1 answer.2 answer.3) one.0 answer.5)

  pub dedup-joined : (s : S) (xs ys : List Place) → IsDeduped R s xs ys → ys ≡ joined_places xs
  dedup-joined s [] ys k = k.told
  dedup-joined s (x ∷ xs) ys k = from_dedup xs s x ys k.told
