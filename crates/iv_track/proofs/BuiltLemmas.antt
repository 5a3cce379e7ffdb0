-- A track's map that is built at once from its records.
use Rattle.std.proofs.Common.{◌≡◌, ℕ, ◌<◌, ◌≤◌, List, [], ◌∷◌, ◌++◌, length, sym, ap, ◌∙◌, subst, arith, zero, suc}
use Rattle.std.specs.Prelude.{All, replicate}
use Rattle.std.specs.List.{AllByRecursion}
use Rattle.std.specs.Map.{keys_of, values_of}
use Rattle.std.proofs.lemmas.List.Elements.{All-head, All-tail, All-weaker, All-from_recursion, recursion_from_All}
use Rattle.iv_lines.specs.Ordered.{ordered}
use Rattle.iv_lines.specs.RecordValue.{RecordValue, IsPlaced, record_cmp, records_total}
use Rattle.iv_lines.proofs.OrderedLemmas.{rows-alone, ordered-in_order, ordered-copies, all-all_added, length-all_added}
use Rattle.iv_track.specs.Copies.{expanded}
use Rattle.iv_track.specs.Tracked.{most_records}
use Rattle.iv_track.specs.Inside.Counted.{AreCounted}
use Rattle.iv_track.specs.Inside.Tracked.{HasColumns, IsTrack}
use Rattle.iv_track.proofs.Counts.{in_order-expanded, length-expanded}

module _ {K : Type 0} (P : K → Type 0) where
  first-of : (n : ℕ) (k : K) (xs : List K) → 0 < n → AllByRecursion P (replicate n k ++ xs) → P k
  first-of zero k xs some h = absurd (omega arith)
  first-of (suc n) k xs some h = h.0

  rest-of : (n : ℕ) (k : K) (xs : List K) → AllByRecursion P (replicate n k ++ xs) → AllByRecursion P xs
  rest-of zero k xs h = h
  rest-of (suc n) k xs h = rest-of n k xs h.1

  -- what holds of each in the list holds of each key
  pub keys-expanded : (es : List (K × ℕ)) → All (λ n. 0 < n) (values_of es) → AllByRecursion P (expanded es) → AllByRecursion P (keys_of es)
  keys-expanded [] some h = tt
  keys-expanded (e ∷ es) some h = (
    first-of e.1 e.0 (expanded es) (All-head (λ n. 0 < n) e.1 (values_of es) some) h,
    keys-expanded es (All-tail (λ n. 0 < n) e.1 (values_of es) some) (rest-of e.1 e.0 (expanded es) h),
  )

-- records in order stay so
pub ordered-again : (records : List RecordValue) → ordered (ordered records) ≡ ordered records
ordered-again records =
    rows-alone (ordered (ordered records)) (ordered records) (ordered-in_order (ordered records)) (ordered-in_order records) (λ r. ordered-copies (ordered records) r)

-- the counted entries of records
module _ (es : List (RecordValue × ℕ)) (records : List RecordValue) (c : AreCounted record_cmp es records) where
  -- they mean the records in order
  pub counted-ordered : expanded es ≡ ordered records
  counted-ordered =
      rows-alone (expanded es) (ordered records) (in_order-expanded record_cmp records_total es c.ordered) (ordered-in_order records)
      (λ r. c.counted r ∙ sym (ordered-copies records r))

  pub counted-length : length (expanded es) ≡ length records
  counted-length = omega (arith, ap length counted-ordered, length-all_added record_cmp records [])

  -- what holds of each record holds of each key
  pub counted-keys : (P : RecordValue → Type 0) → All P records → All P (keys_of es)
  counted-keys P h =
      All-from_recursion P (keys_of es)
      (keys-expanded P es c.present (subst (AllByRecursion P) (sym counted-ordered) (all-all_added record_cmp P records [] (recursion_from_All P records h) tt)))

  -- they are the map of a track
  pub counted_track : (len width limit : ℕ) → len ≡ length records → All (λ (q : RecordValue). q.width ≡ width) records → 3 ≤ width → All IsPlaced (keys_of es) → len ≤ limit → limit ≤ most_records → IsTrack es len width limit
  counted_track len width limit is widths columns placed room bounded = record {
    ordered = c.ordered;
    present = c.present;
    widths = counted-keys (λ (q : RecordValue). q.width ≡ width) widths;
    wide = All-weaker (λ (q : RecordValue). q.width ≡ width) HasColumns (λ q at. omega (arith, at, columns)) (keys_of es) (counted-keys (λ (q : RecordValue). q.width ≡ width) widths);
    placed = placed;
    len_is = omega (arith, is, counted-length, length-expanded es);
    room = omega arith;
    bounded = bounded;
  }
