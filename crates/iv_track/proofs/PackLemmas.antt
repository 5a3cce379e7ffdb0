-- The records of a track, held once more.
use Rattle.std.proofs.Common.{◌≡◌, ℕ, ◌<◌, List, [], ◌∷◌, ◌++◌, length, refl, sym, ◌∙◌, arith}
use Rattle.std.specs.Prelude.{All}
use Rattle.std.specs.Map.{keys_of}
use Rattle.std.specs.List.{AllByRecursion}
use Rattle.std.proofs.lemmas.List.Elements.{All-from_recursion, All-head, recursion_from_All}
use Rattle.iv_lines.specs.Ordered.{AreInOrder, ordered}
use Rattle.iv_lines.specs.RecordValue.{RecordValue}
use Rattle.iv_lines.proofs.OrderedLemmas.{ordered-copies, ordered-in_order, rows-alone}
use Rattle.iv_track.specs.Copies.{expanded}
use Rattle.iv_track.proofs.Counts.{all-expanded}

-- records in order are in the order of a track
pub ordered-same : (records : List RecordValue) → AreInOrder records → ordered records ≡ records
ordered-same records order = rows-alone (ordered records) records (ordered-in_order records) order (λ r. ordered-copies records r)

-- no record
pub empty-is : (records : List RecordValue) → length records ≡ 0 → [] ≡ records
empty-is [] none = refl
empty-is (r ∷ records) none = absurd (omega (arith, none))

-- each has the width of all
pub widths-expanded : (w : ℕ) (es : List (RecordValue × ℕ)) → All (λ (q : RecordValue). q.width ≡ w) (keys_of es) → AllByRecursion (λ q. q.width ≡ w) (expanded es)
widths-expanded w es widths = all-expanded (λ (q : RecordValue). q.width ≡ w) es (recursion_from_All (λ (q : RecordValue). q.width ≡ w) (keys_of es) widths)

-- those that are held have the width of the next
pub widths-held : (w : ℕ) (held left : List RecordValue) (next : RecordValue) → AllByRecursion (λ q. q.width ≡ w) (held ++ next ∷ left) → All (λ (q : RecordValue). q.width ≡ next.width) held
widths-held w held left next h = All-from_recursion (λ (q : RecordValue). q.width ≡ next.width) held (each held h)
  where
    last : (held : List RecordValue) → AllByRecursion (λ q. q.width ≡ w) (held ++ next ∷ left) → next.width ≡ w
    last [] h = h.0
    last (q ∷ held) h = last held h.1

    each : (held : List RecordValue) → AllByRecursion (λ q. q.width ≡ w) (held ++ next ∷ left) → AllByRecursion (λ q. q.width ≡ next.width) held
    each [] h = tt
    each (q ∷ held) h = (h.0 ∙ sym (last held h.1), each held h.1)

-- two widths of records are one
pub width-once : (v w : ℕ) (records : List RecordValue) → 0 < length records → All (λ (q : RecordValue). q.width ≡ v) records → AllByRecursion (λ q. q.width ≡ w) records → v ≡ w
width-once v w [] some h k = absurd (omega (arith, some))
width-once v w (q ∷ records) some h k = sym (All-head (λ (q : RecordValue). q.width ≡ v) q records h) ∙ k.0
