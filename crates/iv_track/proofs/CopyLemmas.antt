-- What one copy more and one copy less of a record change.
use Rattle.std.proofs.Common.{◌≡◌, ◌≢◌, ℕ, ◌+◌, ◌<◌, Bool, true, false, cond, List, [], ◌∷◌, refl, sym, ap, ◌∙◌, inl, inr, arith}
use Rattle.std.specs.declared.cmp.Ordering.{Ordering}
use Rattle.std.specs.Ordering.{is_eq}
use Rattle.std.specs.Cmp.{tied_itself, Equal-is}
use Rattle.std.proofs.lemmas.Bool.{cases_lt}
use Rattle.iv_lines.specs.Ordered.{copies, added}
use Rattle.iv_lines.specs.Inside.Ordered.{copies_by}
use Rattle.iv_lines.specs.RecordValue.{RecordValue, record_cmp, records_total}
use Rattle.iv_lines.proofs.RecordLemmas.{rows_exact}
use Rattle.iv_lines.proofs.OrderedLemmas.{copies-added, copies-cons}
use Rattle.iv_track.specs.Copies.{removed_by}
use Rattle.iv_track.specs.Tracked.{removed}
use Rattle.iv_track.proofs.Counts.{copies-removed}

module _ {K : Type 0} (cmp : K → K → Ordering) where
  -- what is not there is not taken
  pub removed-absent : (xs : List K) (x : K) → copies_by cmp xs x ≡ 0 → removed_by cmp xs x ≡ xs
  removed-absent [] x none = refl
  removed-absent (q ∷ xs) x none =
      (elim (is_eq (cmp x q)) as (λ b. cond b 1 0 + copies_by cmp xs x ≡ 0 → cond b xs (q ∷ removed_by cmp xs x) ≡ q ∷ xs) [
        | true ↦ λ some. absurd (omega arith)
        | false ↦ λ less. ap (λ (l : List K). q ∷ l) (removed-absent xs x (omega arith))
      ]) (sym (copies-cons cmp q x xs) ∙ none)

-- a record is a copy of itself
own : (r : RecordValue) → cond {A = ℕ} (is_eq (record_cmp r r)) 1 0 ≡ 1
own r = ap {B = ℕ} (λ (o : Ordering). cond (is_eq o) 1 0) (tied_itself records_total r)

-- and of no other
other : (q r : RecordValue) → q ≢ r → cond {A = ℕ} (is_eq (record_cmp q r)) 1 0 ≡ 0
other q r ne = by (is_eq (record_cmp q r)) refl
  where
    by : (b : Bool) → is_eq (record_cmp q r) ≡ b → cond {A = ℕ} b 1 0 ≡ 0
    by true is = absurd (ne (rows_exact q r ((Equal-is (record_cmp q r)).0 is)))
    by false is = refl

pub added-itself : (records : List RecordValue) (r : RecordValue) → copies (added records r) r ≡ copies records r + 1
added-itself records r = omega (arith, copies-added record_cmp records r r, own r)

pub added-others : (records : List RecordValue) (r q : RecordValue) → q ≢ r → copies (added records r) q ≡ copies records q
added-others records r q ne = omega (arith, copies-added record_cmp records r q, other q r ne)

pub removed-itself : (records : List RecordValue) (r : RecordValue) → 0 < copies records r → copies (removed records r) r + 1 ≡ copies records r
removed-itself records r there = omega (arith, copies-removed record_cmp records_total records r r there, own r)

pub removed-others : (records : List RecordValue) (r q : RecordValue) → q ≢ r → copies (removed records r) q ≡ copies records q
removed-others records r q ne = elim (cases_lt 0 (copies records r)) [
  | inl there ↦ omega (arith, copies-removed record_cmp records_total records r q there, other q r ne)
  | inr none ↦ ap (λ (l : List RecordValue). copies l q) (removed-absent record_cmp records r (omega arith))
]
