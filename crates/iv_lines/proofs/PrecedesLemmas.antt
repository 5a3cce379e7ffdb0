-- Records in the order of a track by where they start.
use Rattle.std.proofs.Common.{ℕ, ◌<◌, ◌≤◌, ◌≡◌, ◌⊎◌, inl, inr, true, refl}
use Rattle.std.specs.Ordering.{nat_cmp, is_le, ordering_then}
use Rattle.std.specs.declared.cmp.Ordering.{Ordering}
use Rattle.std.specs.declared.cmp.Ordering.TheVariants.{Less, Equal, Greater}
use Rattle.std.proofs.lemmas.Cmp.{ranked, by_ranked}
use Rattle.std.proofs.lemmas.Map.Keys.{le_from_is_le}
use Rattle.iv_lines.specs.RecordValue.{RecordValue, record_cmp}

-- q is before r in a track: on a sequence of a lower rank, or on the same sequence with no later start
abbrev pub Precedes : RecordValue → RecordValue → Type 0
Precedes q r = (q.seq < r.seq) ⊎ ((q.seq ≡ r.seq) × (q.start ≤ r.start))

pub then-le : (o p : Ordering) → is_le (ordering_then o p) ≡ true → (o ≡ Less) ⊎ ((o ≡ Equal) × (is_le p ≡ true))
then-le Less p e = inl refl
then-le Equal p e = inr (refl, e)
then-le Greater p e = cc

pub then-is_le : (o p : Ordering) → is_le (ordering_then o p) ≡ true → is_le o ≡ true
then-is_le Less p e = refl
then-is_le Equal p e = refl
then-is_le Greater p e = e

pub less-from : (a b : ℕ) → nat_cmp a b ≡ Less → a < b
less-from a b e = by_ranked (a < b) (a ≡ b) (b < a) (nat_cmp a b) (ranked a b _ refl) (λ _ l. l) (λ f _. cc) (λ f _. cc)

pub equal-from : (a b : ℕ) → nat_cmp a b ≡ Equal → a ≡ b
equal-from a b e = by_ranked (a < b) (a ≡ b) (b < a) (nat_cmp a b) (ranked a b _ refl) (λ f _. cc) (λ _ l. l) (λ f _. cc)

pub precedes-from : (q r : RecordValue) → is_le (record_cmp q r) ≡ true → Precedes q r
precedes-from q r e = elim (then-le (nat_cmp q.seq r.seq) _ e) [
  | inl less ↦ inl (less-from q.seq r.seq less)
  | inr equal ↦ inr (equal-from q.seq r.seq equal.0, le_from_is_le q.start r.start (then-is_le (nat_cmp q.start r.start) _ equal.1))
]
