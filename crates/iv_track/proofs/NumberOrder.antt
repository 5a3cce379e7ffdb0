-- What follows from comparisons of numbers. (That `is_le` of one means ≤ is in std, as `le_from_is_le`.)
use Rattle.std.proofs.Common.{◌≡◌, ℕ, ◌<◌, ◌≤◌, true, refl, sym, arith}
use Rattle.std.specs.declared.cmp.Ordering.{Ordering}
use Rattle.std.specs.declared.cmp.Ordering.TheVariants.{Less, Equal, Greater}
use Rattle.std.specs.Ordering.{is_le, is_ge, nat_cmp}
use Rattle.std.specs.BTreeMap.{is_at}
use Rattle.std.specs.Cmp.{IsTotalOrder, ranked, nat_cmp_total, on_total, then_total, Equal-is}
use Rattle.std.proofs.lemmas.Map.Lookups.{CmpEqualImpliesEq, exact_pairs, exact_unsigned}
use Rattle.iv_ledger.specs.Entries.{pair_cmp}

pub le-cmp : (m n : ℕ) → m ≤ n → is_le (nat_cmp m n) ≡ true
le-cmp m n h = go (nat_cmp m n) refl
  where
    go : (o : Ordering) → o ≡ nat_cmp m n → is_le o ≡ true
    go Less is = refl
    go Equal is = refl
    go Greater is = let r : n < m = ranked m n Greater is in absurd (omega arith)

pub ge-cmp : (m n : ℕ) → n ≤ m → is_ge (nat_cmp m n) ≡ true
ge-cmp m n h = go (nat_cmp m n) refl
  where
    go : (o : Ordering) → o ≡ nat_cmp m n → is_ge o ≡ true
    go Less is = let r : m < n = ranked m n Less is in absurd (omega arith)
    go Equal is = refl
    go Greater is = refl

pub ge-from : (m n : ℕ) → is_ge (nat_cmp m n) ≡ true → n ≤ m
ge-from m n e = go (nat_cmp m n) refl e
  where
    go : (o : Ordering) → o ≡ nat_cmp m n → is_ge o ≡ true → n ≤ m
    go Less is e = cc
    go Equal is e = let r : m ≡ n = ranked m n Equal is in omega arith
    go Greater is e = let r : n < m = ranked m n Greater is in omega arith

-- ---- pairs of numbers

pub pair_total : IsTotalOrder pair_cmp
pair_total = then_total (on_total (λ (k : ℕ × ℕ). k.0) nat_cmp_total) (on_total (λ (k : ℕ × ℕ). k.1) nat_cmp_total)

pub pair_exact : CmpEqualImpliesEq pair_cmp
pair_exact = exact_pairs nat_cmp nat_cmp exact_unsigned exact_unsigned

-- only equal pairs tie
pub pair_same : (k x : ℕ × ℕ) → is_at (pair_cmp k) x ≡ true → x ≡ k
pair_same k x tie = sym (pair_exact k x ((Equal-is (pair_cmp k x)).0 tie))
