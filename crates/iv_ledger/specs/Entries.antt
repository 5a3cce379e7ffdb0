-- The entries of an ordered map, as a list in the order of the keys.
use Rattle.std.specs.Prelude.{ℕ, List, Option, find, reverse}
use Rattle.std.specs.Borrow.{Bor}
use Rattle.std.specs.declared.cmp.Ordering.{Ordering}
use Rattle.std.specs.Ordering.{is_le, is_lt, is_ge, nat_cmp, ordering_then}
use Rattle.std.specs.Map.{keys_of, lookup}
use Rattle.std.specs.BTreeMap.{is_at}
use Rattle.std.specs.List.Sorted.{IsStrictlySortedBy}

module _ {K V : Type 0} (cmp : K → K → Ordering) where
  -- the keys ascend, so no key occurs twice
  abbrev pub IsLedger : List (K × V) → Type 0
  IsLedger es = IsStrictlySortedBy cmp (keys_of es)

  -- the value at a key
  abbrev pub value_at : List (K × V) → K → Option V
  value_at es k = lookup (is_at (cmp k)) es

  -- the first entry whose key is k or after it
  abbrev pub first_from : List (K × V) → K → Option (K × V)
  first_from es k = find (λ e. is_le (cmp k e.0)) es

  -- the first entry whose key is after k
  abbrev pub first_after : List (K × V) → K → Option (K × V)
  first_after es k = find (λ e. is_lt (cmp k e.0)) es

  -- the last entry whose key is k or before it
  abbrev pub last_until : List (K × V) → K → Option (K × V)
  last_until es k = find (λ e. is_ge (cmp k e.0)) (reverse es)

-- an entry that is lent, with what its key means
abbrev pub lent_entry : {L S V : Type 0} → (L → S) → L × Bor V → S × V
lent_entry lent e = (lent e.0, e.1.now)

-- pairs of numbers in order: by the first, and then by the second
abbrev pub pair_cmp : ℕ × ℕ → ℕ × ℕ → Ordering
pair_cmp a b = ordering_then (nat_cmp a.0 b.0) (nat_cmp a.1 b.1)
