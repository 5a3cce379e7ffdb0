-- Equal neighbours of a list as one entry each.
use Rattle.std.specs.Prelude.{◌≡◌, ℕ, ◌+◌, ◌<◌, List, [], ◌∷◌, All, if◌then◌else◌}
use Rattle.std.specs.Map.{values_of}
use Rattle.std.specs.declared.cmp.Ordering.{Ordering}
use Rattle.std.specs.Ordering.{is_eq}
use Rattle.iv_lines.specs.Inside.Ordered.{copies_by}
use Rattle.iv_track.specs.Copies.{expanded}
use Rattle.iv_ledger.specs.Entries.{IsLedger}

module _ {K : Type 0} (cmp : K → K → Ordering) where
  -- the entries of a list of which n neighbours alike k were taken, and these are left
  abbrev pub grouped_from : K → ℕ → List K → List (K × ℕ)
  grouped_from k n [] = (k, n) ∷ []
  grouped_from k n (q ∷ qs) = if is_eq (cmp q k) then grouped_from k (n + 1) qs else (k, n) ∷ grouped_from q 1 qs

  -- the entries of a list: equal neighbours as one entry, with their number
  abbrev pub grouped : List K → List (K × ℕ)
  grouped [] = []
  grouped (k ∷ ks) = grouped_from k 1 ks

  -- the entries of the keys of a list, each with the number of its copies
  pub record AreCounted (es : List (K × ℕ)) (keys : List K) : Type 0 where
    pub ordered : IsLedger cmp es
    pub present : All (λ n. 0 < n) (values_of es)
    pub counted : (k : K) → copies_by cmp (expanded es) k ≡ copies_by cmp keys k
