-- Lists in order, copies repeated.
use Rattle.std.specs.Prelude.{◌≡◌, ⊤, true, ℕ, cond, List, [], ◌∷◌, count_by, fold}
use Rattle.std.specs.declared.cmp.Ordering.{Ordering}
use Rattle.std.specs.Ordering.{is_eq, is_le}
use Rattle.std.specs.List.{AllByRecursion}
use Rattle.iv_lines.specs.RecordValue.{RecordValue, record_cmp}

module _ {K : Type 0} (cmp : K → K → Ordering) where
  -- the list with one more x, in its place in the order
  abbrev pub added_by : List K → K → List K
  added_by [] x = x ∷ []
  added_by (q ∷ xs) x = cond (is_le (cmp x q)) (x ∷ q ∷ xs) (q ∷ added_by xs x)

  -- each is at most each that comes after it
  abbrev pub InOrder : List K → Type 0
  InOrder [] = ⊤
  InOrder (x ∷ xs) = AllByRecursion (λ y. is_le (cmp x y) ≡ true) xs × InOrder xs

-- how often a record is in a list
abbrev pub copies : List RecordValue → RecordValue → ℕ
copies records r = count_by (λ q. is_eq (record_cmp r q)) records

-- the list with one more record, in its place in the order of a track
abbrev pub added : List RecordValue → RecordValue → List RecordValue
added = added_by record_cmp

-- the records are in the order of a track
abbrev pub AreInOrder : List RecordValue → Type 0
AreInOrder = InOrder record_cmp

-- the records in the order of a track, copies repeated
abbrev pub ordered : List RecordValue → List RecordValue
ordered records = fold (added_by record_cmp) [] records
