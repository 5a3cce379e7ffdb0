-- A genome with another length of one sequence.
use Rattle.std.proofs.Common.{◌≡◌, ℕ, ◌<◌, zero, suc, List, [], ◌∷◌, Some, length, position, arith, refl, ap}
use Rattle.std.specs.Str.{bytes_eq}
use Rattle.std.proofs.lemmas.List.Quantifiers.{position-Some}
use Rattle.std.proofs.lemmas.List.{length-map}
use Rattle.indexmap.specs.Layout.{set_value_at}
use Rattle.iv_lines.specs.Named.{names_of, name_index}
use Rattle.iv_lines.specs.Genome.{Sequences, name_at, length_at, with_length}

-- a value that is written is the length of its name
pub with_length-is : (g : Sequences) (rank n : ℕ) → set_value_at g rank n ≡ with_length g rank n
with_length-is [] rank n = refl
with_length-is (s ∷ g) zero n = refl
with_length-is (s ∷ g) (suc rank) n = ap (λ (rest : Sequences). s ∷ rest) (with_length-is g rank n)

-- the names stay
pub names-with_length : (g : Sequences) (rank n : ℕ) → names_of (with_length g rank n) ≡ names_of g
names-with_length [] rank n = refl
names-with_length (s ∷ g) zero n = refl
names-with_length (s ∷ g) (suc rank) n = ap (λ (names : List (List ℕ)). s.0 ∷ names) (names-with_length g rank n)

-- so does the name at each rank
pub name_at-with_length : (g : Sequences) (rank n k : ℕ) → name_at (with_length g rank n) k ≡ name_at g k
name_at-with_length (s ∷ g) (suc rank) n (suc k) = name_at-with_length g rank n k
name_at-with_length (s ∷ g) zero n zero = refl
name_at-with_length g rank n k = refl

-- and the rank of each name
pub rank_of-with_length : (g : Sequences) (rank n : ℕ) (name : List ℕ) → name_index (with_length g rank n) name ≡ name_index g name
rank_of-with_length g rank n name = ap (position (bytes_eq name)) (names-with_length g rank n)

-- there are as many
pub length-with_length : (g : Sequences) (rank n : ℕ) → length (with_length g rank n) ≡ length g
length-with_length [] rank n = refl
length-with_length (s ∷ g) zero n = refl
length-with_length (s ∷ g) (suc rank) n = ap suc (length-with_length g rank n)

-- the one has that length
pub length_at-with_length : (g : Sequences) (rank n : ℕ) → rank < length g → length_at (with_length g rank n) rank ≡ Some n
length_at-with_length [] rank n within = absurd (omega arith)
length_at-with_length (s ∷ g) zero n within = refl
length_at-with_length (s ∷ g) (suc rank) n within = length_at-with_length g rank n (omega arith)

-- and the others theirs
pub length_at-other : (g : Sequences) (rank n k : ℕ) → (k ≡ rank → ⊥) → length_at (with_length g rank n) k ≡ length_at g k
length_at-other [] rank n k other = refl
length_at-other (s ∷ g) zero n zero other = absurd (other refl)
length_at-other (s ∷ g) zero n (suc k) other = refl
length_at-other (s ∷ g) (suc rank) n zero other = refl
length_at-other (s ∷ g) (suc rank) n (suc k) other = length_at-other g rank n k (λ e. other (ap suc e))

-- a name that has a rank is within the genome
pub rank-within : (g : Sequences) (name : List ℕ) (rank : ℕ) → name_index g name ≡ Some rank → rank < length g
rank-within g name rank at =
    let found = position-Some (bytes_eq name) (names_of g) rank [] at in
    let within : rank < length (names_of g) = found.0 in
    omega (arith, within, length-map {B = List ℕ} g (λ s. s.0))
