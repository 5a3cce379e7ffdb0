-- A genome: the names of its sequences with their lengths, in the order of its file.
use Rattle.std.specs.Prelude.{ℕ, zero, suc, List, [], ◌∷◌, Option, slice_get, length}
use Rattle.std.specs.Option.{option_map, unwrap_or}
use Rattle.iv_lines.specs.Named.{AreApart}

-- the sequences of a genome, each with its name and its length
abbrev pub Sequences : Type 0
Sequences = List (List ℕ × ℕ)

-- the name at a rank
abbrev pub name_at : Sequences → ℕ → Option (List ℕ)
name_at g rank = option_map (λ s. s.0) (slice_get g rank)

-- the length at a rank
abbrev pub length_at : Sequences → ℕ → Option ℕ
length_at g rank = option_map (λ s. s.1) (slice_get g rank)

-- the greatest length that a sequence may have
abbrev pub most_length : ℕ
most_length = 4000000000

-- the sequences, that of this rank with another length
abbrev pub with_length : Sequences → ℕ → ℕ → Sequences
with_length [] rank n = []
with_length (s ∷ g) zero n = (s.0, n) ∷ g
with_length (s ∷ g) (suc rank) n = s ∷ with_length g rank n

-- how many sequences there are
abbrev pub seq_count : Sequences → ℕ
seq_count g = length g

-- the name of the sequence of this rank, empty if there is none
abbrev pub sequence_name : Sequences → ℕ → List ℕ
sequence_name g rank = unwrap_or (option_map (λ s. s.0) (slice_get g rank)) []

-- the length of the sequence of this rank, 0 if there is none
abbrev pub sequence_length : Sequences → ℕ → ℕ
sequence_length g rank = unwrap_or (option_map (λ s. s.1) (slice_get g rank)) 0

-- no name occurs twice: the rank of the name at a rank is that rank
abbrev pub AreRanked : Sequences → Type 0
AreRanked g = AreApart g
