-- The name at a rank, from a genome and from its names.
use Rattle.std.proofs.Common.{◌≡◌, ℕ, List, [], Option, ap}
use Rattle.std.specs.Option.{unwrap_or}
use Rattle.std.proofs.lemmas.Option.{slice_get-map}
use Rattle.iv_lines.specs.Genome.{Sequences, sequence_name}
use Rattle.iv_lines.specs.Named.{names_of}
use Rattle.iv_blocks.specs.KeptBlocks.{name_of}

pub name-same : (g : Sequences) (seq : ℕ) → name_of (names_of g) seq ≡ sequence_name g seq
name-same g seq = ap (λ (o : Option (List ℕ)). unwrap_or o []) (slice_get-map (λ (s : List ℕ × ℕ). s.0) g seq)
