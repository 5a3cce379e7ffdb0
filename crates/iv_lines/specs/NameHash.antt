-- How names are hashed.
use Rattle.std.specs.Prelude.{◌≡◌, ℕ, List}
use Rattle.std.specs.Hash.DefaultHasher as sip
use Rattle.std.specs.Hash.FoldHasher as folding
use Rattle.iv_lines.specs.declared.name_map.NameHasher.{NameHasher}
use Rattle.iv_lines.specs.declared.name_map.NameHasher.TheVariants.{Fast, Seeded}

-- the hasher after these bytes were written to it
abbrev pub written : NameHasher → List ℕ → NameHasher
written (Fast hasher) bytes = Fast (folding.write hasher bytes)
written (Seeded hasher) bytes = Seeded (sip.write hasher bytes)

-- what it answers
abbrev pub finished : NameHasher → ℕ
finished (Fast hasher) = folding.finish hasher
finished (Seeded hasher) = sip.finish hasher

-- the whole text was written to it, and some bytes after the text
abbrev pub IsAfter : List ℕ → NameHasher → Type 0
IsAfter text hasher = (pad : List ℕ) × (hasher ≡ Seeded (sip.write (sip.write sip.initial text) pad))
