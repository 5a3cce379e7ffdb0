-- The complement of a base.
use Rattle.std.specs.Prelude.{ℕ, ◌==◌, zip, codes}
use Rattle.std.specs.Map.{lookup}
use Rattle.std.specs.Option.{unwrap_or}

-- the complement of a byte: of one of these letters the letter below it, and of every other byte itself
abbrev pub complement : ℕ → ℕ
complement b = unwrap_or (lookup (λ letter. b == letter) (zip
    (codes "ACGTURYKMBVDHacgturykmbvdh")
    (codes "TGCAAYRMKVBHDtgcaayrmkvbhd"))) b
