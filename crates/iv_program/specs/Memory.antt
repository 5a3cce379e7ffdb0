-- Files in memory.
use Rattle.std.specs.Prelude.{ℕ, List, Option}
use Rattle.std.specs.List.{find}
use Rattle.std.specs.Option.{option_map}
use Rattle.std.specs.Str.{bytes_eq}
use Rattle.iv_program.specs.declared.memory.NamedBytes.{NamedBytes}

-- the bytes of the first file of this name, if there is one
abbrev pub bytes_named : List NamedBytes → List ℕ → Option (List ℕ)
bytes_named files name = option_map (λ file. file.bytes.now) (find (λ file. bytes_eq file.name.now name) files)
