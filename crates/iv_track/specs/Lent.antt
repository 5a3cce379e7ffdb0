-- The copies of a record that a walk lends.
use Rattle.std.specs.Prelude.{ℕ, List, [], replicate, Option, Some, None}
use Rattle.iv_lines.specs.RecordValue.{RecordValue}

-- the copies that are held
abbrev pub again : Option (RecordValue × ℕ) → List RecordValue
again None = []
again (Some p) = replicate p.1 p.0
