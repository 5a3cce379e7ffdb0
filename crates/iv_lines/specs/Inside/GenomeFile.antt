-- The lines of a genome file one by one, and the bytes that no name holds.
use Rattle.std.specs.Prelude.{ℕ, ◌==◌, ◌||◌, Bool, List, Result}
use Rattle.iv_lines.specs.Bytes.{nul, carriage_return}
use Rattle.iv_lines.specs.Chains.{after_all}
use Rattle.iv_lines.specs.Genome.{Sequences}
use Rattle.iv_lines.specs.GenomeFile.{after_line}
use Rattle.iv_lines.specs.declared.fault.LoadFault.{LoadFault}

-- no name of a sequence holds this byte
abbrev pub is_name_fault : ℕ → Bool
is_name_fault b = b == carriage_return || b == nul

-- the sequences after lines of which the first has the number n, or the first fault
abbrev pub after_lines : ℕ → Sequences → List (List ℕ) → Result Sequences LoadFault
after_lines n g lines = after_all (λ n. after_line) n g lines
