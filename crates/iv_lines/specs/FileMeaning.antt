-- What files mean, line by line: a value if no line has a cause to refuse it, else the first fault. The same of genome files.
use Rattle.std.specs.Prelude.{◌≡◌, ℕ, ◌+◌, ◌++◌, not, cond, List, ◌∷◌, Option, None, Some, length, map, filter, find}
use Rattle.iv_lines.specs.Fields.{columns}
use Rattle.iv_lines.specs.Genome.{Sequences}
use Rattle.iv_lines.specs.GenomeFile.{is_skipped, has_cause, causes, sequence}
use Rattle.iv_lines.specs.declared.fault.LoadCause.{LoadCause}
use Rattle.iv_lines.specs.declared.fault.LoadFault.{LoadFault}

-- no line has a cause, each looked at after the lines before it
abbrev pub HaveNoCause : (List (List ℕ) → List ℕ → Option LoadCause) → List (List ℕ) → Type 0
HaveNoCause cause_of lines = (front back : List (List ℕ)) (line : List ℕ) → lines ≡ front ++ line ∷ back → cause_of front line ≡ None

-- the fault is that of the first line that has a cause: the number of the line, from 1, and its first cause
pub record IsFirstFault (cause_of : List (List ℕ) → List ℕ → Option LoadCause) (lines : List (List ℕ)) (f : LoadFault) : Type 0 where
  pub front : List (List ℕ)
  pub faulty : List ℕ
  pub back : List (List ℕ)
  pub split : lines ≡ front ++ faulty ∷ back
  pub before : HaveNoCause cause_of front
  pub number : f.line ≡ length front + 1
  pub first : cause_of front faulty ≡ Some f.cause

-- the sequences of lines, one for each line that isn't skipped
abbrev pub sequences_of : List (List ℕ) → Sequences
sequences_of lines = map (λ line. sequence (columns line)) (filter (λ line. not (is_skipped line)) lines)

-- the first cause of a line after these lines, unless it is skipped
abbrev pub sequence_cause : List (List ℕ) → List ℕ → Option LoadCause
sequence_cause before line = cond (is_skipped line) None (find (has_cause (sequences_of before) (columns line)) causes)
