-- One line of a BED file that is read in pieces.
use Rattle.std.specs.Prelude.{◌≡◌, ℕ, ◌+◌, ◌++◌, List, Err, drop}
use Rattle.iv_lines.specs.Genome.{Sequences}
use Rattle.iv_lines.specs.Lines.{lines}
use Rattle.iv_lines.specs.declared.fault.LoadCause.{LoadCause}
use Rattle.iv_places.specs.declared.places.HeldColumns.{HeldColumns}
use Rattle.iv_text.specs.BedReading.{LinesRead, known, held_draft, after_records}

-- the first of these lines was read, and those others are left: whatever comes after them, and whatever the line's number is
abbrev pub Takes : HeldColumns → Sequences → ℕ → LinesRead → LinesRead → List (List ℕ) → List (List ℕ) → Type 0
Takes which g limit old new all left =
    (n : ℕ) (rest : List (List ℕ)) → held_draft which (after_records g limit n (known old) (all ++ rest)) ≡ held_draft which (after_records g limit (n + 1) (known new) (left ++ rest))

-- the first of these lines is the first faulty one, and this is its cause
abbrev pub Refuses : HeldColumns → Sequences → ℕ → LinesRead → List (List ℕ) → LoadCause → Type 0
Refuses which g limit old all c = (n : ℕ) (rest : List (List ℕ)) → held_draft which (after_records g limit n (known old) (all ++ rest)) ≡ Err (record { line = n; cause = c })

-- the first line of a text, which has so many bytes, was read
abbrev pub TakesLine : HeldColumns → Sequences → ℕ → LinesRead → LinesRead → List ℕ → ℕ → Type 0
TakesLine which g limit old new text size = Takes which g limit old new (lines text) (lines (drop size text))

-- the first line of a text is the first faulty one, and this is its cause
abbrev pub RefusesLine : HeldColumns → Sequences → ℕ → LinesRead → List ℕ → LoadCause → Type 0
RefusesLine which g limit old text c = Refuses which g limit old (lines text) c
