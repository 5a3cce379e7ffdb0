-- What follows from a value, or the fault that comes instead.
use Rattle.std.specs.Prelude.{ℕ, ◌+◌, List, [], ◌∷◌, Option, None, Some, Result, Ok, Err}
use Rattle.iv_lines.specs.declared.fault.LoadCause.{LoadCause}
use Rattle.iv_lines.specs.declared.fault.LoadFault.{LoadFault}

-- the result that follows from the value, if there is one; its fault otherwise
abbrev pub if_ok : {A B E : Type 0} → Result A E → (A → Result B E) → Result B E
if_ok (Ok value) next = next value
if_ok (Err fault) next = Err fault

-- the fault, if there is one; the result otherwise
abbrev pub unless_fault : {A E : Type 0} → Option E → Result A E → Result A E
unless_fault None result = result
unless_fault (Some fault) result = Err fault

-- the same result, with this made of its fault
abbrev pub map_fault : {A E F : Type 0} → (E → F) → Result A E → Result A F
map_fault make (Ok value) = Ok value
map_fault make (Err fault) = Err (make fault)

-- what is known of a file after these lines, of which the first has the number n, by what is known after one more; or the first fault
abbrev pub after_all : {A : Type 0} → (ℕ → A → List ℕ → Result A LoadCause) → ℕ → A → List (List ℕ) → Result A LoadFault
after_all step n known [] = Ok known
after_all step n known (line ∷ lines) = elim (step n known line) [ Ok more ↦ after_all step (n + 1) more lines | Err c ↦ Err (record { line = n; cause = c }) ]
