-- What a line of a script writes.
use Rattle.std.specs.Prelude.{ℕ, ◌+◌, ◌++◌, if◌then◌else◌, List, [], ◌∷◌, Option, None, Some, codes, decimal}
use Rattle.std.specs.Option.{is_some}
use Rattle.iv_lines.specs.Fault.{fault_text}
use Rattle.iv_lines.specs.declared.fault.Fault.{Fault}

-- what a line writes: a text to the output, and if it is refused the reason to the messages
pub record Written : Type 0 where
  pub output : List ℕ
  pub refusal : Option (List ℕ)

-- a line that is refused for this fault
abbrev pub refused_by : Fault → Written
refused_by f = record { output = []; refusal = Some (fault_text f) }

-- what line number n writes to the messages: if it is refused, its number and the reason
abbrev pub message : ℕ → Option (List ℕ) → List ℕ
message n None = []
message n (Some reason) = codes "line " ++ decimal n ++ codes ": " ++ reason ++ codes "\n"

-- the messages of lines that follow each other, the first of which has the number n
abbrev pub messages_from : ℕ → List Written → List ℕ
messages_from n [] = []
messages_from n (w ∷ written) = message n w.refusal ++ messages_from (n + 1) written

-- how many lines are refused
abbrev pub refused : List Written → ℕ
refused [] = 0
refused (w ∷ written) = (if is_some w.refusal then 1 else 0) + refused written
