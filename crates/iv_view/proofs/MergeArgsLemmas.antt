-- Options that are read one after another.
use Rattle.std.proofs.Common.{◌≡◌, ℕ, ◌-◌, ◌≤◌, true, false, List, [], ◌∷◌, Option, None, Some, map, length, take, drop, get_or, sym, ap, ◌∙◌}
use Rattle.std.specs.Prelude.{codes, option_and_then}
use Rattle.std.specs.Str.{bytes_eq}
use Rattle.std.specs.Borrow.{Bor}
use Rattle.std.proofs.lemmas.Bool.{cond-true, cond-false}
use Rattle.iv_lines.proofs.ListLemmas.{one-up}
use Rattle.iv_view.specs.Merge.{MergeArgs, said_by, with_flag, with_option}

-- a flag
pub said-flag : (argument : List ℕ) (arguments : List (List ℕ)) (said : MergeArgs) → bytes_eq argument (codes "-s") ≡ true → said.stranded ≡ false
    → said_by (argument ∷ arguments) said ≡ said_by arguments (record said { stranded = true })
said-flag argument [] said is free =
    cond-true (bytes_eq argument (codes "-s")) (with_flag said) None is ∙ cond-false said.stranded None (Some (record said { stranded = true })) free
said-flag argument (next ∷ arguments) said is free =
    cond-true (bytes_eq argument (codes "-s")) (option_and_then (said_by (next ∷ arguments)) (with_flag said)) (option_and_then (said_by arguments) (with_option argument next said)) is
    ∙ ap (option_and_then (said_by (next ∷ arguments))) (cond-false said.stranded None (Some (record said { stranded = true })) free)

-- an option and its value
pub said-value : (argument value : List ℕ) (arguments : List (List ℕ)) (said : MergeArgs) → bytes_eq argument (codes "-s") ≡ false
    → said_by (argument ∷ value ∷ arguments) said ≡ option_and_then (said_by arguments) (with_option argument value said)
said-value argument value arguments said other =
    cond-false (bytes_eq argument (codes "-s")) (option_and_then (said_by (value ∷ arguments)) (with_flag said)) (option_and_then (said_by arguments) (with_option argument value said)) other

-- the arguments of a slice that are left after its first
abbrev pub later : List (Bor (List ℕ)) → List (Bor (List ℕ))
later ws = take (length ws - 1) (drop 1 ws)

abbrev pub texts : List (Bor (List ℕ)) → List (List ℕ)
texts ws = map (λ argument. argument.now) ws

pub going-flag : (ws : List (Bor (List ℕ))) (d : Bor (List ℕ)) (said : MergeArgs) (all : Option MergeArgs) → 1 ≤ length ws → bytes_eq (get_or ws 0 d).now (codes "-s") ≡ true → said.stranded ≡ false
    → said_by (texts ws) said ≡ all → said_by (texts (later ws)) (record said { stranded = true }) ≡ all
going-flag ws d said all some is free known =
    sym (said-flag (get_or ws 0 d).now (texts (later ws)) said is free)
    ∙ ap (λ (l : List (List ℕ)). said_by l said) (sym (one-up (λ argument. argument.now) ws d some))
    ∙ known

pub going-value : (ws : List (Bor (List ℕ))) (d e : Bor (List ℕ)) (said next : MergeArgs) (all : Option MergeArgs) → 1 ≤ length ws → 1 ≤ length (later ws)
    → bytes_eq (get_or ws 0 d).now (codes "-s") ≡ false → with_option (get_or ws 0 d).now (get_or (later ws) 0 e).now said ≡ Some next
    → said_by (texts ws) said ≡ all → said_by (texts (later (later ws))) next ≡ all
going-value ws d e said next all some more other taken known =
    ap (option_and_then (said_by (texts (later (later ws))))) (sym taken)
    ∙ sym (said-value (get_or ws 0 d).now (get_or (later ws) 0 e).now (texts (later (later ws))) said other)
    ∙ ap (λ (l : List (List ℕ)). said_by ((get_or ws 0 d).now ∷ l) said) (sym (one-up (λ argument. argument.now) (later ws) e more))
    ∙ ap (λ (l : List (List ℕ)). said_by l said) (sym (one-up (λ argument. argument.now) ws d some))
    ∙ known
