-- One line of a genome file.
use Rattle.std.proofs.Common.{◌≡◌, ℕ, ◌++◌, true, false, List, [], ◌∷◌, Some, None, Ok, Err, ◌∙◌, ap, find}
use Rattle.std.proofs.lemmas.Bool.{cond-true, cond-false}
use Rattle.iv_lines.specs.Chains.{unless_fault}
use Rattle.iv_lines.specs.Fields.{columns}
use Rattle.iv_lines.specs.GenomeFile.{is_skipped, has_cause, causes, sequence, after_line}
use Rattle.iv_lines.specs.declared.fault.LoadCause.{LoadCause}

pub line-skipped : (g : List (List ℕ × ℕ)) (line : List ℕ) → is_skipped line ≡ true → after_line g line ≡ Ok g
unfolding after_line
line-skipped g line h = cond-true _ _ _ h

pub line-refused : (g : List (List ℕ × ℕ)) (line : List ℕ) (c : LoadCause) → is_skipped line ≡ false → find (has_cause g (columns line)) causes ≡ Some c → after_line g line ≡ Err c
unfolding after_line
line-refused g line c h or_fault = cond-false _ _ _ h ∙ ap (λ o. unless_fault o (Ok (g ++ sequence (columns line) ∷ []))) or_fault

pub line-taken : (g : List (List ℕ × ℕ)) (line name : List ℕ) (n : ℕ) → is_skipped line ≡ false → find (has_cause g (columns line)) causes ≡ None → sequence (columns line) ≡ (name, n) → after_line g line ≡ Ok (g ++ (name, n) ∷ [])
unfolding after_line
line-taken g line name n h or_fault is = cond-false _ _ _ h ∙ ap (λ o. unless_fault o (Ok (g ++ sequence (columns line) ∷ []))) or_fault ∙ ap (λ s. Ok (g ++ s ∷ [])) is
