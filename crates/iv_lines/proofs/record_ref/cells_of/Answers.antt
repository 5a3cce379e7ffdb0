use Rattle.std.proofs.Common.{◌≡◌, ◌+◌, ◌∷◌, List, ℕ, Option, Bor, length, arith, ap, sym, subst, refl, ◌∙◌}
use Rattle.iv_lines.specs.Fields.{columns as columns_of, fields_left}
use Rattle.iv_lines.specs.Inside.Read.{AreCells}
use Rattle.std.proofs.lemmas.List.Splits.{length-slice_split}
use Rattle.iv_lines.specs.Inside.Fields.{is_separator}
use Rattle.iv_lines.proofs.JoinedLemmas.{cells-are}
use Rattle.iv_lines.proofs.record_ref.cells_of.Goals as goal

pub returns : goal.returns
returns c =
    let w = c.args.width in
    let seq = c.split_first_column.result.0.now in
    let start = c.split_first_column-2.result.0.now in
    let stop = c.split_first_column-3.result.0.now in
    let rest = c.in-Some.rest.now in
    let all : columns_of c.args.line.now ≡ seq ∷ start ∷ stop ∷ columns_of rest =
    c.split_first_column.ensures
    ∙ ap (λ (o : Option (Bor (List ℕ))). seq ∷ fields_left 9 o) c.in_ok-after_seq.was
    ∙ ap (λ (cs : List (List ℕ)). seq ∷ cs) c.split_first_column-2.ensures
    ∙ ap (λ (o : Option (Bor (List ℕ))). seq ∷ start ∷ fields_left 9 o) c.in_ok-after_start.was
    ∙ ap (λ (cs : List (List ℕ)). seq ∷ start ∷ cs) c.split_first_column-3.ensures
    ∙ ap (λ (o : Option (Bor (List ℕ))). seq ∷ start ∷ stop ∷ fields_left 9 o) c.in-Some.is in
    let count : 3 + length (columns_of rest) ≡ w = omega (arith, c.requires.0, c.are_so_many.ensures.0 c.if-not-are_so_many.false) in
    subst (λ (cs : List (List ℕ)). AreCells w cs seq start stop rest) (sym all) (cells-are w seq start stop rest (columns_of rest) count c.requires.1 (λ low. absurd (omega (arith, low, count, length-slice_split (is_separator 9) rest))) (λ wide. refl))
