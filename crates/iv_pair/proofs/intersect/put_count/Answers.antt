use Rattle.std.proofs.Common.{◌≡◌, ◌++◌, ◌∙◌, List, ℕ, codes, decimal, append_assoc, sym}
use Rattle.iv_lines.specs.RecordText.{record_text}
use Rattle.iv_pair.proofs.intersect.put_count.Goals as goal

pub returns : goal.returns
returns g c = λ found many.
    let columns : List ℕ = record_text c.args.genome.now c.to_ref.result in
    let digits : List ℕ = decimal c.args.count in
    let line : columns ++ codes "\t" ++ digits ++ codes "\n" ≡ columns ++ (codes "\t" ++ (digits ++ codes "\n")) =
    append_assoc (columns ++ codes "\t") digits (codes "\n") ∙ append_assoc columns (codes "\t") (digits ++ codes "\n") in
    rw (sym many, c.to_ref.ensures) at (rw line at c.put_numbered.ensures)
