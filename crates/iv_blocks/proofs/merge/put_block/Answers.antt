use Rattle.std.proofs.Common.{append-nil, append_assoc}
use Rattle.std.specs.Prelude.{codes}
use Rattle.iv_bytes.proofs.PutLemmas.{FailsIn-front, Puts-back, Puts-err}
use Rattle.iv_lines.specs.Genome.{sequence_name}
use Rattle.iv_lines.specs.RecordText.{interval_text}
use Rattle.iv_blocks.proofs.merge.put_block.Goals as goal

pub returns-in_err-put_after_numbers : goal.returns-in_err-put_after_numbers
returns-in_err-put_after_numbers g c =
    let block = c.args.block in
    let fails = rw (c.new-end.ensures, append-nil, c.name_or_empty-name.ensures, c.from-start.ensures, c.from-stop.ensures) at c.in_err-put_after_numbers.ensures in
    rw (append_assoc (interval_text (sequence_name c.args.genome.now block.key.0) block.key.2 block.stop) block.results.now (codes "\n"))
    (Puts-err _ _ c.from_residual.result _ c.from_residual.ensures.0 (FailsIn-front _ _ _ _ fails))

pub returns-then-results-gt-MOST_TOGETHER : goal.returns-then-results-gt-MOST_TOGETHER
returns-then-results-gt-MOST_TOGETHER g c =
    let block = c.args.block in
    let took = rw (c.new-end.ensures, append-nil, c.name_or_empty-name.ensures, c.from-start.ensures, c.from-stop.ensures) at c.in_ok-put_after_numbers.ensures in
    rw (append_assoc (interval_text (sequence_name c.args.genome.now block.key.0) block.key.2 block.stop) block.results.now (codes "\n"))
    (Puts-back _ _ _ c.put_pieces.result _ _ took c.put_pieces.ensures)
