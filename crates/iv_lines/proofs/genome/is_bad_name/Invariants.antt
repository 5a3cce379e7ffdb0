use Rattle.std.proofs.Common.{◌≡◌, drop}
use Rattle.std.specs.List.{list_any}
use Rattle.iv_lines.specs.Inside.GenomeFile.{is_name_fault}
use Rattle.iv_lines.proofs.genome.is_bad_name.Given as goal

abbrev pub invariant-loop-b : goal.invariant-loop-b
invariant-loop-b l = list_any is_name_fault (drop l.b-index l.name) ≡ list_any is_name_fault l.name
