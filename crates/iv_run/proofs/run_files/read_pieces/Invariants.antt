use Rattle.std.proofs.Common.{◌≡◌, ◌≤◌, ◌-◌, ℕ, List, [], length}
use Rattle.iv_fasta.specs.FastaReading.{Wanted}
use Rattle.iv_run.proofs.ReadingLemmas.{HasGiven}
use Rattle.iv_run.proofs.run_files.read_pieces.Given as goal

abbrev pub invariant-pieces : goal.invariant-pieces
invariant-pieces g l =
    (front : List ℕ) × HasGiven (g.R.Source.state l.fn.source) (g.R.Source.state l.source) front × (l.count ≡ length front) × (l.count ≤ l.most)
    × ((wanted : Wanted) → g.P.TakesPieces.has_taken wanted l.genome l.limit l.columns [] l.fn.begun → g.P.TakesPieces.has_taken wanted l.genome l.limit l.columns front l.reading)

abbrev pub decreases-pieces : goal.decreases-pieces
decreases-pieces g l = l.most - l.count
