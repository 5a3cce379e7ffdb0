-- A session as contracts see it.
use Rattle.std.specs.Prelude.{ℕ, List, [], Option, IsSomeAnd, option_map}
use Rattle.iv_lines.specs.Genome.{Sequences}
use Rattle.iv_text.specs.BedFile.{Bed}
use Rattle.iv_lines.specs.RecordValue.{RecordValue}
use Rattle.iv_lines.specs.Ordered.{ordered}
use Rattle.iv_lines.specs.Read.{Fits}
use Rattle.iv_fasta.specs.Fasta.{Bases}
use Rattle.iv_track.specs.Tracked.{Tracked}
use Rattle.iv_workspace.specs.OpenViews.{Shown}

-- the genome, the track, the second file as a track of its own, the bases of the FASTA file, and the open views with their
-- names, in order of opening; a stale view must be rebuilt before it is printed
pub record State : Type 0 where
  pub genome : Sequences
  pub track : Tracked
  pub second : Option Tracked
  pub bases : Option Bases
  pub views : List (List ℕ × Shown)

-- the track of a file: its records in order, and how many it may hold
abbrev pub tracked : Bed → ℕ → Tracked
tracked file limit = record { records = ordered file.records; width = file.width; limit = limit }

-- the session of a genome, a first file, and a second one and a FASTA file or none, with no view
abbrev pub begun : Sequences → Bed → Option Bed → Option Bases → ℕ → State
begun g first second bases limit = record {
  genome = g;
  track = tracked first limit;
  second = option_map (λ file. tracked file limit) second;
  bases = bases;
  views = [];
}

-- there is a second file, and the record fits it
abbrev pub FitsSecond : State → RecordValue → Type 0
FitsSecond s r = IsSomeAnd s.second (λ t. Fits s.genome t.width r)
