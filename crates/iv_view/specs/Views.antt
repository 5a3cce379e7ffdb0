-- The views, and the text of each.
use Rattle.std.specs.Prelude.{ℕ, ◌+◌, Bool, true, false, List, [], Option, None, Some}
use Rattle.std.specs.List.{flat_map}
use Rattle.iv_lines.specs.Genome.{Sequences}
use Rattle.iv_lines.specs.RecordValue.{RecordValue}
use Rattle.iv_blocks.specs.ClusterRows.{cluster_text}
use Rattle.iv_blocks.specs.ComplementRows.{complement_text}
use Rattle.iv_blocks.specs.MergeRows.{merge_text}
use Rattle.iv_depth.specs.DepthRows.{depth_text}
use Rattle.iv_fasta.specs.Fasta.{Bases}
use Rattle.iv_fasta.specs.FastaRows.{fasta_rows}
use Rattle.iv_pair.specs.IntersectRows.{record_line}
use Rattle.iv_pair.specs.PairRows.{pair_rows}
use Rattle.iv_ledger.specs.Steps.{TakesUpTo}
use Rattle.iv_track.specs.Tracked.{Tracked, different_records}
use Rattle.iv_view.specs.declared.view.View.{View}
use Rattle.iv_view.specs.declared.view.View.TheVariants as view
use Rattle.iv_view.specs.declared.view.KeptView.{KeptView}
use Rattle.iv_view.specs.declared.view.KeptView.TheVariants as kept
use Rattle.iv_view.specs.declared.written_view.WrittenView.{WrittenView}
use Rattle.iv_view.specs.declared.written_view.WrittenView.TheVariants as written

-- the view is written with the records of a second file
abbrev pub needs_second : View → Bool
needs_second (view.Kept v) = false
needs_second (view.Written (written.Paired output)) = true
needs_second (view.Written (written.Getfasta output)) = false
needs_second (view.Written written.Records) = false

-- how many steps lie between two readings at most while a view is written from these records: of `records` two, and one more for
-- each different record; the others may take as many as they need
abbrev pub WritesWithin : WrittenView → List RecordValue → ℕ → ℕ → Type 0
WritesWithin written.Records records old new = TakesUpTo old new (2 + different_records records)
WritesWithin other records old new = Unit {0}

-- the records of a second file: none without one
abbrev pub second_records : Option Tracked → List RecordValue
second_records None = []
second_records (Some second) = second.records

-- the text of a view of which a state is kept, for these records
abbrev pub kept_text : KeptView → Sequences → List RecordValue → List ℕ
kept_text (kept.Merge options) = merge_text options
kept_text (kept.Cluster distance) = cluster_text distance
kept_text (kept.Complement limited) = complement_text limited
kept_text (kept.Genomecov output) = depth_text output

-- the rows of a record in a view that is written from records, beside those of the second file and these bases
abbrev pub written_rows : WrittenView → Sequences → List RecordValue → Bases → RecordValue → List ℕ
written_rows (written.Paired output) g second bases r = pair_rows output g r second
written_rows (written.Getfasta output) g second bases r = fasta_rows output g bases r
written_rows written.Records g second bases r = record_line g r

-- the text of a view on this genome for these records, beside the records of the second file and the bases of the FASTA file, of each
-- none if there is no such file
abbrev pub shown_text : View → Sequences → List RecordValue → List RecordValue → Bases → List ℕ
shown_text (view.Kept v) g records second bases = kept_text v g records
shown_text (view.Written v) g records second bases = flat_map (written_rows v g second bases) records
