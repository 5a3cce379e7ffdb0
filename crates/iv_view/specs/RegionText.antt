-- A region of a view: its rows whose interval shares a position with the region, whole and in their order.
use Rattle.std.specs.Prelude.{ℕ, ◌+◌, ◌*◌, ◌<◌, ◌≤◌, List, length, Option, None, Some}
use Rattle.std.specs.List.{flat_map}
use Rattle.iv_lines.specs.Genome.{Sequences, sequence_length}
use Rattle.iv_lines.specs.RecordValue.{RecordValue}
use Rattle.iv_track.specs.Regions.{hits, near}
use Rattle.iv_ledger.specs.Steps.{TakesUpTo}
use Rattle.iv_track.specs.declared.region.Region.{Region}
use Rattle.iv_cover.specs.Depth.{depth}
use Rattle.iv_blocks.specs.ClusterRows.{blocks_until}
use Rattle.iv_blocks.specs.Groups.{sides}
use Rattle.iv_blocks.specs.RegionRows.{blocks_in, cluster_text_in, complement_text_in, gaps_in, merge_text_in}
use Rattle.iv_depth.specs.RegionRows.{covered_runs_in, depth_text_in}
use Rattle.iv_fasta.specs.Fasta.{Bases}
use Rattle.iv_view.specs.Views.{shown_text, written_rows}
use Rattle.iv_view.specs.declared.view.View.{View}
use Rattle.iv_view.specs.declared.view.View.TheVariants as view
use Rattle.iv_view.specs.declared.view.KeptView.{KeptView}
use Rattle.iv_view.specs.declared.view.KeptView.TheVariants as kept

-- the region has a position, and ends within its sequence
pub record IsWithin (g : Sequences) (at : Region) : Type 0 where
  pub some : at.start < at.stop
  pub ends : at.stop ≤ sequence_length g at.seq

-- how many steps lie between two readings at most while such rows are printed from what is kept for a view: one for each row of
-- `merge` or `complement`, and three more for each side, or two more; of depth two for each row above 0 and one for each record that
-- may share a position with the region, and five more; of `cluster` one for each record that may share a position with the region and
-- each block up to its end, and four more
abbrev pub PrintsInWithin : Region → KeptView → Sequences → List RecordValue → ℕ → ℕ → Type 0
PrintsInWithin at (kept.Merge options) g records old new = TakesUpTo old new (3 * length (sides options.stranded) + length (blocks_in options g records at.seq at.start at.stop))
PrintsInWithin at (kept.Cluster distance) g records old new = TakesUpTo old new (4 + length (near at records) + blocks_until distance g records at.seq at.stop)
PrintsInWithin at (kept.Complement limited) g records old new = TakesUpTo old new (2 + length (gaps_in limited g records at.seq at.start at.stop))
PrintsInWithin at (kept.Genomecov shown) g records old new =
    TakesUpTo old new (5 + length (near at records) + 2 * length (covered_runs_in (depth records at.seq) (sequence_length g at.seq) at.start at.stop))

-- the rows of a view of which a state is kept that share a position with the region
abbrev pub kept_text_in : Region → KeptView → Sequences → List RecordValue → List ℕ
kept_text_in at (kept.Merge options) g records = merge_text_in options g records at.seq at.start at.stop
kept_text_in at (kept.Cluster distance) g records = cluster_text_in distance g records at.seq at.start at.stop
kept_text_in at (kept.Complement limited) g records = complement_text_in limited g records at.seq at.start at.stop
kept_text_in at (kept.Genomecov output) g records = depth_text_in output g records at.seq at.start at.stop

-- the rows of a view that share a position with the region; if it is written from records, all rows of each record that does
abbrev pub shown_text_in : Region → View → Sequences → List RecordValue → List RecordValue → Bases → List ℕ
shown_text_in at (view.Kept v) g records second bases = kept_text_in at v g records
shown_text_in at (view.Written v) g records second bases = flat_map (written_rows v g second bases) (hits records at.seq at.start at.stop)

-- what is printed of a view: its text, or that of a region
abbrev pub view_text : Option Region → View → Sequences → List RecordValue → List RecordValue → Bases → List ℕ
view_text None = shown_text
view_text (Some at) = shown_text_in at
