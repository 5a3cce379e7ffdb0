-- The rows of an intersect or a subtract.
use Rattle.std.specs.Prelude.{ℕ, if◌then◌else◌, List}
use Rattle.std.specs.List.{flat_map}
use Rattle.iv_lines.specs.Genome.{Sequences}
use Rattle.iv_lines.specs.RecordValue.{RecordValue, part}
use Rattle.iv_track.specs.Regions.{hits}
use Rattle.iv_cover.specs.Depth.{depth}
use Rattle.iv_cover.specs.Runs.{empty_runs}
use Rattle.iv_pair.specs.IntersectRows.{intersect_rows, record_line}
use Rattle.iv_pair.specs.declared.intersect.IntersectOutput.TheVariants.{IfNoHit}
use Rattle.iv_pair.specs.declared.pair_rows.PairOutput.{PairOutput}
use Rattle.iv_pair.specs.declared.pair_rows.PairOutput.TheVariants.{Intersect, Subtract}

-- the rows of a record beside the second list: those of an intersect with its hits; or of a subtract, the record if it has no hit if
-- only whole records are taken away, and otherwise its maximal intervals that no record of the second list covers
abbrev pub pair_rows : PairOutput → Sequences → RecordValue → List RecordValue → List ℕ
pair_rows (Intersect output) g a second = intersect_rows output g a (hits second a.seq a.start a.stop)
pair_rows (Subtract whole) g a second =
    if whole then intersect_rows IfNoHit g a (hits second a.seq a.start a.stop)
    else flat_map (λ run. record_line g (part a run.start run.stop)) (empty_runs (depth second a.seq) a.start a.stop)

-- all rows: those of each record of the first list, in its order
abbrev pub pair_text : PairOutput → Sequences → List RecordValue → List RecordValue → List ℕ
pair_text output g records second = flat_map (λ a. pair_rows output g a second) records
