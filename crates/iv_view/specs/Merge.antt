-- The views `merge` and `cluster`: their arguments.
use Rattle.std.specs.Prelude.{ℕ, Bool, true, false, nat_le, nat_lt, ◌&&◌, ◌||◌, if◌then◌else◌, List, [], ◌∷◌, map, Option, None, Some, Result, Ok, Err, codes, option_and_then}
use Rattle.std.specs.Option.{option_map, option_zip, is_some, ok_or, unwrap_or}
use Rattle.std.specs.Str.{bytes_eq}
use Rattle.iv_lines.specs.Number.{number}
use Rattle.iv_lines.specs.declared.fault.Fault.{Fault}
use Rattle.iv_lines.specs.declared.fault.Fault.TheVariants as fault
use Rattle.iv_cover.specs.Columns.{column_numbered}
use Rattle.iv_cover.specs.Summaries.{op_named}
use Rattle.iv_cover.specs.declared.column.ColumnSummary.{ColumnSummary}
use Rattle.iv_cover.specs.declared.op.Op.{Op}
use Rattle.iv_blocks.specs.Groups.{filled}
use Rattle.iv_blocks.specs.declared.options.BlockOptions.{BlockOptions}
use Rattle.iv_lines.specs.Chains.{if_ok}
use Rattle.iv_view.specs.Lists.{all_some, items_in, pairs}

-- the options that are given: the values of `-d`, `-c` and `-o` as they are written, and whether `-s` is there
pub record MergeArgs : Type 0 where
  pub distance : Option (List ℕ)
  pub columns : Option (List ℕ)
  pub ops : Option (List ℕ)
  pub stranded : Bool

-- no option yet
abbrev pub nothing_said : MergeArgs
nothing_said = record { distance = None; columns = None; ops = None; stranded = false }

-- with `-s`, unless it was there before
abbrev pub with_flag : MergeArgs → Option MergeArgs
with_flag said = if said.stranded then None else Some (record said { stranded = true })

-- these options, unless a value was given before
abbrev pub unless_given : Option (List ℕ) → MergeArgs → Option MergeArgs
unless_given None said = Some said
unless_given (Some value) said = None

-- with a value for the option that an argument is, unless it had one before
abbrev pub with_option : List ℕ → List ℕ → MergeArgs → Option MergeArgs
with_option argument value said =
    if bytes_eq argument (codes "-d") then unless_given said.distance (record said { distance = Some value })
    else if bytes_eq argument (codes "-c") then unless_given said.columns (record said { columns = Some value })
    else if bytes_eq argument (codes "-o") then unless_given said.ops (record said { ops = Some value })
    else None

-- the options of arguments, with those before them: each argument is `-s`, or an option with its value after it, and none comes twice
abbrev pub said_by : List (List ℕ) → MergeArgs → Option MergeArgs
said_by [] said = Some said
said_by (argument ∷ []) said = if bytes_eq argument (codes "-s") then with_flag said else None
said_by (argument ∷ next ∷ arguments) said =
    if bytes_eq argument (codes "-s")
    then option_and_then (said_by (next ∷ arguments)) (with_flag said)
    else option_and_then (said_by arguments) (with_option argument next said)

-- the distance that a value means: a number up to 1,000,000,000, and 0 if there is none
abbrev pub distance_of : Option (List ℕ) → Option ℕ
distance_of value = option_and_then (λ n. if nat_le n 1000000000 then Some n else None) (number (unwrap_or value (codes "0")))

-- the columns and operations that the values of `-c` and `-o` mean: the operation left out is `sum`, and there is none without a column
abbrev pub lists_of : Option (List ℕ) → Option (List ℕ) → Option (List ℕ × List Op)
lists_of None None = Some ([], [])
lists_of None (Some ops) = None
lists_of (Some columns) ops = option_zip (items_in number columns) (items_in op_named (unwrap_or ops (codes "sum")))

-- the summary that a column's number and an operation ask for, if a track of this width has the column
abbrev pub summary_within : ℕ → ℕ × Op → Option ColumnSummary
summary_within width asked =
    option_map (λ column. record { column = column; op = asked.1 }) (if nat_le asked.0 width then column_numbered asked.0 else None)

-- the options of a merge on a track of this width that arguments after `merge` mean, or their first fault: bad arguments, columns and operations
-- that don't pair off among them; then a column that isn't there; and then no strands to keep apart
abbrev pub merge_options : ℕ → Option MergeArgs → Result BlockOptions Fault
merge_options width given =
    if_ok (ok_or given fault.Words) (λ said.
    if_ok (ok_or (distance_of said.distance) fault.Words) (λ distance.
    if_ok (ok_or (lists_of said.columns said.ops) fault.Words) (λ lists.
    if_ok (ok_or (pairs lists.0 lists.1) fault.Words) (λ asked.
    if_ok (ok_or (all_some (map (summary_within width) asked)) fault.Column) (λ summaries.
    if said.stranded && nat_lt width 6 then Err fault.NoStrand
    else Ok (record { distance = distance; stranded = said.stranded; summaries = filled summaries }))))))

-- the distance of a cluster that arguments after `cluster` mean: they are `-d` and its value, or none
abbrev pub cluster_distance : Option MergeArgs → Option ℕ
cluster_distance given =
    option_and_then (λ said. if said.stranded || is_some said.columns || is_some said.ops then None else distance_of said.distance) given
