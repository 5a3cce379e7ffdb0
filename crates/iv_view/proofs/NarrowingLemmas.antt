-- What arguments ask for on fewer than six columns, or without one of the files, is what they ask for with all of these, narrowed.
use Rattle.std.proofs.Common.{◌≡◌, ◌∙◌, ℕ, zero, suc, ◌<◌, Bool, true, false, inl, inr, List, [], ◌∷◌, Option, Some, None, map, length, replicate, refl, sym, ap, arith}
use Rattle.std.specs.Prelude.{Result, Ok, Err, ◌&&◌, ◌-◌, ◌==◌, not, nat_le, nat_lt, if◌then◌else◌, option_and_then, codes}
use Rattle.std.specs.Option.{option_map, ok_or}
use Rattle.std.specs.Str.{bytes_eq}
use Rattle.std.proofs.lemmas.Bool.{cases_lt, cond-true, cond-false, le-leb, ne_eqb, and_right}
use Rattle.std.proofs.lemmas.List.{take_all, take-append-le}
use Rattle.iv_lines.specs.declared.fault.Fault.{Fault}
use Rattle.iv_lines.specs.declared.fault.Fault.TheVariants as fault
use Rattle.iv_cover.specs.Columns.{column_numbered}
use Rattle.iv_cover.specs.declared.column.Column.{Column}
use Rattle.iv_cover.specs.declared.column.ColumnSummary.{ColumnSummary}
use Rattle.iv_cover.specs.declared.op.Op.{Op}
use Rattle.iv_blocks.specs.Groups.{filled, listed}
use Rattle.iv_blocks.specs.Inside.Groups.{unused}
use Rattle.iv_blocks.specs.declared.options.BlockOptions.{BlockOptions}
use Rattle.iv_blocks.specs.declared.options.Summaries.{Summaries}
use Rattle.iv_fasta.specs.declared.rows.FastaOutput.{FastaOutput}
use Rattle.iv_pair.specs.declared.pair_rows.PairOutput.{PairOutput}
use Rattle.iv_pair.specs.declared.pair_rows.PairOutput.TheVariants as pair
use Rattle.iv_lines.specs.Chains.{if_ok}
use Rattle.iv_view.specs.Flags.{only_flag, beside_flag, genomecov_rows, intersect_said, fasta_said}
use Rattle.iv_view.specs.Lists.{all_some, pairs}
use Rattle.iv_view.specs.Merge.{MergeArgs, said_by, nothing_said, distance_of, lists_of, summary_within, merge_options, cluster_distance}
use Rattle.iv_view.specs.NarrowedViews.{number_of, has_columns, narrowed_options, as_merge, narrowed}
use Rattle.iv_view.specs.Arguments.{read_arguments, or_bad_arguments, beside_second, beside_fasta}
use Rattle.iv_view.specs.declared.view.View.{View}
use Rattle.iv_view.specs.declared.view.View.TheVariants as view
use Rattle.iv_view.specs.declared.view.KeptView.{KeptView}
use Rattle.iv_view.specs.declared.view.KeptView.TheVariants as kept
use Rattle.iv_view.specs.declared.written_view.WrittenView.TheVariants as written

-- ---- one column

-- the column of this number, if records of this width have it
abbrev column_within : ℕ → ℕ → Option Column
column_within width n = if nat_le n width then column_numbered n else None

-- the column, if records of this width have it
abbrev column_there : ℕ → Column → Option Column
column_there width column = if nat_le (number_of column) width then Some column else None

nothing-either : (b : Bool) → ◌≡◌ {A = Option Column} (if b then None else None) None
nothing-either true = refl
nothing-either false = refl

-- there is no seventh column
column-none : (n : ℕ) → 6 < n → column_numbered n ≡ None
column-none n far =
    cond-false (n == 1) _ _ (ne_eqb n 1 (λ e. omega arith))
    ∙ cond-false (n == 2) _ _ (ne_eqb n 2 (λ e. omega arith))
    ∙ cond-false (n == 3) _ _ (ne_eqb n 3 (λ e. omega arith))
    ∙ cond-false (n == 4) _ _ (ne_eqb n 4 (λ e. omega arith))
    ∙ cond-false (n == 5) _ _ (ne_eqb n 5 (λ e. omega arith))
    ∙ cond-false (n == 6) _ _ (ne_eqb n 6 (λ e. omega arith))

column-far : (width n : ℕ) → 6 < n → column_within width n ≡ None
column-far width n far = ap (λ (o : Option Column). if nat_le n width then o else None) (column-none n far) ∙ nothing-either (nat_le n width)

-- each column is there of records of six
pub six-columns : (n : ℕ) → column_within 6 n ≡ column_numbered n
six-columns n = elim (cases_lt 6 n) [
  | inl far ↦ column-far 6 n far ∙ sym (column-none n far)
  | inr within ↦ cond-true (nat_le n 6) (column_numbered n) None (le-leb n 6 within)
]

column-narrowed : (width n : ℕ) → column_within width n ≡ option_and_then (column_there width) (column_within 6 n)
column-narrowed width zero = nothing-either (nat_le 0 width)
column-narrowed width (suc (suc (suc (suc (suc (suc (suc n))))))) = neither (suc (suc (suc (suc (suc (suc (suc n))))))) (omega arith)
  where
    neither : (n : ℕ) → 6 < n → column_within width n ≡ option_and_then (column_there width) (column_within 6 n)
    neither n far = column-far width n far ∙ sym (ap (option_and_then (column_there width)) (column-far 6 n far))
column-narrowed width n = refl

-- ---- summaries

-- the summary, if records of this width have its column
abbrev summary_there : ℕ → ColumnSummary → Option ColumnSummary
summary_there width asked = if nat_le (number_of asked.column) width then Some asked else None

-- the summaries, if records of this width have the column of each
abbrev summaries_there : ℕ → List ColumnSummary → Option (List ColumnSummary)
summaries_there width asked = if has_columns width asked then Some asked else None

abbrev with_op : Op → Column → ColumnSummary
with_op op column = record { column = column; op = op }

summary-there : (width : ℕ) (op : Op) (o : Option Column)
    → option_map (with_op op) (option_and_then (column_there width) o) ≡ option_and_then (summary_there width) (option_map (with_op op) o)
summary-there width op None = refl
summary-there width op (Some column) = by (nat_le (number_of column) width)
  where
    by : (b : Bool) → option_map (with_op op) (if b then Some column else None) ≡ (if b then Some (with_op op column) else None)
    by true = refl
    by false = refl

summary-narrowed : (width : ℕ) (asked : ℕ × Op) → summary_within width asked ≡ option_and_then (summary_there width) (summary_within 6 asked)
summary-narrowed width asked =
    ap (option_map (with_op asked.1)) (column-narrowed width asked.0) ∙ summary-there width asked.1 (column_within 6 asked.0)

-- a summary before others
abbrev before : ColumnSummary → List ColumnSummary → List ColumnSummary
before first others = first ∷ others

first-there : (b : Bool) (width : ℕ) (first : ColumnSummary) (items : List (Option ColumnSummary)) (r : Option (List ColumnSummary))
    → all_some items ≡ option_and_then (summaries_there width) r
    → all_some ((if b then Some first else None) ∷ items) ≡ option_and_then (λ others. if b && has_columns width others then Some (before first others) else None) r
first-there false width first items None is = refl
first-there false width first items (Some others) is = refl
first-there true width first items None is = ap (option_map (before first)) is
first-there true width first items (Some others) is = ap (option_map (before first)) is ∙ by (has_columns width others)
  where
    by : (b : Bool) → option_map (before first) (if b then Some others else None) ≡ (if b then Some (before first others) else None)
    by true = refl
    by false = refl

one-more : (width : ℕ) (o : Option ColumnSummary) (items six : List (Option ColumnSummary)) → all_some items ≡ option_and_then (summaries_there width) (all_some six)
    → all_some (option_and_then (summary_there width) o ∷ items) ≡ option_and_then (summaries_there width) (all_some (o ∷ six))
one-more width None items six is = refl
one-more width (Some first) items six is = first-there (nat_le (number_of first.column) width) width first items (all_some six) is ∙ over (all_some six)
  where
    over : (r : Option (List ColumnSummary))
        → option_and_then (λ others. if nat_le (number_of first.column) width && has_columns width others then Some (before first others) else None) r
        ≡ option_and_then (summaries_there width) (option_map (before first) r)
    over None = refl
    over (Some others) = refl

summaries-narrowed : (width : ℕ) (asked : List (ℕ × Op))
    → all_some (map (summary_within width) asked) ≡ option_and_then (summaries_there width) (all_some (map (summary_within 6) asked))
summaries-narrowed width [] = refl
summaries-narrowed width (first ∷ asked) =
    ap (λ (o : Option ColumnSummary). all_some (o ∷ map (summary_within width) asked)) (summary-narrowed width first)
    ∙ one-more width (summary_within 6 first) (map (summary_within width) asked) (map (summary_within 6) asked) (summaries-narrowed width asked)

listed-filled : (summaries : List ColumnSummary) → listed (filled summaries) ≡ summaries
listed-filled summaries =
    take-append-le (length summaries) summaries (replicate (16 - length summaries) unused) (omega arith)
    ∙ take_all (length summaries) summaries (omega arith)

-- ---- the options of a merge

-- the options that were read, narrowed, or their fault
abbrev options_from : ℕ → Result BlockOptions Fault → Result BlockOptions Fault
options_from width (Err why) = Err why
options_from width (Ok options) = narrowed_options width options

module _ (width : ℕ) (stranded : Bool) (distance : ℕ) where
  abbrev with_summaries : List ColumnSummary → BlockOptions
  with_summaries summaries = record { distance = distance; stranded = stranded; summaries = filled summaries }

  -- the options, if each column is there or one isn't
  abbrev if_there : Bool → List ColumnSummary → Result BlockOptions Fault
  if_there there summaries =
      if not there then Err fault.Column
      else if stranded && nat_lt width 6 then Err fault.NoStrand
      else Ok (with_summaries summaries)

  -- the options on a track of this width, if the columns are there
  abbrev options_within : ℕ → Option (List ColumnSummary) → Result BlockOptions Fault
  options_within six r = if_ok (ok_or r fault.Column) (λ summaries. if stranded && nat_lt six 6 then Err fault.NoStrand else Ok (with_summaries summaries))

  options-there : (b : Bool) (summaries : List ColumnSummary) → options_within width (if b then Some summaries else None) ≡ if_there b summaries
  options-there true summaries = refl
  options-there false summaries = refl

  options-narrowed : (r : Option (List ColumnSummary)) → options_within width (option_and_then (summaries_there width) r) ≡ options_from width (options_within 6 r)
  options-narrowed None = refl
  options-narrowed (Some summaries) =
      options-there (has_columns width summaries) summaries
      ∙ ap (λ (s : List ColumnSummary). if_there (has_columns width s) summaries) (sym (listed-filled summaries))
      ∙ sym (ap (options_from width) (cond-false (stranded && nat_lt 6 6) (Err fault.NoStrand) (Ok (with_summaries summaries)) (and_right stranded (nat_lt 6 6) refl)))

  -- the options of summaries that are asked for, if they are
  abbrev options_asked : ℕ → Option (List (ℕ × Op)) → Result BlockOptions Fault
  options_asked six asked = if_ok (ok_or asked fault.Words) (λ asked. options_within six (all_some (map (summary_within six) asked)))

  asked-narrowed : (asked : Option (List (ℕ × Op))) → options_asked width asked ≡ options_from width (options_asked 6 asked)
  asked-narrowed None = refl
  asked-narrowed (Some asked) = ap (options_within width) (summaries-narrowed width asked) ∙ options-narrowed (all_some (map (summary_within 6) asked))

  -- the options of lists that are asked for, if they are
  abbrev options_listed : ℕ → Option (List ℕ × List Op) → Result BlockOptions Fault
  options_listed six lists = if_ok (ok_or lists fault.Words) (λ lists. options_asked six (pairs lists.0 lists.1))

  lists-narrowed : (lists : Option (List ℕ × List Op)) → options_listed width lists ≡ options_from width (options_listed 6 lists)
  lists-narrowed None = refl
  lists-narrowed (Some lists) = asked-narrowed (pairs lists.0 lists.1)

-- the summaries of lists on six columns, as they are read
abbrev pub summaries_read : List ℕ × List Op → Result Summaries Fault
summaries_read lists =
    if_ok (ok_or (pairs lists.0 lists.1) fault.Words) (λ asked. ok_or (option_map filled (all_some (map (summary_within 6) asked))) fault.Column)

module _ (stranded : Bool) (distance : ℕ) where
  -- the options with these summaries
  abbrev pub options_beside : Result Summaries Fault → Result BlockOptions Fault
  options_beside read = if_ok read (λ summaries. Ok (record { distance = distance; stranded = stranded; summaries = summaries }))

  columns-read : (r : Option (List ColumnSummary)) → options_within 6 stranded distance 6 r ≡ options_beside (ok_or (option_map filled r) fault.Column)
  columns-read None = refl
  columns-read (Some summaries) = cond-false (stranded && nat_lt 6 6) _ _ (and_right stranded (nat_lt 6 6) refl)

  asked-read : (asked : Option (List (ℕ × Op)))
      → options_asked 6 stranded distance 6 asked
      ≡ options_beside (if_ok (ok_or asked fault.Words) (λ asked. ok_or (option_map filled (all_some (map (summary_within 6) asked))) fault.Column))
  asked-read None = refl
  asked-read (Some asked) = columns-read (all_some (map (summary_within 6) asked))

-- the options of a merge on six columns, as they are read
pub merge-read : (given : Option MergeArgs) (d c o : Option (List ℕ)) (stranded : Bool) → given ≡ Some (record { distance = d; columns = c; ops = o; stranded = stranded })
    → (distance : ℕ) → distance_of d ≡ Some distance → (lists : List ℕ × List Op) → lists_of c o ≡ Some lists
    → (read : Result Summaries Fault) → read ≡ summaries_read lists → merge_options 6 given ≡ options_beside stranded distance read
merge-read given d c o stranded given_is distance distance_is lists lists_is read read_is =
    ap (merge_options 6) given_is
    ∙ ap (λ (x : Option ℕ). if_ok (ok_or x fault.Words) (λ n. options_listed 6 stranded n 6 (lists_of c o))) distance_is
    ∙ ap (options_listed 6 stranded distance 6) lists_is
    ∙ asked-read stranded distance (pairs lists.0 lists.1)
    ∙ ap (options_beside stranded distance) (sym read_is)

said-narrowed : (width : ℕ) (said : Option MergeArgs) → merge_options width said ≡ options_from width (merge_options 6 said)
said-narrowed width None = refl
said-narrowed width (Some said) = by (distance_of said.distance)
  where
    by : (distance : Option ℕ)
        → if_ok (ok_or distance fault.Words) (λ distance. options_listed width said.stranded distance width (lists_of said.columns said.ops))
        ≡ options_from width (if_ok (ok_or distance fault.Words) (λ distance. options_listed width said.stranded distance 6 (lists_of said.columns said.ops)))
    by None = refl
    by (Some distance) = lists-narrowed width said.stranded distance (lists_of said.columns said.ops)

-- ---- all views

-- the view that was read, narrowed, or its fault
abbrev narrowed_from : ℕ → Bool → Bool → Result View Fault → Result View Fault
narrowed_from width has_second has_bases (Err why) = Err why
narrowed_from width has_second has_bases (Ok v) = narrowed width has_second has_bases v

module _ (width : ℕ) (has_second has_bases : Bool) where
  abbrev here : Result View Fault → Result View Fault
  here said = narrowed_from width has_second has_bases said

  either : (b : Bool) (one two six_one six_two : Result View Fault) → one ≡ here six_one → two ≡ here six_two
      → (if b then one else two) ≡ here (if b then six_one else six_two)
  either true one two six_one six_two is other = is
  either false one two six_one six_two is other = other

  narrowed-merge : (said : Option MergeArgs) → as_merge (merge_options width said) ≡ here (as_merge (merge_options 6 said))
  narrowed-merge said = ap as_merge (said-narrowed width said) ∙ by (merge_options 6 said)
    where
      by : (r : Result BlockOptions Fault) → as_merge (options_from width r) ≡ here (as_merge r)
      by (Err why) = refl
      by (Ok options) = refl

  narrowed-kept : {X : Type 0} (asks : X → KeptView) → ((x : X) → narrowed width has_second has_bases (view.Kept (asks x)) ≡ Ok (view.Kept (asks x)))
      → (asked : Option X) → or_bad_arguments (option_map asks asked) ≡ here (or_bad_arguments (option_map asks asked))
  narrowed-kept asks stays None = refl
  narrowed-kept asks stays (Some x) = sym (stays x)

  narrowed-paired : (asked : Option PairOutput) → beside_second has_second asked ≡ here (beside_second true asked)
  narrowed-paired None = refl
  narrowed-paired (Some output) = refl

  narrowed-fasta : (asked : Option FastaOutput) → beside_fasta width has_bases asked ≡ here (beside_fasta 6 true asked)
  narrowed-fasta None = refl
  narrowed-fasta (Some shown) =
      sym (ap here (cond-false (shown.stranded && nat_lt 6 6) (Err fault.NoStrand) (Ok (view.Written (written.Getfasta shown))) (and_right shown.stranded (nat_lt 6 6) refl)))

  words-narrowed : (arguments : List (List ℕ)) → read_arguments width has_second has_bases arguments ≡ here (read_arguments 6 true true arguments)
  words-narrowed [] = refl
  words-narrowed (argument ∷ arguments) =
      either (bytes_eq argument (codes "merge")) _ _ _ _ (narrowed-merge (said_by arguments nothing_said))
      (either (bytes_eq argument (codes "cluster")) _ _ _ _ (narrowed-kept kept.Cluster (λ x. refl) (cluster_distance (said_by arguments nothing_said)))
      (either (bytes_eq argument (codes "complement")) _ _ _ _ (narrowed-kept kept.Complement (λ x. refl) (only_flag (codes "-L") arguments))
      (either (bytes_eq argument (codes "genomecov")) _ _ _ _ (narrowed-kept kept.Genomecov (λ x. refl) (genomecov_rows arguments))
      (either (bytes_eq argument (codes "intersect")) _ _ _ _ (narrowed-paired (option_map pair.Intersect (beside_flag (codes "-wa") intersect_said arguments)))
      (either (bytes_eq argument (codes "subtract")) _ _ _ _ (narrowed-paired (option_map pair.Subtract (only_flag (codes "-A") arguments)))
      (either (bytes_eq argument (codes "getfasta")) _ _ _ _ (narrowed-fasta (beside_flag (codes "-s") fasta_said arguments))
      (either (bytes_eq argument (codes "records") && length arguments == 0) _ _ _ _ refl refl)))))))

  -- what a view that was read is narrowed to
  pub view-narrowed : (arguments : List (List ℕ)) (v : View) → read_arguments 6 true true arguments ≡ Ok v → narrowed width has_second has_bases v ≡ read_arguments width has_second has_bases arguments
  view-narrowed arguments v is = sym (words-narrowed arguments ∙ ap here is)

  -- a fault stays
  pub fault-narrowed : (arguments : List (List ℕ)) (why : Fault) → read_arguments 6 true true arguments ≡ Err why → read_arguments width has_second has_bases arguments ≡ Err why
  fault-narrowed arguments why is = words-narrowed arguments ∙ ap here is
