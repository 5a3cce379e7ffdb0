-- The views whose rows depend on nothing of a record except its interval.
use Rattle.std.proofs.Common.{◌≡◌, ℕ, ◌-◌, ◌++◌, ◌==◌, ◌&&◌, ◌||◌, Bool, true, false, not, cond, List, [], ◌∷◌, map, Option, Some, None, if◌then◌else◌, refl, sym, ap, ◌∙◌}
use Rattle.std.specs.Prelude.{filter, max}
use Rattle.std.specs.List.{cons_option, filter_map, flat_map, list_any, range_with_len}
use Rattle.std.specs.Option.{option_map}
use Rattle.iv_lines.specs.Genome.{Sequences, seq_count, sequence_length, sequence_name}
use Rattle.iv_lines.specs.RecordValue.{RecordValue}
use Rattle.iv_cover.specs.Blocks.{block_at, block_stop, blocks_below, greatest, is_block_start, last_passing, members, start_of, stop_of}
use Rattle.iv_cover.specs.Inside.Blocks.{reaches}
use Rattle.iv_lines.specs.CoveredPositions.{covers}
use Rattle.iv_cover.specs.Depth.{depth}
use Rattle.iv_cover.specs.Runs.{empty_runs}
use Rattle.iv_cover.specs.declared.column.ColumnSummary.{ColumnSummary}
use Rattle.iv_blocks.specs.ComplementRows.{gap_row, complement_text}
use Rattle.iv_blocks.specs.Groups.{group, sides}
use Rattle.iv_blocks.specs.Inside.Groups.{is_in_group}
use Rattle.iv_blocks.specs.MergeRows.{block_row, merge_text}
use Rattle.iv_blocks.specs.declared.options.BlockOptions.{BlockOptions}
use Rattle.iv_depth.specs.DepthRows.{depth_text}
use Rattle.iv_depth.specs.Inside.Texts.{text_by}
use Rattle.iv_depth.specs.declared.depth_rows.DepthOutput.{DepthOutput}
use Rattle.iv_lines.specs.Intervals.{bare}
use Rattle.iv_places.proofs.BareLemmas.{count-bare}
use Rattle.iv_blocks.specs.IntervalOptions.{IsByIntervals}

-- ---- tests of bare records

any-bare : (p : RecordValue → Bool) (records : List RecordValue) → list_any p (map bare records) ≡ list_any (λ r. p (bare r)) records
any-bare p [] = refl
any-bare p (r ∷ records) = ap (λ (b : Bool). p (bare r) || b) (any-bare p records)

filter-bare : (p : RecordValue → Bool) (records : List RecordValue) → filter p (map bare records) ≡ map bare (filter (λ r. p (bare r)) records)
filter-bare p [] = refl
filter-bare p (r ∷ records) = by (p (bare r)) (filter-bare p records)
  where
    by : (b : Bool) → filter p (map bare records) ≡ map bare (filter (λ r. p (bare r)) records)
        → cond b (bare r ∷ filter p (map bare records)) (filter p (map bare records)) ≡ map bare (cond b (r ∷ filter (λ r. p (bare r)) records) (filter (λ r. p (bare r)) records))
    by true e = ap (λ (l : List RecordValue). bare r ∷ l) e
    by false e = e

-- ---- depth

-- bare records cover what the records do
depth-bare : (records : List RecordValue) → depth (map bare records) ≡ depth records
depth-bare records = λ i sequence p. count-bare (covers sequence p) records i

pub genomecov-bare : (shown : DepthOutput) (g : Sequences) (records : List RecordValue) → depth_text shown g (map bare records) ≡ depth_text shown g records
genomecov-bare shown g records = ap (text_by shown g) (depth-bare records)

-- ---- complement

pub complement-bare : (limited : Bool) (g : Sequences) (records : List RecordValue) → complement_text limited g (map bare records) ≡ complement_text limited g records
complement-bare limited g records = λ i. flat_map
    (λ rank. flat_map (gap_row (sequence_name g rank))
    (if not limited || any-bare (λ r. r.seq == rank) records i
    then empty_runs (depth-bare records i rank) 0 (sequence_length g rank)
    else []))
    (range_with_len 0 (seq_count g))

-- ---- blocks

module _ (d : ℕ) (records : List RecordValue) where
  -- blocks start where they did
  starts : (x : ℕ) → is_block_start start_of stop_of d (map bare records) x ≡ is_block_start start_of stop_of d records x
  starts x = λ i. any-bare (λ r. start_of r == x) records i && not (any-bare (reaches start_of stop_of d x) records i)

  -- and have the records that they had
  members-bare : (x : ℕ) → members start_of stop_of d (map bare records) x ≡ map bare (members start_of stop_of d records x)
  members-bare x =
      filter-bare (λ r. last_passing (is_block_start start_of stop_of d (map bare records)) (start_of r) == x) records
      ∙ (λ i. map bare (filter (λ r. last_passing (λ n. starts n i) (start_of r) == x) records))

  stops-bare : (xs : List RecordValue) → greatest (map stop_of (map bare xs)) ≡ greatest (map stop_of xs)
  stops-bare [] = refl
  stops-bare (r ∷ xs) = ap (max r.stop) (stops-bare xs)

  -- and stop where they did
  stop-bare : (x : ℕ) → block_stop start_of stop_of d (map bare records) x ≡ block_stop start_of stop_of d records x
  stop-bare x = ap (λ (l : List RecordValue). greatest (map stop_of l)) (members-bare x) ∙ stops-bare (members start_of stop_of d records x)

-- ---- merge

-- the row of a block of which nothing is asked, if there is one
abbrev row_if : List ℕ → Option (ℕ × (ℕ × List RecordValue)) → List ℕ
row_if name None = []
row_if name (Some b) = block_row name [] b

rows-each : (name : List ℕ) (f : ℕ → Option (ℕ × (ℕ × List RecordValue))) (xs : List ℕ) → flat_map (block_row name []) (filter_map f xs) ≡ flat_map (λ x. row_if name (f x)) xs
rows-each name f [] = refl
rows-each name f (x ∷ xs) = by (f x) (rows-each name f xs)
  where
    by : (o : Option (ℕ × (ℕ × List RecordValue))) → flat_map (block_row name []) (filter_map f xs) ≡ flat_map (λ x. row_if name (f x)) xs
        → flat_map (block_row name []) (cons_option o (filter_map f xs)) ≡ row_if name o ++ flat_map (λ x. row_if name (f x)) xs
    by None e = e
    by (Some b) e = ap (λ (l : List ℕ). block_row name [] b ++ l) e

-- the row doesn't depend on the records of the block
row-alone : (name : List ℕ) (x stop : ℕ) (is : Bool) (xs ys : List RecordValue)
    → row_if name (option_map (λ (b : ℕ × List RecordValue). (x, b)) (cond is (Some (stop, xs)) None)) ≡ row_if name (option_map (λ (b : ℕ × List RecordValue). (x, b)) (cond is (Some (stop, ys)) None))
row-alone name x stop true xs ys = refl
row-alone name x stop false xs ys = refl

-- the block that starts at a position, if there is one
abbrev block : ℕ → List RecordValue → ℕ → Option (ℕ × (ℕ × List RecordValue))
block d records x = option_map (λ (b : ℕ × List RecordValue). (x, b)) (block_at start_of stop_of d records x)

-- the rows of blocks of which nothing is asked
blocks-bare : (name : List ℕ) (d : ℕ) (records : List RecordValue) (n : ℕ)
    → flat_map (block_row name []) (blocks_below start_of stop_of d (map bare records) n) ≡ flat_map (block_row name []) (blocks_below start_of stop_of d records n)
blocks-bare name d records n =
    rows-each name (block d (map bare records)) (range_with_len 0 n) ∙ (λ i. flat_map (λ x. same x i) (range_with_len 0 n)) ∙ sym (rows-each name (block d records) (range_with_len 0 n))
  where
    same : (x : ℕ) → row_if name (block d (map bare records) x) ≡ row_if name (block d records x)
    same x =
        (λ i. row_if name (option_map (λ (b : ℕ × List RecordValue). (x, b)) (cond (starts d records x i) (Some (stop-bare d records x i, members start_of stop_of d (map bare records) x)) None)))
        ∙ row-alone name x (block_stop start_of stop_of d records x) (is_block_start start_of stop_of d records x) (members start_of stop_of d (map bare records) x) (members start_of stop_of d records x)

-- all rows of a merge, by what it asks of a block and by which strands it joins
abbrev text_with : ℕ → Bool → List ColumnSummary → Sequences → List RecordValue → List ℕ
text_with d stranded summaries g records = flat_map
    (λ rank. flat_map
    (λ minus. flat_map (block_row (sequence_name g rank) summaries) (blocks_below start_of stop_of d (group stranded rank minus records) (sequence_length g rank)))
    (sides stranded))
    (range_with_len 0 (seq_count g))

-- of a merge that joins both strands and asks nothing of a block
pub merge-bare : (distance : ℕ) (o : BlockOptions) (g : Sequences) (records : List RecordValue) → IsByIntervals distance o → merge_text o g (map bare records) ≡ merge_text o g records
merge-bare distance o g records plain = as_joined (map bare records) ∙ both ∙ sym (as_joined records)
  where
    as_joined : (records : List RecordValue) → merge_text o g records ≡ text_with o.distance false [] g records
    as_joined records = λ i. text_with o.distance (plain.together i) (plain.nothing i) g records

    one : (rank : ℕ) (minus : Bool)
        → flat_map (block_row (sequence_name g rank) []) (blocks_below start_of stop_of o.distance (group false rank minus (map bare records)) (sequence_length g rank))
        ≡ flat_map (block_row (sequence_name g rank) []) (blocks_below start_of stop_of o.distance (group false rank minus records) (sequence_length g rank))
    one rank minus =
        ap (λ (l : List RecordValue). flat_map (block_row (sequence_name g rank) []) (blocks_below start_of stop_of o.distance l (sequence_length g rank))) (filter-bare (is_in_group false rank minus) records)
        ∙ blocks-bare (sequence_name g rank) o.distance (group false rank minus records) (sequence_length g rank)

    both : text_with o.distance false [] g (map bare records) ≡ text_with o.distance false [] g records
    both = λ i. flat_map (λ rank. flat_map (λ minus. one rank minus i) (sides false)) (range_with_len 0 (seq_count g))
