-- Blocks as they are kept. This is the state of the views over blocks, as seen by proofs; their rows are defined without it.
use Rattle.std.specs.Prelude.{◌≡◌, ℕ, ◌+◌, ◌*◌, ◌==◌, ◌&&◌, nat_le, nat_lt, Bool, true, false, List, [], filter, length, Option, slice_get, if◌then◌else◌}
use Rattle.std.specs.Option.{option_map, unwrap_or}
use Rattle.std.specs.declared.cmp.Ordering.{Ordering}
use Rattle.std.specs.Ordering.{nat_cmp, bool_cmp, ordering_then}
use Rattle.iv_lines.specs.RecordValue.{RecordValue}
use Rattle.iv_ledger.specs.Entries.{IsLedger, value_at}
use Rattle.iv_cover.specs.Blocks.{last_passing, is_block_start, block_stop, block_at, start_of, stop_of}
use Rattle.iv_cover.specs.Columns.{results_over}
use Rattle.iv_cover.specs.declared.column.ColumnSummary.{ColumnSummary}
use Rattle.iv_blocks.specs.Groups.{is_on_side, group, listed}
use Rattle.iv_blocks.specs.declared.options.BlockOptions.{BlockOptions}

-- where a block is kept: the rank of its sequence, whether it is on the other side, and its start
abbrev pub Key : Type 0
Key = ℕ × Bool × ℕ

-- keys in order: by rank, by side, and then by start
abbrev pub key_cmp : Key → Key → Ordering
key_cmp a b = ordering_then (ordering_then (nat_cmp a.0 b.0) (bool_cmp a.1 b.1)) (nat_cmp a.2 b.2)

-- what is kept of a block: where it stops, and its results, each with a TAB in front of it
pub record Kept : Type 0 where
  pub stop : ℕ
  pub results : List ℕ

-- blocks, by key
abbrev pub Entries : Type 0
Entries = List (Key × Kept)

-- the name at a rank, empty if there is none
abbrev pub name_of : List (List ℕ) → ℕ → List ℕ
name_of names seq = unwrap_or (slice_get names seq) []

-- a block that stops at b.0 and has the records b.1, as it is kept
abbrev pub kept_block : List ℕ → List ColumnSummary → ℕ × List RecordValue → Kept
kept_block name summaries b = record { stop = b.0; results = results_over name summaries b.1 }

-- the block of a group that starts at a position, if there is one
abbrev pub block_of : BlockOptions → List RecordValue → Key → Option (ℕ × List RecordValue)
block_of o records k = block_at start_of stop_of o.distance (group o.stranded k.0 k.1 records) k.2

-- what is to be kept at a key
abbrev pub kept_at : BlockOptions → List (List ℕ) → List RecordValue → Key → Option Kept
kept_at o names records k = option_map (kept_block (name_of names k.0) (listed o.summaries)) (block_of o records k)

-- the entries are the blocks of the records: at each key is the block that starts there, if there is one
pub record AreBlocksOf (o : BlockOptions) (names : List (List ℕ)) (records : List RecordValue) (entries : Entries) : Type 0 where
  pub ordered : IsLedger key_cmp entries
  pub blocks : (k : Key) → value_at key_cmp entries k ≡ kept_at o names records k

-- what is kept: for which options, and the blocks
pub record KeptBlocks : Type 0 where
  pub options : BlockOptions
  pub entries : Entries

-- how many records, of any strand, start within the block of these that r belongs to
abbrev pub within_block : ℕ → List RecordValue → List RecordValue → RecordValue → ℕ
within_block d own records r =
    let x = last_passing (is_block_start start_of stop_of d own) r.start in
    let stop = block_stop start_of stop_of d own x in
    length (filter (λ q. (q.seq == r.seq) && (nat_le x q.start && nat_lt q.start stop)) records)

-- how many records there are around r: those on its sequence that start within its block; none if r is in no block
abbrev pub around : BlockOptions → List RecordValue → RecordValue → ℕ
around o records r =
    if is_on_side o.stranded false r then within_block o.distance (group o.stranded r.seq false records) records r
    else if is_on_side o.stranded true r then within_block o.distance (group o.stranded r.seq true records) records r
    else 0

-- how many steps a repair takes at most
abbrev pub block_steps : BlockOptions → List RecordValue → RecordValue → ℕ
block_steps o records r = 16 + 8 * around o records r
