-- What is known of a BED file after one more line, and what holds of it.
use Rattle.std.specs.Prelude.{◌≡◌, ◌≤◌, ◌++◌, nat_le, cond, All, MatchOption, ℕ, List, [], ◌∷◌, Some, Result, Ok, Err, length}
use Rattle.std.specs.Option.{unwrap_or}
use Rattle.iv_lines.specs.Chains.{if_ok, map_fault}
use Rattle.iv_lines.specs.Fields.{columns}
use Rattle.iv_lines.specs.Read.{Fits}
use Rattle.iv_lines.specs.RecordValue.{RecordValue}
use Rattle.iv_lines.specs.declared.fault.Fault.{Fault}
use Rattle.iv_lines.specs.declared.fault.LoadCause.{LoadCause}
use Rattle.iv_lines.specs.declared.fault.LoadCause.TheVariants as cause
use Rattle.iv_lines.specs.Genome.{Sequences}
use Rattle.iv_text.specs.BedFile.{Draft}

-- the width of a line's record: that of the first record, which is the number of its columns
abbrev pub width_at : Draft → List ℕ → ℕ
width_at d line = unwrap_or d.width (length (columns line))

-- what is known with one more record of this width, unless its line has a fault or there are as many as the limit
abbrev pub with_row : ℕ → ℕ → List RecordValue → Result RecordValue Fault → Result Draft LoadCause
with_row limit width records read =
    if_ok (map_fault cause.Record read) (λ r.
    cond (nat_le limit (length records)) (Err cause.TooMany) (Ok (record { width = Some width; records = records ++ r ∷ [] })))

-- what is known of a file is sound: its records are of its width on this genome, and not more than the limit
pub record IsSoundDraft (g : Sequences) (limit : ℕ) (d : Draft) : Type 0 where
  pub fit : MatchOption d.width (d.records ≡ []) (λ w. (3 ≤ w) × (w ≤ 6) × All (Fits g w) d.records)
  pub few : length d.records ≤ limit
