-- A record as it is printed.
use Rattle.std.specs.Prelude.{ℕ, ◌++◌, ◌-◌, cond, nat_le, List, [], ◌∷◌, Option, None, Some, take, codes, decimal}
use Rattle.std.specs.List.{flat_map}
use Rattle.iv_lines.specs.Fields.{columns}
use Rattle.iv_lines.specs.Genome.{Sequences, sequence_name}
use Rattle.iv_lines.specs.Read.{column}
use Rattle.iv_lines.specs.RecordValue.{RecordValue, strand_byte, strand_of}
use Rattle.iv_lines.specs.declared.record_ref.Strand.{Strand}

-- the sixth column of a record with this strand
abbrev pub strand_text : Option Strand → List ℕ
strand_text None = []
strand_text (Some s) = strand_byte s ∷ []

-- the columns of a record after the third, each with a TAB in front of it
abbrev pub rest_text : RecordValue → List ℕ
rest_text r = flat_map (λ column. codes "\t" ++ column) (take (r.width - 3) (r.name ∷ r.score ∷ strand_text r.strand ∷ []))

-- the columns of an interval: the name of its sequence, start and stop, with a TAB between two of them
abbrev pub interval_text : List ℕ → ℕ → ℕ → List ℕ
interval_text name start stop = name ++ codes "\t" ++ decimal start ++ codes "\t" ++ decimal stop

-- the columns of a record on this genome, with a TAB between two of them
abbrev pub record_text : Sequences → RecordValue → List ℕ
record_text g r =
    (sequence_name g r.seq ++ codes "\t" ++ decimal r.start ++ codes "\t" ++ decimal r.stop)
    ++ flat_map (λ column. codes "\t" ++ column) (take (r.width - 3) (r.name ∷ r.score ∷ strand_text r.strand ∷ []))

-- the record of this interval whose columns after the third are those of a text, as far as the width goes
abbrev pub joined_record : ℕ → ℕ → ℕ → List ℕ → ℕ → RecordValue
joined_record seq start stop text width = record {
  seq = seq;
  start = start;
  stop = stop;
  name = cond (nat_le 4 width) (column (columns text) 0) [];
  score = cond (nat_le 5 width) (column (columns text) 1) [];
  strand = cond (nat_le 6 width) (strand_of (column (columns text) 2)) None;
  width = width;
}
