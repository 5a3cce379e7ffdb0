-- What contracts see of a record, and the order of a track. A `RecordValue` is the value of the program's `Record` and `RecordRef`;
-- a row that a view prints is a text.
use Rattle.std.specs.Prelude.{◌≡◌, ◌<◌, ◌^◌, ℕ, ◌==◌, cond, List, [], ◌∷◌, Option, None, Some}
use Rattle.std.specs.Option.{option_cmp}
use Rattle.std.specs.declared.cmp.Ordering.{Ordering}
use Rattle.std.specs.Ordering.{nat_cmp, ordering_then}
use Rattle.std.specs.Cmp.{IsTotalOrder, nat_cmp_total, on_total, then_total}
use Rattle.std.specs.Cmp.Lexicographic.{slice_cmp, nat_list_cmp_total, options_total}
use Rattle.iv_lines.specs.Bytes.{plus_sign, minus_sign, full_stop}
use Rattle.iv_lines.specs.declared.record_ref.Strand.{Strand}
use Rattle.iv_lines.specs.declared.record_ref.Strand.TheVariants.{Plus, Minus, Dot}

-- the rank of the sequence, the interval, and the columns after the third: those beyond the width are empty
pub record RecordValue : Type 0 where
  pub seq : ℕ
  pub start : ℕ
  pub stop : ℕ
  pub name : List ℕ
  pub score : List ℕ
  pub strand : Option Strand
  pub width : ℕ

-- what each record is: it has a base, and the columns beyond its width are empty
pub record IsRecord (r : RecordValue) : Type 0 where
  pub some : r.start < r.stop
  pub no_name : r.width < 4 → r.name ≡ []
  pub no_score : r.width < 5 → r.score ≡ []
  pub no_strand : r.width < 6 → r.strand ≡ None

-- the record has a base, and its rank and its stop are numbers of 32 bits
pub record IsPlaced (r : RecordValue) : Type 0 where
  pub some : r.start < r.stop
  pub sequence : r.seq < 2 ^ 32
  pub stop : r.stop < 2 ^ 32

-- the part of a record from one position to another, which is not included, with its other columns
abbrev pub part : RecordValue → ℕ → ℕ → RecordValue
part r start stop = record r { start = start; stop = stop }

-- the strand that a column of one byte means, if it means one
abbrev pub strand_of : List ℕ → Option Strand
strand_of [] = None
strand_of (b ∷ []) = cond (b == plus_sign) (Some Plus) (cond (b == minus_sign) (Some Minus) (cond (b == full_stop) (Some Dot) None))
strand_of (b ∷ c ∷ bs) = None

-- the byte that means a strand
abbrev pub strand_byte : Strand → ℕ
strand_byte Plus = plus_sign
strand_byte Minus = minus_sign
strand_byte Dot = full_stop

-- the order of a track: by rank, start, stop, and then by the bytes of name, of score, of strand. Of two widths the less is first
abbrev pub record_cmp : RecordValue → RecordValue → Ordering
record_cmp a b =
    ordering_then (nat_cmp a.seq b.seq)
    (ordering_then (nat_cmp a.start b.start)
    (ordering_then (nat_cmp a.stop b.stop)
    (ordering_then (slice_cmp nat_cmp a.name b.name)
    (ordering_then (slice_cmp nat_cmp a.score b.score)
    (ordering_then (option_cmp (λ s t. nat_cmp (strand_byte s) (strand_byte t)) a.strand b.strand)
    (nat_cmp a.width b.width))))))

-- the order of a track is a total order
pub records_total : IsTotalOrder record_cmp
records_total =
    then_total (on_total (λ (r : RecordValue). r.seq) nat_cmp_total)
    (then_total (on_total (λ (r : RecordValue). r.start) nat_cmp_total)
    (then_total (on_total (λ (r : RecordValue). r.stop) nat_cmp_total)
    (then_total (on_total (λ (r : RecordValue). r.name) nat_list_cmp_total)
    (then_total (on_total (λ (r : RecordValue). r.score) nat_list_cmp_total)
    (then_total (on_total (λ (r : RecordValue). r.strand) (options_total (on_total strand_byte nat_cmp_total)))
    (on_total (λ (r : RecordValue). r.width) nat_cmp_total))))))
