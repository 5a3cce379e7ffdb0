-- A copy of the second file that has its intervals alone.
use Rattle.std.proofs.Common.{◌≡◌, ℕ, ◌||◌, [], ◌∷◌, ◌++◌, List, map, false, refl, sym, ap, ◌∙◌, append_assoc}
use Rattle.std.specs.Prelude.{codes, decimal}
use Rattle.std.proofs.lemmas.List.{map-append}
use Rattle.std.proofs.lemmas.List.Sums.{length-filter}
use Rattle.iv_lines.specs.CoveredPositions.{covers}
use Rattle.iv_lines.specs.Genome.{Sequences}
use Rattle.iv_lines.specs.RecordText.{record_text}
use Rattle.iv_lines.specs.RecordValue.{RecordValue}
use Rattle.iv_places.specs.Cover.{is_covered}
use Rattle.iv_lines.specs.Intervals.{bare}
use Rattle.iv_places.specs.Inside.Places.{place_at, record_at, records_at}
use Rattle.iv_places.specs.declared.placed_records.Place.{Place}
use Rattle.iv_places.proofs.BareLemmas.{count-bare}
use Rattle.iv_track.specs.Regions.{overlaps}
use Rattle.iv_pair.specs.PairRows.{pair_rows}
use Rattle.iv_pair.specs.declared.intersect.IntersectOutput.TheVariants.{Count}
use Rattle.iv_pair.specs.declared.pair_rows.PairOutput.TheVariants.{Intersect, Subtract}
use Rattle.iv_pair.specs.Inside.PairTexts.{NeedsIntervalsAlone}
use Rattle.iv_pair.proofs.CoverLemmas.{uncovered-alike}

-- ---- the copy is made

-- one record more is copied
pub copied-next : (ps : List Place) (r : RecordValue) (records rest whole : List RecordValue) → records ≡ r ∷ rest → records_at 3 [] ps ++ map bare records ≡ whole
    → records_at 3 [] (ps ++ place_at r 0 ∷ []) ++ map bare rest ≡ whole
copied-next ps r records rest whole first is =
    ap (λ (l : List RecordValue). l ++ map bare rest) (map-append (record_at 3 []) ps (place_at r 0 ∷ []))
    ∙ append_assoc (records_at 3 [] ps) (bare r ∷ []) (map bare rest)
    ∙ ap (λ (l : List RecordValue). records_at 3 [] ps ++ map bare l) (sym first)
    ∙ is

-- ---- what it shows

pub cover-bare : (records : List RecordValue) (seq p : ℕ) → is_covered (map bare records) seq p ≡ is_covered records seq p
cover-bare [] seq p = refl
cover-bare (r ∷ records) seq p = ap (λ b. covers seq p r || b) (cover-bare records seq p)

-- only intervals are looked at if hits are counted, or if maximal uncovered parts are put
pub counts-bare : (g : Sequences) (a : RecordValue) (records : List RecordValue) → pair_rows (Intersect Count) g a (map bare records) ≡ pair_rows (Intersect Count) g a records
counts-bare g a records =
    ap (λ n. record_text g a ++ (codes "\t" ++ (decimal n ++ codes "\n")))
    (length-filter (overlaps a.seq a.start a.stop) (map bare records)
    ∙ count-bare (overlaps a.seq a.start a.stop) records
    ∙ sym (length-filter (overlaps a.seq a.start a.stop) records))

pub counts-intervals : NeedsIntervalsAlone (Intersect Count)
counts-intervals second = λ g a some. counts-bare g a second

pub subtract-intervals : NeedsIntervalsAlone (Subtract false)
subtract-intervals second = λ g a some. uncovered-alike g a (map bare second) second (cover-bare second)
