-- What rows need of the second list.
use Rattle.std.proofs.Common.{◌≡◌, ℕ, ◌+◌, ◌<◌, ◌==◌, ◌||◌, not, Bool, true, false, cond, List, [], ◌∷◌, refl, sym, ap, ◌∙◌, arith, zero-add}
use Rattle.std.specs.List.{flat_map, list_any}
use Rattle.std.proofs.lemmas.Bool.{false≢true, ne_eqb}
use Rattle.iv_lines.specs.Genome.{Sequences}
use Rattle.iv_lines.specs.RecordValue.{RecordValue, part}
use Rattle.iv_lines.specs.CoveredPositions.{covers}
use Rattle.iv_cover.specs.Depth.{depth}
use Rattle.iv_cover.specs.Runs.{Run}
use Rattle.iv_cover.proofs.DepthLemmas.{depth-cons}
use Rattle.iv_lines.proofs.ListLemmas.{all-mem, any-found, any-at, same_tests}
use Rattle.iv_places.specs.Cover.{is_covered}
use Rattle.iv_track.specs.Regions.{overlaps}
use Rattle.iv_pair.specs.Hits.{hits_of}
use Rattle.iv_pair.specs.IntersectRows.{intersect_rows, record_line}
use Rattle.iv_pair.specs.PairRows.{pair_rows}
use Rattle.iv_pair.specs.declared.intersect.IntersectOutput.TheVariants.{IfHit, IfNoHit}
use Rattle.iv_pair.specs.declared.pair_rows.PairOutput.{PairOutput}
use Rattle.iv_pair.specs.declared.pair_rows.PairOutput.TheVariants.{Intersect, Subtract}
use Rattle.iv_pair.proofs.HitsLemmas.{overlap-means}
use Rattle.iv_pair.specs.CoverAlone.{HaveBases, CoverAlike, DependsOnCoverAlone, needs_cover_alone}
use Rattle.iv_pair.proofs.EmptyAlike.{empty-alike}

-- whether a record has a hit
abbrev has_hit : List RecordValue → RecordValue → Bool
has_hit records a = list_any (overlaps a.seq a.start a.stop) records

any-line : (g : Sequences) (a : RecordValue) (records : List RecordValue) → intersect_rows IfHit g a (hits_of records a) ≡ cond (has_hit records a) (record_line g a) []
any-line g a [] = refl
any-line g a (q ∷ records) = elim (overlaps a.seq a.start a.stop q) as (λ c. intersect_rows IfHit g a (cond c (q ∷ hits_of records a) (hits_of records a)) ≡ cond (c || has_hit records a) (record_line g a) []) [
  | true ↦ refl
  | false ↦ any-line g a records
]

none-line : (g : Sequences) (a : RecordValue) (records : List RecordValue) → intersect_rows IfNoHit g a (hits_of records a) ≡ cond (has_hit records a) [] (record_line g a)
none-line g a [] = refl
none-line g a (q ∷ records) = elim (overlaps a.seq a.start a.stop q) as (λ c. intersect_rows IfNoHit g a (cond c (q ∷ hits_of records a) (hits_of records a)) ≡ cond (c || has_hit records a) [] (record_line g a)) [
  | true ↦ refl
  | false ↦ none-line g a records
]

-- a hit in one list is one in another that covers the same
hit-alike : (second other : List RecordValue) (a : RecordValue) → a.start < a.stop → HaveBases second → HaveBases other → CoverAlike second other → has_hit second a ≡ true → has_hit other a ≡ true
hit-alike second other a some bases others alike hit =
    let q = any-found (overlaps a.seq a.start a.stop) second hit in
    let at = (overlap-means a.seq a.start a.stop q.0 some (all-mem (λ (r : RecordValue). r.start < r.stop) second bases q.0 q.1)).0 q.2 in
    let there = any-found (covers a.seq at.0) other (sym (alike a.seq at.0) ∙ any-at (covers a.seq at.0) second q.0 q.1 at.3) in
    any-at (overlaps a.seq a.start a.stop) other there.0 there.1
    ((overlap-means a.seq a.start a.stop there.0 some (all-mem (λ (r : RecordValue). r.start < r.stop) other others there.0 there.1)).1 (at.0, at.1, at.2, there.2))

hits-alike : (second other : List RecordValue) (a : RecordValue) → a.start < a.stop → HaveBases second → HaveBases other → CoverAlike second other → has_hit second a ≡ has_hit other a
hits-alike second other a some bases others alike =
    same_tests (has_hit second a) (has_hit other a) (hit-alike second other a some bases others alike) (hit-alike other second a some others bases (λ seq p. sym (alike seq p)))

-- a position has depth 0 exactly if no record covers it
depth-zero : (records : List RecordValue) (seq p : ℕ) → (depth records seq p == 0) ≡ not (is_covered records seq p)
depth-zero [] seq p = refl
depth-zero (q ∷ records) seq p =
    ap (λ n. n == 0) (depth-cons q records seq p)
    ∙ (elim (covers seq p q) as (λ c. (cond c 1 0 + depth records seq p == 0) ≡ not (c || is_covered records seq p)) [
      | true ↦ ne_eqb (1 + depth records seq p) 0 (λ e. absurd (omega arith))
      | false ↦ ap (λ n. n == 0) (zero-add (depth records seq p)) ∙ depth-zero records seq p
    ])

pub uncovered-alike : (g : Sequences) (a : RecordValue) (second other : List RecordValue) → CoverAlike second other → pair_rows (Subtract false) g a second ≡ pair_rows (Subtract false) g a other
uncovered-alike g a second other alike =
    ap (flat_map (λ (run : Run). record_line g (part a run.start run.stop)))
    (empty-alike (depth second a.seq) (depth other a.seq) (λ p. depth-zero second a.seq p ∙ ap not (alike a.seq p) ∙ sym (depth-zero other a.seq p)) a.start a.stop)

-- the rows of one record
pub rows-alike : (output : PairOutput) → needs_cover_alone output ≡ true → DependsOnCoverAlone output
rows-alike (Intersect IfHit) is second other bases others alike g a some =
    any-line g a second ∙ ap (λ b. cond b (record_line g a) []) (hits-alike second other a some bases others alike) ∙ sym (any-line g a other)
rows-alike (Intersect IfNoHit) is second other bases others alike g a some =
    none-line g a second ∙ ap (λ b. cond b [] (record_line g a)) (hits-alike second other a some bases others alike) ∙ sym (none-line g a other)
rows-alike (Subtract true) is second other bases others alike g a some =
    none-line g a second ∙ ap (λ b. cond b [] (record_line g a)) (hits-alike second other a some bases others alike) ∙ sym (none-line g a other)
rows-alike (Subtract false) is second other bases others alike g a some = uncovered-alike g a second other alike
rows-alike output is second other bases others alike g a some = absurd (false≢true is)
