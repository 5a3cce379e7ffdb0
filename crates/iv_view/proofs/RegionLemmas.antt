-- The rows of a region: of written views record by record, and the records that cover its first position.
use Rattle.std.proofs.Common.{◌≡◌, ◌∙◌, ℕ, ◌+◌, ◌*◌, ◌<◌, ◌≤◌, ◌&&◌, ◌==◌, nat_lt, List, [], ◌∷◌, ◌++◌, true, ap, arith, length}
use Rattle.std.specs.List.{flat_map}
use Rattle.std.proofs.lemmas.Bool.{and_from, and_parts, lt-ltb, ltb-true}
use Rattle.std.proofs.lemmas.List.Sums.{length-filter}
use Rattle.std.proofs.lemmas.Grind.{flat_map-append}
use Rattle.iv_cover.specs.Depth.{depth}
use Rattle.iv_lines.specs.CoveredPositions.{covers}
use Rattle.iv_lines.proofs.ListLemmas.{filter-agree, filter-weaker, same_tests}
use Rattle.iv_lines.specs.Genome.{Sequences}
use Rattle.iv_lines.specs.RecordValue.{RecordValue}
use Rattle.iv_fasta.specs.Fasta.{Bases}
use Rattle.iv_pair.proofs.HitsLemmas.{covers_from, covers_parts}
use Rattle.iv_track.specs.Regions.{hits, longest, near, overlaps}
use Rattle.iv_track.specs.declared.region.Region.{Region}
use Rattle.iv_track.proofs.RegionLemmas.{overlaps_from, overlaps_parts}
use Rattle.iv_view.specs.Views.{written_rows}
use Rattle.iv_view.specs.declared.written_view.WrittenView.{WrittenView}

-- the rows of the first record are before those of the others
pub first-rows : (v : WrittenView) (g : Sequences) (r : RecordValue) (records second : List RecordValue) (bases : Bases)
    → flat_map (written_rows v g second bases) (r ∷ records) ≡ flat_map (written_rows v g second bases) (r ∷ []) ++ flat_map (written_rows v g second bases) records
first-rows v g r records second bases = flat_map-append (written_rows v g second bases) (r ∷ []) records

-- the records that share a position with an interval of one position are those that cover it
pub first-depth : (records : List RecordValue) (seq p : ℕ) → length (hits records seq p (p + 1)) ≡ depth records seq p
first-depth records seq p =
    ap {B = ℕ} (λ (l : List RecordValue). length l) (filter-agree (overlaps seq p (p + 1)) (covers seq p) records (λ q m. same_tests _ _ (to q) (back q)))
    ∙ length-filter (covers seq p) records
  where
    to : (q : RecordValue) → overlaps seq p (p + 1) q ≡ true → covers seq p q ≡ true
    to q is =
        let parts = overlaps_parts seq p (p + 1) q is in
        let low : q.start < p + 1 = parts.1 in
        covers_from seq p q parts.0 (omega (arith, low)) parts.2

    back : (q : RecordValue) → covers seq p q ≡ true → overlaps seq p (p + 1) q ≡ true
    back q is =
        let parts = covers_parts seq p q is in
        let low : q.start ≤ p = parts.1 in
        overlaps_from seq p (p + 1) q parts.0 (omega (arith, low)) parts.2

-- those near the first position of a region are near the region
pub near-first : (at : Region) (records : List RecordValue) → at.start < at.stop
    → length (near (record { seq = at.seq; start = at.start; stop = at.start + 1 }) records) ≤ length (near at records)
near-first at records some = filter-weaker
    (λ r. (r.seq == at.seq) && (nat_lt r.start (at.start + 1) && nat_lt at.start (r.start + 2 * longest records)))
    (λ r. (r.seq == at.seq) && (nat_lt r.start at.stop && nat_lt at.start (r.start + 2 * longest records))) records
    (λ q m is.
    let a = and_parts _ _ is in
    let b = and_parts _ _ a.1 in
    let low : q.start < at.start + 1 = ltb-true q.start (at.start + 1) b.0 in
    and_from _ _ a.0 (and_from _ _ (lt-ltb q.start at.stop (omega (arith, low, some))) b.1))
