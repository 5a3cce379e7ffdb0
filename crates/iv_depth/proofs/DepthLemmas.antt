-- The records' depth, and its changes.
use Rattle.std.proofs.Common.{◌≡◌, ℕ, ◌+◌, ◌*◌, ◌<◌, ◌≤◌, ◌^◌, List, [], ◌∷◌, refl, sym, ◌∙◌, ap, subst, arith, leb, true, false, Bool, ◌&&◌, cond, get_or, length, inl, inr}
use Rattle.std.specs.Prelude.{pos, All}
use lib.IntN.{nat_abs}
use Rattle.std.proofs.lemmas.Bool.{le-ltb}
use Rattle.std.proofs.lemmas.Bool.Decides.{eqb_tells}
use Rattle.std.proofs.lemmas.List.Elements.{All-head, All-tail}
use Rattle.std.proofs.lemmas.List.Sums.{count_by-le-length}
use Rattle.std.specs.Ordering.{is_le}
use Rattle.iv_lines.specs.Genome.{Sequences, seq_count, sequence_name, sequence_length}
use Rattle.iv_lines.specs.Ordered.{added}
use Rattle.std.specs.List.{AllByRecursion}
use Rattle.iv_lines.specs.Read.{Fits, IsOnGenome}
use Rattle.iv_lines.specs.RecordValue.{RecordValue, record_cmp}
use Rattle.iv_lines.proofs.OrderedLemmas.{length-added}
use Rattle.iv_lines.specs.CoveredPositions.{covers}
use Rattle.iv_cover.specs.Depth.{depth}
use Rattle.iv_depth.specs.Changes.{Entries, AreChangesOf}
use Rattle.iv_depth.specs.Inside.Changes.{AreChanges}
use Rattle.iv_depth.specs.Inside.Region.{AreChangesOn}
use Rattle.iv_depth.specs.DepthRows.{covered_runs, all_covered_runs, depth_text}
use Rattle.iv_depth.specs.Inside.Texts.{text_by}
use Rattle.iv_depth.specs.RegionRows.{covered_runs_in, rows_in, depth_text_in}
use Rattle.iv_depth.specs.declared.depth_rows.DepthOutput.{DepthOutput}
use Rattle.iv_depth.specs.Inside.Walks.{on, AreAhead, depth_by}
use Rattle.iv_cover.proofs.RunsLemmas.{runs-none}
use Rattle.iv_cover.proofs.DepthLemmas.{depth-cons}
use Rattle.iv_depth.proofs.Sequences.{AreAhead-begin}
use Rattle.iv_depth.proofs.Breaks.{AreBreaks-on, Follows-on}
use Rattle.iv_depth.proofs.Counts.{breaks-few, entries-few}

-- ---- the depth is the same whatever the order of the records

-- the changes of records are those of others of the same depth
AreChangesOf-same : (xs ys : List RecordValue) (entries : Entries) → ((seq p : ℕ) → depth ys seq p ≡ depth xs seq p) → AreChangesOf xs entries → AreChangesOf ys entries
AreChangesOf-same xs ys entries same h = record {
  ordered = h.ordered;
  changes = h.changes;
  depths = λ seq p. h.depths seq p ∙ ap pos (sym (same seq p));
}

depth-with : (records : List RecordValue) (r : RecordValue) (seq p : ℕ) → depth (added records r) seq p ≡ depth (r ∷ records) seq p
depth-with [] r seq p = refl
depth-with (q ∷ records) r seq p = go (is_le (record_cmp r q)) refl (depth-with records r seq p)
  where
    go : (b : Bool) → is_le (record_cmp r q) ≡ b → depth (added records r) seq p ≡ depth (r ∷ records) seq p → depth (added (q ∷ records) r) seq p ≡ depth (r ∷ q ∷ records) seq p
    go true is rest = rw is refl
    go false is rest =
        let kept : depth (q ∷ added records r) seq p ≡ depth (r ∷ q ∷ records) seq p = omega (
          arith,
          rest,
          depth-cons q (added records r) seq p,
          depth-cons r records seq p,
          depth-cons r (q ∷ records) seq p,
          depth-cons q records seq p,
        ) in
        rw is kept

-- a record in its place, or in front
pub AreChangesOf-placed : (records : List RecordValue) (r : RecordValue) (entries : Entries) → AreChangesOf (r ∷ records) entries → AreChangesOf (added records r) entries
AreChangesOf-placed records r entries h = AreChangesOf-same (r ∷ records) (added records r) entries (depth-with records r) h

pub AreChangesOf-in_front : (records : List RecordValue) (r : RecordValue) (entries : Entries) → AreChangesOf (added records r) entries → AreChangesOf (r ∷ records) entries
AreChangesOf-in_front records r entries h = AreChangesOf-same (added records r) (r ∷ records) entries (λ seq p. sym (depth-with records r seq p)) h

-- ---- the depth of records on a genome

-- past the stops there is no depth
pub depth-past : (records : List RecordValue) (seq to p : ℕ) → All (λ r. r.seq ≡ seq → r.stop ≤ to) records → to ≤ p → depth records seq p ≡ 0
depth-past [] seq to p fit past = refl
depth-past (r ∷ records) seq to p fit past =
    let rest : depth records seq p ≡ 0 = depth-past records seq to p (All-tail (λ (r : RecordValue). r.seq ≡ seq → r.stop ≤ to) r records fit) past in
    let first : r.seq ≡ seq → r.stop ≤ to = All-head (λ (r : RecordValue). r.seq ≡ seq → r.stop ≤ to) r records fit in
    let cases = eqb_tells r.seq seq in
    let none : cond {A = ℕ} (covers seq p r) 1 0 ≡ 0 = elim cases [
      | inl here ↦ let stops : r.stop ≤ to = first here.1 in
          rw (here.0, le-ltb p r.stop (omega arith)) (cond-and_false (leb r.start p))
      | inr off ↦ rw off.0 refl
    ] in
    omega (arith, depth-cons r records seq p)
  where
    cond-and_false : (b : Bool) → cond {A = ℕ} (b && false) 1 0 ≡ 0
    cond-and_false true = refl
    cond-and_false false = refl

pub depth-ends : (g : Sequences) (records : List RecordValue) → All (IsOnGenome g) records → (seq p : ℕ) → sequence_length g seq ≤ p → depth records seq p ≡ 0
depth-ends g records on_genome seq p past = depth-past records seq (sequence_length g seq) p
    (λ k d within is. subst (λ (s : ℕ). (get_or records k d).stop ≤ sequence_length g s) is (on_genome k d within).within.1) past

any-seq : (entries : Entries) → AllByRecursion (λ e. 0 ≤ e.0.0) entries
any-seq [] = tt
any-seq (e ∷ entries) = (omega arith, any-seq entries)

module _ (g : Sequences) (width : ℕ) (records : List RecordValue) (entries : Entries) (fit : All (Fits g width) records) (h : AreChangesOf records entries) where
  pub depth-by : (seq p : ℕ) → depth_by entries seq p ≡ depth records seq p
  depth-by seq p = ap nat_abs (h.depths seq p)

  ends : (seq p : ℕ) → sequence_length g seq ≤ p → depth records seq p ≡ 0
  ends = depth-ends g records (λ k d within. (fit k d within).is_placed)

  -- all of them are ahead of a print
  pub AreAhead-of : length records < 2 ^ 32 → AreAhead g (depth_by entries) 0 0 0 entries
  AreAhead-of few = AreAhead-begin g (depth_by entries) 0 entries h.ordered h.changes (any-seq entries)
      (λ seq p low. h.depths seq p ∙ ap pos (sym (depth-by seq p)))
      (λ seq p. let low : depth records seq p ≤ length records = count_by-le-length (covers seq p) records in omega (arith, depth-by seq p, low))
      (λ seq p past. depth-by seq p ∙ ends seq p past)

  -- the text by changes is that of the definition
  pub text-of : (output : DepthOutput) → text_by output g (depth_by entries) ≡ depth_text output g records
  text-of output = ap (text_by output g) (λ k seq p. depth-by seq p k)

  -- those of one sequence
  pub AreChangesOn-of : length records < 2 ^ 32 → (seq : ℕ) → AreChangesOn (depth_by entries seq) seq (sequence_length g seq) entries
  AreChangesOn-of few seq = record {
    ordered = h.ordered;
    changes = h.changes;
    depths = λ p. h.depths seq p ∙ ap pos (sym (depth-by seq p));
    small = λ p. let low : depth records seq p ≤ length records = count_by-le-length (covers seq p) records in omega (arith, depth-by seq p, low);
    ends = λ p past. depth-by seq p ∙ ends seq p past;
  }

  pub text_in-of : (output : DepthOutput) (seq start stop : ℕ)
      → rows_in output (sequence_name g seq) (depth_by entries seq) (sequence_length g seq) start stop ≡ depth_text_in output g records seq start stop
  text_in-of output seq start stop = ap (λ (f : ℕ → ℕ). rows_in output (sequence_name g seq) f (sequence_length g seq) start stop) (λ k p. depth-by seq p k)

  pub covered_in-of : (seq start stop : ℕ)
      → length (covered_runs_in (depth_by entries seq) (sequence_length g seq) start stop) ≡ length (covered_runs_in (depth records seq) (sequence_length g seq) start stop)
  covered_in-of seq start stop = ap (λ (f : ℕ → ℕ). length (covered_runs_in f (sequence_length g seq) start stop)) (λ k p. depth-by seq p k)

  -- two changes for each row of a depth above 0
  pub entries-of : length entries ≤ 2 * length (all_covered_runs g records)
  entries-of = entries-few entries (λ seq. covered_runs (depth records seq) 0 (sequence_length g seq)) (seq_count g)
      (λ seq. breaks-few (depth records seq) (sequence_length g seq) (on seq entries)
      (AreBreaks-on seq (sequence_length g seq) entries h.ordered h.changes (λ p past. h.depths seq p ∙ ap pos (ends seq p past)))
      (Follows-on seq (depth records seq) entries (h.depths seq)) (ends seq))
      (λ seq high.
      let none : (p : ℕ) → 0 ≤ p → depth records seq p ≡ 0 = λ p past. depth-past records seq 0 p
      (λ k d within is. let low : (get_or records k d).seq < length g = (fit k d within).is_placed.within.0 in absurd (omega (arith, low, is))) past in
      let few : length (on seq entries) ≤ 2 * length (covered_runs (depth records seq) 0 0) = breaks-few (depth records seq) 0 (on seq entries)
      (AreBreaks-on seq 0 entries h.ordered h.changes (λ p past. h.depths seq p ∙ ap pos (none p past)))
      (Follows-on seq (depth records seq) entries (h.depths seq)) none in
      let empty : length (covered_runs (depth records seq) 0 0) ≡ 0 = rw (runs-none (depth records seq) 0 0 (omega arith)) refl in
      omega (arith, few, empty))

-- ---- before an edit

pub AreChanges-without : (records others : List RecordValue) (r : RecordValue) (entries : Entries) → records ≡ added others r → length records < 2 ^ 32
    → AreChangesOf others entries → AreChanges entries
AreChanges-without records others r entries is few h = record {
  records = others;
  right = h;
  few = omega (arith, few, ap (λ (l : List RecordValue). length l) is, length-added record_cmp others r);
}

pub AreChanges-with : (records : List RecordValue) (r : RecordValue) (entries : Entries) → length records + 1 < 2 ^ 32 → AreChangesOf (added records r) entries → AreChanges entries
AreChanges-with records r entries few h = record {
  records = added records r;
  right = h;
  few = omega (arith, few, length-added record_cmp records r);
}
