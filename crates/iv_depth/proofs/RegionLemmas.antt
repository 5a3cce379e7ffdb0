-- The rows of a region, run by run, and the steps that they take.
use Rattle.std.proofs.Common.{◌≡◌, ◌≢◌, ℕ, zero, suc, ◌+◌, ◌-◌, ◌*◌, ◌<◌, ◌≤◌, max, min, List, [], ◌∷◌, ◌++◌, ◌⊎◌, inl, inr, refl, sym, ◌∙◌, ap, arith, filter, length, nat_lt, Bool, true, false, cond, ◌&&◌}
use Rattle.std.specs.Prelude.{ℤ, pos}
use Rattle.std.specs.List.{flat_map, range_with_len}
use Rattle.std.proofs.lemmas.Bool.{cases_lt, lt-ltb, le-ltb}
use Rattle.std.proofs.Math.Bool.{and-false}
use Rattle.iv_cover.specs.Runs.{Run, runs, Tiles}
use Rattle.iv_cover.proofs.RunsLemmas.{runs-run, runs-none, Tiles-runs, Tiles-only}
use Rattle.iv_depth.specs.Changes.{Entries}
use Rattle.iv_depth.specs.DepthRows.{run_row, position_row, covered_runs}
use Rattle.iv_depth.specs.RegionRows.{run_shares, covered_runs_in, rows_in}
use Rattle.iv_depth.specs.Inside.Region.{IsRunStart, AreLeft, EndsRun, IsWalking}
use Rattle.iv_depth.specs.Inside.RunRows.{run_rows, rows_from, covered_from}
use Rattle.iv_depth.specs.declared.depth_rows.DepthOutput.{DepthOutput}
use Rattle.iv_depth.specs.declared.depth_rows.DepthOutput.TheVariants.{Covered, All, EachPosition}
use Rattle.iv_depth.proofs.Stretches.{rows-bare, rows-covered, rows-one, each-split}

-- ---- filters of runs

filter-both : (p q : Run → Bool) (xs : List Run) → filter p (filter q xs) ≡ filter (λ x. q x && p x) xs
filter-both p q [] = refl
filter-both p q (x ∷ xs) = go (q x) refl (filter-both p q xs)
  where
    go : (b : Bool) → q x ≡ b → filter p (filter q xs) ≡ filter (λ x. q x && p x) xs → filter p (filter q (x ∷ xs)) ≡ filter (λ x. q x && p x) (x ∷ xs)
    go true is rest = rw is (ap (λ (l : List Run). cond (p x) (x ∷ l) l) rest)
    go false is rest = rw is rest

module _ (t : Run → Bool) (start stop : ℕ) (before : (x : Run) → x.stop ≤ start → t x ≡ false) (after : (x : Run) → stop ≤ x.start → t x ≡ false) (f : ℕ → ℕ) where
  none-after : (from to : ℕ) (xs : List Run) → Tiles f from to xs → stop ≤ from → filter t xs ≡ []
  none-after from to [] h past = refl
  none-after from to (x ∷ xs) h past =
      let off : t x ≡ false = after x (omega (arith, h.0, past)) in
      rw off (none-after x.stop to xs h.4 (omega (arith, h.0, h.1, past)))

  runs-after : (here long : ℕ) → stop ≤ here → filter t (runs f here long) ≡ []
  runs-after here long past = go (cases_lt long here)
    where
      go : (long < here) ⊎ (here ≤ long) → filter t (runs f here long) ≡ []
      go (inl none) = ap (filter t) (runs-none f here long (omega (arith, none)))
      go (inr some) = none-after here long (runs f here long) (Tiles-runs f here long some) past

  -- the runs before the one that starts at s are before the region
  tiles-skip : (from to s : ℕ) (xs : List Run) → Tiles f from to xs → from ≤ s → s < to → ((q : ℕ) → q + 1 ≡ s → f q ≢ f s) → s ≤ start
      → filter t xs ≡ filter t (runs f s to)
  tiles-skip from to s [] h low high other near = absurd (omega (arith, h, low, high))
  tiles-skip from to s (x ∷ xs) h low high other near = go (cases_lt from s) (cases_lt s x.stop) (λ past. tiles-skip x.stop to s xs h.4 past high other near)
    where
      go : (from < s) ⊎ (s ≤ from) → (s < x.stop) ⊎ (x.stop ≤ s) → (x.stop ≤ s → filter t xs ≡ filter t (runs f s to))
          → filter t (x ∷ xs) ≡ filter t (runs f s to)
      go (inr here) any rest =
          let e : from ≡ s = omega (arith, low, here) in
          ap (filter t) (Tiles-only f from to (x ∷ xs) h ∙ ap (λ (k : ℕ). runs f k to) e)
      go (inl earlier) (inr past) rest =
          let off : t x ≡ false = before x (omega (arith, past, near)) in
          rw off (rest past)
      go (inl earlier) (inl within) rest =
          let begins : x.start ≡ from = h.0 in
          let q : ℕ = s - 1 in
          let last : f q ≡ x.value = h.2 q (omega (arith, begins, earlier)) (omega (arith, within)) in
          let next : f s ≡ x.value = h.2 s (omega (arith, begins, earlier)) within in
          absurd (other q (omega (arith, earlier)) (last ∙ sym next))

  runs-skip : (long s : ℕ) → s < long → ((q : ℕ) → q + 1 ≡ s → f q ≢ f s) → s ≤ start → filter t (runs f 0 long) ≡ filter t (runs f s long)
  runs-skip long s high other near = tiles-skip 0 long s (runs f 0 long) (Tiles-runs f 0 long (omega arith)) (omega arith) high other near

-- ---- the runs that share a position with the region

shares-before : (start stop : ℕ) (x : Run) → x.stop ≤ start → run_shares start stop x ≡ false
shares-before start stop x low =
    let off : nat_lt start x.stop ≡ false = le-ltb start x.stop low in
    rw off (and-false (nat_lt x.start stop))

shares-after : (start stop : ℕ) (x : Run) → stop ≤ x.start → run_shares start stop x ≡ false
shares-after start stop x high =
    let off : nat_lt x.start stop ≡ false = le-ltb x.start stop high in
    rw off refl

abbrev both : ℕ → ℕ → Run → Bool
both start stop run = nat_lt 0 run.value && run_shares start stop run

both-before : (start stop : ℕ) (x : Run) → x.stop ≤ start → both start stop x ≡ false
both-before start stop x low = rw (shares-before start stop x low) (and-false (nat_lt 0 x.value))

both-after : (start stop : ℕ) (x : Run) → stop ≤ x.start → both start stop x ≡ false
both-after start stop x high = rw (shares-after start stop x high) (and-false (nat_lt 0 x.value))

module _ (f : ℕ → ℕ) (long start stop : ℕ) where
  shared-skip : (s : ℕ) → s < long → IsRunStart f start s → filter (run_shares start stop) (runs f 0 long) ≡ filter (run_shares start stop) (runs f s long)
  shared-skip s high begins = runs-skip (run_shares start stop) start stop (shares-before start stop) (shares-after start stop) f long s high begins.other begins.low

  covered-skip : (s : ℕ) → s < long → IsRunStart f start s → covered_runs_in f long start stop ≡ covered_from f long start stop s
  covered-skip s high begins =
      filter-both (run_shares start stop) (λ run. nat_lt 0 run.value) (runs f 0 long)
      ∙ runs-skip (both start stop) start stop (both-before start stop) (both-after start stop) f long s high begins.other begins.low
      ∙ sym (filter-both (run_shares start stop) (λ run. nat_lt 0 run.value) (runs f s long))

  covered-after : (here : ℕ) → stop ≤ here → covered_from f long start stop here ≡ []
  covered-after here past =
      filter-both (run_shares start stop) (λ run. nat_lt 0 run.value) (runs f here long)
      ∙ runs-after (both start stop) start stop (both-before start stop) (both-after start stop) f here long past

  -- at the run that holds the first position
  pub rows-begin : (output : DepthOutput) (name : List ℕ) (s : ℕ) → s < long → IsRunStart f start s → rows_in output name f long start stop ≡ rows_from output name f long start stop s
  rows-begin Covered name s high begins = ap (flat_map (run_row name)) (covered-skip s high begins)
  rows-begin All name s high begins = ap (flat_map (run_row name)) (shared-skip s high begins)
  rows-begin EachPosition name s high begins =
      let e : max s start ≡ start = omega (arith, begins.low) in
      rw e refl

  -- past the region
  pub rows-past : (output : DepthOutput) (name : List ℕ) (here : ℕ) → stop ≤ here → rows_from output name f long start stop here ≡ []
  rows-past Covered name here past = ap (flat_map (run_row name)) (covered-after here past)
  rows-past All name here past =
      ap (flat_map (run_row name)) (runs-after (run_shares start stop) start stop (shares-before start stop) (shares-after start stop) f here long past)
  rows-past EachPosition name here past =
      let none : stop - max here start ≡ zero = omega (arith, past) in
      rw none refl

-- ---- one run

row-kept : (feature : Run → List ℕ) (t : Run → Bool) (x : Run) (xs : List Run) → t x ≡ true → flat_map feature (filter t (x ∷ xs)) ≡ feature x ++ flat_map feature (filter t xs)
row-kept feature t x xs is = rw is refl

kept-length : (t : Run → Bool) (x : Run) (xs : List Run) → t x ≡ true → length (filter t (x ∷ xs)) ≡ length (filter t xs) + 1
kept-length t x xs is = rw is (omega arith)

module _ (f : ℕ → ℕ) (seq long start stop here value to : ℕ) (change : ℤ) (entries : Entries)
    (some : start < stop) (within : stop ≤ long) (near : here < stop)
    (same : (q : ℕ) → here ≤ q → q ≤ start → f q ≡ value) (e : EndsRun f seq here long value to change entries) where
  abbrev run : Run
  run = record { start = here; stop = to; value = value }

  -- the run holds a position of the region
  crosses : start < to
  crosses = go (cases_lt start to)
    where
      go : (start < to) ⊎ (to ≤ start) → start < to
      go (inl past) = past
      go (inr short) =
          let o = e.other (omega (arith, short, some, within)) in
          absurd (o.0 (sym (same to (omega (arith, e.low)) short) ∙ o.1))

  shares-run : run_shares start stop run ≡ true
  shares-run =
      let a : nat_lt here stop ≡ true = lt-ltb here stop near in
      let b : nat_lt start to ≡ true = lt-ltb start to crosses in
      rw (a, b) refl

  runs-here : runs f here long ≡ run ∷ runs f to long
  runs-here = runs-run f here to long value e.low e.high e.same (λ more same. let o = e.other more in o.0 (same ∙ o.1))

  covered-bare : value ≡ 0 → covered_runs f here long ≡ covered_runs f to long
  covered-bare none =
      let off : nat_lt 0 value ≡ false = le-ltb 0 value (omega (arith, none)) in
      ap (filter (λ run. nat_lt 0 run.value)) runs-here ∙ rw off refl

  covered-here : value ≢ 0 → covered_runs f here long ≡ run ∷ covered_runs f to long
  covered-here other =
      let on : nat_lt 0 value ≡ true = lt-ltb 0 value (omega (arith, other)) in
      ap (filter (λ run. nat_lt 0 run.value)) runs-here ∙ rw on refl

  count-bare : value ≡ 0 → length (covered_from f long start stop here) ≡ length (covered_from f long start stop to)
  count-bare none = ap (λ (l : List Run). length (filter (run_shares start stop) l)) (covered-bare none)

  count-here : value ≢ 0 → length (covered_from f long start stop here) ≡ length (covered_from f long start stop to) + 1
  count-here other =
      ap (λ (l : List Run). length (filter (run_shares start stop) l)) (covered-here other)
      ∙ kept-length (run_shares start stop) run (covered_runs f to long) shares-run

  positions : (feature : ℕ → ℕ → List ℕ)
      → flat_map (λ q. feature q (f q)) (range_with_len (max here start) (stop - max here start))
      ≡ flat_map (λ q. feature q value) (range_with_len (max here start) (min to stop - max here start)) ++ flat_map (λ q. feature q (f q)) (range_with_len (max to start) (stop - max to start))
  positions feature =
      each-split feature f value (max here start) (min to stop) stop (omega (arith, e.low, near, crosses, some)) (omega arith) (λ q low high. e.same q (omega (arith, low)) (omega (arith, high)))
      ∙ ap (λ (l : List ℕ). flat_map (λ q. feature q value) (range_with_len (max here start) (min to stop - max here start)) ++ l) (tail (cases_lt stop to))
    where
      tail : (stop < to) ⊎ (to ≤ stop)
          → flat_map (λ q. feature q (f q)) (range_with_len (min to stop) (stop - min to stop)) ≡ flat_map (λ q. feature q (f q)) (range_with_len (max to start) (stop - max to start))
      tail (inl beyond) =
          let a : stop - min to stop ≡ zero = omega (arith, beyond) in
          let b : stop - max to start ≡ zero = omega (arith, beyond) in
          rw (a, b) refl
      tail (inr inside) =
          let a : min to stop ≡ to = omega (arith, inside) in
          let b : max to start ≡ to = omega (arith, crosses) in
          rw (a, b) refl

  -- its rows are the next
  pub rows-run : (output : DepthOutput) (name : List ℕ) → rows_from output name f long start stop here ≡ run_rows output name value start stop here to ++ rows_from output name f long start stop to
  rows-run All name =
      ap (λ (l : List Run). flat_map (run_row name) (filter (run_shares start stop) l)) runs-here
      ∙ row-kept (run_row name) (run_shares start stop) run (runs f to long) shares-run
      ∙ ap (λ (l : List ℕ). l ++ rows_from All name f long start stop to) (sym (rows-one name value here to e.low))
  rows-run EachPosition name = positions (position_row name)
  rows-run Covered name = go value refl
    where
      go : (v : ℕ) → value ≡ v → rows_from Covered name f long start stop here ≡ run_rows Covered name value start stop here to ++ rows_from Covered name f long start stop to
      go zero none =
          ap (λ (l : List Run). flat_map (run_row name) (filter (run_shares start stop) l)) (covered-bare none)
          ∙ ap (λ (l : List ℕ). l ++ rows_from Covered name f long start stop to) (sym (rows-bare name value here to e.low none))
      go (suc v) is =
          let other : value ≢ 0 = omega (arith, is) in
          ap (λ (l : List Run). flat_map (run_row name) (filter (run_shares start stop) l)) (covered-here other)
          ∙ row-kept (run_row name) (run_shares start stop) run (covered_runs f to long) shares-run
          ∙ ap (λ (l : List ℕ). l ++ rows_from Covered name f long start stop to) (sym (rows-covered name value here to e.low other))

-- ---- the walk

pub IsWalking-begin : (f : ℕ → ℕ) (seq long start stop allowed s : ℕ) (depth : ℤ) (entries : Entries) (old now : ℕ)
    → s < long → IsRunStart f start s → AreLeft f seq s long (f start) entries → depth ≡ pos (f start) → old ≤ now → now ≤ old + 2
    → allowed ≡ old + (3 + 2 * length (covered_runs_in f long start stop)) → IsWalking f seq long start stop allowed s depth entries old now
IsWalking-begin f seq long start stop allowed s depth entries old now high begins left is no_less at_most all =
    let count : length (covered_runs_in f long start stop) ≡ length (covered_from f long start stop s) = ap (λ (l : List Run). length l) (covered-skip f long start stop s high begins) in
    record {
      value = f start;
      is = is;
      small = left.small start;
      same = begins.same;
      left = λ _. left;
      no_less = no_less;
      at_most = omega (arith, count, at_most, all);
      bare = λ _ _. omega (arith, count, at_most, all);
    }

pub IsWalking-next : (f : ℕ → ℕ) (seq long start stop allowed from : ℕ) (depth : ℤ) (entries : Entries) (old now to : ℕ) (change : ℤ) (rest : Entries) (new : ℕ)
    → start < stop → stop ≤ long → from < stop → (w : IsWalking f seq long start stop allowed from depth entries old now)
    → (e : EndsRun f seq from long w.value to change rest) → now ≤ new → new ≤ now + 1
    → IsWalking f seq long start stop allowed to (pos e.next) rest old new
IsWalking-next f seq long start stop allowed from depth entries old now to change rest new some within near w e no_less one =
    let past : start < to = crosses f seq long start stop from w.value to change rest some within near w.same e in
    record {
      value = e.next;
      is = refl;
      small = e.small;
      same = λ q low high. absurd (omega (arith, past, low, high));
      left = λ more. (e.other (omega (arith, more, within))).2;
      no_less = omega (arith, no_less, w.no_less);
      at_most = (paid w.value refl).0;
      bare = λ more none. (paid w.value refl).1 (e.other (omega (arith, more, within))).0 none;
    }
  where
    paid : (v : ℕ) → w.value ≡ v
        → (new + 2 * length (covered_from f long start stop to) ≤ allowed)
        × (w.value ≢ e.next → e.next ≡ 0 → new + 2 * length (covered_from f long start stop to) + 1 ≤ allowed)
    paid zero none =
        let count = count-bare f seq long start stop from w.value to change rest some within near w.same e none in
        let room = w.bare near none in
        (omega (arith, count, room, one), λ other next. absurd (other (none ∙ sym next)))
    paid (suc v) is =
        let count = count-here f seq long start stop from w.value to change rest some within near w.same e (omega (arith, is)) in
        (omega (arith, count, w.at_most, one), λ other next. omega (arith, count, w.at_most, one))
