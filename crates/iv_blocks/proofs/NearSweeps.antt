-- The state of a sweep over those of a block's records that are near one that is gone, and which blocks are left.
use Rattle.std.proofs.Common.{ℕ, ◌+◌, ◌<◌, ◌≤◌, max, ◌≡◌, ◌⊎◌, inl, inr, List, [], ◌∷◌, ◌++◌, length, filter, true, ◌==◌, ◌&&◌, refl, sym, ap, ap₂, subst, ◌∙◌, arith, eqb-true}
use Rattle.std.specs.Ordering.{is_le}
use Rattle.std.proofs.lemmas.Bool.{cond-true, cond-false, cases_lt, and_parts, and_from, false_from_ne_true}
use Rattle.iv_lines.specs.Genome.{Sequences}
use Rattle.iv_lines.specs.Ordered.{AreInOrder}
use Rattle.iv_lines.specs.RecordValue.{RecordValue, record_cmp}
use Rattle.iv_cover.specs.Blocks.{start_of, stop_of}
use Rattle.iv_lines.proofs.InOrderLemmas.{all-recursion, in_order-filter}
use Rattle.iv_lines.proofs.ListLemmas.{Mem, any-found, filter-all, filter-none, filter-weaker}
use Rattle.iv_lines.proofs.PrecedesLemmas.{precedes-from}
use Rattle.iv_cover.proofs.Groups.{mem-left, mem-right, mem-append}
use Rattle.iv_cover.proofs.Cover.{Lasting, covered_from, free-covered, free-past_last}
use Rattle.iv_blocks.specs.Inside.Groups.{starts_between, between_on, members_between}
use Rattle.iv_blocks.specs.Inside.Insertion.{with_block}
use Rattle.iv_blocks.specs.Inside.Repairs.{AreOthers}
use Rattle.iv_blocks.specs.KeptBlocks.{KeptBlocks}
use Rattle.iv_blocks.specs.declared.group.Group.{Group}
use Rattle.iv_blocks.proofs.GroupSweeps.{member-in, members-narrow, IsSweeping, IsSwept, sweep-first, sweep-join, sweep-open, here, all-more, in_order}
use Rattle.iv_blocks.proofs.MembersLemmas.{between-true, between-from}

-- ---- a range in two parts

-- records in order that start within a range: those before a position, and those from there on
cut : (seq low from high : ℕ) (l : List RecordValue) → AreInOrder l → ((q : RecordValue) → Mem q l → (q.seq ≡ seq) × (low ≤ q.start) × (q.start < high))
    → l ≡ filter (starts_between low from) l ++ filter (starts_between from high) l
cut seq low from high [] order within = refl
cut seq low from high (q ∷ l) order within = elim (cases_lt q.start from) [
  | inl before ↦
      ap (λ (k : List RecordValue). q ∷ k) (cut seq low from high l order.1 (λ p m. within p (inr m)))
      ∙ sym (ap₂ (λ (a b : List RecordValue). a ++ b)
      (cond-true (starts_between low from q) (q ∷ filter (starts_between low from) l) (filter (starts_between low from) l) (between-from low from q (within q (inl refl)).1 before))
      (cond-false (starts_between from high q) (q ∷ filter (starts_between from high) l) (filter (starts_between from high) l)
      (false_from_ne_true _ (λ e. let range = between-true from high q e in omega (arith, range.0, before)))))
  | inr after ↦
      let late : (p : RecordValue) → Mem p (q ∷ l) → from ≤ p.start = λ p m. elim m [
        | inl at ↦ omega (arith, after, ap start_of at)
        | inr rest ↦ elim (precedes-from q p (all-recursion (λ y. is_le (record_cmp q y) ≡ true) l order.0 p rest)) [
          | inl less ↦ absurd (omega (arith, less, (within q (inl refl)).0, (within p (inr rest)).0))
          | inr equal ↦ omega (arith, after, equal.1)
        ]
      ] in
      sym (ap₂ (λ (a b : List RecordValue). a ++ b)
      (filter-none (starts_between low from) (q ∷ l) (λ p m. false_from_ne_true _ (λ e. let range = between-true low from p e in let above = late p m in omega (arith, range.1, above))))
      (filter-all (starts_between from high) (q ∷ l) (λ p m. between-from from high p (late p m) (within p m).2)))
]

pub members-cut : (g : Group) (low from high : ℕ) (records : List RecordValue) → AreInOrder records → low ≤ from → from ≤ high
    → members_between g low high records ≡ members_between g low from records ++ members_between g from high records
members-cut g low from high records order above within =
    cut g.seq low from high (members_between g low high records) (in_order-filter record_cmp _ records order) (λ q m. let is = member-in g low high records q m in (is.1, is.2, is.3))
    ∙ ap₂ (λ (a b : List RecordValue). a ++ b)
    (members-narrow g low high low from records (omega arith) within)
    (members-narrow g low high from high records above (omega arith))

-- a later range has no more records
pub count-later : (seq low from high : ℕ) (records : List RecordValue) → low ≤ from → length (between_on seq from high records) ≤ length (between_on seq low high records)
count-later seq low from high records above =
    filter-weaker (λ q. (q.seq == seq) && starts_between from high q) (λ q. (q.seq == seq) && starts_between low high q) records (λ q m e.
    let both = and_parts (q.seq == seq) (starts_between from high q) e in
    let range = between-true from high q both.1 in
    and_from _ _ both.0 (between-from low high q (omega (arith, range.0, above)) range.1))

-- ---- the sweep

module _ (o : KeptBlocks) (genome : Sequences) (records : List RecordValue) (g : Group) (block gone : ℕ × ℕ) where
  -- the open block starts here, and its records that were read stop here at last. If others that were not read stop later, at `top`,
  -- then it doesn't yet reach where the one that is gone starts
  pub record IsNear (now : KeptBlocks) (start stop : ℕ) (left : List RecordValue) : Type 0 where
    pub top : ℕ
    pub sweep : IsSweeping o genome records g block.0 block.1 now start top left
    pub up_to : stop ≤ top
    pub same : (top ≡ stop) ⊎ (top + o.options.distance < gone.0)

  pub near-as : (now : KeptBlocks) (start stop x s : ℕ) (left : List RecordValue) → start ≡ x → stop ≡ s → IsNear now x s left → IsNear now start stop left
  near-as now start stop x s left at_start at_stop n = rw (at_start, at_stop) n

  module _ (known : IsSwept o genome records g block.0 block.1) (others : AreOthers o.options.distance block gone (members_between g block.0 block.1 records)) where
    lasts-passed : (passed left : List RecordValue) → members_between g block.0 block.1 records ≡ passed ++ left → Lasting start_of stop_of o.options.distance passed
    lasts-passed passed left all q m =
        known.lasting q (member-in g block.0 block.1 records q (subst (λ (l : List RecordValue). Mem q l) (sym all) (mem-left passed left q m))).0

    -- a member that starts before all that are left was passed
    was-passed : (passed left : List RecordValue) (x : ℕ) → members_between g block.0 block.1 records ≡ passed ++ left → ((q : RecordValue) → Mem q left → x ≤ q.start)
        → (q : RecordValue) → Mem q (members_between g block.0 block.1 records) → q.start < x → Mem q passed
    was-passed passed left x all late q m before = elim (mem-append passed left q (subst (λ (l : List RecordValue). Mem q l) all m)) [
      | inl old ↦ old
      | inr new ↦ let above = late q new in absurd (omega (arith, above, before))
    ]

    -- none that is left starts before the next
    late-from : (now : KeptBlocks) (start top : ℕ) (r : RecordValue) (left : List RecordValue) → IsSweeping o genome records g block.0 block.1 now start top (r ∷ left)
        → (q : RecordValue) → Mem q (r ∷ left) → r.start ≤ q.start
    late-from now start top r left s q m = elim m [
      | inl at ↦ omega (arith, ap start_of at)
      | inr rest ↦ in_order o genome records g block.0 block.1 known (s.passed ++ r ∷ []) left
          (all-more o genome records g block.0 block.1 known now start top r left s) r q (mem-right s.passed (r ∷ []) r (inl refl)) rest
    ]

    -- the open block reaches each position that no member from there on has passed, up to where the one that is gone starts; and
    -- all, if it stops where that one does or later
    reaches-to : (now : KeptBlocks) (start top : ℕ) (left : List RecordValue) (x : ℕ) → IsSweeping o genome records g block.0 block.1 now start top left
        → ((q : RecordValue) → Mem q left → x ≤ q.start) → x ≤ block.1 + o.options.distance → (x ≤ gone.0) ⊎ (gone.1 ≤ top) → x ≤ top + o.options.distance
    reaches-to now start top left x s late within near = elim (cases_lt (top + o.options.distance) x) [
      | inr reached ↦ omega (arith, reached)
      | inl past ↦
          let far : (x ≤ gone.0) ⊎ (gone.1 + o.options.distance < x) = elim near [ inl before ↦ inl before | inr at ↦ inr (omega (arith, at, past)) ] in
          let long : start < top = s.put.last.block.long in
          let above : block.0 ≤ start = s.above in
          let c = covered_from start_of stop_of o.options.distance (members_between g block.0 block.1 records) x (others.reached x (omega (arith, above, long, past)) within far) in
          let free = free-past_last start_of stop_of o.options.distance s.passed start top x (lasts-passed s.passed left s.all) s.put.last.block (λ k after up. s.put.last.none k after) past in
          absurd (free-covered start_of stop_of o.options.distance s.passed x free (c.0, was-passed s.passed left x s.all late c.0 c.1 c.2, c.2, c.3))
    ]

    reaches-next : (now : KeptBlocks) (start top : ℕ) (r : RecordValue) (left : List RecordValue) → IsSweeping o genome records g block.0 block.1 now start top (r ∷ left)
        → (r.start ≤ gone.0) ⊎ (gone.1 ≤ top) → r.start ≤ top + o.options.distance
    reaches-next now start top r left s near =
        let is = member-in g block.0 block.1 records r (here o genome records g block.0 block.1 known now start top r left s) in
        let below : r.start < block.1 = is.3 in
        reaches-to now start top (r ∷ left) r.start s (late-from now start top r left s) (omega (arith, below)) near

    -- the first that is read is the first of all
    pub near-first : (r : RecordValue) (left : List RecordValue) → members_between g block.0 block.1 records ≡ r ∷ left → IsNear o r.start r.stop left
    near-first r left all = record {
      top = r.stop;
      sweep = sweep-first o genome records g block.0 block.1 known r left all;
      up_to = omega arith;
      same = inl refl;
    }

    -- a member joins the open block
    pub near-join : (now : KeptBlocks) (start stop : ℕ) (r : RecordValue) (left : List RecordValue) → IsNear now start stop (r ∷ left)
        → (r.start ≤ gone.0) ⊎ (r.start ≤ stop + o.options.distance) → IsNear now start (max stop r.stop) left
    near-join now start stop r left n joins =
        let up_to : stop ≤ n.top = n.up_to in
        let reached : r.start ≤ n.top + o.options.distance = elim joins [
          | inl before ↦ reaches-next now start n.top r left n.sweep (inl before)
          | inr near ↦ omega (arith, near, up_to)
        ] in
        record {
          top = max n.top r.stop;
          sweep = sweep-join o genome records g block.0 block.1 known now start n.top r left n.sweep reached;
          up_to = omega (arith, up_to);
          same = elim (cases_lt n.top r.stop) [
            | inl longer ↦ inl (omega (arith, up_to, longer))
            | inr shorter ↦ elim n.same [
              | inl is ↦ inl (omega (arith, is))
              | inr before ↦ inr (omega (arith, before, shorter))
            ]
          ];
        }

    -- once all that are left start where the one that is gone does or later, those that were not read stop no later
    near-same : (now : KeptBlocks) (start stop : ℕ) (left : List RecordValue) → (n : IsNear now start stop left) → ((q : RecordValue) → Mem q left → gone.0 ≤ q.start) → n.top ≡ stop
    near-same now start stop left n late = elim n.same [
      | inl is ↦ is
      | inr before ↦
          let below : gone.0 ≤ block.1 = others.below in
          let reached = reaches-to now start n.top left gone.0 n.sweep late (omega (arith, below)) (inl (omega arith)) in
          absurd (omega (arith, before, reached))
    ]

    near-exact : (now : KeptBlocks) (start stop : ℕ) (left : List RecordValue) → IsNear now start stop left → ((q : RecordValue) → Mem q left → gone.0 ≤ q.start)
        → IsSweeping o genome records g block.0 block.1 now start stop left
    near-exact now start stop left n late =
        subst (λ (t : ℕ). IsSweeping o genome records g block.0 block.1 now start t left) (near-same now start stop left n late) n.sweep

    -- what the sweep is if the next member starts no earlier
    pub near-next : (now : KeptBlocks) (start stop : ℕ) (r : RecordValue) (left : List RecordValue) → IsNear now start stop (r ∷ left) → gone.0 ≤ r.start
        → IsSweeping o genome records g block.0 block.1 now start stop (r ∷ left)
    near-next now start stop r left n after =
        near-exact now start stop (r ∷ left) n (λ q m. let late = late-from now start n.top r left n.sweep q m in omega (arith, late, after))

    -- the open block is inserted, and that member opens the next
    pub near-open : (now next : KeptBlocks) (start stop : ℕ) (r : RecordValue) (left : List RecordValue) → IsNear now start stop (r ∷ left) → gone.0 ≤ r.start
        → stop + o.options.distance < r.start → next ≡ with_block now genome records g start stop → IsNear next r.start r.stop left
    near-open now next start stop r left n after parts is = record {
      top = r.stop;
      sweep = sweep-open o genome records g block.0 block.1 known now next start stop r left (near-next now start stop r left n after) parts is;
      up_to = omega arith;
      same = inl refl;
    }

    -- after the last member
    pub near-end : (now : KeptBlocks) (start stop : ℕ) → IsNear now start stop [] → IsSweeping o genome records g block.0 block.1 now start stop []
    near-end now start stop n = near-exact now start stop [] n (λ q m. absurd m)

    -- once the open block stops where the one that is gone does or later, all that are left are in it
    rest : (now : KeptBlocks) (start top : ℕ) (left : List RecordValue) → gone.1 ≤ top → IsSweeping o genome records g block.0 block.1 now start top left
        → IsSweeping o genome records g block.0 block.1 now start block.1 []
    rest now start top [] full s =
        let reached = reaches-to now start top [] (block.1 + o.options.distance) s (λ q m. absurd m) (omega arith) (inr full) in
        let same : top ≡ block.1 = omega (arith, reached, s.within) in
        subst (λ (t : ℕ). IsSweeping o genome records g block.0 block.1 now start t []) same s
    rest now start top (r ∷ left) full s =
        rest now start (max top r.stop) left (omega (arith, full))
        (sweep-join o genome records g block.0 block.1 known now start top r left s (reaches-next now start top r left s (inr full)))

    pub near-rest : (now : KeptBlocks) (start stop : ℕ) (left : List RecordValue) → gone.1 ≤ stop → IsNear now start stop left → IsSweeping o genome records g block.0 block.1 now start block.1 []
    near-rest now start stop left full n = rest now start n.top left (omega (arith, full, n.up_to)) n.sweep

    -- ---- those that are not read

    -- they are passed, none of them reaching where the one that is gone starts
    skip : (now : KeptBlocks) (start top : ℕ) (front left : List RecordValue) → IsSweeping o genome records g block.0 block.1 now start top (front ++ left) → top + o.options.distance < gone.0
        → ((q : RecordValue) → Mem q front → (q.start < gone.0) × (q.stop + o.options.distance < gone.0)) → IsNear now start 0 left
    skip now start top [] left s short early = record { top = top; sweep = s; up_to = omega arith; same = inr short }
    skip now start top (r ∷ front) left s short early =
        let first = early r (inl refl) in
        skip now start (max top r.stop) front left
        (sweep-join o genome records g block.0 block.1 known now start top r (front ++ left) s (reaches-next now start top r (front ++ left) s (inl (omega (arith, first.0)))))
        (omega (arith, short, first.1)) (λ q m. early q (inr m))

    front-opens : (from : ℕ) (front left : List RecordValue) → block.0 < from → block.0 < gone.0 → members_between g block.0 block.1 records ≡ front ++ left
        → ((q : RecordValue) → Mem q left → from ≤ q.start) → ((q : RecordValue) → Mem q front → (q.start < gone.0) × (q.stop + o.options.distance < gone.0)) → IsNear o block.0 0 left
    front-opens from [] left below before all late early =
        let found = any-found (λ r. r.start == block.0) (members_between g block.0 block.1 records) (others.starts before) in
        let at : found.0.start ≡ block.0 = eqb-true _ _ found.2 in
        let above = late found.0 (subst (λ (l : List RecordValue). Mem found.0 l) all found.1) in
        absurd (omega (arith, above, at, below))
    front-opens from (r ∷ front) left below before all late early =
        let found = any-found (λ r. r.start == block.0) (members_between g block.0 block.1 records) (others.starts before) in
        let at : found.0.start ≡ block.0 = eqb-true _ _ found.2 in
        let s = sweep-first o genome records g block.0 block.1 known r (front ++ left) all in
        let no_earlier : r.start ≤ found.0.start = elim (subst (λ (l : List RecordValue). Mem found.0 l) all found.1) [
          | inl is ↦ omega (arith, ap start_of is)
          | inr later ↦ in_order o genome records g block.0 block.1 known (r ∷ []) (front ++ left) all r found.0 (inl refl) later
        ] in
        let opens : r.start ≡ block.0 = omega (arith, no_earlier, at, s.above) in
        skip o block.0 r.stop front left
        (subst (λ (x : ℕ). IsSweeping o genome records g block.0 block.1 o x r.stop (front ++ left)) opens s)
        (early r (inl refl)).1 (λ q m. early q (inr m))

    -- the sweep begins at a position past the block's start, and none that starts before it reaches where the one that is gone starts
    near-front : (from : ℕ) → block.0 < from → from ≤ gone.0 → ((q : RecordValue) → Mem q records → q.start < from → q.stop + o.options.distance < gone.0)
        → IsNear o block.0 0 (members_between g from block.1 records)
    near-front from below before short =
        let inside : gone.0 ≤ block.1 = others.below in
        front-opens from (members_between g block.0 from records) (members_between g from block.1 records) below (omega (arith, below, before))
        (members-cut g block.0 from block.1 records known.ordered (omega (arith, below)) (omega (arith, before, inside)))
        (λ q m. (member-in g from block.1 records q m).2)
        (λ q m.
        let is = member-in g block.0 from records q m in
        let stops = short q is.0 is.3 in
        let long = known.lasting q is.0 in
        (omega (arith, stops, long), stops))

    -- then some is read
    pub near-some : (from : ℕ) → block.0 < from → from ≤ gone.0 → ((q : RecordValue) → Mem q records → q.start < from → q.stop + o.options.distance < gone.0)
        → members_between g from block.1 records ≡ [] → ⊥
    near-some from below before short none =
        let n = near-front from below before short in
        let at_end : IsNear o block.0 0 [] = subst (λ (l : List RecordValue). IsNear o block.0 0 l) none n in
        let s = near-end o block.0 0 at_end in
        let long : block.0 < 0 = s.put.last.block.long in
        omega (arith, long)

    -- and the first is in the block that starts where the whole did
    pub near-begin : (from : ℕ) (r : RecordValue) (left : List RecordValue) → block.0 < from → from ≤ gone.0
        → ((q : RecordValue) → Mem q records → q.start < from → q.stop + o.options.distance < gone.0) → members_between g from block.1 records ≡ r ∷ left → IsNear o block.0 r.stop left
    near-begin from r left below before short is =
        let n : IsNear o block.0 0 (r ∷ left) = subst (λ (l : List RecordValue). IsNear o block.0 0 l) is (near-front from below before short) in
        elim (cases_lt r.start gone.0) [
          | inl early ↦ subst (λ (t : ℕ). IsNear o block.0 t left) (omega arith) (near-join o block.0 0 r left n (inl (omega (arith, early))))
          | inr late ↦
              let s = near-next o block.0 0 r left n (omega (arith, late)) in
              let long : block.0 < 0 = s.put.last.block.long in
              absurd (omega (arith, long))
        ]
