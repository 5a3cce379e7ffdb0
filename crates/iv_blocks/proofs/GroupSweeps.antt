-- The state of a sweep over a group's records of a range, whose blocks are inserted one after another, and its steps.
use Rattle.std.proofs.Common.{ℕ, ◌+◌, ◌*◌, ◌<◌, ◌≤◌, max, ◌≡◌, ◌⊎◌, inl, inr, Bool, false, ◌&&◌, ◌==◌, if◌then◌else◌, List, [], ◌∷◌, ◌++◌, length, filter, All, Option, Some, Result, Ok, Err, OnOk, refl, sym, ap, ap₂, subst, ◌∙◌, arith, append-nil, append_assoc, eq-eqb}
use Rattle.std.specs.Option.{option_map, option_or}
use Rattle.std.proofs.lemmas.Bool.{cond-true, cond-false, cases_Bool, cases_lt, and_parts, and_from, and_left, and_right, false_from_ne_true}
use Rattle.std.proofs.lemmas.List.Elements.{filter-append}
use Rattle.iv_lines.specs.Genome.{Sequences, sequence_name}
use Rattle.iv_lines.specs.Named.{names_of}
use Rattle.iv_lines.specs.Ordered.{AreInOrder}
use Rattle.iv_lines.specs.Read.{Fits}
use Rattle.iv_lines.specs.RecordValue.{RecordValue, record_cmp}
use Rattle.iv_ledger.specs.Entries.{IsLedger, value_at}
use Rattle.iv_cover.specs.Blocks.{block_at, start_of, stop_of}
use Rattle.iv_lines.proofs.ListLemmas.{Mem, mem-filter, mem-filter_from, filter-agree, filter-filter, filter-none, all-mem, same_tests}
use Rattle.iv_cover.proofs.Groups.{mem-left, mem-right, mem-append}
use Rattle.iv_cover.proofs.Cover.{Lasting, starts_in}
use Rattle.iv_blocks.specs.Inside.Groups.{is_in_group, starts_between, between, between_on, members_between, is_apart, is_minus}
use Rattle.iv_blocks.specs.Groups.{group, listed}
use Rattle.iv_blocks.specs.KeptBlocks.{Key, key_cmp, Kept, Entries, KeptBlocks, kept_block, kept_at}
use Rattle.iv_blocks.specs.Inside.Insertion.{key_of, IsOfOther, with_block, AreInserted}
use Rattle.iv_blocks.specs.declared.group.Group.{Group}
use Rattle.iv_blocks.specs.declared.options.BlockOptions.{BlockOptions}
use Rattle.iv_blocks.proofs.Keys.{look-put, look-put_other}
use Rattle.iv_blocks.proofs.NameLemmas.{name-same}
use Rattle.iv_blocks.proofs.SweepLemmas.{shown, IsPut, put-first, put-join, put-open, put-all}
use Rattle.iv_lines.proofs.InOrderLemmas.{in_order-filter}
use Rattle.iv_blocks.proofs.MembersLemmas.{between-true, between-from, in_group-on, in_order-parts}

-- ---- records of a range

-- a member of a range is a record of the track, in the group and in the range
pub member-in : (g : Group) (from to : ℕ) (records : List RecordValue) (q : RecordValue) → Mem q (members_between g from to records)
    → Mem q records × (q.seq ≡ g.seq) × (from ≤ q.start) × (q.start < to)
member-in g from to records q m =
    let both = mem-filter (λ r. is_in_group (is_apart g.side) g.seq (is_minus g.side) r && starts_between from to r) records q m in
    let tests = and_parts (is_in_group (is_apart g.side) g.seq (is_minus g.side) q) (starts_between from to q) both.1 in
    let range = between-true from to q tests.1 in
    (both.0, in_group-on g q tests.0, range.0, range.1)

-- the members of a range within another
pub members-narrow : (g : Group) (from to x s : ℕ) (records : List RecordValue) → from ≤ x → s ≤ to → filter (starts_between x s) (members_between g from to records) ≡ members_between g x s records
members-narrow g from to x s records above within =
    filter-filter (starts_between x s) (λ r. is_in_group (is_apart g.side) g.seq (is_minus g.side) r && starts_between from to r) records
    ∙ filter-agree _ _ records (λ q m. same_tests _ _
    (λ e.
    let both = and_parts (is_in_group (is_apart g.side) g.seq (is_minus g.side) q && starts_between from to q) (starts_between x s q) e in
    and_from _ _ (and_parts (is_in_group (is_apart g.side) g.seq (is_minus g.side) q) (starts_between from to q) both.0).0 both.1)
    (λ e.
    let both = and_parts (is_in_group (is_apart g.side) g.seq (is_minus g.side) q) (starts_between x s q) e in
    let range = between-true x s q both.1 in
    and_from _ _ (and_from _ _ both.0 (between-from from to q (omega (arith, range.0)) (omega (arith, range.1)))) both.1))

-- the group's records of a range
pub members-group : (g : Group) (from to : ℕ) (records : List RecordValue) → group (is_apart g.side) g.seq (is_minus g.side) (between from to records) ≡ members_between g from to records
members-group g from to records =
    filter-filter (is_in_group (is_apart g.side) g.seq (is_minus g.side)) (starts_between from to) records
    ∙ filter-agree _ _ records (λ q m. same_tests _ _
    (λ e. let both = and_parts (starts_between from to q) (is_in_group (is_apart g.side) g.seq (is_minus g.side) q) e in and_from _ _ both.1 both.0)
    (λ e. let both = and_parts (is_in_group (is_apart g.side) g.seq (is_minus g.side) q) (starts_between from to q) e in and_from _ _ both.1 both.0))

-- ---- how many there are

-- those of a range are those of its two parts
pub count-parts : (seq from mid to : ℕ) (records : List RecordValue) → from ≤ mid → mid ≤ to
    → length (between_on seq from to records) ≡ length (between_on seq from mid records) + length (between_on seq mid to records)
count-parts seq from mid to [] low high = refl
count-parts seq from mid to (r ∷ records) low high =
    let rest = count-parts seq from mid to records low high in
    let whole : Bool = (r.seq == seq) && starts_between from to r in
    let first : Bool = (r.seq == seq) && starts_between from mid r in
    let second : Bool = (r.seq == seq) && starts_between mid to r in
    elim (cases_Bool (r.seq == seq)) [
      | inr off ↦ omega (
        arith,
        rest,
        ap length (cond-false ((r.seq == seq) && starts_between from to r) (r ∷ between_on seq from to records) (between_on seq from to records) (and_left _ _ off)),
        ap length (cond-false ((r.seq == seq) && starts_between from mid r) (r ∷ between_on seq from mid records) (between_on seq from mid records) (and_left _ _ off)),
        ap length (cond-false ((r.seq == seq) && starts_between mid to r) (r ∷ between_on seq mid to records) (between_on seq mid to records) (and_left _ _ off)),
      )
      | inl on ↦ elim (cases_lt r.start from) [
        | inl before ↦ omega (
          arith,
          rest,
          ap length (cond-false ((r.seq == seq) && starts_between from to r) (r ∷ between_on seq from to records) (between_on seq from to records) (and_right _ _ (out from to r (inl before)))),
          ap length (cond-false ((r.seq == seq) && starts_between from mid r) (r ∷ between_on seq from mid records) (between_on seq from mid records) (and_right _ _ (out from mid r (inl before)))),
          ap length (cond-false ((r.seq == seq) && starts_between mid to r) (r ∷ between_on seq mid to records) (between_on seq mid to records) (and_right _ _ (out mid to r (inl (omega arith))))),
        )
        | inr after ↦ elim (cases_lt r.start mid) [
          | inl below ↦ omega (
            arith,
            rest,
            ap length (cond-true ((r.seq == seq) && starts_between from to r) (r ∷ between_on seq from to records) (between_on seq from to records) (and_from _ _ on (between-from from to r after (omega arith)))),
            ap length (cond-true ((r.seq == seq) && starts_between from mid r) (r ∷ between_on seq from mid records) (between_on seq from mid records) (and_from _ _ on (between-from from mid r after below))),
            ap length (cond-false ((r.seq == seq) && starts_between mid to r) (r ∷ between_on seq mid to records) (between_on seq mid to records) (and_right _ _ (out mid to r (inl below)))),
          )
          | inr above ↦ elim (cases_lt r.start to) [
            | inl within ↦ omega (
              arith,
              rest,
              ap length (cond-true ((r.seq == seq) && starts_between from to r) (r ∷ between_on seq from to records) (between_on seq from to records) (and_from _ _ on (between-from from to r after within))),
              ap length (cond-false ((r.seq == seq) && starts_between from mid r) (r ∷ between_on seq from mid records) (between_on seq from mid records) (and_right _ _ (out from mid r (inr above)))),
              ap length (cond-true ((r.seq == seq) && starts_between mid to r) (r ∷ between_on seq mid to records) (between_on seq mid to records) (and_from _ _ on (between-from mid to r above within))),
            )
            | inr past ↦ omega (
              arith,
              rest,
              ap length (cond-false ((r.seq == seq) && starts_between from to r) (r ∷ between_on seq from to records) (between_on seq from to records) (and_right _ _ (out from to r (inr past)))),
              ap length (cond-false ((r.seq == seq) && starts_between from mid r) (r ∷ between_on seq from mid records) (between_on seq from mid records) (and_right _ _ (out from mid r (inr above)))),
              ap length (cond-false ((r.seq == seq) && starts_between mid to r) (r ∷ between_on seq mid to records) (between_on seq mid to records) (and_right _ _ (out mid to r (inr past)))),
            )
          ]
        ]
      ]
    ]
  where
    out : (from to : ℕ) (q : RecordValue) → (q.start < from) ⊎ (to ≤ q.start) → starts_between from to q ≡ false
    out from to q (inl before) = false_from_ne_true _ (λ e. let range = between-true from to q e in omega arith)
    out from to q (inr past) = false_from_ne_true _ (λ e. let range = between-true from to q e in omega arith)

pub count-within : (seq from to end : ℕ) (records : List RecordValue) → from ≤ to → to ≤ end → length (between_on seq from to records) ≤ length (between_on seq from end records)
count-within seq from to end records low high = omega (arith, count-parts seq from to end records low high)

-- a range that some record opens has one at least
pub count-some : (seq from to : ℕ) (records : List RecordValue) (q : RecordValue) → Mem q records → q.seq ≡ seq → from ≤ q.start → q.start < to → 1 ≤ length (between_on seq from to records)
count-some seq from to records q m at above below =
    some (between_on seq from to records) (mem-filter_from (λ r. (r.seq == seq) && starts_between from to r) records q m (and_from _ _ (eq-eqb _ _ at) (between-from from to q above below)))
  where
    some : (xs : List RecordValue) → Mem q xs → 1 ≤ length xs
    some [] m = absurd m
    some (x ∷ xs) m = omega arith

-- ---- the sweep

-- two facts at one `Ok`
pub on_ok_both : {T E P Q R : Type 0} (r : Result T E) → OnOk r P → OnOk r Q → (P → Q → R) → OnOk r R
on_ok_both (Ok x) p q both = both p q
on_ok_both (Err e) p q both = tt

-- what is kept at the positions of a group
abbrev pub look : Group → Entries → ℕ → Option Kept
look g entries x = value_at key_cmp entries (key_of g x)

module _ (o : KeptBlocks) (genome : Sequences) (records : List RecordValue) (g : Group) (from to : ℕ) where
  -- a block of the group, as it is kept
  abbrev pub kept : ℕ × List RecordValue → Kept
  kept = kept_block (sequence_name genome g.seq) (listed o.options.summaries)

  -- the open block starts and stops here: those before it are inserted, and these members are left
  pub record IsSweeping (now : KeptBlocks) (start stop : ℕ) (left : List RecordValue) : Type 0 where
    pub passed : List RecordValue
    pub all : members_between g from to records ≡ passed ++ left
    pub put : IsPut start_of stop_of o.options.distance kept passed start stop (look g o.entries) (look g now.entries)
    pub above : from ≤ start
    pub within : stop ≤ to
    pub options : now.options ≡ o.options
    pub others : (k : Key) → IsOfOther g k → value_at key_cmp now.entries k ≡ value_at key_cmp o.entries k

  -- what the sweep knows of the records
  pub record IsSwept : Type 0 where
    pub ordered : AreInOrder records
    pub lasting : (q : RecordValue) → Mem q records → q.start < q.stop
    pub stops : (q : RecordValue) → Mem q (members_between g from to records) → q.stop ≤ to

  module _ (known : IsSwept) where
    -- a member that was passed or is next
    member : (passed left : List RecordValue) (r : RecordValue) → members_between g from to records ≡ passed ++ r ∷ left → (q : RecordValue) → Mem q (passed ++ r ∷ []) → Mem q (members_between g from to records)
    member passed left r all q m = subst (λ (l : List RecordValue). Mem q l) (sym all) (elim (mem-append passed (r ∷ []) q m) [
      | inl old ↦ mem-left passed (r ∷ left) q old
      | inr new ↦ mem-right passed (r ∷ left) q (elim new [ inl at ↦ inl at | inr none ↦ absurd none ])
    ])

    lasts : (passed left : List RecordValue) (r : RecordValue) → members_between g from to records ≡ passed ++ r ∷ left → Lasting start_of stop_of o.options.distance (passed ++ r ∷ [])
    lasts passed left r all q m = known.lasting q (member-in g from to records q (member passed left r all q m)).0

    -- each that was passed starts no later than each that is left
    pub in_order : (passed left : List RecordValue) → members_between g from to records ≡ passed ++ left → (q r : RecordValue) → Mem q passed → Mem r left → q.start ≤ r.start
    in_order passed left all q r m n =
        let order : AreInOrder (passed ++ left) = subst (λ (l : List RecordValue). AreInOrder l) all (in_order-filter record_cmp _ records known.ordered) in
        let at_q = (member-in g from to records q (subst (λ (l : List RecordValue). Mem q l) (sym all) (mem-left passed left q m))).1 in
        let at_r = (member-in g from to records r (subst (λ (l : List RecordValue). Mem r l) (sym all) (mem-right passed left r n))).1 in
        elim (in_order-parts passed left order q r m n) [
          | inl less ↦ omega (arith, at_q, at_r)
          | inr equal ↦ equal.1
        ]

    -- the first member opens a block
    pub sweep-first : (r : RecordValue) (left : List RecordValue) → members_between g from to records ≡ r ∷ left → IsSweeping o r.start r.stop left
    sweep-first r left all =
        let here : Mem r (members_between g from to records) = member [] left r all r (inl refl) in
        let is = member-in g from to records r here in
        record {
          passed = r ∷ [];
          all = all;
          put = put-first start_of stop_of o.options.distance kept r (look g o.entries) (known.lasting r is.0);
          above = is.2;
          within = known.stops r here;
          options = refl;
          others = λ k other. refl;
        }

    module _ (now : KeptBlocks) (start stop : ℕ) (r : RecordValue) (left : List RecordValue) (s : IsSweeping now start stop (r ∷ left)) where
      pub here : Mem r (members_between g from to records)
      here = member s.passed left r s.all r (mem-right s.passed (r ∷ []) r (inl refl))

      pub all-more : members_between g from to records ≡ (s.passed ++ r ∷ []) ++ left
      all-more = s.all ∙ sym (append_assoc s.passed (r ∷ []) left)

      before : (q : RecordValue) → Mem q s.passed → q.start ≤ r.start
      before q m = in_order s.passed (r ∷ left) s.all q r m (inl refl)

      -- a member joins the open block
      pub sweep-join : r.start ≤ stop + o.options.distance → IsSweeping now start (max stop r.stop) left
      sweep-join joins = record {
        passed = s.passed ++ r ∷ [];
        all = all-more;
        put = put-join start_of stop_of o.options.distance kept s.passed r start stop (look g o.entries) (look g now.entries) (lasts s.passed left r s.all) before s.put joins;
        above = s.above;
        within = omega (arith, s.within, known.stops r here);
        options = s.options;
        others = s.others;
      }

    -- the members of the open block
    own : (now : KeptBlocks) (start stop : ℕ) (left : List RecordValue) → (s : IsSweeping now start stop left) → ((q : RecordValue) → Mem q left → stop ≤ q.start)
        → filter (starts_in start_of stop_of o.options.distance start stop) s.passed ≡ members_between g start stop records
    own now start stop left s past =
        let test = starts_between start stop in
        sym (append-nil (filter test s.passed))
        ∙ ap (λ (l : List RecordValue). filter test s.passed ++ l) (sym (filter-none test left (λ q m. false_from_ne_true (test q) (λ e. let range = between-true start stop q e in let late = past q m in omega arith))))
        ∙ sym (filter-append test s.passed left)
        ∙ ap (filter test) (sym s.all)
        ∙ members-narrow g from to start stop records s.above s.within

    -- the open block, once it is inserted
    step : (now next : KeptBlocks) (start stop : ℕ) (left : List RecordValue) → (s : IsSweeping now start stop left) → ((q : RecordValue) → Mem q left → stop ≤ q.start)
        → next ≡ with_block now genome records g start stop
        → (x : ℕ) → look g next.entries x ≡ (if x == start then Some (kept (stop, filter (starts_in start_of stop_of o.options.distance start stop) s.passed)) else look g now.entries x)
    step now next start stop left s past is x =
        ap (λ (b : KeptBlocks). look g b.entries x) is
        ∙ look-put now.entries g start _ x
        ∙ ap₂ (λ (options : BlockOptions) (l : List RecordValue). if x == start then Some (kept_block (sequence_name genome g.seq) (listed options.summaries) (stop, l)) else look g now.entries x)
        s.options (sym (own now start stop left s past))

    step_others : (now next : KeptBlocks) (start stop : ℕ) (left : List RecordValue) → IsSweeping now start stop left → next ≡ with_block now genome records g start stop
        → (k : Key) → IsOfOther g k → value_at key_cmp next.entries k ≡ value_at key_cmp o.entries k
    step_others now next start stop left s is k other =
        ap (λ (b : KeptBlocks). value_at key_cmp b.entries k) is ∙ look-put_other now.entries g start _ k other ∙ s.others k other

    -- the open block is inserted, and a member opens the next
    pub sweep-open : (now next : KeptBlocks) (start stop : ℕ) (r : RecordValue) (left : List RecordValue) → (s : IsSweeping now start stop (r ∷ left)) → stop + o.options.distance < r.start
        → next ≡ with_block now genome records g start stop → IsSweeping next r.start r.stop left
    sweep-open now next start stop r left s parts is =
        let opens : Mem r (members_between g from to records) = here now start stop r left s in
        let late : (q : RecordValue) → Mem q (r ∷ left) → stop ≤ q.start =
        λ q m. elim m [
          | inl at ↦ omega (arith, ap start_of at)
          | inr rest ↦ omega (arith, in_order (s.passed ++ r ∷ []) left (all-more now start stop r left s) r q (mem-right s.passed (r ∷ []) r (inl refl)) rest)
        ] in
        record {
          passed = s.passed ++ r ∷ [];
          all = all-more now start stop r left s;
          put = put-open start_of stop_of o.options.distance kept s.passed r start stop (look g o.entries) (look g now.entries) (lasts s.passed left r s.all)
              (before now start stop r left s) s.put parts (look g next.entries) (step now next start stop (r ∷ left) s late is);
          above = (member-in g from to records r opens).2;
          within = known.stops r opens;
          options = ap (λ (b : KeptBlocks). b.options) is ∙ s.options;
          others = step_others now next start stop (r ∷ left) s is;
        }

    -- what is kept of the group's records of the range
    shown-kept : is_apart g.side ≡ o.options.stranded → (x : ℕ)
        → shown start_of stop_of o.options.distance kept (members_between g from to records) x ≡ kept_at o.options (names_of genome) (between from to records) (key_of g x)
    shown-kept apart x =
        ap₂ (λ (name : List ℕ) (l : List RecordValue). option_map (kept_block name (listed o.options.summaries)) (block_at start_of stop_of o.options.distance l x))
        (sym (name-same genome g.seq))
        (sym (members-group g from to records) ∙ ap (λ (b : Bool). group b g.seq (is_minus g.side) (between from to records)) apart)

    -- after the last member the open block is inserted, and all are
    pub sweep-all : (now next : KeptBlocks) (start stop : ℕ) → IsSweeping now start stop [] → is_apart g.side ≡ o.options.stranded → next ≡ with_block now genome records g start stop
        → IsLedger key_cmp next.entries → AreInserted g (names_of genome) (between from to records) o next
    sweep-all now next start stop s apart is ledger =
        let whole : members_between g from to records ≡ s.passed = s.all ∙ append-nil s.passed in
        let lasting : Lasting start_of stop_of o.options.distance s.passed =
        λ q m. known.lasting q (member-in g from to records q (subst (λ (l : List RecordValue). Mem q l) (sym whole) m)).0 in
        record {
          options = ap (λ (b : KeptBlocks). b.options) is ∙ s.options;
          ordered = ledger;
          here = λ x.
              put-all start_of stop_of o.options.distance kept s.passed start stop (look g o.entries) (look g now.entries) (look g next.entries) lasting s.put
              (step now next start stop [] s (λ q m. absurd m) is) x
              ∙ ap (λ (v : Option Kept). option_or v (look g o.entries x))
              (ap (λ (l : List RecordValue). shown start_of stop_of o.options.distance kept l x) (sym whole) ∙ shown-kept apart x);
          others = step_others now next start stop [] s is;
        }

    -- if there is no member, nothing is inserted
    pub sweep-none : is_apart g.side ≡ o.options.stranded → members_between g from to records ≡ [] → IsLedger key_cmp o.entries → AreInserted g (names_of genome) (between from to records) o o
    sweep-none apart none ledger = record {
      options = refl;
      ordered = ledger;
      here = λ x. ap (λ (v : Option Kept). option_or v (look g o.entries x))
          (sym (ap (λ (l : List RecordValue). shown start_of stop_of o.options.distance kept l x) none) ∙ shown-kept apart x);
      others = λ k other. refl;
    }

    -- a block is inserted in so many steps, which its records pay for
    pub sweep-pays : (now : KeptBlocks) (start stop : ℕ) (left : List RecordValue) → IsSweeping now start stop left
        → 4 * length (between_on g.seq from start records) + (3 + length (between_on g.seq start stop records)) ≤ 4 * length (between_on g.seq from stop records)
    sweep-pays now start stop left s =
        let first = s.put.last.block.starts in
        let is = member-in g from to records first.0 (subst (λ (l : List RecordValue). Mem first.0 l) (sym s.all) (mem-left s.passed left first.0 first.1)) in
        let long : start < stop = s.put.last.block.long in
        omega (
          arith,
          count-parts g.seq from start stop records s.above (omega arith),
          count-some g.seq start stop records first.0 is.0 is.1 (omega (arith, first.2)) (omega (arith, first.2)),
        )

-- what a sweep knows of a track's records
pub swept-from : (o : KeptBlocks) (genome : Sequences) (records : List RecordValue) (g : Group) (from to width : ℕ) → AreInOrder records → All (Fits genome width) records
    → All (λ r. r.stop ≤ to) (members_between g from to records) → IsSwept o genome records g from to
swept-from o genome records g from to width order fit stops = record {
  ordered = order;
  lasting = λ q m. (all-mem (Fits genome width) records fit q m).is_placed.some;
  stops = all-mem (λ r. r.stop ≤ to) (members_between g from to records) stops;
}
