-- The blocks of all groups after a repair of one.
use Rattle.std.proofs.Common.{◌≡◌, ◌⊎◌, inl, inr, ℕ, ◌+◌, ◌-◌, ◌*◌, ◌<◌, ◌≤◌, Bool, true, false, if◌then◌else◌, ◌==◌, ◌&&◌, List, [], ◌∷◌, ◌++◌, length, filter, All, Option, Some, None, refl, sym, ap, subst, ◌∙◌, arith, eq-eqb, eqb-true, le-leb, lt-ltb}
use Rattle.std.specs.Option.{option_map, option_or}
use Rattle.std.specs.Ordering.{is_le}
use Rattle.std.proofs.lemmas.Bool.{cond-true, cond-false, cases_Bool, cases_lt, and_parts, and_from, both_ways, false_from_ne_true, false≢true}
use Rattle.iv_lines.specs.Genome.{Sequences, sequence_name}
use Rattle.iv_lines.specs.Named.{names_of}
use Rattle.iv_lines.specs.Ordered.{added}
use Rattle.iv_lines.specs.Read.{Fits}
use Rattle.iv_lines.specs.RecordValue.{RecordValue, record_cmp}
use Rattle.iv_lines.specs.declared.record_ref.Strand.{Strand}
use Rattle.iv_lines.specs.declared.record_ref.Strand.TheVariants.{Plus, Minus, Dot}
use Rattle.iv_ledger.specs.Entries.{IsLedger, value_at}
use Rattle.iv_ledger.specs.Steps.{TakesUpTo}
use Rattle.iv_cover.specs.Blocks.{block_at, start_of, stop_of}
use Rattle.iv_cover.specs.Inside.Blocks.{reaches}
use Rattle.iv_lines.proofs.ListLemmas.{Mem, any-at, mem-filter, mem-filter_from, all-mem, mem-all, filter-agree, filter-filter, filter-weaker, same_tests}
use Rattle.iv_cover.proofs.Groups.{HasOneMore, one_more}
use Rattle.iv_cover.proofs.BlockLemmas.{one_more-filter}
use Rattle.iv_cover.proofs.Cover.{Covered, Lasting, IsBlock, starts_in, starts_in-true, stops_within}
use Rattle.iv_blocks.specs.Groups.{is_strand, is_on_side, group, listed}
use Rattle.iv_blocks.specs.Inside.Groups.{is_in_group, between, between_on, members_between, starts_between, is_apart, is_minus}
use Rattle.iv_blocks.specs.KeptBlocks.{Key, key_cmp, Kept, Entries, KeptBlocks, AreBlocksOf, kept_at, kept_block, name_of, around, within_block, block_steps}
use Rattle.iv_blocks.specs.Inside.Lookups.{kept_in, IsLastBlock}
use Rattle.iv_blocks.specs.Inside.Insertion.{key_of, IsOfOther, AreInserted, with_block}
use Rattle.iv_blocks.specs.Inside.Repairs.{AreOthers, StaysCovered, without_block, KeepsOthers, JoinsBefore, JoinsAfter, count_from}
use Rattle.iv_blocks.specs.declared.group.Group.{Group}
use Rattle.iv_blocks.specs.declared.options.BlockOptions.{BlockOptions}
use Rattle.iv_cover.specs.declared.column.ColumnSummary.{ColumnSummary}
use Rattle.iv_blocks.proofs.GroupSweeps.{count-parts, count-within}
use Rattle.iv_blocks.proofs.Keys.{key-cases, look-put, look-put_other}
use Rattle.iv_blocks.proofs.MembersLemmas.{between-from}
use Rattle.iv_blocks.proofs.NameLemmas.{name-same}
use Rattle.iv_blocks.proofs.TakeLemmas.{without-here, without-others}
use Rattle.iv_blocks.proofs.RepairLemmas.{shown, IsBegun, found-some, found-block, found-ends, shown-less, removed-right, begun, added-block, added-below, added-above, added-right, added-count, home-count}

-- ---- groups

one_strand : (strand : Option Strand) (a b : Bool) → is_strand a strand ≡ true → is_strand b strand ≡ true → a ≡ b
one_strand None a b e f = absurd (false≢true e)
one_strand (Some Plus) true b e f = absurd (false≢true e)
one_strand (Some Plus) false true e f = absurd (false≢true f)
one_strand (Some Plus) false false e f = refl
one_strand (Some Minus) a b e f = e ∙ sym f
one_strand (Some Dot) a b e f = absurd (false≢true e)

-- a record is on one side at most
one_side : (stranded : Bool) (r : RecordValue) (a b : Bool) → is_on_side stranded a r ≡ true → is_on_side stranded b r ≡ true → a ≡ b
one_side true r a b e f = one_strand r.strand a b e f
one_side false r true b e f = absurd (false≢true e)
one_side false r false true e f = absurd (false≢true f)
one_side false r false false e f = refl

filter-swap : (p t : RecordValue → Bool) (records : List RecordValue) → filter p (filter t records) ≡ filter t (filter p records)
filter-swap p t records =
    filter-filter p t records
    ∙ filter-agree (λ q. t q && p q) (λ q. p q && t q) records (λ q m. same_tests _ _
    (λ e. let both = and_parts (t q) (p q) e in and_from _ _ both.1 both.0)
    (λ e. let both = and_parts (p q) (t q) e in and_from _ _ both.1 both.0))
    ∙ sym (filter-filter t p records)

-- ---- one record more

-- where a record is added, as two parts around it
added-parts : (records : List RecordValue) (r : RecordValue) → (xs : List RecordValue) × (ys : List RecordValue) × (records ≡ xs ++ ys) × (added records r ≡ xs ++ r ∷ ys)
added-parts [] r = ([], [], refl, refl)
added-parts (q ∷ records) r = go (is_le (record_cmp r q)) refl (added-parts records r)
  where
    go : (b : Bool) → is_le (record_cmp r q) ≡ b → (xs : List RecordValue) × (ys : List RecordValue) × (records ≡ xs ++ ys) × (added records r ≡ xs ++ r ∷ ys)
        → (xs : List RecordValue) × (ys : List RecordValue) × (q ∷ records ≡ xs ++ ys) × (added (q ∷ records) r ≡ xs ++ r ∷ ys)
    go true e rest = ([], q ∷ records, refl, cond-true _ _ _ e)
    go false e rest = (q ∷ rest.0, rest.1, ap (λ (l : List RecordValue). q ∷ l) rest.2, cond-false _ _ _ e ∙ ap (λ (l : List RecordValue). q ∷ l) rest.3)

added-more : (records : List RecordValue) (r : RecordValue) → HasOneMore records r (added records r)
added-more records r =
    let parts = added-parts records r in
    subst (λ l. HasOneMore l r (added records r)) (sym parts.2) (subst (λ l. HasOneMore (parts.0 ++ parts.1) r l) (sym parts.3) (one_more parts.0 parts.1 r))

-- the records that pass are no fewer with it
added-fewer : (p : RecordValue → Bool) (records : List RecordValue) (r : RecordValue) → length (filter p records) ≤ length (filter p (added records r))
added-fewer p [] r = omega arith
added-fewer p (q ∷ records) r = go (is_le (record_cmp r q)) refl (cases_Bool (p q)) (cases_Bool (p r)) (added-fewer p records r)
  where
    go : (b : Bool) → is_le (record_cmp r q) ≡ b → (p q ≡ true) ⊎ (p q ≡ false) → (p r ≡ true) ⊎ (p r ≡ false) → length (filter p records) ≤ length (filter p (added records r))
        → length (filter p (q ∷ records)) ≤ length (filter p (added (q ∷ records) r))
    go true e of_q (inl t) rest = rw (e, t) (omega arith)
    go true e of_q (inr f) rest = rw (e, f) (omega arith)
    go false e (inl t) of_r rest = rw (e, t) (omega arith)
    go false e (inr f) of_r rest = rw (e, f) rest

fits-last : (genome : Sequences) (width : ℕ) (records : List RecordValue) → All (Fits genome width) records → (q : RecordValue) → Mem q records → q.start < q.stop
fits-last genome width records fit q m = let fits = all-mem (Fits genome width) records fit q m in fits.is_placed.some

fits-last_more : (genome : Sequences) (width : ℕ) (less records : List RecordValue) (r : RecordValue) → HasOneMore less r records → All (Fits genome width) less → Fits genome width r → (q : RecordValue) → Mem q records → q.start < q.stop
fits-last_more genome width less records r more fit fits q m = elim (more.cases q m) [
  | inl at ↦ subst (λ (x : RecordValue). x.start < x.stop) at fits.is_placed.some
  | inr old ↦ fits-last genome width less fit q old
]

-- nothing changes where the record is not
kept-beside : (o : BlockOptions) (names : List (List ℕ)) (less records : List RecordValue) (r : RecordValue) (k : Key) → HasOneMore less r records → is_in_group o.stranded k.0 k.1 r ≡ false → kept_at o names records k ≡ kept_at o names less k
kept-beside o names less records r k more beside =
    ap (λ (l : List RecordValue). option_map (kept_block (name_of names k.0) (listed o.summaries)) (block_at start_of stop_of o.distance l k.2)) (more.others (is_in_group o.stranded k.0 k.1) beside)

-- so nothing changes if the record is in no group
right-beside : (o : BlockOptions) (names : List (List ℕ)) (less records : List RecordValue) (r : RecordValue) → HasOneMore less r records → ((minus : Bool) → is_on_side o.stranded minus r ≡ false) → (k : Key) → kept_at o names records k ≡ kept_at o names less k
right-beside o names less records r more beside k =
    kept-beside o names less records r k more (false_from_ne_true _ (λ e. both_ways _ (beside k.1) (and_parts (r.seq == k.0) (is_on_side o.stranded k.1 r) e).1))

-- r is of the group g, rows have it, and less are the others
pub record IsEdit (o : BlockOptions) (g : Group) (r : RecordValue) (less records : List RecordValue) : Type 0 where
  pub more : HasOneMore less r records
  pub apart : is_apart g.side ≡ o.stranded
  pub in_group : is_in_group o.stranded g.seq (is_minus g.side) r ≡ true
  pub lasts : (q : RecordValue) → Mem q records → q.start < q.stop

-- what an edit knows of the record's group, which was found by the options p
edit-of : (o p : BlockOptions) (g : Group) (r : RecordValue) (less records : List RecordValue) → p ≡ o → (is_apart g.side ≡ p.stranded) × (is_in_group p.stranded g.seq (is_minus g.side) r ≡ true)
    → HasOneMore less r records → ((q : RecordValue) → Mem q records → q.start < q.stop) → IsEdit o g r less records
edit-of o p g r less records same known more lasts =
    let stranded : p.stranded ≡ o.stranded = ap (λ (x : BlockOptions). x.stranded) same in
    record {
      more = more;
      apart = known.0 ∙ stranded;
      in_group = ap (λ (s : Bool). is_in_group s g.seq (is_minus g.side) r) (sym stranded) ∙ known.1;
      lasts = lasts;
    }

pub edit-added : (o p : BlockOptions) (g : Group) (r : RecordValue) (less records : List RecordValue) (genome : Sequences) (width : ℕ) → p ≡ o → (is_apart g.side ≡ p.stranded) × (is_in_group p.stranded g.seq (is_minus g.side) r ≡ true)
    → records ≡ added less r → All (Fits genome width) records → IsEdit o g r less records
edit-added o p g r less records genome width same known rows_are fit =
    edit-of o p g r less records same known (subst (λ (l : List RecordValue). HasOneMore less r l) (sym rows_are) (added-more less r)) (fits-last genome width records fit)

pub edit-removed : (o p : BlockOptions) (g : Group) (r : RecordValue) (records : List RecordValue) (genome : Sequences) (width : ℕ) → p ≡ o → (is_apart g.side ≡ p.stranded) × (is_in_group p.stranded g.seq (is_minus g.side) r ≡ true)
    → All (Fits genome width) records → Fits genome width r → IsEdit o g r records (added records r)
edit-removed o p g r records genome width same known fit fits =
    let more = added-more records r in
    edit-of o p g r records (added records r) same known more (fits-last_more genome width records (added records r) r more fit fits)

-- blocks stay right if the record is in no group
pub beside-added : (o p : BlockOptions) (names : List (List ℕ)) (less records : List RecordValue) (r : RecordValue) (entries : Entries) → p ≡ o → ((minus : Bool) → is_on_side p.stranded minus r ≡ false)
    → records ≡ added less r → AreBlocksOf o names less entries → AreBlocksOf o names records entries
beside-added o p names less records r entries same beside rows_are right =
    let more : HasOneMore less r records = subst (λ (l : List RecordValue). HasOneMore less r l) (sym rows_are) (added-more less r) in
    record {
      ordered = right.ordered;
      blocks = λ k. right.blocks k ∙ sym (right-beside o names less records r more (subst (λ (x : BlockOptions). (minus : Bool) → is_on_side x.stranded minus r ≡ false) same beside) k);
    }

pub beside-removed : (o p : BlockOptions) (names : List (List ℕ)) (records : List RecordValue) (r : RecordValue) (entries : Entries) → p ≡ o → ((minus : Bool) → is_on_side p.stranded minus r ≡ false)
    → AreBlocksOf o names (added records r) entries → AreBlocksOf o names records entries
beside-removed o p names records r entries same beside right = record {
  ordered = right.ordered;
  blocks = λ k. right.blocks k ∙ right-beside o names records (added records r) r (added-more records r) (subst (λ (x : BlockOptions). (minus : Bool) → is_on_side x.stranded minus r ≡ false) same beside) k;
}

module _ (o : BlockOptions) (names : List (List ℕ)) (g : Group) (r : RecordValue) (less records : List RecordValue) (edit : IsEdit o g r less records) where
  parts : (r.seq == g.seq ≡ true) × (is_on_side o.stranded (is_minus g.side) r ≡ true)
  parts = and_parts (r.seq == g.seq) (is_on_side o.stranded (is_minus g.side) r) edit.in_group

  seq-is : r.seq ≡ g.seq
  seq-is = eqb-true r.seq g.seq parts.0

  abbrev G : List RecordValue
  G = group o.stranded g.seq (is_minus g.side) less

  abbrev H : List RecordValue
  H = group o.stranded g.seq (is_minus g.side) records

  more_g : HasOneMore G r H
  more_g = one_more-filter (is_in_group o.stranded g.seq (is_minus g.side)) less records r edit.more edit.in_group

  lasting : Lasting start_of stop_of o.distance H
  lasting q m = edit.lasts q (mem-filter (is_in_group o.stranded g.seq (is_minus g.side)) records q m).0

  -- other groups stay as they are
  kept-other : (k : Key) → IsOfOther g k → kept_at o names records k ≡ kept_at o names less k
  kept-other k other = kept-beside o names less records r k edit.more (false_from_ne_true _ (λ e.
      let both = and_parts (r.seq == k.0) (is_on_side o.stranded k.1 r) e in
      elim other [
        | inl ne ↦ ne (sym (eqb-true r.seq k.0 both.0) ∙ seq-is)
        | inr ne ↦ ne (one_side o.stranded r k.1 (is_minus g.side) both.1 parts.1)
      ]))

  -- how many records there are around r
  around-is : (low to : ℕ) → IsBlock start_of stop_of o.distance H low to → low ≤ r.start → r.start < to → around o records r ≡ length (between_on g.seq low to records)
  around-is low to block above below =
      pick (is_minus g.side) refl
      ∙ ap (λ (n : ℕ). within_block o.distance (group o.stranded n (is_minus g.side) records) records r) seq-is
      ∙ home-count o.distance (name_of names g.seq) (listed o.summaries) G H r more_g lasting low to records block above below
      ∙ ap (λ (n : ℕ). length (between_on n low to records)) seq-is
    where
      W : Bool → ℕ
      W minus = within_block o.distance (group o.stranded r.seq minus records) records r

      pick : (minus : Bool) → is_minus g.side ≡ minus → around o records r ≡ W (is_minus g.side)
      pick false e =
          let on : is_on_side o.stranded false r ≡ true = ap (λ (m : Bool). is_on_side o.stranded m r) (sym e) ∙ parts.1 in
          cond-true _ _ _ on ∙ ap W (sym e)
      pick true e =
          let on : is_on_side o.stranded true r ≡ true = ap (λ (m : Bool). is_on_side o.stranded m r) (sym e) ∙ parts.1 in
          let off : is_on_side o.stranded false r ≡ false = false_from_ne_true _ (λ t. false≢true (one_side o.stranded r false true t on)) in
          cond-false _ _ _ off ∙ cond-true _ _ _ on ∙ ap W (sym e)

  own-fewer : (low to : ℕ) → length (filter (starts_in start_of stop_of o.distance low to) H) ≤ length (between_on g.seq low to records)
  own-fewer low to =
      let fewer = filter-weaker (λ q. is_in_group o.stranded g.seq (is_minus g.side) q && starts_between low to q) (λ q. (q.seq == g.seq) && starts_between low to q) records (λ q m e.
      let both = and_parts (is_in_group o.stranded g.seq (is_minus g.side) q) (starts_between low to q) e in
      and_from _ _ (and_parts (q.seq == g.seq) (is_on_side o.stranded (is_minus g.side) q) both.0).0 both.1) in
      omega (arith, fewer, ap length (filter-filter (starts_in start_of stop_of o.distance low to) (is_in_group o.stranded g.seq (is_minus g.side)) records))

  -- ---- r is added
  module _ (old mid next : KeptBlocks) (joined : ℕ × ℕ) (to : ℕ) (right : AreBlocksOf o names less old.entries)
      (before : JoinsBefore o.distance (kept_in old.entries g) (kept_in mid.entries g) r.start r.stop joined)
      (after : JoinsAfter o.distance (kept_in mid.entries g) (kept_in next.entries g) r.start joined.1 to) where
    state : IsBegun o.distance (name_of names g.seq) (listed o.summaries) G H r more_g lasting joined.0 joined.1 (kept_in mid.entries g)
    state = begun o.distance (name_of names g.seq) (listed o.summaries) G H r more_g lasting (kept_in old.entries g) (λ x. right.blocks (key_of g x)) (kept_in mid.entries g) joined before

    block : IsBlock start_of stop_of o.distance H joined.0 to
    block = added-block o.distance (name_of names g.seq) (listed o.summaries) G H r more_g lasting joined.0 joined.1 to (kept_in mid.entries g) (kept_in next.entries g) state after

    above : joined.0 ≤ r.start
    above = added-above o.distance (name_of names g.seq) (listed o.summaries) G H r more_g lasting joined.0 joined.1 to (kept_in mid.entries g) (kept_in next.entries g) state after

    below : r.start < to
    below = added-below o.distance (name_of names g.seq) (listed o.summaries) G H r more_g lasting joined.0 joined.1 to (kept_in mid.entries g) (kept_in next.entries g) state after

    added-steps : (count_from (kept_in mid.entries g) r.start (to + o.distance + 1 - r.start) ≤ around o records r) × (length (between_on g.seq joined.0 to records) ≤ around o records r)
    added-steps =
        let all = around-is joined.0 to block above below in
        let few = added-count o.distance (name_of names g.seq) (listed o.summaries) G H r more_g lasting joined.0 joined.1 to (kept_in mid.entries g) (kept_in next.entries g) state after in
        (omega (arith, all, few, own-fewer joined.0 to), omega (arith, all))

    pub added-takes : (start d m0 m1 m2 m3 : ℕ) → start ≡ r.start → d ≡ o.distance → TakesUpTo m0 m1 2
        → TakesUpTo m1 m2 (1 + 2 * count_from (kept_in mid.entries g) start (to + d + 1 - start))
        → TakesUpTo m2 m3 (3 + length (between_on g.seq joined.0 to records)) → TakesUpTo m0 m3 (block_steps o records r)
    added-takes start d m0 m1 m2 m3 at distance first second third =
        let few = added-steps in
        let same : count_from (kept_in mid.entries g) start (to + d + 1 - start) ≡ count_from (kept_in mid.entries g) r.start (to + o.distance + 1 - r.start) =
        ap (λ (n : ℕ). count_from (kept_in mid.entries g) n (to + d + 1 - n)) at ∙ ap (λ (n : ℕ). count_from (kept_in mid.entries g) r.start (to + n + 1 - r.start)) distance in
        record { no_less = omega (arith, first, second, third); at_most = omega (arith, first, second, third, few.0, few.1, same) }

    pub added-all : (new : KeptBlocks) (genome : Sequences) → names ≡ names_of genome → KeepsOthers g old mid → KeepsOthers g mid next → mid.options ≡ o
        → new ≡ with_block next genome records g joined.0 to → IsLedger key_cmp new.entries → AreBlocksOf o names records new.entries
    added-all new genome of_genome first second options put sorted = record {
      ordered = sorted;
      blocks = λ k. elim (key-cases g k) [
        | inl at ↦ ap (value_at key_cmp new.entries) at ∙ here k.2 ∙ ap (kept_at o names records) (sym at)
        | inr other ↦
            ap (λ (b : KeptBlocks). value_at key_cmp b.entries k) put
            ∙ look-put_other next.entries g joined.0 _ k other
            ∙ second.others k other ∙ first.others k other ∙ right.blocks k ∙ sym (kept-other k other)
      ];
    }
      where
        value : Kept
        value = kept_block (sequence_name genome g.seq) (listed next.options.summaries) (to, members_between g joined.0 to records)

        value-is : value ≡ kept_block (name_of names g.seq) (listed o.summaries) (to, filter (starts_in start_of stop_of o.distance joined.0 to) H)
        value-is =
            ap (λ (n : List ℕ). kept_block n (listed next.options.summaries) (to, members_between g joined.0 to records)) (sym (name-same genome g.seq) ∙ ap (λ (l : List (List ℕ)). name_of l g.seq) (sym of_genome))
            ∙ ap (λ (p : BlockOptions). kept_block (name_of names g.seq) (listed p.summaries) (to, members_between g joined.0 to records)) (second.options ∙ options)
            ∙ ap (λ (s : Bool). kept_block (name_of names g.seq) (listed o.summaries) (to, filter (λ q. is_in_group s g.seq (is_minus g.side) q && starts_between joined.0 to q) records)) edit.apart
            ∙ ap (λ (l : List RecordValue). kept_block (name_of names g.seq) (listed o.summaries) (to, l)) (sym (filter-filter (starts_between joined.0 to) (is_in_group o.stranded g.seq (is_minus g.side)) records))

        here : (x : ℕ) → kept_in new.entries g x ≡ kept_at o names records (key_of g x)
        here x = added-right o.distance (name_of names g.seq) (listed o.summaries) G H r more_g lasting joined.0 joined.1 to (kept_in mid.entries g) (kept_in next.entries g) state after (kept_in new.entries g)
            (λ y. ap (λ (b : KeptBlocks). kept_in b.entries g y) put ∙ look-put next.entries g joined.0 value y
            ∙ ap (λ (v : Kept). if y == joined.0 then Some v else kept_in next.entries g y) value-is) x

  -- ---- r is taken away
  module _ (old : KeptBlocks) (right : AreBlocksOf o names records old.entries) where
    pub removed-found : ((x : ℕ) → x ≤ r.start → kept_in old.entries g x ≡ None) → ⊥
    removed-found none = found-some o.distance (name_of names g.seq) (listed o.summaries) G H r more_g lasting (kept_in old.entries g) (λ x. right.blocks (key_of g x)) none

    -- nothing is changed if another record from its start on reaches as far, and nothing is kept of a block's records
    pub removed-covered : (start stop : ℕ) → start ≡ r.start → stop ≡ r.stop → StaysCovered o g less start stop → AreBlocksOf o names less old.entries
    removed-covered start stop at_start at_stop stays = record {
      ordered = right.ordered;
      blocks = λ k. elim (key-cases g k) [
        | inl at ↦ right.blocks k ∙ ap (kept_at o names records) at ∙ same k.2 ∙ ap (kept_at o names less) (sym at)
        | inr other ↦ right.blocks k ∙ kept-other k other
      ];
    }
      where
        q : RecordValue
        q = stays.first

        here : Mem q G
        here =
            let m : Mem q (members_between g start stop less) = subst (λ (l : List RecordValue). Mem q l) (sym stays.members) (inl refl) in
            let is = mem-filter (λ p. is_in_group (is_apart g.side) g.seq (is_minus g.side) p && starts_between start stop p) less q m in
            let both = and_parts (is_in_group (is_apart g.side) g.seq (is_minus g.side) q) (starts_between start stop q) is.1 in
            mem-filter_from (is_in_group o.stranded g.seq (is_minus g.side)) less q is.0 (ap (λ (s : Bool). is_in_group s g.seq (is_minus g.side) q) (sym edit.apart) ∙ both.0)

        same : (x : ℕ) → kept_at o names records (key_of g x) ≡ kept_at o names less (key_of g x)
        same x = shown-less o.distance (name_of names g.seq) (listed o.summaries) G H r more_g lasting q here (stays.starts ∙ at_start) (omega (arith, stays.reaches, at_stop))
            (λ s a b. subst (λ (l : List ColumnSummary). kept_block (name_of names g.seq) l (s, a) ≡ kept_block (name_of names g.seq) l (s, b)) (sym stays.plain) refl) x

    module _ (b : ℕ × ℕ) (last : IsLastBlock (kept_in old.entries g) r.start b) where
      block_is : IsBlock start_of stop_of o.distance H b.0 b.1
      block_is = found-block o.distance (name_of names g.seq) (listed o.summaries) G H r more_g lasting (kept_in old.entries g) (λ x. right.blocks (key_of g x)) b last

      ends : r.stop ≤ b.1
      ends = found-ends o.distance (name_of names g.seq) (listed o.summaries) G H r more_g lasting (kept_in old.entries g) (λ x. right.blocks (key_of g x)) b last

      -- the other records of the block stop in it
      pub removed-stops : All (λ q. q.stop ≤ b.1) (members_between g b.0 b.1 less)
      removed-stops = mem-all (λ q. q.stop ≤ b.1) _ (λ q m.
          let is = mem-filter (λ q. is_in_group (is_apart g.side) g.seq (is_minus g.side) q && starts_between b.0 b.1 q) less q m in
          let both = and_parts (is_in_group (is_apart g.side) g.seq (is_minus g.side) q) (starts_between b.0 b.1 q) is.1 in
          let here = mem-filter_from (is_in_group o.stranded g.seq (is_minus g.side)) records q (edit.more.old q is.0) (ap (λ (s : Bool). is_in_group s g.seq (is_minus g.side) q) (sym edit.apart) ∙ both.0) in
          let range = starts_in-true start_of stop_of o.distance b.0 b.1 q both.1 in
          stops_within start_of stop_of o.distance H b.0 b.1 block_is q here (omega (arith, range.1)))

      member-of : (q : RecordValue) → Mem q G → b.0 ≤ q.start → q.start < b.1 → Mem q (members_between g b.0 b.1 less)
      member-of q m above below =
          let both = mem-filter (is_in_group o.stranded g.seq (is_minus g.side)) less q m in
          mem-filter_from (λ p. is_in_group (is_apart g.side) g.seq (is_minus g.side) p && starts_between b.0 b.1 p) less q both.0
          (and_from _ _ (ap (λ (s : Bool). is_in_group s g.seq (is_minus g.side) q) edit.apart ∙ both.1) (between-from b.0 b.1 q above below))

      -- one of them starts where the block does, unless r does, and they reach each position of it, unless r does
      pub removed-others : (start stop : ℕ) → start ≡ r.start → stop ≡ r.stop → AreOthers o.distance b (start, stop) (members_between g b.0 b.1 less)
      removed-others start stop at_start at_stop = record {
        within = omega (arith, last.within, at_start);
        below = let long = lasting r more_g.added in omega (arith, ends, long, at_start);
        stops = removed-stops;
        starts = λ before.
            let first = block_is.starts in
            let long : b.0 < b.1 = block_is.long in
            elim (more_g.cases first.0 first.1) [
              | inl is ↦ absurd (omega (arith, before, at_start, ap start_of is, first.2))
              | inr old ↦ any-at (λ q. q.start == b.0) (members_between g b.0 b.1 less) first.0
                  (member-of first.0 old (omega (arith, first.2)) (omega (arith, first.2, long))) (eq-eqb _ _ first.2)
            ];
        reached = λ x above within far.
            let c = block_is.covered x above within in
            elim (more_g.cases c.0 c.1) [
              | inl is ↦ absurd (elim far [
                | inl early ↦ omega (arith, early, at_start, c.2, ap start_of is)
                | inr past ↦ omega (arith, past, at_stop, c.3, ap stop_of is)
              ])
              | inr old ↦ any-at (reaches start_of stop_of o.distance x) (members_between g b.0 b.1 less) c.0
                  (member-of c.0 old (from-low x c above) (below-high x c within)) (and_from _ _ (lt-ltb _ _ c.2) (le-leb _ _ c.3))
            ];
      }
        where
          from-low : (x : ℕ) (c : Covered start_of stop_of o.distance H x) → b.0 < x → b.0 ≤ c.0.start
          from-low x c above = elim (cases_lt c.0.start b.0) [
            | inl early ↦ let far = block_is.free c.0 c.1 early in absurd (omega (arith, far, above, c.3))
            | inr from ↦ from
          ]

          below-high : (x : ℕ) (c : Covered start_of stop_of o.distance H x) → x ≤ b.1 + o.distance → c.0.start < b.1
          below-high x c within =
              let long = lasting c.0 c.1 in
              let stops = stops_within start_of stop_of o.distance H b.0 b.1 block_is c.0 c.1 (omega (arith, c.2, within)) in
              omega (arith, long, stops)

      -- those that start within r are some of those that start within its block
      own-within : length (between_on g.seq r.start r.stop less) ≤ length (between_on g.seq b.0 b.1 less)
      own-within =
          let long = lasting r more_g.added in
          omega (
            arith,
            count-within g.seq r.start r.stop b.1 less (omega (arith, long)) ends,
            count-parts g.seq b.0 r.start b.1 less last.within (omega (arith, long, ends)),
          )

      pub covered-takes : (start stop m0 m1 m2 : ℕ) → start ≡ r.start → stop ≡ r.stop → records ≡ added less r → TakesUpTo m0 m1 1
          → TakesUpTo m1 m2 (2 + length (between_on g.seq start stop less)) → TakesUpTo m0 m2 (block_steps o records r)
      covered-takes start stop m0 m1 m2 at_start at_stop rows_are first second =
          let all = around-is b.0 b.1 block_is last.within (omega (arith, ends, lasting r more_g.added)) in
          let fewer = added-fewer (λ q. (q.seq == g.seq) && starts_between b.0 b.1 q) less r in
          let same = ap (λ (l : List RecordValue). length (between_on g.seq b.0 b.1 l)) rows_are in
          let here : length (between_on g.seq start stop less) ≡ length (between_on g.seq r.start r.stop less) =
          ap (λ (n : ℕ). length (between_on g.seq n stop less)) at_start ∙ ap (λ (n : ℕ). length (between_on g.seq r.start n less)) at_stop in
          record { no_less = omega (arith, first, second); at_most = omega (arith, first, second, all, fewer, same, here, own-within) }

      pub removed-takes : (start stop m0 m1 m2 m3 m4 : ℕ) → start ≡ r.start → stop ≡ r.stop → records ≡ added less r → TakesUpTo m0 m1 1
          → TakesUpTo m1 m2 (2 + length (between_on g.seq start stop less)) → TakesUpTo m2 m3 1
          → TakesUpTo m3 m4 (2 + 5 * length (between_on g.seq b.0 b.1 less)) → TakesUpTo m0 m4 (block_steps o records r)
      removed-takes start stop m0 m1 m2 m3 m4 at_start at_stop rows_are zeroth look second third =
          let all = around-is b.0 b.1 block_is last.within (omega (arith, ends, lasting r more_g.added)) in
          let fewer = added-fewer (λ q. (q.seq == g.seq) && starts_between b.0 b.1 q) less r in
          let same = ap (λ (l : List RecordValue). length (between_on g.seq b.0 b.1 l)) rows_are in
          let here : length (between_on g.seq start stop less) ≡ length (between_on g.seq r.start r.stop less) =
          ap (λ (n : ℕ). length (between_on g.seq n stop less)) at_start ∙ ap (λ (n : ℕ). length (between_on g.seq r.start n less)) at_stop in
          record { no_less = omega (arith, zeroth, look, second, third); at_most = omega (arith, zeroth, look, second, third, all, fewer, same, here, own-within) }

      pub removed-all : (new : KeptBlocks) → old.options ≡ o → AreInserted g names (between b.0 b.1 less) (without_block old g b.0) new → AreBlocksOf o names less new.entries
      removed-all new options put = record {
        ordered = put.ordered;
        blocks = λ k. elim (key-cases g k) [
          | inl at ↦ ap (value_at key_cmp new.entries) at ∙ here k.2 ∙ ap (kept_at o names less) (sym at)
          | inr other ↦ put.others k other ∙ without-others old.entries g b.0 right.ordered k other ∙ right.blocks k ∙ kept-other k other
        ];
      }
        where
          here : (x : ℕ) → kept_in new.entries g x ≡ kept_at o names less (key_of g x)
          here x = removed-right o.distance (name_of names g.seq) (listed o.summaries) G H r more_g lasting (kept_in old.entries g) (λ x. right.blocks (key_of g x)) b
              (kept_in (without_block old g b.0).entries g) (kept_in new.entries g) last
              (λ y. without-here old.entries g b.0 right.ordered y)
              (λ y. put.here y
              ∙ ap (λ (p : BlockOptions). option_or (kept_at p names (between b.0 b.1 less) (key_of g y)) (kept_in (without_block old g b.0).entries g y)) options
              ∙ ap (λ (l : List RecordValue). option_or (shown o.distance (name_of names g.seq) (listed o.summaries) l y) (kept_in (without_block old g b.0).entries g y))
              (filter-swap (is_in_group o.stranded g.seq (is_minus g.side)) (starts_between b.0 b.1) less)) x
