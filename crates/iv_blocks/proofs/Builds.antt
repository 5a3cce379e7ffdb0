-- The blocks of all records, sequence by sequence.
use Rattle.std.proofs.Common.{ℕ, ◌+◌, ◌<◌, ◌≤◌, ◌≡◌, inl, inr, Bool, true, false, ◌==◌, List, [], length, All, None, refl, sym, ap, subst, ◌∙◌, arith, eqb-true}
use Rattle.std.specs.List.Sorted.{IsStrictlySortedBy}
use Rattle.std.specs.Option.{option_map, option_or}
use Rattle.std.proofs.lemmas.Bool.{cases_eq, cases_lt, and_parts, and_from, false_from_ne_true}
use Rattle.iv_lines.specs.Genome.{Sequences, sequence_length}
use Rattle.iv_lines.specs.Named.{names_of}
use Rattle.iv_lines.specs.Read.{Fits}
use Rattle.iv_lines.specs.RecordValue.{RecordValue}
use Rattle.iv_ledger.specs.Entries.{IsLedger, value_at}
use Rattle.iv_cover.specs.Blocks.{block_at, start_of, stop_of}
use Rattle.iv_lines.proofs.ListLemmas.{Mem, filter-agree, filter-filter, filter-none, all-mem, mem-all, same_tests}
use Rattle.iv_blocks.specs.Inside.Groups.{is_in_group, starts_between, between, members_between, is_minus}
use Rattle.iv_blocks.specs.Groups.{is_on_side, group, listed}
use Rattle.iv_blocks.specs.KeptBlocks.{Key, key_cmp, Kept, Entries, KeptBlocks, kept_block, kept_at, name_of, AreBlocksOf}
use Rattle.iv_blocks.specs.Inside.Insertion.{AreInserted, AreInsertedOn}
use Rattle.iv_blocks.specs.Inside.Repairs.{AreOthers}
use Rattle.iv_blocks.specs.declared.group.Group.{Group}
use Rattle.iv_blocks.specs.declared.group.Side.{Side}
use Rattle.iv_blocks.specs.declared.group.Side.TheVariants.{Plus, Minus}
use Rattle.iv_blocks.specs.declared.options.BlockOptions.{BlockOptions}
use Rattle.iv_blocks.proofs.GroupSweeps.{member-in}
use Rattle.iv_blocks.proofs.MembersLemmas.{between-from}
use Rattle.iv_blocks.proofs.JoinLemmas.{or-none}

-- the sequences below this rank have their blocks, and the others have none yet
pub record IsBuiltTo (genome : Sequences) (records : List RecordValue) (options : BlockOptions) (seq : ℕ) (now : KeptBlocks) : Type 0 where
  pub for_options : now.options ≡ options
  pub ordered : IsLedger key_cmp now.entries
  pub below : (k : Key) → k.0 < seq → value_at key_cmp now.entries k ≡ kept_at options (names_of genome) records k
  pub from : (k : Key) → seq ≤ k.0 → value_at key_cmp now.entries k ≡ None

no_entries : IsLedger {V = Kept} key_cmp []
unfolding IsStrictlySortedBy
no_entries = tt

-- no block is kept yet
pub built-none : (genome : Sequences) (records : List RecordValue) (now : KeptBlocks) → now.entries ≡ [] → IsBuiltTo genome records now.options 0 now
built-none genome records now none = record {
  for_options = refl;
  ordered = subst (λ (l : Entries). IsLedger key_cmp l) (sym none) no_entries;
  below = λ k low. absurd (omega arith);
  from = λ k high. ap (λ (l : Entries). value_at key_cmp l k) none;
}

module _ (genome : Sequences) (width : ℕ) (records : List RecordValue) (fit : All (Fits genome width) records) where
  fits : (q : RecordValue) → Mem q records → Fits genome width q
  fits = all-mem (Fits genome width) records fit

  -- the records of a sequence are what is left of a record over all of it
  pub all-others : (g : Group) (end d : ℕ) → end ≡ sequence_length genome g.seq → AreOthers d (0, end) (0, end) (members_between g 0 end records)
  all-others g end d is = record {
    within = omega arith;
    below = omega arith;
    stops = mem-all (λ r. r.stop ≤ end) _ (λ q m.
        let member = member-in g 0 end records q m in
        let within : q.stop ≤ sequence_length genome q.seq = (fits q member.0).is_placed.within.1 in
        omega (arith, is, ap (sequence_length genome) member.1));
    starts = λ before. absurd (omega (arith, before));
    reached = λ x above within far. absurd (elim far [ inl early ↦ omega (arith, early, above) | inr past ↦ omega (arith, past, within) ]);
  }

  in_group-seq : (s : Bool) (seq : ℕ) (minus : Bool) (q : RecordValue) → is_in_group s seq minus q ≡ true → q.seq ≡ seq
  in_group-seq s seq minus q e = eqb-true _ _ (and_parts (q.seq == seq) (is_on_side s minus q) e).0

  -- so all records of a sequence are between its ends
  pub group-whole : (s : Bool) (seq : ℕ) (minus : Bool) → group s seq minus (between 0 (sequence_length genome seq) records) ≡ group s seq minus records
  group-whole s seq minus =
      filter-filter (is_in_group s seq minus) (starts_between 0 (sequence_length genome seq)) records
      ∙ filter-agree _ _ records (λ q m. same_tests _ _
      (λ e. (and_parts (starts_between 0 (sequence_length genome seq) q) (is_in_group s seq minus q) e).1)
      (λ e.
      let is_placed = (fits q m).is_placed in
      let at : sequence_length genome q.seq ≡ sequence_length genome seq = ap (sequence_length genome) (in_group-seq s seq minus q e) in
      and_from _ _ (between-from 0 (sequence_length genome seq) q (omega arith) (omega (arith, is_placed.some, is_placed.within.1, at))) e))

  pub kept-whole : (o : BlockOptions) (seq : ℕ) (minus : Bool) (x : ℕ)
      → kept_at o (names_of genome) (between 0 (sequence_length genome seq) records) (seq, minus, x) ≡ kept_at o (names_of genome) records (seq, minus, x)
  kept-whole o seq minus x =
      ap (λ (l : List RecordValue). option_map (kept_block (name_of (names_of genome) seq) (listed o.summaries)) (block_at start_of stop_of o.distance l x)) (group-whole o.stranded seq minus)

  -- nor past the last sequence
  pub kept-past : (o : BlockOptions) (k : Key) → length genome ≤ k.0 → kept_at o (names_of genome) records k ≡ None
  kept-past o k past =
      ap (λ (l : List RecordValue). option_map (kept_block (name_of (names_of genome) k.0) (listed o.summaries)) (block_at start_of stop_of o.distance l k.2))
      (filter-none (is_in_group o.stranded k.0 k.1) records (λ q m. false_from_ne_true _ (λ e.
      let low = (fits q m).is_placed.within.0 in
      let at = in_group-seq o.stranded k.0 k.1 q e in
      omega (arith, low, at))))

  module _ (seq end : ℕ) (is : end ≡ sequence_length genome seq) (old : KeptBlocks) where
    -- a side's blocks are inserted, as they are to be
    put-whole : (side : Side) (now next : KeptBlocks) → now.options ≡ old.options
        → AreInserted (record { seq = seq; side = side }) (names_of genome) (between 0 end records) now next
        → (x : ℕ) → value_at key_cmp next.entries (seq, is_minus side, x) ≡ option_or (kept_at old.options (names_of genome) records (seq, is_minus side, x)) (value_at key_cmp now.entries (seq, is_minus side, x))
    put-whole side now next same put x =
        put.here x
        ∙ ap (λ o. option_or (kept_at o (names_of genome) (between 0 end records) (seq, is_minus side, x)) (value_at key_cmp now.entries (seq, is_minus side, x))) same
        ∙ ap (λ (n : ℕ). option_or (kept_at old.options (names_of genome) (between 0 n records) (seq, is_minus side, x)) (value_at key_cmp now.entries (seq, is_minus side, x))) is
        ∙ ap (λ o. option_or o (value_at key_cmp now.entries (seq, is_minus side, x))) (kept-whole old.options seq (is_minus side) x)

    -- both sides are all
    pub put-both : (now new : KeptBlocks)
        → AreInserted (record { seq = seq; side = Plus }) (names_of genome) (between 0 end records) old now
        → AreInserted (record { seq = seq; side = Minus }) (names_of genome) (between 0 end records) now new
        → AreInsertedOn seq (names_of genome) records old new
    put-both now new first second = record {
      options = second.options ∙ first.options;
      ordered = second.ordered;
      here = both;
      others = λ k other. second.others k (inl other) ∙ first.others k (inl other);
    }
      where
        both : (minus : Bool) (x : ℕ) → value_at key_cmp new.entries (seq, minus, x) ≡ option_or (kept_at old.options (names_of genome) records (seq, minus, x)) (value_at key_cmp old.entries (seq, minus, x))
        both false x = second.others (seq, false, x) (inr (λ same. cc)) ∙ put-whole Plus old now refl first x
        both true x =
            put-whole Minus now new first.options second x
            ∙ ap (option_or (kept_at old.options (names_of genome) records (seq, true, x))) (first.others (seq, true, x) (inr (λ same. cc)))

  pub built-next : (options : BlockOptions) (seq : ℕ) (now next : KeptBlocks) → IsBuiltTo genome records options seq now → AreInsertedOn seq (names_of genome) records now next → IsBuiltTo genome records options (seq + 1) next
  built-next options seq now next built put = record {
    for_options = put.options ∙ built.for_options;
    ordered = put.ordered;
    below = λ k low. elim (cases_eq k.0 seq) [
      | inl at ↦
          let key : k ≡ (seq, k.1, k.2) = λ i. (at i, k.1, k.2) in
          ap (value_at key_cmp next.entries) key
          ∙ put.here k.1 k.2
          ∙ ap (option_or (kept_at now.options (names_of genome) records (seq, k.1, k.2))) (built.from (seq, k.1, k.2) (omega arith))
          ∙ or-none _
          ∙ ap (λ o. kept_at o (names_of genome) records (seq, k.1, k.2)) built.for_options
          ∙ sym (ap (kept_at options (names_of genome) records) key)
      | inr ne ↦ put.others k ne ∙ built.below k (omega arith)
    ];
    from = λ k high. put.others k (λ at. omega arith) ∙ built.from k (omega arith);
  }

  pub built-all : (options : BlockOptions) (seq : ℕ) (now : KeptBlocks) → IsBuiltTo genome records options seq now → length genome ≤ seq → AreBlocksOf options (names_of genome) records now.entries
  built-all options seq now built past = record {
    ordered = built.ordered;
    blocks = λ k. elim (cases_lt k.0 seq) [
      | inl low ↦ built.below k low
      | inr high ↦ built.from k high ∙ sym (kept-past options k (omega arith))
    ];
  }
