-- Net changes of depth, from the edges of records, sequence by sequence.
use Rattle.std.proofs.Common.{◌≡◌, ◌≢◌, sym, ap, ap₂, subst, ◌∙◌, ℕ, ◌+◌, ◌<◌, ◌≤◌, inl, inr, List, [], ◌∷◌, ◌++◌, All, refl, arith, true, false, Bool, ◌&&◌, ◌==◌, cond, count_by, nat_le, Some, None, append-nil, get_or, length, eq-eqb}
use Rattle.std.specs.Prelude.{ℤ, pos, ◌+ℤ◌, ◌-ℤ◌, if◌then◌else◌}
use Rattle.std.specs.declared.cmp.Ordering.{Ordering}
use Rattle.std.specs.declared.cmp.Ordering.TheVariants.{Less, Equal, Greater}
use Rattle.std.specs.Ordering.{nat_cmp, ordering_then}
use Rattle.std.specs.Cmp.{nat_cmp_is}
use Rattle.std.proofs.lemmas.Bool.{cases_lt, ne_eqb}
use Rattle.std.proofs.lemmas.Int.{ints}
use Rattle.std.proofs.lemmas.List.Elements.{All-map, All-nil, All-push, All-head, All-tail}
use Rattle.std.proofs.lemmas.List.Sums.{sum_by-cons}
use Rattle.iv_lines.specs.Genome.{Sequences, seq_count}
use Rattle.iv_lines.specs.Read.{Fits}
use Rattle.iv_lines.specs.RecordValue.{RecordValue}
use Rattle.iv_cover.specs.Depth.{depth}
use Rattle.iv_track.proofs.NumberOrder.{pair_total}
use Rattle.iv_ledger.specs.Entries.{IsLedger, pair_cmp}
use Rattle.iv_ledger.proofs.Splits.{ledger_nil, sorted_insert}
use Rattle.iv_depth.specs.Changes.{ChangeKey, Entries, total, reaches, AreChangesOf}
use Rattle.iv_depth.specs.Inside.Changes.{AreChangesBefore}
use Rattle.iv_depth.specs.Inside.Edges.{Remaining, RiseFrom, net, TakesChange, GivesChange, AreEdgesOf}
use Rattle.iv_depth.proofs.DepthLemmas.{depth-past}

-- ---- keys

-- a key on a later sequence, or further on the same one, is greater
rank-order : (seq n : ℕ) (k : ChangeKey) → k.0 < seq → pair_cmp (seq, n) k ≡ Greater
rank-order seq n k low = subst (λ (o : Ordering). ordering_then o (nat_cmp n k.1) ≡ Greater) (nat_cmp_is seq k.0 Greater low) refl

place-order : (seq n m : ℕ) → m < n → pair_cmp (seq, n) (seq, m) ≡ Greater
place-order seq n m low = subst (λ (o : Ordering). ordering_then o (nat_cmp n m) ≡ Greater) (nat_cmp_is seq seq Equal refl) (sym (nat_cmp_is n m Greater low))

-- ---- sums of changes

-- one entry more
total-push : (passes : ChangeKey → Bool) (es : Entries) (e : ChangeKey × ℤ) → total passes (es ++ e ∷ []) ≡ total passes es +ℤ (if passes e.0 then e.1 else pos 0)
total-push passes [] e = omega (arith, ints)
total-push passes (f ∷ es) e = omega (arith, ints, total-push passes es e)

-- none is on a later sequence
total-past : (seq other p : ℕ) (es : Entries) → All (λ e. e.0.0 < seq) es → seq ≤ other → total (reaches other p) es ≡ pos 0
total-past seq other p [] low past = refl
total-past seq other p (e ∷ es) low past =
    let first : e.0.0 < seq = All-head (λ (x : ChangeKey × ℤ). x.0.0 < seq) e es low in
    let off : (e.0.0 == other) ≡ false = ne_eqb e.0.0 other (λ at. omega (arith, first, past, at)) in
    rw off (omega (arith, ints, total-past seq other p es (All-tail (λ (x : ChangeKey × ℤ). x.0.0 < seq) e es low) past))

none-pass : (ns : List ℕ) → count_by (λ _. false) ns ≡ 0
none-pass [] = refl
none-pass (n ∷ ns) = omega (arith, none-pass ns, sum_by-cons (λ (x : ℕ). cond {A = ℕ} false 1 0) n ns)

net-off : (edges : Remaining) → net (λ _. false) edges ≡ pos 0
net-off edges = ap₂ {C = ℤ} (λ (a b : ℕ). pos a -ℤ pos b) (none-pass edges.starts) (none-pass edges.stops)

-- ---- the changes of one sequence, one after another, behind those of sequences before it

-- the changes so far, and those at the edges that are left, are the old ones and those at all edges; all keys so far are below the ones left
pub record IsBuilding (seq : ℕ) (edges : Remaining) (old entries : Entries) (left : Remaining) : Type 0 where
  pub from : ℕ
  pub rise : RiseFrom from left
  pub below : (n : ℕ) → from ≤ n → All (λ e. pair_cmp (seq, n) e.0 ≡ Greater) entries
  pub ordered : IsLedger pair_cmp entries
  pub changes : All (λ e. e.1 ≢ pos 0) entries
  pub ranks : All (λ e. e.0.0 < seq + 1) entries
  pub sums : (passes : ChangeKey → Bool) → total passes entries +ℤ net (λ n. passes (seq, n)) left ≡ total passes old +ℤ net (λ n. passes (seq, n)) edges

module _ (seq : ℕ) (edges : Remaining) (old : Entries) where
  -- none yet
  pub building-begin : (records : List RecordValue) → AreChangesBefore seq records old → RiseFrom 0 edges → IsBuilding seq edges old old edges
  building-begin records are rise = record {
    from = 0;
    rise = rise;
    below = λ n low k d within. rank-order seq n (get_or old k d).0 (are.ranks k d within);
    ordered = are.ordered;
    changes = are.changes;
    ranks = λ k d within. let low : (get_or old k d).0.0 < seq = are.ranks k d within in omega (arith, low);
    sums = λ passes. refl;
  }

  -- the next change
  pub building-next : (left after : Remaining) (entries more : Entries) (n : ℕ) (z : ℤ) → GivesChange left (Some (n, z)) after
      → more ≡ entries ++ ((seq, n), z) ∷ [] → IsBuilding seq edges old entries left → IsBuilding seq edges old more after
  building-next left after entries more n z gives pushed b =
      let t : TakesChange b.from left n z after = gives b.from b.rise in
      subst (λ (es : Entries). IsBuilding seq edges old es after) (sym pushed) (record {
        from = n + 1;
        rise = t.later;
        below = λ m past.
            All-push (λ (e : ChangeKey × ℤ). pair_cmp (seq, m) e.0 ≡ Greater) entries ((seq, n), z) (b.below m (omega (arith, past, t.low))) (place-order seq m n (omega (arith, past)));
        ordered = sorted_insert pair_total (seq, n) z entries [] (b.below n t.low) (All-nil (λ (e : ChangeKey × ℤ). pair_cmp (seq, n) e.0 ≡ Less))
            (subst (IsLedger pair_cmp) (sym (append-nil entries)) b.ordered);
        changes = All-push (λ (e : ChangeKey × ℤ). e.1 ≢ pos 0) entries ((seq, n), z) b.changes t.other;
        ranks = All-push (λ (e : ChangeKey × ℤ). e.0.0 < seq + 1) entries ((seq, n), z) b.ranks (omega arith);
        sums = λ passes. omega (arith, ints, b.sums passes, t.sums (λ m. passes (seq, m)), total-push passes entries ((seq, n), z));
      })

  -- there is no next one
  pub building-all : (left after : Remaining) (entries : Entries) → GivesChange left None after → IsBuilding seq edges old entries left
      → (records : List RecordValue) → AreChangesBefore seq records old → AreEdgesOf (depth records seq) edges → AreChangesBefore (seq + 1) records entries
  building-all left after entries none b records are of = record {
    ordered = b.ordered;
    changes = b.changes;
    ranks = b.ranks;
    depths = λ other p low. elim (cases_lt other seq) [
      | inl before ↦ earlier other p before
      | inr since ↦ let same : seq ≡ other = omega (arith, low, since) in
          subst (λ (s : ℕ). total (reaches s p) entries ≡ pos (depth records s p)) same (here p)
    ];
  }
    where
      sum : (other p : ℕ) → total (reaches other p) entries ≡ total (reaches other p) old +ℤ net (λ n. reaches other p (seq, n)) edges
      sum other p = omega (arith, ints, b.sums (reaches other p), none b.from b.rise (λ n. reaches other p (seq, n)))

      earlier : (other p : ℕ) → other < seq → total (reaches other p) entries ≡ pos (depth records other p)
      earlier other p before =
          let off : (seq == other) ≡ false = ne_eqb seq other (λ at. omega (arith, before, at)) in
          let added : net (λ n. reaches other p (seq, n)) edges ≡ pos 0
          = ap {B = ℤ} (λ (b : Bool). net (λ n. b && nat_le n p) edges) off ∙ net-off edges in
          omega (arith, ints, sum other p, added, are.depths other p before)

      here : (p : ℕ) → total (reaches seq p) entries ≡ pos (depth records seq p)
      here p =
          let on_it : (seq == seq) ≡ true = eq-eqb seq seq refl in
          let added : net (λ n. reaches seq p (seq, n)) edges ≡ pos (depth records seq p)
          = ap {B = ℤ} (λ (b : Bool). net (λ n. b && nat_le n p) edges) on_it ∙ sym (of.depths p) in
          omega (arith, ints, sum seq p, added, total-past seq seq p old are.ranks (omega arith))

-- ---- all sequences

-- none yet
pub before-begin : (records : List RecordValue) (entries : Entries) → entries ≡ [] → AreChangesBefore 0 records entries
before-begin records entries none = subst (AreChangesBefore 0 records) (sym none) (record {
  ordered = ledger_nil ChangeKey ℤ pair_cmp;
  changes = All-nil (λ (e : ChangeKey × ℤ). e.1 ≢ pos 0);
  ranks = All-nil (λ (e : ChangeKey × ℤ). e.0.0 < 0);
  depths = λ other p low. absurd (omega (arith, low));
})

-- all of them
pub before-all : (g : Sequences) (width : ℕ) (records : List RecordValue) (entries : Entries) → All (Fits g width) records → AreChangesBefore (seq_count g) records entries
    → AreChangesOf records entries
before-all g width records entries fit are = record {
  ordered = are.ordered;
  changes = All-map (λ z. z ≢ pos 0) (λ (e : ChangeKey × ℤ). e.1) entries are.changes;
  depths = λ seq p. elim (cases_lt seq (seq_count g)) [
    | inl low ↦ are.depths seq p low
    | inr high ↦ total-past (seq_count g) seq p entries are.ranks high ∙ ap pos (sym (none seq p high))
  ];
}
  where
    none : (seq p : ℕ) → seq_count g ≤ seq → depth records seq p ≡ 0
    none seq p high = depth-past records seq 0 p (λ k d within is. let low : (get_or records k d).seq < length g = (fit k d within).is_placed.within.0 in absurd (omega (arith, low, is, high))) (omega arith)
