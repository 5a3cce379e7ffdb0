-- A walk over the entries of one sequence after another.
use Rattle.std.proofs.Common.{◌≡◌, ◌≢◌, ℕ, ◌+◌, ◌<◌, ◌≤◌, ◌^◌, [], ◌∷◌, refl, sym, ◌∙◌, ap, subst, arith, eqb, false, Ordering, Less, Equal, Greater, nat_cmp}
use Rattle.std.proofs.lemmas.Bool.{ne_eqb, eq-eqb}
use Rattle.std.proofs.lemmas.Int.{ints}
use Rattle.std.proofs.lemmas.List.Elements.{All-tail}
use Rattle.std.specs.Prelude.{ℤ, pos, All}
use Rattle.std.specs.List.{AllByRecursion}
use Rattle.std.specs.List.Sorted.{IsStrictlySortedBy}
use Rattle.std.specs.Map.{keys_of, values_of}
use Rattle.std.proofs.lemmas.Cmp.{ranked}
use Rattle.iv_lines.specs.Genome.{Sequences, sequence_length}
use Rattle.iv_ledger.specs.Entries.{IsLedger, pair_cmp}
use Rattle.iv_depth.specs.Changes.{ChangeKey, Entries, total, reaches}
use Rattle.iv_depth.specs.Inside.DepthChanges.{IsChange}
use Rattle.iv_depth.specs.Inside.Walks.{on, Follows, AreAhead}
use Rattle.iv_depth.proofs.Breaks.{AreBreaks-on, Follows-on, Follows-end, Step-at}

-- entries of higher ranks are not on this sequence
pub on-higher : (seq : ℕ) (entries : Entries) → AllByRecursion (λ e. seq + 1 ≤ e.0.0) entries → on seq entries ≡ []
on-higher seq [] h = refl
on-higher seq (e ∷ entries) h =
    let off : eqb e.0.0 seq ≡ false = ne_eqb e.0.0 seq (λ is. absurd (omega (arith, h.0, is))) in
    rw off (on-higher seq entries h.1)

pub on-here : (seq p : ℕ) (z : ℤ) (entries : Entries) → on seq (((seq, p), z) ∷ entries) ≡ (p, z) ∷ on seq entries
on-here seq p z entries = rw (eq-eqb seq seq refl) refl

-- entries in order are of no lower rank than the first
pub ranks-rise : (e : ChangeKey × ℤ) (rest : Entries) (seq : ℕ) → seq ≤ e.0.0
    → IsLedger pair_cmp (e ∷ rest) → AllByRecursion (λ x. seq ≤ x.0.0) (e ∷ rest)
unfolding IsStrictlySortedBy
ranks-rise e rest seq low sorted = (low, later rest sorted.0)
  where
    rise : (j k : ChangeKey) → pair_cmp j k ≡ Less → j.0 ≤ k.0
    rise j k less = go (nat_cmp j.0 k.0) refl
      where
        go : (o : Ordering) → nat_cmp j.0 k.0 ≡ o → j.0 ≤ k.0
        go Less is = let lt = ranked j.0 k.0 Less (sym is) in omega (arith, lt)
        go Equal is = let eq = ranked j.0 k.0 Equal (sym is) in omega (arith, eq)
        go Greater is = let g : Greater ≡ Less = rw is at less in cc

    later : (rest : Entries) → AllByRecursion (λ y. pair_cmp e.0 y ≡ Less) (keys_of rest) → AllByRecursion (λ x. seq ≤ x.0.0) rest
    later [] h = tt
    later (x ∷ rest) h = let up = rise e.0 x.0 h.0 in (omega (arith, up), later rest h.1)

-- the first entry, if there is one, is not on the sequence of this rank
abbrev pub BeginsElsewhere : ℕ → Entries → Type 0
BeginsElsewhere seq [] = Unit {0}
BeginsElsewhere seq (e ∷ entries) = e.0.0 ≢ seq

-- so none is
pub elsewhere : (seq : ℕ) (entries : Entries) → IsLedger pair_cmp entries → AllByRecursion (λ e. seq ≤ e.0.0) entries → BeginsElsewhere seq entries
    → AllByRecursion (λ e. seq + 1 ≤ e.0.0) entries
elsewhere seq [] sorted ranks other = tt
elsewhere seq (e ∷ entries) sorted ranks other = ranks-rise e entries (seq + 1) (omega (arith, ranks.0, other)) sorted

module _ (g : Sequences) (f : ℕ → ℕ → ℕ) where
  -- at the beginning of a sequence
  pub AreAhead-begin : (seq : ℕ) (entries : Entries) → IsLedger pair_cmp entries → All (λ z. z ≢ pos 0) (values_of entries)
      → AllByRecursion (λ e. seq ≤ e.0.0) entries
      → ((other p : ℕ) → seq ≤ other → total (reaches other p) entries ≡ pos (f other p))
      → ((other p : ℕ) → f other p < 2 ^ 32) → ((other p : ℕ) → sequence_length g other ≤ p → f other p ≡ 0)
      → AreAhead g f seq 0 0 entries
  AreAhead-begin seq entries ordered changes ranks depths small ends = record {
    ordered = ordered;
    changes = changes;
    ranks = ranks;
    breaks = AreBreaks-on seq (sequence_length g seq) entries ordered changes (λ p past. depths seq p (omega arith) ∙ ap pos (ends seq p past));
    follows = Follows-on seq (f seq) entries (λ p. depths seq p (omega arith));
    later = λ other p low. depths other p (omega (arith, low));
    small = small;
    ends = ends;
  }

  -- past the first entry, which is on the sequence
  pub AreAhead-next : (seq from d p : ℕ) (z : ℤ) (entries rest : Entries) → entries ≡ ((seq, p), z) ∷ rest → AreAhead g f seq from d entries
      → IsChange (f seq) from (sequence_length g seq) d (p, z) × AreAhead g f seq p (f seq p) rest
  unfolding IsStrictlySortedBy
  AreAhead-next seq from d p z entries rest is ahead =
      let h : AreAhead g f seq from d (((seq, p), z) ∷ rest) = subst (AreAhead g f seq from d) is ahead in
      let s = Step-at (f seq) from (sequence_length g seq) (pos d) (p, z) (on seq rest) (rw (on-here seq p z rest) at h.breaks) (rw (on-here seq p z rest) at h.follows) in (
        record { low = s.low; high = s.high; same = s.same; other = s.other; sum = s.after; small = omega (arith, h.small seq p) },
        record {
          ordered = h.ordered.1;
          changes = All-tail (λ (x : ℤ). x ≢ pos 0) z (values_of rest) h.changes;
          ranks = h.ranks.1;
          breaks = s.breaks;
          follows = subst (λ (v : ℤ). Follows (f seq) p v (on seq rest)) s.after s.follows;
          later = λ other q low.
              let off : eqb seq other ≡ false = ne_eqb seq other (λ at. omega (arith, low, at)) in
              let all = rw off at (h.later other q low) in
              omega (arith, ints, all);
          small = h.small;
          ends = h.ends;
        },
      )

  -- if no entry is on the sequence any more
  pub AreAhead-past : (seq from d : ℕ) (entries : Entries) → BeginsElsewhere seq entries → AreAhead g f seq from d entries
      → ((q : ℕ) → from ≤ q → f seq q ≡ d) × AreAhead g f (seq + 1) 0 0 entries
  AreAhead-past seq from d entries other h =
      let ranks = elsewhere seq entries h.ordered h.ranks other in
      let none : on seq entries ≡ [] = on-higher seq entries ranks in (
        Follows-end (f seq) from (pos d) (rw none at h.follows),
        AreAhead-begin (seq + 1) entries h.ordered h.changes ranks (λ o p low. h.later o p (omega (arith, low))) h.small h.ends,
      )
