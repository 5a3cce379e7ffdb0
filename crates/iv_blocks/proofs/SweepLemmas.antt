-- Blocks of records in order of their starts, inserted one after another over what was there.
use Rattle.std.proofs.Common.{ℕ, ◌+◌, ◌<◌, ◌≤◌, max, ◌≡◌, inl, inr, if◌then◌else◌, ◌==◌, List, [], ◌∷◌, ◌++◌, filter, Option, Some, refl, sym, ap, ◌∙◌, arith, eq-eqb, ne_eqb}
use Rattle.std.specs.Option.{option_map, option_or}
use Rattle.std.proofs.lemmas.Bool.{cond-true, cond-false, cases_lt, cases_eq}
use Rattle.iv_cover.specs.Blocks.{block_at}
use Rattle.iv_lines.proofs.ListLemmas.{Mem}
use Rattle.iv_cover.proofs.Groups.{one_pushed}
use Rattle.iv_cover.proofs.Cover.{Lasting, lasting-fewer, starts_in, block_at-some, block_at-none}
use Rattle.iv_cover.proofs.Swept.{IsLastBlock, last-first, last-join, last-open, first-before, join-before, open-before}

module _ {X V : Type 0} (start stop : X → ℕ) (d : ℕ) (kept : ℕ × List X → V) where
  -- what is kept of the block that starts at k, if there is one
  abbrev pub shown : List X → ℕ → Option V
  shown G k = option_map kept (block_at start stop d G k)

  -- the last block of G is open: those before it are inserted over what was there, and it is not yet
  pub record IsPut (G : List X) (x s : ℕ) (old now : ℕ → Option V) : Type 0 where
    pub last : IsLastBlock start stop d G x s
    pub before : (k : ℕ) → k < x → now k ≡ option_or (shown G k) (old k)
    pub from : (k : ℕ) → x ≤ k → now k ≡ old k

  -- once the last block is inserted, all blocks are
  pub put-all : (G : List X) (x s : ℕ) (old now next : ℕ → Option V) → Lasting start stop d G → IsPut G x s old now
      → ((k : ℕ) → next k ≡ (if k == x then Some (kept (s, filter (starts_in start stop d x s) G)) else now k))
      → (k : ℕ) → next k ≡ option_or (shown G k) (old k)
  put-all G x s old now next lasting put step k = elim (cases_eq k x) [
    | inl at ↦
        step k ∙ cond-true _ _ _ (eq-eqb _ _ at)
        ∙ sym (ap (λ (o : Option V). option_or o (old k)) (ap (shown G) at ∙ ap (option_map kept) (block_at-some start stop d G x s lasting put.last.block)))
    | inr ne ↦
        step k ∙ cond-false _ _ _ (ne_eqb _ _ ne)
        ∙ elim (cases_lt k x) [
          | inl below ↦ put.before k below
          | inr above ↦ put.from k above
              ∙ sym (ap (λ (o : Option V). option_or o (old k)) (ap (option_map kept) (block_at-none start stop d G k (put.last.none k (omega arith)))))
        ]
  ]

  -- the first record opens a block
  pub put-first : (r : X) (old : ℕ → Option V) → start r < stop r → IsPut (r ∷ []) (start r) (stop r) old old
  put-first r old long = record {
    last = last-first start stop d r long;
    before = λ k below. sym (ap (λ (o : Option V). option_or o (old k)) (ap (option_map kept) (first-before start stop d r k below)));
    from = λ k above. refl;
  }

  module _ (G : List X) (r : X) (x s : ℕ) (old now : ℕ → Option V) (lasting : Lasting start stop d (G ++ r ∷ [])) (ordered : (q : X) → Mem q G → start q ≤ start r) (put : IsPut G x s old now) where
    -- a record joins the open block
    pub put-join : start r ≤ s + d → IsPut (G ++ r ∷ []) x (max s (stop r)) old now
    put-join joins = record {
      last = last-join start stop d G (G ++ r ∷ []) r x s (one_pushed G r) lasting ordered put.last joins;
      before = λ k below. put.before k below ∙ sym (ap (λ o. option_or (option_map kept o) (old k))
          (join-before start stop d G (G ++ r ∷ []) r x s (one_pushed G r) lasting ordered put.last joins k below));
      from = put.from;
    }

    -- the open block is inserted, and a record opens the next
    pub put-open : s + d < start r → (next : ℕ → Option V)
        → ((k : ℕ) → next k ≡ (if k == x then Some (kept (s, filter (starts_in start stop d x s) G)) else now k))
        → IsPut (G ++ r ∷ []) (start r) (stop r) old next
    put-open parts next step = record {
      last = last-open start stop d G (G ++ r ∷ []) r x s (one_pushed G r) lasting ordered put.last parts;
      before = λ k below. put-all G x s old now next (lasting-fewer start stop d G (G ++ r ∷ []) r (one_pushed G r) lasting) put step k
          ∙ sym (ap (λ o. option_or (option_map kept o) (old k))
          (open-before start stop d G (G ++ r ∷ []) r x s (one_pushed G r) lasting ordered put.last parts k below));
      from = λ k above. step k ∙ cond-false _ _ _ (ne_eqb k x (λ at. omega (arith, put.last.block.long))) ∙ put.from k (omega (arith, put.last.block.long));
    }
