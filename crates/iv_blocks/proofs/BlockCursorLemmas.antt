-- Blocks, or other items, that are read one by one, as long as they pass a test.
use Rattle.std.proofs.Common.{◌≡◌, ℕ, suc, ◌+◌, ◌++◌, Bool, true, false, List, [], ◌∷◌, inl, inr, Option, Some, None, refl, ◌∙◌, ap, arith}
use Rattle.std.specs.List.{take_while, prefix_len}
use Rattle.std.specs.Option.{is_some}
use Rattle.iv_lines.specs.declared.interval.Interval.{Interval}
use Rattle.iv_lines.proofs.ListLemmas.{Mem}
use Rattle.iv_blocks.specs.Inside.BlockCursor.{BeginsElse, GivesPassing, drop_while, TakesForEach}

module _ {X : Type 0} (test : X → Bool) where
  pub take-first : (blocks after : List X) (b : X) → blocks ≡ b ∷ after → test b ≡ true → take_while test blocks ≡ b ∷ take_while test after
  take-first blocks after b first passes =
      let more : 1 + prefix_len test after ≡ suc (prefix_len test after) = omega arith in
      rw (first, passes, more) refl

  pub take-none : (blocks : List X) → BeginsElse test blocks → take_while test blocks ≡ []
  take-none [] else = refl
  take-none (b ∷ blocks) else = rw else refl

module _ (test : Interval → Bool) where
  pub drop-first : (blocks after : List Interval) (b : Interval) → blocks ≡ b ∷ after → test b ≡ true → drop_while test blocks ≡ drop_while test after
  drop-first blocks after b first passes =
      let more : 1 + prefix_len test after ≡ suc (prefix_len test after) = omega arith in
      rw (first, passes, more) refl

  pub drop-none : (blocks : List Interval) → BeginsElse test blocks → drop_while test blocks ≡ blocks
  drop-none [] else = refl
  drop-none (b ∷ blocks) else = rw else refl

  -- blocks that all pass, and then others
  pub take-all : (xs ys : List Interval) → ((b : Interval) → Mem b xs → test b ≡ true) → BeginsElse test ys → take_while test (xs ++ ys) ≡ xs
  take-all [] ys all else = take-none test ys else
  take-all (x ∷ xs) ys all else =
      take-first test (x ∷ (xs ++ ys)) (xs ++ ys) x refl (all x (inl refl)) ∙ ap (λ (l : List Interval). x ∷ l) (take-all xs ys (λ b m. all b (inr m)) else)

  pub drop-all : (xs ys : List Interval) → ((b : Interval) → Mem b xs → test b ≡ true) → BeginsElse test ys → drop_while test (xs ++ ys) ≡ ys
  drop-all [] ys all else = drop-none ys else
  drop-all (x ∷ xs) ys all else = drop-first (x ∷ (xs ++ ys)) (xs ++ ys) x refl (all x (inl refl)) ∙ drop-all xs ys (λ b m. all b (inr m)) else

  pub begins-else : (blocks : List Interval) → ((b : Interval) → Mem b blocks → test b ≡ false) → BeginsElse test blocks
  begins-else [] none = tt
  begins-else (b ∷ blocks) none = none b (inl refl)

-- a call gave some block
pub given-some : (test : Interval → Bool) (old new : List Interval) (given : Option Interval) → is_some given ≡ true → GivesPassing test old given new
    → (b : Interval) × (old ≡ b ∷ new) × (test b ≡ true)
given-some test old new None some gives = cc
given-some test old new (Some b) some gives = (b, gives.0, gives.1)

pub TakesForEach-begin : (meter : ℕ) (blocks : List Interval) → TakesForEach meter meter blocks blocks
TakesForEach-begin meter blocks = record { no_less = omega arith; at_most = omega arith }

pub TakesForEach-next : (start before after : ℕ) (all now left : List Interval) → TakesForEach start before all now → TakesForEach before after now left
    → TakesForEach start after all left
TakesForEach-next start before after all now left h next = record { no_less = omega arith; at_most = omega arith }
