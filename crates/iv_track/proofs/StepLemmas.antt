-- Steps one after another.
use Rattle.std.proofs.Common.{◌≡◌, ℕ, ◌+◌, ◌-◌, ◌^◌, ◌≤◌, Bool, true, false, cond, nat_lt, arith, sym, subst}
use Rattle.iv_ledger.specs.Steps.{ticked, TakesUpTo}
use Rattle.iv_track.specs.Inside.Steps.{TakesForEach}

-- no step
pub takes_none : (n : ℕ) → TakesUpTo n n 0
takes_none n = record { no_less = omega arith; at_most = omega arith }

one_more : (b : Bool) (old now m : ℕ) → TakesUpTo old now m → TakesUpTo old (cond b (now + 1) now) (m + 1)
one_more true old now m h = record { no_less = omega arith; at_most = omega arith }
one_more false old now m h = record { no_less = omega arith; at_most = omega arith }

-- one more step
pub takes_one_more : (old now new m : ℕ) → TakesUpTo old now m → new ≡ ticked now → TakesUpTo old new (m + 1)
takes_one_more old now new m h e = subst (λ n. TakesUpTo old n (m + 1)) (sym e) (one_more (nat_lt now (2 ^ 64 - 1)) old now m h)

-- a bound above
pub takes_within : (old new m n : ℕ) → m ≤ n → TakesUpTo old new m → TakesUpTo old new n
takes_within old new m n le h = record { no_less = h.no_less; at_most = omega arith }

-- nothing is done yet
pub each_none : (n all : ℕ) → TakesForEach n n all all
each_none n all = record { no_less = omega arith; at_most = omega arith }

-- and one after another
pub each_more : (old now new all some left : ℕ) → TakesForEach old now all some → TakesForEach now new some left → TakesForEach old new all left
each_more old now new all some left g h = record { no_less = omega arith; at_most = omega arith }
