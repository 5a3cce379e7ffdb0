use Rattle.std.proofs.Common.{List, ◌≡◌, ◌-◌, ◌*◌, ◌^◌, ◌≤◌, ℕ, inl, inr, arith, subst, sym, ap}
use Rattle.std.specs.Prelude.{slice_index_or, ◌%◌}
use Rattle.std.proofs.lemmas.Bool.{cases_lt}
use Rattle.std.proofs.lemmas.Nat.{one_shl}
use Rattle.std.proofs.Math.Nat.{pow-le-pow_right}
use Rattle.iv_track.proofs.length_classes.LengthClasses.bound.Goals as goal

pub returns-then-self-class-gt0-clause-above : goal.returns-then-self-class-gt0-clause-above
returns-then-self-class-gt0-clause-above c = λ k some.
    let class = c.loop-class.class in
    let shifted : (1 * 2 ^ (class - 1)) % 2 ^ 64 ≡ 2 ^ (class - 1) = one_shl (class - 1) 64 (omega (arith, c.loop-class.invariant.within)) in
    elim (cases_lt k class) [
      | inl low ↦ subst (λ n. 2 ^ k ≤ n) (sym shifted) (pow-le-pow_right (omega arith) (omega arith))
      | inr high ↦ absurd (omega (arith, some, c.loop-class.invariant.none k high, ap {B = ℕ} (λ (l : List ℕ). slice_index_or l k 0) c.self.view_is))
    ]
