-- How an interval is joined with the blocks that it reaches, over plain functions.
use Rattle.std.proofs.Common.{◌≡◌, ◌⊎◌, inl, inr, ℕ, zero, suc, ◌+◌, ◌-◌, ◌<◌, ◌≤◌, max, true, if◌then◌else◌, ◌==◌, List, length, filter, Option, Some, None, refl, sym, ap, ◌∙◌, arith, eq-eqb, ne_eqb}
use Rattle.std.specs.Option.{is_some, option_or}
use Rattle.std.proofs.lemmas.Bool.{cond-true, cond-false, cases_lt, cases_eq, false_from_ne_true}
use Rattle.std.proofs.lemmas.Option.{none-some, same_Some}
use Rattle.iv_lines.proofs.ListLemmas.{Mem, filter-weaker, filter-weaker_more}
use Rattle.iv_cover.proofs.Cover.{starts_in, starts_in-true, starts_in-from}
use Rattle.iv_blocks.specs.KeptBlocks.{Kept}
use Rattle.iv_blocks.specs.Inside.Lookups.{IsFirstBlock}
use Rattle.iv_blocks.specs.Inside.Repairs.{JoinsAfter, count_from}

-- what follows nothing doesn't count
pub or-none : {A : Type 0} (o : Option A) → option_or o None ≡ o
or-none None = refl
or-none (Some a) = refl

-- ---- how many blocks there are

pub count-more : (look : ℕ → Option Kept) (p n : ℕ) → count_from look p n ≤ count_from look p (suc n)
unfolding count_from
count-more look p n = omega arith

pub count-some : (look : ℕ → Option Kept) (p n : ℕ) (b : Kept) → look (p + n) ≡ Some b → count_from look p n + 1 ≤ count_from look p (suc n)
unfolding count_from
count-some look p n b e =
    let one : ◌≡◌ {A = ℕ} (if is_some (look (p + n)) then 1 else 0) 1 = ap {B = ℕ} (λ (o : Option Kept). if is_some o then 1 else 0) e in
    omega (arith, one)

pub count-grows : (look : ℕ → Option Kept) (p n k : ℕ) → count_from look p n ≤ count_from look p (n + k)
count-grows look p n zero = let at : n + zero ≡ n = omega arith in omega (arith, ap (count_from look p) at)
count-grows look p n (suc k) =
    let at : n + suc k ≡ suc (n + k) = omega arith in
    omega (arith, count-grows look p n k, count-more look p (n + k), ap (count_from look p) at)

pub count-up : (look : ℕ → Option Kept) (p m n : ℕ) → m ≤ n → count_from look p m ≤ count_from look p n
count-up look p m n le =
    let at : m + (n - m) ≡ n = omega arith in
    omega (arith, count-grows look p m (n - m), ap (count_from look p) at)

-- each block has a record of its own
pub count-records : {X : Type 0} (start stop : X → ℕ) (d : ℕ) (look : ℕ → Option Kept) (H : List X) (p n : ℕ) → ((x : ℕ) (b : Kept) → look x ≡ Some b → (q : X) × Mem q H × (start q ≡ x))
    → count_from look p n ≤ length (filter (starts_in start stop d p (p + n)) H)
unfolding count_from
count-records start stop d look H p zero own = omega arith
count-records start stop d look H p (suc n) own = go (look (p + n)) refl (count-records start stop d look H p n own)
  where
    wider : (q : _) → Mem q H → starts_in start stop d p (p + n) q ≡ true → starts_in start stop d p (p + suc n) q ≡ true
    wider q m e = let both = starts_in-true start stop d p (p + n) q e in starts_in-from start stop d p (p + suc n) q both.0 (omega (arith, both.1))

    go : (o : Option Kept) → look (p + n) ≡ o → count_from look p n ≤ length (filter (starts_in start stop d p (p + n)) H)
        → count_from look p (suc n) ≤ length (filter (starts_in start stop d p (p + suc n)) H)
    go None e rest =
        let none : ◌≡◌ {A = ℕ} (if is_some (look (p + n)) then 1 else 0) 0 = ap {B = ℕ} (λ (o : Option Kept). if is_some o then 1 else 0) e in
        omega (arith, none, rest, filter-weaker (starts_in start stop d p (p + n)) (starts_in start stop d p (p + suc n)) H wider)
    go (Some b) e rest =
        let one : ◌≡◌ {A = ℕ} (if is_some (look (p + n)) then 1 else 0) 1 = ap {B = ℕ} (λ (o : Option Kept). if is_some o then 1 else 0) e in
        let its = own (p + n) b e in
        omega (
          arith,
          one,
          rest,
          filter-weaker_more (starts_in start stop d p (p + n)) (starts_in start stop d p (p + suc n)) H its.0 wider its.1
              (false_from_ne_true _ (λ t. omega (arith, (starts_in-true start stop d p (p + n) its.0 t).1, its.2)))
              (starts_in-from start stop d p (p + suc n) its.0 (omega (arith, its.2)) (omega (arith, its.2))),
        )

-- ---- an interval is joined with one block after another

-- up to `past`, all blocks are taken out and joined with the interval, which goes up to `high` by now
pub record IsJoining (d : ℕ) (old now : ℕ → Option Kept) (from first high taken : ℕ) : Type 0 where
  pub past : ℕ
  pub after : from ≤ past
  pub near : past ≤ suc (high + d)
  pub no_less : first ≤ high
  pub clear : (x : ℕ) → from ≤ x → x < past → now x ≡ None
  pub others : (x : ℕ) → (x < from) ⊎ (past ≤ x) → now x ≡ old x
  pub within : (x : ℕ) (b : Kept) → from ≤ x → x < past → old x ≡ Some b → b.stop ≤ high
  pub reached : (y : ℕ) → first + d < y → y ≤ high + d → (x : ℕ) × (b : Kept) × (old x ≡ Some b) × (x < y) × (y ≤ b.stop + d)
  pub counted : taken ≤ count_from old from (past - from)

pub joining-begun : (d : ℕ) (look : ℕ → Option Kept) (from high : ℕ) → from ≤ high → IsJoining d look look from high high 0
joining-begun d look from high le = record {
  past = from;
  after = omega arith;
  near = omega arith;
  no_less = omega arith;
  clear = λ x above below. absurd (omega arith);
  others = λ x out. refl;
  within = λ x b above below e. absurd (omega arith);
  reached = λ y above below. absurd (omega arith);
  counted = omega arith;
}

module _ (d : ℕ) (old now : ℕ → Option Kept) (from first high taken : ℕ) (state : IsJoining d old now from first high taken) where
  -- the next block starts within reach
  pub joining-more : (next : ℕ → Option Kept) (b : ℕ × ℕ) → IsFirstBlock now from b → b.0 ≤ high + d
      → ((x : ℕ) → next x ≡ (if x == b.0 then None else now x)) → IsJoining d old next from first (max high b.1) (taken + 1)
  joining-more next b entry reached taken_out =
      let block : Kept = record { stop = b.1; results = entry.results } in
      let above : from ≤ b.0 = entry.within in
      let late : state.past ≤ b.0 = elim (cases_lt b.0 state.past) [
        | inl early ↦ absurd (none-some block (sym (state.clear b.0 above early) ∙ entry.is))
        | inr late ↦ late
      ] in
      let is : old b.0 ≡ Some block = sym (state.others b.0 (inr late)) ∙ entry.is in
      record {
        past = suc b.0;
        after = omega arith;
        near = omega arith;
        no_less = omega (arith, state.no_less);
        clear = λ x from_x below. elim (cases_eq x b.0) [
          | inl at ↦ taken_out x ∙ cond-true _ _ _ (eq-eqb x b.0 at)
          | inr ne ↦ taken_out x ∙ cond-false _ _ _ (ne_eqb x b.0 ne) ∙ entry.none x from_x (omega arith)
        ];
        others = λ x out. taken_out x ∙ cond-false _ _ _ (ne_eqb x b.0 (λ at. elim out [ inl before ↦ omega arith | inr beyond ↦ omega arith ]))
            ∙ elim out [ inl before ↦ state.others x (inl before) | inr beyond ↦ state.others x (inr (omega arith)) ];
        within = λ x v from_x below e. elim (cases_lt x state.past) [
          | inl early ↦ omega (arith, state.within x v from_x early e)
          | inr later ↦ elim (cases_eq x b.0) [
            | inl at ↦
                let same : block ≡ v = same_Some block v (sym is ∙ ap old (sym at) ∙ e) in
                omega (arith, ap (λ (k : Kept). k.stop) same)
            | inr ne ↦ absurd (none-some v (sym (entry.none x from_x (omega arith)) ∙ state.others x (inr later) ∙ e))
          ]
        ];
        reached = λ y above_y below_y. elim (cases_lt (high + d) y) [
          | inl beyond ↦ (b.0, block, is, omega arith, omega arith)
          | inr inside ↦ state.reached y above_y inside
        ];
        counted =
            let at : from + (b.0 - from) ≡ b.0 = omega arith in
            let up : suc (b.0 - from) ≡ suc b.0 - from = omega arith in
            omega (
              arith,
              state.counted,
              count-up old from (state.past - from) (b.0 - from) (omega arith),
              count-some old from (b.0 - from) block (ap old at ∙ is),
              ap (count_from old from) up,
            );
      }

  -- no block is left in reach
  pub joining-done : ((x : ℕ) → from ≤ x → x ≤ high + d → now x ≡ None) → JoinsAfter d old now from first high
  joining-done clear = record {
    no_less = state.no_less;
    clear = clear;
    others = λ x out. elim out [ inl before ↦ state.others x (inl before) | inr beyond ↦ state.others x (inr (omega (arith, state.near))) ];
    within = λ x b above below e. elim (cases_lt x state.past) [
      | inl early ↦ state.within x b above early e
      | inr late ↦ absurd (none-some b (sym (clear x above below) ∙ state.others x (inr late) ∙ e))
    ];
    reached = state.reached;
  }

  pub joining-count : (n : ℕ) → n ≡ high + d + 1 - from → taken ≤ count_from old from n
  joining-count n at = omega (arith, state.counted, count-up old from (state.past - from) n (omega (arith, state.near, state.after)))
