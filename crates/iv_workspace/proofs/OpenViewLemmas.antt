-- The open views, one after another.
use denote.Ref.{Bor}
use Rattle.std.proofs.Common.{◌≡◌, ℕ, suc, ◌+◌, ◌≤◌, ◌++◌, Bool, true, false, cond, List, [], ◌∷◌, Option, None, Some, length, slice_get, drop, add-one, zero, refl, sym, ap, ap₂, subst, ◌∙◌, append_assoc, append-nil, arith, if◌then◌else◌}
use Rattle.std.specs.List.{AllByRecursion}
use Rattle.std.specs.Map.{values_of, lookup, remove_entry}
use Rattle.std.specs.Option.{is_some, option_map}
use Rattle.std.specs.Str.{bytes_eq}
use Rattle.std.proofs.lemmas.List.{length-append, map-append}
use Rattle.iv_lines.proofs.NamedLemmas.{set_value_at}
use Rattle.iv_lines.specs.RecordValue.{RecordValue}
use Rattle.iv_lines.proofs.FieldLemmas.{empty-is}
use Rattle.iv_view.specs.KeptStates.{repair_steps_of}
use Rattle.iv_view.specs.declared.view.View.{View}
use Rattle.iv_workspace.specs.Inside.ViewStates.{all_seen, seen}
use Rattle.iv_workspace.specs.OpenViews.{Shown, Stales, Freshens, current, all_current, with_current, stale_count, all_steps, view_steps}
use Rattle.iv_workspace.specs.declared.views.OpenView.{OpenView}

-- ---- a walk over the indexes of a map, each of which is written

-- the entries before an index are done
pub record Midway {V : Type 0} (Done : List (List ℕ × V) → List (List ℕ × V) → Type 0) (old now : List (List ℕ × V)) (index : ℕ) : Type 0 where
  pub front : List (List ℕ × V)
  pub done : List (List ℕ × V)
  pub rest : List (List ℕ × V)
  pub old_is : old ≡ front ++ rest
  pub now_is : now ≡ done ++ rest
  pub front_is : index ≡ length front
  pub done_is : index ≡ length done
  pub does : Done front done

pub midway-begin : {V : Type 0} (Done : List (List ℕ × V) → List (List ℕ × V) → Type 0) (old now : List (List ℕ × V)) → now ≡ old → Done [] [] → Midway Done old now 0
midway-begin Done old now same does = record { front = []; done = []; rest = old; old_is = refl; now_is = same; front_is = refl; done_is = refl; does = does }

-- the entry at an index, once it is written
written : {V : Type 0} (es : List (List ℕ × V)) (done rest : List (List ℕ × V)) (index : ℕ) (v w : V)
    → es ≡ done ++ rest → index ≡ length done → slice_get (values_of es) index ≡ Some v
    → (n : List ℕ) × (more : List (List ℕ × V)) × (rest ≡ (n, v) ∷ more) × (set_value_at es index w ≡ done ++ (n, w) ∷ more)
written {V} es done rest index v w are at found =
    subst (λ (i : ℕ). (n : List ℕ) × (more : List (List ℕ × V)) × (rest ≡ (n, v) ∷ more) × (set_value_at es i w ≡ done ++ (n, w) ∷ more)) (sym at)
    (by es done are (subst (λ (i : ℕ). slice_get (values_of es) i ≡ Some v) at found))
  where
    by : (es : List (List ℕ × V)) (done : List (List ℕ × V)) → es ≡ done ++ rest → slice_get (values_of es) (length done) ≡ Some v
        → (n : List ℕ) × (more : List (List ℕ × V)) × (rest ≡ (n, v) ∷ more) × (set_value_at es (length done) w ≡ done ++ (n, w) ∷ more)
    by [] done are found = absurd (cc (found))
    by (e ∷ es) [] are found =
        let is : e.1 ≡ v = cc (found) in
        (e.0, es, sym are ∙ ap (λ (u : V). (e.0, u) ∷ es) is, refl)
    by (e ∷ es) (d ∷ done) are found =
        let first : e ≡ d = cc (are) in
        let tail : es ≡ done ++ rest = cc (are) in
        let more = by es done tail found in
        (more.0, more.1, more.2, ap₂ (λ (x : List ℕ × V) (l : List (List ℕ × V)). x ∷ l) first more.3)

-- one more entry is done
pub midway-next : {V : Type 0} (Done Then : List (List ℕ × V) → List (List ℕ × V) → Type 0) (old : List (List ℕ × V)) (es : List (List ℕ × V)) (index : ℕ) (v w : V)
    → Midway Done old es index → slice_get (values_of es) index ≡ Some v
    → ((front done more : List (List ℕ × V)) (n : List ℕ) → old ≡ front ++ (n, v) ∷ more → Done front done → Then (front ++ (n, v) ∷ []) (done ++ (n, w) ∷ []))
    → Midway Then old (set_value_at es index w) (index + 1)
midway-next {V} Done Then old es index v w mid found step =
    let p = written es mid.done mid.rest index v w mid.now_is mid.done_is found in
    let old_is : old ≡ mid.front ++ (p.0, v) ∷ p.1 = mid.old_is ∙ ap (λ (l : List (List ℕ × V)). mid.front ++ l) p.2 in
    record {
      front = mid.front ++ (p.0, v) ∷ [];
      done = mid.done ++ (p.0, w) ∷ [];
      rest = p.1;
      old_is = old_is ∙ sym (append_assoc mid.front ((p.0, v) ∷ []) p.1);
      now_is = p.3 ∙ sym (append_assoc mid.done ((p.0, w) ∷ []) p.1);
      front_is = omega (arith, mid.front_is, length-append mid.front ((p.0, v) ∷ []));
      done_is = omega (arith, mid.done_is, length-append mid.done ((p.0, w) ∷ []));
      does = step mid.front mid.done p.1 p.0 old_is mid.does;
    }

-- the entry at an index before it is written, and once it is
pub record Written {V : Type 0} (old new : List (List ℕ × V)) (index : ℕ) (v w : V) : Type 0 where
  pub front : List (List ℕ × V)
  pub more : List (List ℕ × V)
  pub name : List ℕ
  pub front_is : length front ≡ index
  pub old_is : old ≡ front ++ (name, v) ∷ more
  pub new_is : new ≡ front ++ (name, w) ∷ more

pub written-at : {V : Type 0} (es : List (List ℕ × V)) (index : ℕ) (v w : V) → slice_get (values_of es) index ≡ Some v
    → Written es (set_value_at es index w) index v w
written-at [] index v w found = absurd (cc (found))
written-at {V} (e ∷ es) zero v w found =
    let is : e.1 ≡ v = cc (found) in
    record { front = []; more = es; name = e.0; front_is = refl; old_is = ap (λ (u : V). (e.0, u) ∷ es) is; new_is = refl }
written-at {V} (e ∷ es) (suc index) v w found =
    let u = written-at es index v w found in
    let first : List (List ℕ × V) → List (List ℕ × V) = λ l. e ∷ l in
    record { front = first u.front; more = u.more; name = u.name; front_is = ap suc u.front_is; old_is = ap first u.old_is; new_is = ap first u.new_is }

-- all entries are done
pub midway-end : {V : Type 0} (Done : List (List ℕ × V) → List (List ℕ × V) → Type 0) (old now : List (List ℕ × V)) (index : ℕ) → Midway Done old now index → length now ≤ index → Done old now
midway-end {V} Done old now index mid past =
    let none : mid.rest ≡ [] = empty-is mid.rest (omega (arith, mid.done_is, past, ap length mid.now_is, length-append mid.done mid.rest)) in
    let old_is : old ≡ mid.front = mid.old_is ∙ ap (λ (l : List (List ℕ × V)). mid.front ++ l) none ∙ append-nil mid.front in
    let now_is : now ≡ mid.done = mid.now_is ∙ ap (λ (l : List (List ℕ × V)). mid.done ++ l) none ∙ append-nil mid.done in
    subst (λ (l : List (List ℕ × V)). Done l now) (sym old_is) (subst (λ (l : List (List ℕ × V)). Done mid.front l) (sym now_is) mid.does)

-- ---- views that become stale

-- views of which more are stale take no more steps
pub stales-steps : (old new : List (List ℕ × Shown)) (records : List RecordValue) (r : RecordValue) → Stales old new → all_steps new records r ≤ all_steps old records r
stales-steps [] [] records r less = omega arith
stales-steps [] (w ∷ new) records r less = absurd less
stales-steps (v ∷ old) [] records r less = absurd less
stales-steps (v ∷ old) (w ∷ new) records r less =
    omega (arith, one v.1 w.1 less.0.1 less.0.2, stales-steps old new records r less.1)
  where
    one : (v w : Shown) → w.view ≡ v.view → (v.stale ≡ true → w.stale ≡ true) → view_steps w records r ≤ view_steps v records r
    one v w view stays = by v.stale w.stale _ _ (ap (λ (s : View). repair_steps_of s records r) view) stays
      where
        by : (b c : Bool) (m n : ℕ) → n ≡ m → (b ≡ true → c ≡ true) → (if c then 0 else n) ≤ (if b then 0 else m)
        by true true m n same stays = omega arith
        by true false m n same stays = absurd (cc (stays refl))
        by false true m n same stays = omega arith
        by false false m n same stays = omega (arith, same)

pub stales-trans : (old mid new : List (List ℕ × Shown)) → Stales old mid → Stales mid new → Stales old new
stales-trans [] [] new first second = second
stales-trans [] (m ∷ mid) new first second = absurd first
stales-trans (v ∷ old) [] new first second = absurd first
stales-trans (v ∷ old) (m ∷ mid) [] first second = absurd second
stales-trans (v ∷ old) (m ∷ mid) (w ∷ new) first second = (
  (
    second.0.0 ∙ first.0.0,
    second.0.1 ∙ first.0.1,
    λ stale. second.0.2 (first.0.2 stale),
    λ written is. second.0.3 written (first.0.1 ∙ is) ∙ first.0.3 written is,
  ),
  stales-trans old mid new first.1 second.1,
)

-- ---- the view at an index

-- what the stale views from an index on are
pub stale-next : {A : Type 0} (es : List (List ℕ × OpenView A)) (i : ℕ) (v : OpenView A) → slice_get (values_of es) i ≡ Some v
    → stale_count (all_seen (drop i es)) ≡ (if (seen v).stale then 1 else 0) + stale_count (all_seen (drop (i + 1) es))
stale-next {A} es i v found = subst (λ (k : ℕ). stale_count (all_seen (drop i es)) ≡ (if (seen v).stale then 1 else 0) + stale_count (all_seen (drop k es))) (sym (add-one i)) (by es i found)
  where
    by : (es : List (List ℕ × OpenView A)) (i : ℕ) → slice_get (values_of es) i ≡ Some v
        → stale_count (all_seen (drop i es)) ≡ (if (seen v).stale then 1 else 0) + stale_count (all_seen (drop (suc i) es))
    by [] i found = absurd (cc (found))
    by (e ∷ es) zero found = let is : e.1 ≡ v = cc (found) in ap (λ (u : OpenView A). (if (seen u).stale then 1 else 0) + stale_count (all_seen es)) is
    by (e ∷ es) (suc i) found = by es i found

pub all-append : {X : Type 0} (P : X → Type 0) (xs ys : List X) → AllByRecursion P xs → AllByRecursion P ys → AllByRecursion P (xs ++ ys)
all-append P [] ys a b = b
all-append P (x ∷ xs) ys a b = (a.0, all-append P xs ys a.1 b)

pub all-front : {X : Type 0} (P : X → Type 0) (xs ys : List X) → AllByRecursion P (xs ++ ys) → AllByRecursion P xs
all-front P [] ys a = tt
all-front P (x ∷ xs) ys a = (a.0, all-front P xs ys a.1)

pub all-back : {X : Type 0} (P : X → Type 0) (xs ys : List X) → AllByRecursion P (xs ++ ys) → AllByRecursion P ys
all-back P [] ys a = a
all-back P (x ∷ xs) ys a = all-back P xs ys a.1

-- the view at an index, if all were right before
pub midway-at : {V : Type 0} (Done : List (List ℕ × V) → List (List ℕ × V) → Type 0) (P : V → Type 0) (old : List (List ℕ × V)) (es : List (List ℕ × V)) (index : ℕ) (v : V)
    → Midway Done old es index → slice_get (values_of es) index ≡ Some v → AllByRecursion (λ e. P e.1) old → P v
midway-at {V} Done P old es index v mid found all =
    let p = written es mid.done mid.rest index v v mid.now_is mid.done_is found in
    let old_is : old ≡ mid.front ++ (p.0, v) ∷ p.1 = mid.old_is ∙ ap (λ (l : List (List ℕ × V)). mid.front ++ l) p.2 in
    (all-back (λ e. P e.1) mid.front ((p.0, v) ∷ p.1) (subst (λ (l : List (List ℕ × V)). AllByRecursion (λ e. P e.1) l) old_is all)).0

-- ---- views that are rebuilt

pub stales-append : (old new old2 new2 : List (List ℕ × Shown)) → Stales old new → Stales old2 new2 → Stales (old ++ old2) (new ++ new2)
stales-append [] [] old2 new2 a b = b
stales-append [] (w ∷ new) old2 new2 a b = absurd a
stales-append (v ∷ old) [] old2 new2 a b = absurd a
stales-append (v ∷ old) (w ∷ new) old2 new2 a b = (a.0, stales-append old new old2 new2 a.1 b)

pub freshens-same : (views : List (List ℕ × Shown)) → Freshens views views
freshens-same [] = tt
freshens-same (v ∷ views) = ((refl, refl, λ stale. stale), freshens-same views)

pub freshens-all : (views : List (List ℕ × Shown)) → Freshens views (all_current views)
freshens-all [] = tt
freshens-all (v ∷ views) = ((refl, refl, λ e. absurd (cc (e))), freshens-all views)

pub freshens-one : (views : List (List ℕ × Shown)) (name : List ℕ) → Freshens views (with_current views name)
freshens-one [] name = tt
freshens-one (v ∷ views) name = elim (bytes_eq name v.0) as (λ b. Freshens (v ∷ views) (cond b ((v.0, current v.1) ∷ views) (v ∷ with_current views name))) [
  | true ↦ ((refl, refl, λ e. absurd (cc (e))), freshens-same views)
  | false ↦ ((refl, refl, λ stale. stale), freshens-one views name)
]

pub seen-append : {A : Type 0} (xs ys : List (List ℕ × OpenView A)) → all_seen (xs ++ ys) ≡ all_seen xs ++ all_seen ys
seen-append xs ys = map-append _ xs ys

-- what is under a name, as contracts see it
pub seen-lookup : {A : Type 0} (name : List ℕ) (views : List (List ℕ × OpenView A)) → lookup (bytes_eq name) (all_seen views) ≡ option_map seen (lookup (bytes_eq name) views)
seen-lookup name [] = refl
seen-lookup {A} name (v ∷ views) = elim (bytes_eq name v.0) as (λ b. cond b (Some (seen v.1)) (lookup (bytes_eq name) (all_seen views)) ≡ option_map seen (cond b (Some v.1) (lookup (bytes_eq name) views))) [
  | true ↦ refl
  | false ↦ seen-lookup name views
]

-- what the view under a name is, as contracts see it too
pub seen-view : {A : Type 0} (name : List ℕ) (views : List (List ℕ × OpenView A))
    → option_map (λ v. v.view) (lookup (bytes_eq name) views) ≡ option_map (λ v. v.view) (lookup (bytes_eq name) (all_seen views))
seen-view {A} name views = by (lookup (bytes_eq name) views) ∙ sym (ap (option_map (λ v. v.view)) (seen-lookup name views))
  where
    by : (o : Option (OpenView A)) → option_map (λ v. v.view) o ≡ option_map (λ v. v.view) (option_map seen o)
    by None = refl
    by (Some v) = refl

-- the same, at the index where the loop is
pub stale-yes : {A : Type 0} (es : List (List ℕ × OpenView A)) (i : ℕ) (v : OpenView A) → slice_get (values_of es) i ≡ Some v → (seen v).stale ≡ true
    → stale_count (all_seen (drop i es)) ≡ 1 + stale_count (all_seen (drop (i + 1) es))
stale-yes es i v found is = stale-next es i v found ∙ ap (λ (b : Bool). (if b then 1 else 0) + stale_count (all_seen (drop (i + 1) es))) is

pub stale-no : {A : Type 0} (es : List (List ℕ × OpenView A)) (i : ℕ) (v : OpenView A) → slice_get (values_of es) i ≡ Some v → (seen v).stale ≡ false
    → stale_count (all_seen (drop i es)) ≡ 0 + stale_count (all_seen (drop (i + 1) es))
stale-no es i v found is = stale-next es i v found ∙ ap (λ (b : Bool). (if b then 1 else 0) + stale_count (all_seen (drop (i + 1) es))) is

-- without the view of a name
pub remove-seen : {A : Type 0} (name : List ℕ) (views : List (List ℕ × OpenView A)) → all_seen (remove_entry (bytes_eq name) views) ≡ remove_entry (bytes_eq name) (all_seen views)
remove-seen name [] = refl
remove-seen {A} name (v ∷ views) =
    elim (bytes_eq name v.0) as (λ b. all_seen (cond b views (v ∷ remove_entry (bytes_eq name) views)) ≡ cond b (all_seen views) ((v.0, seen v.1) ∷ remove_entry (bytes_eq name) (all_seen views))) [
      | true ↦ refl
      | false ↦ ap (λ (l : List (List ℕ × Shown)). (v.0, seen v.1) ∷ l) (remove-seen name views)
    ]

-- what holds of each view holds without the view of a name
pub all-removed : {V : Type 0} (P : V → Type 0) (name : List ℕ) (views : List (List ℕ × V)) → AllByRecursion (λ v. P v.1) views → AllByRecursion (λ v. P v.1) (remove_entry (bytes_eq name) views)
all-removed P name [] all = tt
all-removed P name (v ∷ views) all =
    elim (bytes_eq name v.0) as (λ b. AllByRecursion (λ w. P w.1) (cond b views (v ∷ remove_entry (bytes_eq name) views))) [
      | true ↦ all.1
      | false ↦ (all.0, all-removed P name views all.1)
    ]

-- with one more
pub all-pushed : {V : Type 0} (P : V → Type 0) (name : List ℕ) (views : List (List ℕ × V)) (v : V)
    → AllByRecursion (λ w. P w.1) views → P v → AllByRecursion (λ w. P w.1) (views ++ (name, v) ∷ [])
all-pushed P name views v all one = all-append (λ e. P e.1) views ((name, v) ∷ []) all (one, tt)

-- of the view at an index of a list, and of the view of a name
pub all-at : {V : Type 0} (P : V → Type 0) (views : List (List ℕ × V)) (i : ℕ) (e : List ℕ × V) → slice_get views i ≡ Some e → AllByRecursion (λ v. P v.1) views → P e.1
all-at P [] i e found all = absurd (cc (found))
all-at {V} P (v ∷ views) zero e found all = let is : v ≡ e = cc (found) in subst (λ (u : List ℕ × V). P u.1) is all.0
all-at P (v ∷ views) (suc i) e found all = all-at P views i e found all.1

pub all-named : {V : Type 0} (P : V → Type 0) (name : List ℕ) (views : List (List ℕ × V)) (v : V) → lookup (bytes_eq name) views ≡ Some v → AllByRecursion (λ w. P w.1) views → P v
all-named P name [] v found all = absurd (cc (found))
all-named P name (e ∷ views) v found all = by (bytes_eq name e.0) found (λ there. all-named P name views v there all.1)
  where
    by : (b : Bool) → cond b (Some e.1) (lookup (bytes_eq name) views) ≡ Some v → (lookup (bytes_eq name) views ≡ Some v → P v) → P v
    by true found more = let is : e.1 ≡ v = cc (found) in subst P is all.0
    by false found more = more found

-- the view of a name that is made current
pub current-named : (name : List ℕ) (views : List (List ℕ × Shown)) → lookup (bytes_eq name) (with_current views name) ≡ option_map current (lookup (bytes_eq name) views)
current-named name [] = refl
current-named name (v ∷ views) = by (bytes_eq name v.0) refl (current-named name views)
  where
    by : (b : Bool) → bytes_eq name v.0 ≡ b → lookup (bytes_eq name) (with_current views name) ≡ option_map current (lookup (bytes_eq name) views)
        → lookup (bytes_eq name) (cond b ((v.0, current v.1) ∷ views) (v ∷ with_current views name)) ≡ option_map current (cond b (Some v.1) (lookup (bytes_eq name) views))
    by true is more = ap (λ (b : Bool). cond b (Some (current v.1)) (lookup (bytes_eq name) views)) is
    by false is more = ap (λ (b : Bool). cond b (Some v.1) (lookup (bytes_eq name) (with_current views name))) is ∙ more

pub some-seen : {A : Type 0} (b : Bool) (o : Option (Bor (OpenView A))) (found : Option Shown) → b ≡ is_some o → option_map (λ v. seen v.now) o ≡ found → b ≡ is_some found
some-seen {A} b o found is same = is ∙ by o ∙ ap is_some same
  where
    by : (o : Option (Bor (OpenView A))) → is_some o ≡ is_some (option_map (λ v. seen v.now) o)
    by None = refl
    by (Some v) = refl
