-- The states that open views share.
use denote.Ref.{Bor}
use Rattle.std.specs.Option.{option_copied}
use Rattle.std.proofs.Common.{◌≡◌, ℕ, suc, zero, ◌+◌, ◌<◌, ◌≤◌, ◌++◌, ◌⊎◌, inl, inr, Bool, true, false, if◌then◌else◌, List, [], ◌∷◌, Option, None, Some, length, drop, slice_get, get_or, add-one, refl, sym, ap, ap₂, subst, ◌∙◌, arith}
use Rattle.std.specs.Prelude.{IfSome, IsSomeAnd, option_map, ◌&&◌, ◌||◌, not}
use Rattle.std.specs.List.{AllByRecursion}
use Rattle.std.specs.Map.{keys_of, values_of, lookup, remove_entry}
use Rattle.std.specs.Str.{bytes_eq}
use Rattle.std.proofs.lemmas.List.{map-append}
use Rattle.std.proofs.lemmas.List.Quantifiers.{position-Some}
use Rattle.std.proofs.lemmas.Bool.{and_parts}
use Rattle.iv_lines.proofs.NamedLemmas.{set_value_at, unnamed}
use Rattle.iv_lines.specs.Named.{name_index}
use Rattle.iv_lines.specs.RecordValue.{RecordValue}
use Rattle.iv_view.specs.KeptStates.{built_for, state_key_of, IsRight}
use Rattle.iv_view.specs.declared.kept_state.KeptState.{KeptState}
use Rattle.iv_view.specs.declared.kept_state.StateKey.{StateKey}
use Rattle.iv_view.specs.declared.view.View.{View}
use Rattle.iv_workspace.specs.Inside.ViewStates.{seen, all_seen, kept_with, owned, all_owned, IsOwned, IsKept, HaveStates, IsOwnRight, AreOwnRight, AreRight, IsRepaired, AreRepaired, AreMarked, IsMissing, NoneNeeds, current_at}
use Rattle.iv_workspace.specs.OpenViews.{Shown, Stales, Freshens, current, all_current, with_current, stale_count, all_steps, view_steps}
use Rattle.iv_workspace.specs.declared.views.OpenView.{OpenView}
use Rattle.iv_workspace.proofs.OpenViewLemmas.{Midway, midway-begin, midway-next, midway-end, midway-at, Written, written-at, all-append, all-front, all-back, all-removed, all-named, all-at, stales-append, freshens-same, seen-append, seen-lookup, remove-seen}

-- ---- what is kept is among the states

owned-append : {A : Type 0} (xs ys : List (List ℕ × OpenView A)) → all_owned (xs ++ ys) ≡ all_owned xs ++ all_owned ys
owned-append xs ys = map-append _ xs ys

among-front : (what : StateKey) (xs ys : List (Option StateKey)) → IsOwned what xs → IsOwned what (xs ++ ys)
among-front what [] ys a = absurd a
among-front what (x ∷ xs) ys (inl here) = inl here
among-front what (x ∷ xs) ys (inr a) = inr (among-front what xs ys a)

among-back : (what : StateKey) (xs ys : List (Option StateKey)) → IsOwned what ys → IsOwned what (xs ++ ys)
among-back what [] ys a = a
among-back what (x ∷ xs) ys a = inr (among-back what xs ys a)

-- another state instead of one, if what was kept there is still kept
among-written : (what : StateKey) (xs ys : List (Option StateKey)) (o p : Option StateKey) → (o ≡ Some what → IsOwned what (xs ++ p ∷ ys))
    → IsOwned what (xs ++ o ∷ ys) → IsOwned what (xs ++ p ∷ ys)
among-written what [] ys o p there (inl here) = there here
among-written what [] ys o p there (inr a) = inr a
among-written what (x ∷ xs) ys o p there (inl here) = inl here
among-written what (x ∷ xs) ys o p there (inr a) =
    by xs (λ l. inr l) a
  where
    by : (zs : List (Option StateKey)) → (IsOwned what (zs ++ p ∷ ys) → IsOwned what (x ∷ (xs ++ p ∷ ys))) → IsOwned what (zs ++ o ∷ ys) → IsOwned what (x ∷ (xs ++ p ∷ ys))
    by [] wrap (inl here) = there here
    by [] wrap (inr a) = wrap (inr a)
    by (z ∷ zs) wrap (inl here) = wrap (inl here)
    by (z ∷ zs) wrap (inr a) = by zs (λ l. wrap (inr l)) a

-- views that have their states have them among more
kept-more : (states more : List (Option StateKey)) (view : View) → ((what : StateKey) → IsOwned what states → IsOwned what more) → IsKept states view → IsKept more view
kept-more states more view grows kept = by (state_key_of view) kept
  where
    by : (o : Option StateKey) → IfSome o (λ what. IsOwned what states) → IfSome o (λ what. IsOwned what more)
    by None kept = tt
    by (Some what) kept = grows what kept

-- a written view needs no state
kept-none : (states : List (Option StateKey)) (view : View) → state_key_of view ≡ None → IsKept states view
kept-none states view none = subst (λ (o : Option StateKey). IfSome o (λ what. IsOwned what states)) (sym none) tt

have-more : (states more : List (Option StateKey)) (views : List (List ℕ × Shown)) → ((what : StateKey) → IsOwned what states → IsOwned what more) → HaveStates states views → HaveStates more views
have-more states more [] grows have = tt
have-more states more (v ∷ views) grows have = (λ fresh. kept-more states more v.1.view grows (have.0 fresh), have-more states more views grows have.1)

-- ---- an open view's own state

pub own-some : {A : Type 0} (o : Option (Bor (KeptState A))) (state : Option (KeptState A)) (K : Type 0) → option_copied o ≡ state → K → IfSome o (λ k. (state ≡ Some k.now) × K)
own-some None state K is k = tt
own-some (Some j) state K is k = (sym is, k)

pub own-none : {A : Type 0} (o : Option (Bor (KeptState A))) (v : OpenView A) (what : StateKey) → option_copied o ≡ v.state → o ≡ None → owned v ≡ Some what → ⊥
own-none None v what is none owns = let both : None ≡ Some what = ap (kept_with v.view) is ∙ owns in cc (both)
own-none (Some j) v what is none owns = cc (none)

pub own-other : {A : Type 0} (v : OpenView A) (what : StateKey) → (state_key_of v.view ≡ Some what → ⊥) → owned v ≡ Some what → ⊥
own-other {A} v what other owns = by v.state owns
  where
    by : (o : Option (KeptState A)) → kept_with v.view o ≡ Some what → ⊥
    by None owns = cc (owns)
    by (Some k) owns = other owns

-- ---- repairs

steps-append : (xs ys : List (List ℕ × Shown)) (records : List RecordValue) (r : RecordValue) → all_steps (xs ++ ys) records r ≡ all_steps xs records r + all_steps ys records r
steps-append [] ys records r = omega arith
steps-append (x ∷ xs) ys records r = omega (arith, steps-append xs ys records r)

module _ {A : Type 0} (names : List (List ℕ)) (records with_r : List RecordValue) (r : RecordValue) where
  pub repaired-none : (before : ℕ) → AreRepaired {A = A} names records with_r r true [] [] before before
  repaired-none before = record { unless = λ e. (refl, refl); stales = tt; right = tt; steps = record { no_less = omega arith; at_most = omega arith } }

  -- one more view is repaired
  pub repaired-push : (kept also : Bool) (old new : List (List ℕ × OpenView A)) (n : List ℕ) (v w : OpenView A) (before mid after : ℕ)
      → AreRepaired names records with_r r kept old new before mid → IsRepaired names records with_r r also v w mid after
      → AreRepaired names records with_r r (kept && also) (old ++ (n, v) ∷ []) (new ++ (n, w) ∷ []) before after
  repaired-push kept also old new n v w before mid after all one =
      let seen_old : all_seen (old ++ (n, v) ∷ []) ≡ all_seen old ++ (n, seen v) ∷ [] = seen-append old ((n, v) ∷ []) in
      let seen_new : all_seen (new ++ (n, w) ∷ []) ≡ all_seen new ++ (n, seen w) ∷ [] = seen-append new ((n, w) ∷ []) in
      let steps_are : all_steps (all_seen (old ++ (n, v) ∷ [])) with_r r ≡ all_steps (all_seen old) with_r r + (view_steps (seen v) with_r r + 0) =
      ap (λ (l : List (List ℕ × Shown)). all_steps l with_r r) seen_old ∙ steps-append (all_seen old) ((n, seen v) ∷ []) with_r r in
      record {
        unless = λ e.
            let both = and_parts kept also e in
            let before = all.unless both.0 in
            let here = one.unless both.1 in
            let shown : seen w ≡ seen v = ap₂ (λ (x : View) (b : Bool). record { view = x; stale = b }) one.same here.0 in (
              seen_new ∙ ap₂ (λ (l : List (List ℕ × Shown)) (s : Shown). l ++ (n, s) ∷ []) before.0 shown ∙ sym seen_old,
              owned-append new ((n, w) ∷ []) ∙ ap₂ (λ (l : List (Option StateKey)) (o : Option StateKey). l ++ o ∷ []) before.1 here.1 ∙ sym (owned-append old ((n, v) ∷ [])),
            );
        stales = rw (seen_old, seen_new) (stales-append (all_seen old) (all_seen new) ((n, seen v) ∷ []) ((n, seen w) ∷ []) all.stales ((refl, one.same, one.stays, (λ written is. one.written (ap state_key_of is))), tt));
        right = all-append (λ e. IsOwnRight e.1 names records) new ((n, w) ∷ []) all.right (one.right, tt);
        steps = record { no_less = omega (arith, all.steps.no_less, one.steps.no_less); at_most = omega (arith, all.steps.at_most, one.steps.at_most, steps_are) };
      }

-- during the repairs
pub record Repairing {A : Type 0} (names : List (List ℕ)) (records with_r : List RecordValue) (r : RecordValue) (kept : Bool) (old now : List (List ℕ × OpenView A)) (index before after : ℕ) : Type 0 where
  pub mid : Midway (λ front done. AreRepaired names records with_r r kept front done before after) old now index

module _ {A : Type 0} (names : List (List ℕ)) (records with_r : List RecordValue) (r : RecordValue) (old : List (List ℕ × OpenView A)) where
  pub repairs-begin : (now : List (List ℕ × OpenView A)) (before : ℕ) → now ≡ old → Repairing names records with_r r true old now 0 before before
  repairs-begin now before same = record { mid = midway-begin _ old now same (repaired-none names records with_r r before) }

  pub repairs-end : (kept : Bool) (now : List (List ℕ × OpenView A)) (index before after : ℕ) → Repairing names records with_r r kept old now index before after → length now ≤ index
      → AreRepaired names records with_r r kept old now before after
  repairs-end kept now index before after u past = midway-end (λ front done. AreRepaired names records with_r r kept front done before after) old now index u.mid past

module _ {A : Type 0} (names : List (List ℕ)) (records with_r : List RecordValue) (r : RecordValue) (old : List (List ℕ × OpenView A)) where
  pub repairs-at : (P : OpenView A → Type 0) (kept : Bool) (es : List (List ℕ × OpenView A)) (index before mid : ℕ) (v : OpenView A)
      → Repairing names records with_r r kept old es index before mid → slice_get (values_of es) index ≡ Some v → AllByRecursion (λ e. P e.1) old → P v
  repairs-at P kept es index before mid v u found all = midway-at _ P old es index v u.mid found all

  pub repairs-next : (kept also : Bool) (es : List (List ℕ × OpenView A)) (index before mid after : ℕ) (v w : OpenView A)
      → Repairing names records with_r r kept old es index before mid → slice_get (values_of es) index ≡ Some v → IsRepaired names records with_r r also v w mid after
      → Repairing names records with_r r (kept && also) old (set_value_at es index w) (index + 1) before after
  repairs-next kept also es index before mid after v w u found one = record {
    mid = midway-next
        (λ front done. AreRepaired names records with_r r kept front done before mid) (λ front done. AreRepaired names records with_r r (kept && also) front done before after)
        old es index v w u.mid found (λ front done more n old_is all. repaired-push names records with_r r kept also front done n v w before mid after all one);
  }

-- ---- views whose state is lost

-- while views are marked, beside these states
pub record Marking {A : Type 0} (states : List (Option StateKey)) (old new : List (List ℕ × OpenView A)) : Type 0 where
  pub owned_same : all_owned new ≡ all_owned old
  pub right : (names : List (List ℕ)) (records : List RecordValue) → AreOwnRight old names records → AreOwnRight new names records
  pub stales : Stales (all_seen old) (all_seen new)
  pub have : HaveStates states (all_seen new)

pub marking-none : {A : Type 0} (states : List (Option StateKey)) → Marking {A = A} states [] []
marking-none states = record { owned_same = refl; right = λ names records all. tt; stales = tt; have = tt }

-- the view itself, stale unless its state is kept
abbrev pub marked : {A : Type 0} → OpenView A → Bool → OpenView A
marked v stale = record v { stale = stale }

module _ {A : Type 0} (states : List (Option StateKey)) (v : OpenView A) (b : Bool) where
  -- a view with a state of its own isn't marked
  marked-right : (IsKept states v.view → b ≡ v.stale) → ((what : StateKey) → owned v ≡ Some what → IsOwned what states) → (names : List (List ℕ)) (records : List RecordValue)
      → IsOwnRight v names records → IsOwnRight (marked v b) names records
  marked-right keeps among names records = by v.state refl
    where
      by : (o : Option (KeptState A)) → v.state ≡ o → IfSome o (λ k. (v.stale ≡ false) × (state_key_of v.view ≡ Some (built_for k)) × IsRight k names records)
          → IfSome o (λ k. (b ≡ false) × (state_key_of v.view ≡ Some (built_for k)) × IsRight k names records)
      by None is right = tt
      by (Some k) is right =
          let own : owned v ≡ Some (built_for k) = ap (kept_with v.view) is ∙ right.1 in
          let kept : IsKept states v.view = subst (λ (o : Option StateKey). IfSome o (λ what. IsOwned what states)) (sym right.1) (among (built_for k) own) in
          (keeps kept ∙ right.0, right.1, right.2)

  -- one more view
  pub marking-push : (old new : List (List ℕ × OpenView A)) (n : List ℕ) → Marking states old new → (IsKept states v.view → b ≡ v.stale) → (v.stale ≡ true → b ≡ true) → (b ≡ false → IsKept states v.view)
      → ((what : StateKey) → owned v ≡ Some what → IsOwned what states)
      → Marking states (old ++ (n, v) ∷ []) (new ++ (n, marked v b) ∷ [])
  marking-push old new n all keeps stays lost among =
      let w : OpenView A = marked v b in
      let seen_old : all_seen (old ++ (n, v) ∷ []) ≡ all_seen old ++ (n, seen v) ∷ [] = seen-append old ((n, v) ∷ []) in
      let seen_new : all_seen (new ++ (n, w) ∷ []) ≡ all_seen new ++ (n, seen w) ∷ [] = seen-append new ((n, w) ∷ []) in
      record {
        owned_same = owned-append new ((n, w) ∷ []) ∙ ap (λ (l : List (Option StateKey)). l ++ owned v ∷ []) all.owned_same ∙ sym (owned-append old ((n, v) ∷ []));
        right = λ names records right.
            let front = all.right names records (all-front (λ e. IsOwnRight e.1 names records) old ((n, v) ∷ []) right) in
            let here = (all-back (λ e. IsOwnRight e.1 names records) old ((n, v) ∷ []) right).0 in
            all-append (λ e. IsOwnRight e.1 names records) new ((n, w) ∷ []) front (marked-right keeps among names records here, tt);
        stales = rw (seen_old, seen_new) (stales-append (all_seen old) (all_seen new) ((n, seen v) ∷ []) ((n, seen w) ∷ []) all.stales ((refl, refl, stays, (λ written is. keeps (kept-none states v.view (ap state_key_of is)))), tt));
        have = rw seen_new (all-append (λ e. e.1.stale ≡ false → IsKept states e.1.view) (all_seen new) ((n, seen w) ∷ []) all.have (lost, tt));
      }

-- the state of a view in a list is among those of the list
pub owned-here : {A : Type 0} (front more : List (List ℕ × OpenView A)) (n : List ℕ) (v : OpenView A) (what : StateKey) → owned v ≡ Some what → IsOwned what (all_owned (front ++ (n, v) ∷ more))
owned-here front more n v what is = rw (owned-append front ((n, v) ∷ more)) (among-back what (all_owned front) (owned v ∷ all_owned more) (inl is))

-- while views are marked, what the states are kept for is as before
marking-owned : {A : Type 0} (states : List (Option StateKey)) (old now : List (List ℕ × OpenView A)) (index : ℕ) → Midway (Marking states) old now index → all_owned now ≡ all_owned old
marking-owned states old now index mid =
    ap all_owned mid.now_is ∙ owned-append mid.done mid.rest ∙ ap (λ (l : List (Option StateKey)). l ++ all_owned mid.rest) mid.does.owned_same
    ∙ sym (owned-append mid.front mid.rest) ∙ sym (ap all_owned mid.old_is)

-- during a walk that marks views
pub record MarkingUpTo {A : Type 0} (old now : List (List ℕ × OpenView A)) (index : ℕ) : Type 0 where
  pub mid : Midway (Marking (all_owned old)) old now index

module _ {A : Type 0} (old : List (List ℕ × OpenView A)) where
  pub marks-begin : (now : List (List ℕ × OpenView A)) → now ≡ old → MarkingUpTo old now 0
  marks-begin now same = record { mid = midway-begin _ old now same (marking-none (all_owned old)) }

  pub marks-owned : (now : List (List ℕ × OpenView A)) (index : ℕ) → MarkingUpTo old now index → all_owned now ≡ all_owned old
  marks-owned now index u = marking-owned (all_owned old) old now index u.mid

  pub marks-end : (now : List (List ℕ × OpenView A)) (index : ℕ) → MarkingUpTo old now index → length now ≤ index → AreMarked old now
  marks-end now index u past =
      let all = midway-end (Marking (all_owned old)) old now index u.mid past in
      record { right = all.right; stales = all.stales; states = subst (λ (l : List (Option StateKey)). HaveStates l (all_seen now)) (sym all.owned_same) all.have }

module _ {A : Type 0} (old : List (List ℕ × OpenView A)) where
  -- `kept` is whether the view has a state among those that there are
  pub marks-next : (es : List (List ℕ × OpenView A)) (index : ℕ) (v w : OpenView A) (kept : Bool) → MarkingUpTo old es index → slice_get (values_of es) index ≡ Some v
      → (kept ≡ true → IsKept (all_owned es) v.view) × (IsKept (all_owned es) v.view → kept ≡ true) → w ≡ marked v (v.stale || not kept)
      → MarkingUpTo old (set_value_at es index w) (index + 1)
  marks-next es index v w kept u found says is =
      let states = all_owned old in
      let same : all_owned es ≡ states = marks-owned old es index u in
      let known : (kept ≡ true → IsKept states v.view) × (IsKept states v.view → kept ≡ true) =
      subst (λ (l : List (Option StateKey)). (kept ≡ true → IsKept l v.view) × (IsKept l v.view → kept ≡ true)) same says in
      record {
        mid = midway-next (Marking states) (Marking states) old es index v w u.mid found (λ front done more n old_is all.
            subst (λ (x : OpenView A). Marking states (front ++ (n, v) ∷ []) (done ++ (n, x) ∷ [])) (sym is)
            (marking-push states v (v.stale || not kept) front done n all
            (λ there. unless v.stale kept (known.1 there)) (λ stale. stays v.stale kept stale) (λ fresh. known.0 (fresh-kept v.stale kept fresh))
            (λ what owns. subst (λ (l : List (List ℕ × OpenView A)). IsOwned what (all_owned l)) (sym old_is) (owned-here front more n v what owns))));
      }
    where
      unless : (b k : Bool) → k ≡ true → b || not k ≡ b
      unless true k is = refl
      unless false true is = refl
      unless false false is = absurd (cc (is))

      stays : (b k : Bool) → b ≡ true → b || not k ≡ true
      stays true k is = refl
      stays false k is = absurd (cc (is))

      fresh-kept : (b k : Bool) → b || not k ≡ false → k ≡ true
      fresh-kept true k is = absurd (cc (is))
      fresh-kept false true is = refl
      fresh-kept false false is = absurd (cc (is))

-- ---- the view at an index

-- the view at an index of a map, among the views
pub at-index : {A : Type 0} (es : List (List ℕ × OpenView A)) (index : ℕ) (v : OpenView A) → slice_get (values_of es) index ≡ Some v
    → (n : List ℕ) × (slice_get es index ≡ Some (n, v)) × (drop index es ≡ (n, v) ∷ drop (index + 1) es)
at-index {A} es index v found =
    subst (λ (k : ℕ). (n : List ℕ) × (slice_get es index ≡ Some (n, v)) × (drop index es ≡ (n, v) ∷ drop k es)) (sym (add-one index)) (by es index found)
  where
    by : (es : List (List ℕ × OpenView A)) (index : ℕ) → slice_get (values_of es) index ≡ Some v
        → (n : List ℕ) × (slice_get es index ≡ Some (n, v)) × (drop index es ≡ (n, v) ∷ drop (suc index) es)
    by [] index found = absurd (cc (found))
    by (e ∷ es) zero found = let is : e.1 ≡ v = cc (found) in (e.0, ap (λ (u : OpenView A). Some (e.0, u)) is, ap (λ (u : OpenView A). (e.0, u) ∷ es) is)
    by (e ∷ es) (suc index) found = by es index found

-- its state is among those of the views
owned-at : {A : Type 0} (views : List (List ℕ × OpenView A)) (index : ℕ) (e : List ℕ × OpenView A) (what : StateKey) → slice_get views index ≡ Some e → owned e.1 ≡ Some what → IsOwned what (all_owned views)
owned-at {A} [] index e what found is = absurd (cc (found))
owned-at {A} (x ∷ views) zero e what found is = let same : x ≡ e = cc (found) in inl (ap (λ (u : List ℕ × OpenView A). owned u.1) same ∙ is)
owned-at {A} (x ∷ views) (suc index) e what found is = inr (owned-at views index e what found is)

module _ {A : Type 0} (views : List (List ℕ × OpenView A)) (es : List (List ℕ × OpenView A)) (same : es ≡ views) (index : ℕ) (v : OpenView A) (found : slice_get (values_of es) index ≡ Some v) where
  -- its name, its index and what follows it
  pub view-at : (n : List ℕ) × (slice_get views index ≡ Some (n, v)) × (drop index views ≡ (n, v) ∷ drop (index + 1) views)
  view-at = subst (λ (l : List (List ℕ × OpenView A)). (n : List ℕ) × (slice_get l index ≡ Some (n, v)) × (drop index l ≡ (n, v) ∷ drop (index + 1) l)) same (at-index es index v found)

  -- its state is that of what is kept of it, and is right
  pub state-at : (what : StateKey) (k : KeptState A) → v.state ≡ Some k → state_key_of v.view ≡ Some what → (names : List (List ℕ)) (records : List RecordValue) → AreOwnRight views names records
      → (built_for k ≡ what) × IsRight k names records
  state-at what k is kept names records right =
      let own : IsOwnRight v names records = all-at (λ u. IsOwnRight u names records) views index (view-at.0, v) view-at.1 right in
      let here = subst (λ (o : Option (KeptState A)). IfSome o (λ k. (v.stale ≡ false) × (state_key_of v.view ≡ Some (built_for k)) × IsRight k names records)) is own in
      let both : Some (built_for k) ≡ Some what = sym here.1 ∙ kept in
      let eq : built_for k ≡ what = cc (both) in
      (eq, here.2)

  -- and is among those of the views
  pub kept-at : (what : StateKey) (k : KeptState A) → v.state ≡ Some k → state_key_of v.view ≡ Some what → IsOwned what (all_owned views)
  kept-at what k is kept = owned-at views index (view-at.0, v) what view-at.1 (ap (kept_with v.view) is ∙ kept)

  -- what isn't kept in its state is kept in those after it, if it is from it on
  pub kept-later : (what : StateKey) → (owned v ≡ Some what → ⊥) → IsOwned what (all_owned (drop index views)) → IsOwned what (all_owned (drop (index + 1) views))
  kept-later what other a = elim (subst (λ (l : List (List ℕ × OpenView A)). IsOwned what (all_owned l)) view-at.2 a) [
    | inl here ↦ absurd (other here)
    | inr later ↦ later
  ]

  -- a view that needs what is kept
  pub needs-at : (what : StateKey) → (v.stale ≡ false) × (state_key_of v.view ≡ Some what) → IfSome (slice_get views index) (λ u. (u.1.stale ≡ false) × (state_key_of u.1.view ≡ Some what))
  needs-at what needs = subst (λ (o : Option (List ℕ × OpenView A)). IfSome o (λ u. (u.1.stale ≡ false) × (state_key_of u.1.view ≡ Some what))) (sym view-at.1) needs

  -- it doesn't need it, and so none does if none after it does
  pub needless-at : (what : StateKey) → ((v.stale ≡ false) × (state_key_of v.view ≡ Some what) → ⊥) → NoneNeeds what (all_seen (drop (index + 1) views)) → NoneNeeds what (all_seen (drop index views))
  needless-at what needless later = subst (λ (l : List (List ℕ × OpenView A)). NoneNeeds what (all_seen l)) (sym view-at.2) ((λ fresh kept. needless (fresh, kept)), later)

-- the same, by the views before the index is written
pub marks-in : {A : Type 0} (old now : List (List ℕ × OpenView A)) (es : List (List ℕ × OpenView A)) → es ≡ now → (index : ℕ) (v : OpenView A) → slice_get (values_of es) index ≡ Some v → (w : OpenView A) (kept : Bool)
    → MarkingUpTo old now index → (kept ≡ true → IsKept (all_owned now) v.view) × (IsKept (all_owned now) v.view → kept ≡ true) → w ≡ marked v (v.stale || not kept)
    → MarkingUpTo old (set_value_at es index w) (index + 1)
marks-in {A} old now es same index v found w kept u says is =
    marks-next old es index v w kept (subst (λ (l : List (List ℕ × OpenView A)). MarkingUpTo old l index) (sym same) u) found
    (subst (λ (l : List (List ℕ × OpenView A)). (kept ≡ true → IsKept (all_owned l) v.view) × (IsKept (all_owned l) v.view → kept ≡ true)) (sym same) says) is

-- ---- a view that is written

module _ {A : Type 0} (old new : List (List ℕ × OpenView A)) (index : ℕ) (v w : OpenView A) (u : Written old new index v w) where
  -- what was kept is still kept, if it is by the state at the index
  written-grows : ((what : StateKey) → owned v ≡ Some what → IsOwned what (all_owned new)) → (what : StateKey) → IsOwned what (all_owned old) → IsOwned what (all_owned new)
  written-grows there what a =
      let states_are : all_owned new ≡ all_owned u.front ++ owned w ∷ all_owned u.more = ap all_owned u.new_is ∙ owned-append u.front ((u.name, w) ∷ u.more) in
      let states_were : all_owned old ≡ all_owned u.front ++ owned v ∷ all_owned u.more = ap all_owned u.old_is ∙ owned-append u.front ((u.name, v) ∷ u.more) in
      subst (IsOwned what) (sym states_are)
      (among-written what (all_owned u.front) (all_owned u.more) (owned v) (owned w) (λ is. subst (IsOwned what) states_are (there what is)) (subst (IsOwned what) states_were a))

  -- the state that was written is among those after it
  written-owned : (what : StateKey) → owned w ≡ Some what → IsOwned what (all_owned new)
  written-owned what is = subst (λ (l : List (List ℕ × OpenView A)). IsOwned what (all_owned l)) (sym u.new_is) (owned-here u.front u.more u.name w what is)

  -- the view before it was written
  pub written-all : (P : OpenView A → Type 0) → AllByRecursion (λ e. P e.1) old → P v
  written-all P all = (all-back (λ e. P e.1) u.front ((u.name, v) ∷ u.more) (subst (λ (l : List (List ℕ × OpenView A)). AllByRecursion (λ e. P e.1) l) u.old_is all)).0

  -- the views are right, if that view is
  written-right : (names : List (List ℕ)) (records : List RecordValue) (states : List (Option StateKey)) → AreOwnRight old names records → HaveStates states (all_seen old)
      → ((what : StateKey) → IsOwned what states → IsOwned what (all_owned new)) → IsOwnRight w names records → (w.stale ≡ false → IsKept (all_owned new) w.view) → AreRight new names records
  written-right names records states right have grows own kept =
      let P : List ℕ × OpenView A → Type 0 = λ e. IsOwnRight e.1 names records in
      let before = subst (λ (l : List (List ℕ × OpenView A)). AreOwnRight l names records) u.old_is right in
      let Q : List ℕ × Shown → Type 0 = λ e. e.1.stale ≡ false → IsKept (all_owned new) e.1.view in
      let more : HaveStates (all_owned new) (all_seen u.front ++ (u.name, seen v) ∷ all_seen u.more) =
      subst (HaveStates (all_owned new)) (ap all_seen u.old_is ∙ seen-append u.front ((u.name, v) ∷ u.more)) (have-more states (all_owned new) (all_seen old) grows have) in
      let seen_are : all_seen new ≡ all_seen u.front ++ (u.name, seen w) ∷ all_seen u.more = ap all_seen u.new_is ∙ seen-append u.front ((u.name, w) ∷ u.more) in (
        subst (λ (l : List (List ℕ × OpenView A)). AreOwnRight l names records) (sym u.new_is)
            (all-append P u.front ((u.name, w) ∷ u.more) (all-front P u.front ((u.name, v) ∷ u.more) before) (own, (all-back P u.front ((u.name, v) ∷ u.more) before).1)),
        subst (HaveStates (all_owned new)) (sym seen_are)
            (all-append Q (all_seen u.front) ((u.name, seen w) ∷ all_seen u.more) (all-front Q (all_seen u.front) ((u.name, seen v) ∷ all_seen u.more) more)
            (kept, (all-back Q (all_seen u.front) ((u.name, seen v) ∷ all_seen u.more) more).1)),
      )

-- a view that is rebuilt, with the state that was missing
abbrev pub renewed : {A : Type 0} → View → Option (KeptState A) → OpenView A
renewed view state = record { view = view; stale = false; state = state }

-- the state that was missing is right, and is what is kept of the view
missing-own : {A : Type 0} (states : List (Option StateKey)) (view : View) (names : List (List ℕ)) (records : List RecordValue) (state : Option (KeptState A))
    → IsMissing states view names records state → IsOwnRight (renewed view state) names records
missing-own states view names records None missing = tt
missing-own states view names records (Some k) missing = (refl, missing.0, missing.1)

missing-kept : {A : Type 0} (states more : List (Option StateKey)) (view : View) (names : List (List ℕ)) (records : List RecordValue) (state : Option (KeptState A))
    → IsMissing states view names records state → ((what : StateKey) → IsOwned what states → IsOwned what more) → ((what : StateKey) → kept_with view state ≡ Some what → IsOwned what more) → IsKept more view
missing-kept states more view names records None missing grows own = kept-more states more view grows missing
missing-kept states more view names records (Some k) missing grows own = by (state_key_of view) refl
  where
    by : (o : Option StateKey) → state_key_of view ≡ o → IfSome o (λ what. IsOwned what more)
    by None is = tt
    by (Some what) is = own what is

-- a view that was stale is rebuilt
pub renewed-right : {A : Type 0} (names : List (List ℕ)) (records : List RecordValue) (old new : List (List ℕ × OpenView A)) (index : ℕ) (v : OpenView A) (state : Option (KeptState A))
    → Written old new index v (renewed v.view state) → v.stale ≡ true → IsMissing (all_owned old) v.view names records state → AreRight old names records → AreRight new names records
renewed-right {A} names records old new index v state u stale missing right =
    let w : OpenView A = renewed v.view state in
    let own : IsOwnRight v names records = written-all old new index v w u (λ e. IsOwnRight e names records) right.0 in
    let grows = written-grows old new index v w u (λ what is. absurd (no-state v.state own what is)) in
    written-right old new index v w u names records (all_owned old) right.0 right.1 grows (missing-own (all_owned old) v.view names records state missing)
    (λ fresh. missing-kept (all_owned old) (all_owned new) v.view names records state missing grows (written-owned old new index v w u))
  where
    no-state : (o : Option (KeptState A)) → IfSome o (λ k. (v.stale ≡ false) × (state_key_of v.view ≡ Some (built_for k)) × IsRight k names records) → (what : StateKey) → kept_with v.view o ≡ Some what → ⊥
    no-state None own what is = cc (is)
    no-state (Some k) own what is = let both : true ≡ false = sym stale ∙ own.0 in cc (both)

-- one more view, with the state that was missing
pub opened-right : {A : Type 0} (names : List (List ℕ)) (records : List RecordValue) (views : List (List ℕ × OpenView A)) (name : List ℕ) (view : View) (state : Option (KeptState A))
    → IsMissing (all_owned views) view names records state → AreRight views names records → AreRight (views ++ (name, renewed view state) ∷ []) names records
opened-right {A} names records views name view state missing right =
    let w : OpenView A = renewed view state in
    let all : List (List ℕ × OpenView A) = views ++ (name, w) ∷ [] in
    let states_are : all_owned all ≡ all_owned views ++ owned w ∷ [] = owned-append views ((name, w) ∷ []) in
    let grows : (what : StateKey) → IsOwned what (all_owned views) → IsOwned what (all_owned all) = λ what a. subst (IsOwned what) (sym states_are) (among-front what (all_owned views) (owned w ∷ []) a) in
    let own : (what : StateKey) → kept_with view state ≡ Some what → IsOwned what (all_owned all) = owned-here views [] name w in (
      all-append (λ e. IsOwnRight e.1 names records) views ((name, w) ∷ []) right.0 (missing-own (all_owned views) view names records state missing, tt),
      subst (HaveStates (all_owned all)) (sym (seen-append views ((name, w) ∷ [])))
          (all-append (λ e. e.1.stale ≡ false → IsKept (all_owned all) e.1.view) (all_seen views) ((name, seen w) ∷ []) (have-more (all_owned views) (all_owned all) (all_seen views) grows right.1)
          (λ fresh. missing-kept (all_owned views) (all_owned all) view names records state missing grows own, tt)),
    )

-- ---- a view that is closed

-- a view that takes a state over
abbrev pub with_state : {A : Type 0} → OpenView A → KeptState A → OpenView A
with_state v k = record v { state = Some k }

-- the first view that needs a state takes it over
pub handed-right : {A : Type 0} (names : List (List ℕ)) (records : List RecordValue) (old new : List (List ℕ × OpenView A)) (index : ℕ) (v : OpenView A) (k : KeptState A) (what : StateKey) (closed : View)
    → Written old new index v (with_state v k) → v.stale ≡ false → state_key_of v.view ≡ Some what → state_key_of closed ≡ Some what
    → AreOwnRight old names records → HaveStates (state_key_of closed ∷ all_owned old) (all_seen old) → (state_key_of closed ≡ Some (built_for k)) × IsRight k names records → AreRight new names records
handed-right {A} names records old new index v k what closed u fresh needs is right have state =
    let w : OpenView A = with_state v k in
    let here : IsOwned what (all_owned new) = written-owned old new index v w u what needs in
    let grows = written-grows old new index v w u (λ that owns. same-state v.state that owns here) in
    let all : (that : StateKey) → IsOwned that (state_key_of closed ∷ all_owned old) → IsOwned that (all_owned new) = λ that a. elim a [
      | inl is_that ↦ let same : Some what ≡ Some that = sym is ∙ is_that in let eq : what ≡ that = cc (same) in subst (λ (x : StateKey). IsOwned x (all_owned new)) eq here
      | inr before ↦ grows that before
    ] in
    written-right old new index v w u names records (state_key_of closed ∷ all_owned old) right have all
    (fresh, needs ∙ sym is ∙ state.0, state.1)
    (λ _. subst (λ (o : Option StateKey). IfSome o (λ x. IsOwned x (all_owned new))) (sym needs) here)
  where
    same-state : (o : Option (KeptState A)) (that : StateKey) → kept_with v.view o ≡ Some that → IsOwned what (all_owned new) → IsOwned that (all_owned new)
    same-state None that is here = absurd (cc (is))
    same-state (Some j) that is here = let same : Some what ≡ Some that = sym needs ∙ is in let eq : what ≡ that = cc (same) in subst (λ (x : StateKey). IsOwned x (all_owned new)) eq here

-- what was kept is kept without the view of a name, or by that view
kept-of : {A : Type 0} (name : List ℕ) (v : OpenView A) (what : StateKey) (views : List (List ℕ × OpenView A)) → lookup (bytes_eq name) views ≡ Some v → IsOwned what (all_owned views)
    → IsOwned what (owned v ∷ all_owned (remove_entry (bytes_eq name) views))
kept-of name v what [] found a = absurd a
kept-of {A} name v what (e ∷ views) found a = by (bytes_eq name e.0) found a (λ there more. kept-of name v what views there more)
  where
    by : (b : Bool) → (if b then Some e.1 else lookup (bytes_eq name) views) ≡ Some v → (owned e.1 ≡ Some what) ⊎ IsOwned what (all_owned views)
        → (lookup (bytes_eq name) views ≡ Some v → IsOwned what (all_owned views) → IsOwned what (owned v ∷ all_owned (remove_entry (bytes_eq name) views)))
        → IsOwned what (owned v ∷ all_owned (if b then views else e ∷ remove_entry (bytes_eq name) views))
    by true found (inl is) rest = let same : e.1 ≡ v = cc (found) in inl (ap owned (sym same) ∙ is)
    by true found (inr a) rest = inr a
    by false found (inl is) rest = inr (inl is)
    by false found (inr a) rest = elim (rest found a) [
      | inl is ↦ inl is
      | inr more ↦ inr (inr more)
    ]

-- the views without that of a name, whose state is beside theirs
pub closed-right : {A : Type 0} (name : List ℕ) (views : List (List ℕ × OpenView A)) (v : OpenView A) (names : List (List ℕ)) (records : List RecordValue) → lookup (bytes_eq name) views ≡ Some v → AreRight views names records
    → AreOwnRight (remove_entry (bytes_eq name) views) names records × HaveStates (owned v ∷ all_owned (remove_entry (bytes_eq name) views)) (all_seen (remove_entry (bytes_eq name) views))
    × IsOwnRight v names records
closed-right {A} name views v names records found right =
    let more = remove_entry (bytes_eq name) views in
    let have : HaveStates (owned v ∷ all_owned more) (all_seen views) = have-more (all_owned views) (owned v ∷ all_owned more) (all_seen views) (λ what a. kept-of name v what views found a) right.1 in (
      all-removed (λ u. IsOwnRight u names records) name views right.0,
      subst (HaveStates (owned v ∷ all_owned more)) (sym (remove-seen name views)) (all-removed (λ u. u.stale ≡ false → IsKept (owned v ∷ all_owned more) u.view) name (all_seen views) have),
      all-named (λ u. IsOwnRight u names records) name views v found right.0,
    )

-- what is of its own state
pub own-kept : {A : Type 0} (v : OpenView A) (names : List (List ℕ)) (records : List RecordValue) → IsOwnRight v names records → IfSome v.state (λ k. (state_key_of v.view ≡ Some (built_for k)) × IsRight k names records)
own-kept {A} v names records own = by v.state own
  where
    by : (o : Option (KeptState A)) → IfSome o (λ k. (v.stale ≡ false) × (state_key_of v.view ≡ Some (built_for k)) × IsRight k names records) → IfSome o (λ k. (state_key_of v.view ≡ Some (built_for k)) × IsRight k names records)
    by None own = tt
    by (Some k) own = (own.1, own.2)

-- ---- views that are made current

-- the views, the first so many current
abbrev pub current_to : ℕ → List (List ℕ × Shown) → List (List ℕ × Shown)
current_to index [] = []
current_to zero (v ∷ views) = v ∷ views
current_to (suc index) (v ∷ views) = (v.0, current v.1) ∷ current_to index views

pub current-next : (index : ℕ) (views : List (List ℕ × Shown)) → current_at index (current_to index views) ≡ current_to (suc index) views
current-next index [] = refl
current-next zero (v ∷ []) = refl
current-next zero (v ∷ w ∷ views) = refl
current-next (suc index) (v ∷ views) = ap (λ (l : List (List ℕ × Shown)). (v.0, current v.1) ∷ l) (current-next index views)

pub current-none : (views : List (List ℕ × Shown)) → views ≡ current_to 0 views
current-none [] = refl
current-none (v ∷ views) = refl

pub seen-length : {A : Type 0} (views : List (List ℕ × OpenView A)) → length (all_seen views) ≡ length views
seen-length [] = refl
seen-length (v ∷ views) = ap suc (seen-length views)

-- there are as many views as before
pub current-length : {A : Type 0} (old now : List (List ℕ × OpenView A)) (index : ℕ) → all_seen now ≡ current_to index (all_seen old) → length now ≡ length old
current-length old now index are = sym (seen-length now) ∙ ap length are ∙ by index (all_seen old) ∙ seen-length old
  where
    by : (index : ℕ) (views : List (List ℕ × Shown)) → length (current_to index views) ≡ length views
    by index [] = refl
    by zero (v ∷ views) = refl
    by (suc index) (v ∷ views) = ap suc (by index views)

pub current-all : (index : ℕ) (views : List (List ℕ × Shown)) → length views ≤ index → current_to index views ≡ all_current views
current-all index [] past = refl
current-all zero (v ∷ views) past = absurd (omega (arith, past))
current-all (suc index) (v ∷ views) past = ap (λ (l : List (List ℕ × Shown)). (v.0, current v.1) ∷ l) (current-all index views (omega (arith, past)))

pub current-freshens : (index : ℕ) (views : List (List ℕ × Shown)) → Freshens views (current_to index views)
current-freshens index [] = tt
current-freshens zero (v ∷ views) = freshens-same (v ∷ views)
current-freshens (suc index) (v ∷ views) = ((refl, refl, λ e. absurd (cc (e))), current-freshens index views)

-- a view that is stale among them is one of the stale ones
pub stale-among : (index at : ℕ) (views : List (List ℕ × Shown)) → IfSome (slice_get (current_to index views) at) (λ v. v.1.stale ≡ true) → at < length views → 0 < stale_count views
stale-among index at [] stale within = absurd (omega (arith, within))
stale-among zero at views stale within = counted at views stale within
  where
    counted : (at : ℕ) (views : List (List ℕ × Shown)) → IfSome (slice_get views at) (λ v. v.1.stale ≡ true) → at < length views → 0 < stale_count views
    counted at [] stale within = absurd (omega (arith, within))
    counted zero (v ∷ views) stale within = let one : (if v.1.stale then 1 else 0) ≡ 1 = ap {B = ℕ} (λ (b : Bool). if b then 1 else 0) stale in omega (arith, one)
    counted (suc at) (v ∷ views) stale within = omega (arith, counted at views stale (omega (arith, within)))
stale-among (suc index) zero (v ∷ views) stale within = absurd (cc (stale))
stale-among (suc index) (suc at) (v ∷ views) stale within = omega (arith, stale-among index at views stale (omega (arith, within)))

-- the view at an index is made current
pub written-current : {A : Type 0} (old new : List (List ℕ × OpenView A)) (index : ℕ) (v w : OpenView A) → Written old new index v w → w.view ≡ v.view → w.stale ≡ false
    → all_seen new ≡ current_at index (all_seen old)
written-current {A} old new index v w u view fresh =
    let is : seen w ≡ record { view = v.view; stale = false } = ap₂ (λ (x : View) (b : Bool). record { view = x; stale = b }) view fresh in
    ap all_seen u.new_is ∙ by u.front index u.front_is is ∙ ap (λ (l : List (List ℕ × OpenView A)). current_at index (all_seen l)) (sym u.old_is)
  where
    by : (front : List (List ℕ × OpenView A)) (index : ℕ) → length front ≡ index → seen w ≡ record { view = v.view; stale = false }
        → all_seen (front ++ (u.name, w) ∷ u.more) ≡ current_at index (all_seen (front ++ (u.name, v) ∷ u.more))
    by [] zero at is = ap (λ (s : Shown). (u.name, s) ∷ all_seen u.more) is
    by [] (suc index) at is = absurd (omega (arith, at))
    by (e ∷ front) zero at is = absurd (omega (arith, at))
    by (e ∷ front) (suc index) at is = ap (λ (l : List (List ℕ × Shown)). (e.0, seen e.1) ∷ l) (by front index (omega (arith, at)) is)

-- what is at one index is the same
pub same-there : {X : Type 0} {o : Option X} (x y : X) → o ≡ Some x → o ≡ Some y → x ≡ y
same-there x y first second = let both : Some x ≡ Some y = sym first ∙ second in cc (both)

-- a view that is current stays as it is
pub current-same : (index : ℕ) (views : List (List ℕ × Shown)) (v : List ℕ × Shown) → slice_get views index ≡ Some v → v.1.stale ≡ false → views ≡ current_at index views
current-same index [] v found is = refl
current-same zero (e ∷ views) v found is =
    let same : e ≡ v = cc (found) in
    let fresh : e.1 ≡ record e.1 { stale = false } = ap (λ (b : Bool). record e.1 { stale = b }) (ap (λ (u : List ℕ × Shown). u.1.stale) same ∙ is) in
    ap (λ (s : Shown). (e.0, s) ∷ views) fresh
current-same (suc index) (e ∷ views) v found is = ap (λ (l : List (List ℕ × Shown)). e ∷ l) (current-same index views v found is)

-- ---- the view of a name, by its index

module _ {A : Type 0} (name : List ℕ) where
  -- the key at an index is the first of the name
  abbrev IsFirst : List (List ℕ × OpenView A) → ℕ → Type 0
  IsFirst [] index = ⊥
  IsFirst (e ∷ es) zero = bytes_eq name e.0 ≡ true
  IsFirst (e ∷ es) (suc index) = (bytes_eq name e.0 ≡ false) × IsFirst es index

  first-of : (es : List (List ℕ × OpenView A)) (index : ℕ) → name_index es name ≡ Some index → IsFirst es index
  first-of [] index is = absurd (cc (is))
  first-of (e ∷ es) index is =
      let p = position-Some (bytes_eq name) (keys_of (e ∷ es)) index e.0 is in
      by (e ∷ es) index p.0 p.1 p.2
    where
      by : (xs : List (List ℕ × OpenView A)) (i : ℕ) → i < length (keys_of xs) → bytes_eq name (get_or (keys_of xs) i e.0) ≡ true → ((k : ℕ) → k < i → bytes_eq name (get_or (keys_of xs) k e.0) ≡ false) → IsFirst xs i
      by [] i within here before = absurd (omega (arith, within))
      by (x ∷ xs) zero within here before = here
      by (x ∷ xs) (suc i) within here before = (before 0 (omega arith), by xs i (omega (arith, within)) here (λ k low. before (suc k) (omega (arith, low))))

  pub placed-current : (es : List (List ℕ × OpenView A)) (index : ℕ) → name_index es name ≡ Some index
      → current_at index (all_seen es) ≡ with_current (all_seen es) name
  placed-current es index is = by es index (first-of es index is)
    where
      by : (es : List (List ℕ × OpenView A)) (index : ℕ) → IsFirst es index → current_at index (all_seen es) ≡ with_current (all_seen es) name
      by [] index first = absurd first
      by (e ∷ es) zero first =
          sym (ap (λ (b : Bool). if b then (e.0, current (seen e.1)) ∷ all_seen es else (e.0, seen e.1) ∷ with_current (all_seen es) name) first)
      by (e ∷ es) (suc index) first =
          ap (λ (l : List (List ℕ × Shown)). (e.0, seen e.1) ∷ l) (by es index first.1)
          ∙ sym (ap (λ (b : Bool). if b then (e.0, current (seen e.1)) ∷ all_seen es else (e.0, seen e.1) ∷ with_current (all_seen es) name) first.0)

  -- the view of the name is the one at the index
  pub placed-stale : (es : List (List ℕ × OpenView A)) (index : ℕ) → name_index es name ≡ Some index
      → IfSome (slice_get (all_seen es) index) (λ v. v.1.stale ≡ true) → IfSome (lookup (bytes_eq name) (all_seen es)) (λ v. v.stale ≡ true)
  placed-stale es index is = by es index (first-of es index is)
    where
      by : (es : List (List ℕ × OpenView A)) (index : ℕ) → IsFirst es index
          → IfSome (slice_get (all_seen es) index) (λ v. v.1.stale ≡ true) → IfSome (lookup (bytes_eq name) (all_seen es)) (λ v. v.stale ≡ true)
      by [] index first stale = absurd first
      by (e ∷ es) zero first stale =
          subst (λ (b : Bool). IfSome (if b then Some (seen e.1) else lookup (bytes_eq name) (all_seen es)) (λ v. v.stale ≡ true)) (sym first) stale
      by (e ∷ es) (suc index) first stale =
          subst (λ (b : Bool). IfSome (if b then Some (seen e.1) else lookup (bytes_eq name) (all_seen es)) (λ v. v.stale ≡ true)) (sym first.0) (by es index first.1 stale)

  -- if no view has the name, none is made current
  pub unplaced : (es : List (List ℕ × OpenView A)) → name_index es name ≡ None → all_seen es ≡ with_current (all_seen es) name
  unplaced es is = by es (unnamed es name is)
    where
      by : (es : List (List ℕ × OpenView A)) → lookup (bytes_eq name) es ≡ None → all_seen es ≡ with_current (all_seen es) name
      by [] none = refl
      by (e ∷ es) none = head (bytes_eq name (e.0)) none (λ there. by es there)
        where
          head : (b : Bool) → (if b then Some e.1 else lookup (bytes_eq name) es) ≡ None
              → (lookup (bytes_eq name) es ≡ None → all_seen es ≡ with_current (all_seen es) name)
              → (e.0, seen e.1) ∷ all_seen es ≡ (if b then (e.0, current (seen e.1)) ∷ all_seen es else (e.0, seen e.1) ∷ with_current (all_seen es) name)
          head true none more = absurd (cc (none))
          head false none more = ap (λ (l : List (List ℕ × Shown)). (e.0, seen e.1) ∷ l) (more none)

-- if the view of a name was found at an index, then it is the one at the index
pub stale-named : {A : Type 0} (name : List ℕ) (inside views : List (List ℕ × OpenView A)) (index : ℕ) (v : OpenView A) → inside ≡ views → Some index ≡ name_index inside name
    → Some v ≡ lookup (bytes_eq name) inside → IfSome (slice_get (all_seen views) index) (λ v. v.1.stale ≡ true) → IsSomeAnd (lookup (bytes_eq name) (all_seen views)) (λ v. v.stale ≡ true)
stale-named name inside views index v same at found stale =
    let is = placed-stale name views index (ap (λ l. name_index l name) (sym same) ∙ sym at) stale in
    let some = ap (option_map seen) (found ∙ ap (lookup (bytes_eq name)) same) ∙ sym (seen-lookup name views) in
    subst (λ o. IfSome o (λ v. v.stale ≡ true) → IsSomeAnd o (λ v. v.stale ≡ true)) some (λ is. is) is

-- ---- the view at an index of a map is written

module _ {A : Type 0} (old : List (List ℕ × OpenView A)) (es : List (List ℕ × OpenView A)) (same : es ≡ old) (index : ℕ) (v : OpenView A) (found : slice_get (values_of es) index ≡ Some v) where
  written-in : (w : OpenView A) → Written old (set_value_at es index w) index v w
  written-in w = subst (λ (l : List (List ℕ × OpenView A)). Written l (set_value_at es index w) index v w) same (written-at es index v w found)

  -- the view at the index, as contracts see it
  pub seen-at-index : (n : List ℕ) × (slice_get (all_seen old) index ≡ Some (n, seen v))
  seen-at-index = let at = view-at old es same index v found in (at.0, by old index at.1)
    where
      by : {n : List ℕ} (views : List (List ℕ × OpenView A)) (i : ℕ) → slice_get views i ≡ Some (n, v) → slice_get (all_seen views) i ≡ Some (n, seen v)
      by [] i is = absurd (cc (is))
      by {n} (x ∷ views) zero is = let eq : x ≡ (n, v) = cc (is) in ap (λ (u : List ℕ × OpenView A). Some (u.0, seen u.1)) eq
      by (x ∷ views) (suc i) is = by views i is

  -- it is current already
  pub current-there : v.stale ≡ false → all_seen old ≡ current_at index (all_seen old)
  current-there fresh = current-same index (all_seen old) (seen-at-index.0, seen v) seen-at-index.1 fresh

  pub stale-there : v.stale ≡ true → IfSome (slice_get (all_seen old) index) (λ u. u.1.stale ≡ true)
  stale-there stale = subst (λ (o : Option (List ℕ × Shown)). IfSome o (λ u. u.1.stale ≡ true)) (sym seen-at-index.1) stale

  -- it is rebuilt
  module _ (w : OpenView A) (state : Option (KeptState A)) (is : w ≡ renewed v.view state) where
    pub renewed-in : (names : List (List ℕ)) (records : List RecordValue) → v.stale ≡ true → IsMissing (all_owned old) v.view names records state → AreRight old names records → AreRight (set_value_at es index w) names records
    renewed-in names records stale missing right =
        subst (λ (x : OpenView A). AreRight (set_value_at es index x) names records) (sym is)
        (renewed-right names records old (set_value_at es index (renewed v.view state)) index v state (written-in (renewed v.view state)) stale missing right)

    pub renewed-seen : all_seen (set_value_at es index w) ≡ current_at index (all_seen old)
    renewed-seen = written-current old (set_value_at es index w) index v w (written-in w) (ap (λ (x : OpenView A). x.view) is) (ap (λ (x : OpenView A). x.stale) is)

  -- it takes a state over
  module _ (w : OpenView A) (k : KeptState A) (is : w ≡ with_state v k) where
    pub handed-in : (what : StateKey) (closed : View) (names : List (List ℕ)) (records : List RecordValue) → state_key_of closed ≡ Some what
        → IfSome (slice_get old index) (λ u. (u.1.stale ≡ false) × (state_key_of u.1.view ≡ Some what)) → AreOwnRight old names records → HaveStates (state_key_of closed ∷ all_owned old) (all_seen old)
        → (state_key_of closed ≡ Some (built_for k)) × IsRight k names records → AreRight (set_value_at es index w) names records
    handed-in what closed names records kept needs right have state =
        let here = subst (λ (o : Option (List ℕ × OpenView A)). IfSome o (λ u. (u.1.stale ≡ false) × (state_key_of u.1.view ≡ Some what))) (view-at old es same index v found).1 needs in
        subst (λ (x : OpenView A). AreRight (set_value_at es index x) names records) (sym is)
        (handed-right names records old (set_value_at es index (with_state v k)) index v k what closed (written-in (with_state v k)) here.0 here.1 kept right have state)

    pub handed-seen : all_seen (set_value_at es index w) ≡ all_seen old
    handed-seen =
        let u = written-in w in
        let shown : seen w ≡ seen v = ap (λ (x : OpenView A). seen x) is in
        ap all_seen u.new_is ∙ seen-append u.front ((u.name, w) ∷ u.more) ∙ ap (λ (s : Shown). all_seen u.front ++ (u.name, s) ∷ all_seen u.more) shown
        ∙ sym (seen-append u.front ((u.name, v) ∷ u.more)) ∙ sym (ap all_seen u.old_is)
