-- What searches of entries in order find, key by key.
use Rattle.std.proofs.Common.{◌≡◌, inl, inr, Bool, true, false, cond, List, [], ◌∷◌, Option, Some, None, MatchOption, Ordering, Less, Equal, Greater, refl, sym, ap, ◌∙◌, subst}
use Rattle.std.specs.Prelude.{find, reverse}
use Rattle.std.specs.Option.{option_or}
use Rattle.std.specs.Ordering.{is_le, is_ge, is_eq, ordering_reverse}
use Rattle.std.specs.Map.{keys_of, remove_entry}
use Rattle.std.specs.BTreeMap.{is_at}
use Rattle.std.specs.Cmp.{IsTotalOrder, eq_by_cmp_equiv}
use Rattle.std.specs.List.{AllByRecursion}
use Rattle.std.proofs.lemmas.Bool.{false≢true}
use Rattle.std.proofs.lemmas.Cmp.{tied_itself, alike_right}
use Rattle.std.proofs.lemmas.List.{reverse-append}
use Rattle.std.proofs.lemmas.List.Folds.{find-append}
use Rattle.std.proofs.lemmas.Map.{lookup-none, lookup-remove_entry}
use Rattle.std.proofs.lemmas.Map.Entries.{none_below_head, lookup_head, lookup_tail}
use Rattle.std.proofs.lemmas.Map.Keys.{sorted_head, sorted_tail, IsDistinct-from_sorted}
use Rattle.iv_ledger.specs.Entries.{IsLedger, value_at, first_from, last_until}
use Rattle.iv_lines.proofs.ListLemmas.{Mem}

module _ {K : Type 0} (cmp : K → K → Ordering) (total : IsTotalOrder cmp) where
  not_equal_back : (q x : K) → cmp x q ≡ Less → is_at (cmp q) x ≡ false
  not_equal_back q x e = ap is_eq (total.antisymm q x ∙ ap ordering_reverse e)

  -- keys differ if a test of how k compares with them differs
  apart : (test : Ordering → Bool) (k q x : K) → test (cmp k q) ≡ true → test (cmp k x) ≡ false → is_at (cmp q) x ≡ false
  apart test k q x yes_q no_x = go (cmp q x) refl
    where
      go : (o : Ordering) → cmp q x ≡ o → is_at (cmp q) x ≡ false
      go Less e = ap is_eq e
      go Equal e = absurd (false≢true (sym no_x ∙ ap test (sym (alike_right total q x k e)) ∙ yes_q))
      go Greater e = ap is_eq e

module _ {K V : Type 0} (cmp : K → K → Ordering) (total : IsTotalOrder cmp) where
  less-mem : (k : K) (es : List (K × V)) → AllByRecursion (λ y. cmp k y ≡ Less) (keys_of es) → (e : K × V) → Mem e es → cmp k e.0 ≡ Less
  less-mem k [] all e m = absurd m
  less-mem k (f ∷ es) all e (inl at) = ap (λ (g : K × V). cmp k g.0) (sym at) ∙ all.0
  less-mem k (f ∷ es) all e (inr m) = less-mem k es all.1 e m

  -- e is the first entry from k on
  pub record IsFirst (es : List (K × V)) (k : K) (e : K × V) : Type 0 where
    pub within : is_le (cmp k e.0) ≡ true
    pub is : value_at cmp es e.0 ≡ Some e.1
    pub member : Mem e es
    pub none : (q : K) → is_le (cmp k q) ≡ true → cmp q e.0 ≡ Less → value_at cmp es q ≡ None

  -- e is the last entry up to k
  pub record IsLast (es : List (K × V)) (k : K) (e : K × V) : Type 0 where
    pub within : is_ge (cmp k e.0) ≡ true
    pub is : value_at cmp es e.0 ≡ Some e.1
    pub member : Mem e es
    pub none : (q : K) → is_ge (cmp k q) ≡ true → cmp e.0 q ≡ Less → value_at cmp es q ≡ None

  pub first-found : (es : List (K × V)) (k : K) → IsLedger cmp es
      → MatchOption (first_from cmp es k) ((q : K) → is_le (cmp k q) ≡ true → value_at cmp es q ≡ None) (λ e. IsFirst es k e)
  first-found [] k sorted = λ q within. refl
  first-found (e ∷ es) k sorted = go (is_le (cmp k e.0)) refl (first_from cmp es k) (first-found es k (sorted_tail cmp e.0 (keys_of es) sorted))
    where
      go : (b : Bool) → is_le (cmp k e.0) ≡ b → (o : Option (K × V)) → MatchOption o ((q : K) → is_le (cmp k q) ≡ true → value_at cmp es q ≡ None) (λ f. IsFirst es k f)
          → MatchOption (cond b (Some e) o) ((q : K) → is_le (cmp k q) ≡ true → value_at cmp (e ∷ es) q ≡ None) (λ f. IsFirst (e ∷ es) k f)
      go true is o rest = record {
        within = is;
        is = lookup_head (is_at (cmp e.0)) e es (ap is_eq (tied_itself total e.0));
        member = inl refl;
        none = λ q within less. lookup-none (is_at (cmp q)) (e ∷ es) (none_below_head total q e es sorted less);
      }
      go false is None rest = λ q within. lookup_tail (is_at (cmp q)) e es (apart cmp total is_le k q e.0 within is) ∙ rest q within
      go false is (Some f) rest = record {
        within = rest.within;
        is = lookup_tail (is_at (cmp f.0)) e es (apart cmp total is_le k f.0 e.0 rest.within is) ∙ rest.is;
        member = inr rest.member;
        none = λ q within less. lookup_tail (is_at (cmp q)) e es (apart cmp total is_le k q e.0 within is) ∙ rest.none q within less;
      }

  last-cons : (e : K × V) (es : List (K × V)) (k : K) → last_until cmp (e ∷ es) k ≡ option_or (last_until cmp es k) (cond (is_ge (cmp k e.0)) (Some e) None)
  last-cons e es k = ap (find (λ f. is_ge (cmp k f.0))) (reverse-append (e ∷ []) es) ∙ find-append (λ f. is_ge (cmp k f.0)) (reverse es) (e ∷ [])

  pub last-found : (es : List (K × V)) (k : K) → IsLedger cmp es
      → MatchOption (last_until cmp es k) ((q : K) → is_ge (cmp k q) ≡ true → value_at cmp es q ≡ None) (λ e. IsLast es k e)
  last-found [] k sorted = λ q within. refl
  last-found (e ∷ es) k sorted =
      subst (λ o. MatchOption o ((q : K) → is_ge (cmp k q) ≡ true → value_at cmp (e ∷ es) q ≡ None) (λ f. IsLast (e ∷ es) k f)) (sym (last-cons e es k))
      (go (is_ge (cmp k e.0)) refl (last_until cmp es k) (last-found es k (sorted_tail cmp e.0 (keys_of es) sorted)))
    where
      later : (f : K × V) → Mem f es → cmp e.0 f.0 ≡ Less
      later f m = less-mem e.0 es (sorted_head cmp e.0 (keys_of es) sorted) f m

      go : (b : Bool) → is_ge (cmp k e.0) ≡ b → (o : Option (K × V)) → MatchOption o ((q : K) → is_ge (cmp k q) ≡ true → value_at cmp es q ≡ None) (λ f. IsLast es k f)
          → MatchOption (option_or o (cond b (Some e) None)) ((q : K) → is_ge (cmp k q) ≡ true → value_at cmp (e ∷ es) q ≡ None) (λ f. IsLast (e ∷ es) k f)
      go true is None rest = record {
        within = is;
        is = lookup_head (is_at (cmp e.0)) e es (ap is_eq (tied_itself total e.0));
        member = inl refl;
        none = λ q within more. lookup_tail (is_at (cmp q)) e es (not_equal_back cmp total q e.0 more) ∙ rest q within;
      }
      go false is None rest = λ q within. lookup_tail (is_at (cmp q)) e es (apart cmp total is_ge k q e.0 within is) ∙ rest q within
      go b is (Some f) rest = record {
        within = rest.within;
        is = lookup_tail (is_at (cmp f.0)) e es (not_equal_back cmp total f.0 e.0 (later f rest.member)) ∙ rest.is;
        member = inr rest.member;
        none = λ q within more. lookup_tail (is_at (cmp q)) e es (not_equal_back cmp total q e.0 (total.trans e.0 f.0 q (later f rest.member) more)) ∙ rest.none q within more;
      }

  -- an entry taken out is at no key, and each other stays
  pub value_at-remove_entry : (es : List (K × V)) (k q : K) → IsLedger cmp es → value_at cmp (remove_entry (is_at (cmp k)) es) q ≡ cond (is_at (cmp k) q) None (value_at cmp es q)
  value_at-remove_entry es k q sorted =
      lookup-remove_entry (eq_by_cmp_equiv total) (is_at (cmp k)) (λ x y tied. ap is_eq (total.congr k x y (equal (cmp k x) tied))) q es (IsDistinct-from_sorted cmp (keys_of es) sorted)
    where
      equal : (o : Ordering) → is_eq o ≡ true → o ≡ Equal
      equal Less e = absurd (false≢true e)
      equal Equal e = refl
      equal Greater e = absurd (false≢true e)
