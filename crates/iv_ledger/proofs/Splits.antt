-- A list of entries in order, split at a key.
use Rattle.std.proofs.Common.{◌≡◌, Bool, true, false, List, [], ◌∷◌, ◌++◌, Some, None, refl, ap, ◌∙◌}
use Rattle.std.specs.Prelude.{find, filter, reverse, All}
use Rattle.std.specs.List.{slice_get, AllByRecursion}
use Rattle.std.specs.List.Sorted.{IsStrictlySortedBy}
use Rattle.std.specs.Map.{keys_of, lookup, remove_entry, set_value}
use Rattle.std.specs.BTreeMap.{is_at, insert_entry}
use Rattle.std.specs.Cmp.{IsTotalOrder}
use Rattle.std.specs.Ordering.{ordering_reverse}
use Rattle.std.specs.declared.cmp.Ordering.{Ordering}
use Rattle.std.specs.declared.cmp.Ordering.TheVariants.{Less, Equal, Greater}
use Rattle.std.proofs.lemmas.List.{reverse-append}
use Rattle.std.proofs.lemmas.List.Elements.{filter-append, All-from_recursion, recursion_from_All, All-head, All-tail}
use Rattle.std.proofs.lemmas.Map.Keys.{sorted_head, sorted_tail}
use Rattle.iv_ledger.specs.Entries.{IsLedger, value_at}
use Rattle.iv_ledger.proofs.Nearest.{find-filter, filter-reverse}

module _ {X : Type 0} (p : X → Bool) where
  filter_all : (xs : List X) → AllByRecursion (λ x. p x ≡ true) xs → filter p xs ≡ xs
  filter_all [] h = refl
  filter_all (x ∷ xs) h = rw h.0 (ap (λ ys. x ∷ ys) (filter_all xs h.1))

  filter_none : (xs : List X) → AllByRecursion (λ x. p x ≡ false) xs → filter p xs ≡ []
  filter_none [] h = refl
  filter_none (x ∷ xs) h = rw h.0 (filter_none xs h.1)

  -- what passes, if all after an index pass and none before it
  pub filter_from : (front back : List X) → All (λ x. p x ≡ false) front → All (λ x. p x ≡ true) back → filter p (front ++ back) ≡ back
  filter_from front back h g =
      filter-append p front back
      ∙ ap (λ xs. xs ++ filter p back) (filter_none front (recursion_from_All (λ x. p x ≡ false) front h))
      ∙ filter_all back (recursion_from_All (λ x. p x ≡ true) back g)

  -- the last that passes, if none after it does
  pub find_last : (front : List X) (x : X) (back : List X) → p x ≡ true → All (λ y. p y ≡ false) back → find p (reverse (front ++ x ∷ back)) ≡ Some x
  find_last front x back here h =
      let none = filter_none back (recursion_from_All (λ y. p y ≡ false) back h) in
      let passes : filter p (x ∷ back) ≡ x ∷ [] = rw here (ap (λ ys. x ∷ ys) none) in
      find-filter p (reverse (front ++ x ∷ back))
      ∙ ap (λ xs. slice_get xs 0) (
      filter-reverse p (front ++ x ∷ back)
      ∙ ap reverse (filter-append p front (x ∷ back) ∙ ap (λ ys. filter p front ++ ys) passes)
      ∙ reverse-append (filter p front) (x ∷ [])
      )

  pub find_no_last : (xs : List X) → All (λ y. p y ≡ false) xs → find p (reverse xs) ≡ None
  find_no_last xs h =
      find-filter p (reverse xs)
      ∙ ap (λ ys. slice_get ys 0) (filter-reverse p xs ∙ ap reverse (filter_none xs (recursion_from_All (λ y. p y ≡ false) xs h)))

module _ {K V : Type 0} (cmp : K → K → Ordering) (k : K) where
  -- the key of an entry is below k, or above it
  abbrev pub IsBelow : K × V → Type 0
  IsBelow e = cmp k e.0 ≡ Greater

  abbrev pub IsAbove : K × V → Type 0
  IsAbove e = cmp k e.0 ≡ Less

  below_tail : (e : K × V) (es : List (K × V)) → All IsBelow (e ∷ es) → All IsBelow es
  below_tail e es h = All-tail IsBelow e es h

  -- ---- a search goes past smaller keys
  pub lookup_past : (front back : List (K × V)) → All IsBelow front → lookup (is_at (cmp k)) (front ++ back) ≡ lookup (is_at (cmp k)) back
  lookup_past [] back h = refl
  lookup_past (e ∷ front) back h = let g : cmp k e.0 ≡ Greater = All-head IsBelow e front h in rw g (lookup_past front back (below_tail e front h))

  pub set_value_past : (front back : List (K × V)) (w : V) → All IsBelow front → set_value (is_at (cmp k)) (front ++ back) w ≡ front ++ set_value (is_at (cmp k)) back w
  set_value_past [] back w h = refl
  set_value_past (e ∷ front) back w h = let g : cmp k e.0 ≡ Greater = All-head IsBelow e front h in rw g (ap (λ es. e ∷ es) (set_value_past front back w (below_tail e front h)))

  pub remove_past : (front back : List (K × V)) → All IsBelow front → remove_entry (is_at (cmp k)) (front ++ back) ≡ front ++ remove_entry (is_at (cmp k)) back
  remove_past [] back h = refl
  remove_past (e ∷ front) back h = let g : cmp k e.0 ≡ Greater = All-head IsBelow e front h in rw g (ap (λ es. e ∷ es) (remove_past front back (below_tail e front h)))

  pub insert_past : (front back : List (K × V)) (v : V) → All IsBelow front → insert_entry cmp (front ++ back) k v ≡ front ++ insert_entry cmp back k v
  insert_past [] back v h = refl
  insert_past (e ∷ front) back v h = let g : cmp k e.0 ≡ Greater = All-head IsBelow e front h in rw g (ap (λ es. e ∷ es) (insert_past front back v (below_tail e front h)))

  -- ---- and greater keys are others
  lookup_above : (es : List (K × V)) → All IsAbove es → lookup (is_at (cmp k)) es ≡ None
  lookup_above [] h = refl
  lookup_above (e ∷ es) h = let g : cmp k e.0 ≡ Less = All-head IsAbove e es h in rw g (lookup_above es (All-tail IsAbove e es h))

  remove_above : (es : List (K × V)) → All IsAbove es → remove_entry (is_at (cmp k)) es ≡ es
  remove_above [] h = refl
  remove_above (e ∷ es) h = let g : cmp k e.0 ≡ Less = All-head IsAbove e es h in rw g (ap (λ fs. e ∷ fs) (remove_above es (All-tail IsAbove e es h)))

  insert_above : (es : List (K × V)) (v : V) → All IsAbove es → insert_entry cmp es k v ≡ (k, v) ∷ es
  insert_above [] v h = refl
  insert_above (e ∷ es) v h = let g : cmp k e.0 ≡ Less = All-head IsAbove e es h in rw g refl

  -- ---- an absent key, at its gap
  module _ (front back : List (K × V)) (below : All IsBelow front) (above : All IsAbove back) where
    pub value_absent : value_at cmp (front ++ back) k ≡ None
    value_absent = lookup_past front back below ∙ lookup_above back above

    pub remove_absent : remove_entry (is_at (cmp k)) (front ++ back) ≡ front ++ back
    remove_absent = remove_past front back below ∙ ap (λ es. front ++ es) (remove_above back above)

    pub insert_absent : (v : V) → insert_entry cmp (front ++ back) k v ≡ front ++ (k, v) ∷ back
    insert_absent v = insert_past front back v below ∙ ap (λ es. front ++ es) (insert_above back v above)

  -- ---- a key that is there, at its index
  module _ (front : List (K × V)) (e : K × V) (back : List (K × V)) (below : All IsBelow front) (here : cmp k e.0 ≡ Equal) where
    pub value_present : value_at cmp (front ++ e ∷ back) k ≡ Some e.1
    value_present = lookup_past front (e ∷ back) below ∙ rw here refl

    pub set_present : (w : V) → set_value (is_at (cmp k)) (front ++ e ∷ back) w ≡ front ++ (e.0, w) ∷ back
    set_present w = set_value_past front (e ∷ back) w below ∙ ap (λ es. front ++ es) (rw here refl)

    pub remove_present : remove_entry (is_at (cmp k)) (front ++ e ∷ back) ≡ front ++ back
    remove_present = remove_past front (e ∷ back) below ∙ ap (λ es. front ++ es) (rw here refl)

    pub insert_present : (w : V) → insert_entry cmp (front ++ e ∷ back) k w ≡ front ++ (e.0, w) ∷ back
    insert_present w = insert_past front (e ∷ back) w below ∙ ap (λ es. front ++ es) (rw here refl)

-- ---- what holds of each entry
module _ {K V : Type 0} where
  pub keys_all : (P : K → Type 0) (es : List (K × V)) → AllByRecursion P (keys_of es) → AllByRecursion (λ e. P e.0) es
  keys_all P [] h = tt
  keys_all P (e ∷ es) h = (h.0, keys_all P es h.1)

  pub all_keys : (P : K → Type 0) (es : List (K × V)) → AllByRecursion (λ e. P e.0) es → AllByRecursion P (keys_of es)
  all_keys P [] h = tt
  all_keys P (e ∷ es) h = (h.0, all_keys P es h.1)

  pub all_front : (P : K × V → Type 0) (front back : List (K × V)) → AllByRecursion P (front ++ back) → AllByRecursion P front
  all_front P [] back h = tt
  all_front P (e ∷ front) back h = (h.0, all_front P front back h.1)

  pub all_back : (P : K × V → Type 0) (front back : List (K × V)) → AllByRecursion P (front ++ back) → AllByRecursion P back
  all_back P [] back h = h
  all_back P (e ∷ front) back h = all_back P front back h.1

  pub all_both : (P : K × V → Type 0) (front back : List (K × V)) → AllByRecursion P front → AllByRecursion P back → AllByRecursion P (front ++ back)
  all_both P [] back h g = g
  all_both P (e ∷ front) back h g = (h.0, all_both P front back h.1 g)

  pub weaken : (P Q : K × V → Type 0) → ((e : K × V) → P e → Q e) → (es : List (K × V)) → AllByRecursion P es → AllByRecursion Q es
  weaken P Q w [] h = tt
  weaken P Q w (e ∷ es) h = (w e h.0, weaken P Q w es h.1)

-- ---- the order
pub ledger_nil : (K V : Type 0) (cmp : K → K → Ordering) → IsLedger {V = V} cmp []
unfolding IsStrictlySortedBy
ledger_nil K V cmp = tt

module _ {K V : Type 0} {cmp : K → K → Ordering} (o : IsTotalOrder cmp) where
  -- the keys ascend from the first on
  pub ledger_head : (e : K × V) (es : List (K × V)) → IsLedger cmp (e ∷ es) → AllByRecursion (λ f. cmp e.0 f.0 ≡ Less) es
  ledger_head e es h = keys_all (λ y. cmp e.0 y ≡ Less) es (sorted_head cmp e.0 (keys_of es) h)

  pub ledger_tail : (e : K × V) (es : List (K × V)) → IsLedger cmp (e ∷ es) → IsLedger cmp es
  ledger_tail e es h = sorted_tail cmp e.0 (keys_of es) h

  pub ledger_cons : (e : K × V) (es : List (K × V)) → AllByRecursion (λ f. cmp e.0 f.0 ≡ Less) es → IsLedger cmp es → IsLedger cmp (e ∷ es)
  unfolding IsStrictlySortedBy
  ledger_cons e es h s = (all_keys (λ y. cmp e.0 y ≡ Less) es h, s)

  -- around an entry the keys are smaller and greater
  pub around_below : (front : List (K × V)) (e : K × V) (back : List (K × V)) → IsLedger cmp (front ++ e ∷ back) → AllByRecursion (λ f. cmp f.0 e.0 ≡ Less) front
  around_below [] e back h = tt
  around_below (f ∷ front) e back h =
      ((all_back (λ g. cmp f.0 g.0 ≡ Less) front (e ∷ back) (ledger_head f (front ++ e ∷ back) h)).0, around_below front e back (ledger_tail f (front ++ e ∷ back) h))

  pub around_above : (front : List (K × V)) (e : K × V) (back : List (K × V)) → IsLedger cmp (front ++ e ∷ back) → AllByRecursion (λ f. cmp e.0 f.0 ≡ Less) back
  around_above [] e back h = ledger_head e back h
  around_above (f ∷ front) e back h = around_above front e back (ledger_tail f (front ++ e ∷ back) h)

  -- the key of the entry is k
  module _ (k : K) (front : List (K × V)) (e : K × V) (back : List (K × V)) (here : cmp k e.0 ≡ Equal) (sorted : IsLedger cmp (front ++ e ∷ back)) where
    pub below_present : All (IsBelow cmp k) front
    below_present = All-from_recursion (IsBelow cmp k) front (weaken (λ f. cmp f.0 e.0 ≡ Less) (IsBelow cmp k) (λ f h. o.congr k e.0 f.0 here ∙ o.antisymm e.0 f.0 ∙ ap ordering_reverse h) front (around_below front e back sorted))

    pub above_present : All (IsAbove cmp k) back
    above_present = All-from_recursion (IsAbove cmp k) back (weaken (λ f. cmp e.0 f.0 ≡ Less) (IsAbove cmp k) (λ f h. o.congr k e.0 f.0 here ∙ h) back (around_above front e back sorted))

  -- a new key between smaller and greater ones
  inserted_sorted : (k : K) (v : V) (front back : List (K × V)) → AllByRecursion (IsBelow cmp k) front → AllByRecursion (IsAbove cmp k) back → IsLedger cmp (front ++ back) → IsLedger cmp (front ++ (k, v) ∷ back)
  inserted_sorted k v [] back below above s = ledger_cons (k, v) back above s
  inserted_sorted k v (f ∷ front) back below above s =
      let rest = ledger_head f (front ++ back) s in
      let less : cmp f.0 k ≡ Less = o.antisymm f.0 k ∙ ap ordering_reverse below.0 in
      ledger_cons f (front ++ (k, v) ∷ back) (
      all_both (λ g. cmp f.0 g.0 ≡ Less) front ((k, v) ∷ back) (all_front (λ g. cmp f.0 g.0 ≡ Less) front back rest) (less, all_back (λ g. cmp f.0 g.0 ≡ Less) front back rest)
      ) (inserted_sorted k v front back below.1 above (ledger_tail f (front ++ back) s))

  pub sorted_insert : (k : K) (v : V) (front back : List (K × V)) → All (IsBelow cmp k) front → All (IsAbove cmp k) back → IsLedger cmp (front ++ back) → IsLedger cmp (front ++ (k, v) ∷ back)
  sorted_insert k v front back below above s =
      inserted_sorted k v front back (recursion_from_All (IsBelow cmp k) front below) (recursion_from_All (IsAbove cmp k) back above) s

  -- without an entry
  pub sorted_remove : (front : List (K × V)) (e : K × V) (back : List (K × V)) → IsLedger cmp (front ++ e ∷ back) → IsLedger cmp (front ++ back)
  sorted_remove [] e back s = ledger_tail e back s
  sorted_remove (f ∷ front) e back s =
      let rest = ledger_head f (front ++ e ∷ back) s in
      ledger_cons f (front ++ back) (
      all_both (λ g. cmp f.0 g.0 ≡ Less) front back (all_front (λ g. cmp f.0 g.0 ≡ Less) front (e ∷ back) rest) (all_back (λ g. cmp f.0 g.0 ≡ Less) front (e ∷ back) rest).1
      ) (sorted_remove front e back (ledger_tail f (front ++ e ∷ back) s))

  -- with another value
  pub sorted_set : (front : List (K × V)) (e : K × V) (w : V) (back : List (K × V)) → IsLedger cmp (front ++ e ∷ back) → IsLedger cmp (front ++ (e.0, w) ∷ back)
  sorted_set [] e w back s = ledger_cons (e.0, w) back (ledger_head e back s) (ledger_tail e back s)
  sorted_set (f ∷ front) e w back s =
      let rest = ledger_head f (front ++ e ∷ back) s in
      let others = all_back (λ g. cmp f.0 g.0 ≡ Less) front (e ∷ back) rest in
      ledger_cons f (front ++ (e.0, w) ∷ back) (
      all_both (λ g. cmp f.0 g.0 ≡ Less) front ((e.0, w) ∷ back) (all_front (λ g. cmp f.0 g.0 ≡ Less) front (e ∷ back) rest) (others.0, others.1)
      ) (sorted_set front e w back (ledger_tail f (front ++ e ∷ back) s))
