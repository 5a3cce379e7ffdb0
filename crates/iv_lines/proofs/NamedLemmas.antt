-- What the entries of a map say of the named things that they are seen as.
pub use Rattle.indexmap.specs.Layout.{set_value_at, length-set_value_at}
use Rattle.std.proofs.Common.{◌≡◌, ℕ, zero, suc, ◌+◌, Bool, true, false, cond, not, nat_lt, List, [], ◌∷◌, Option, None, Some, length, map, position, slice_get, refl, sym, ◌∙◌, ap, append-nil, append_assoc}
use Rattle.std.proofs.Common.{◌++◌, ◌<◌, arith, get_or, is_some, true≢false}
use Rattle.std.proofs.lemmas.List.{length-map, map-append}
use Rattle.indexmap.specs.IndexMap.{IndexMap, insert_all, insert_entry}
use Rattle.indexmap.proofs.CallerLemmas.{insert_entry-new}
use Rattle.indexmap.proofs.MapLemmas.{insert_entry-absent, some_index}
use Rattle.std.proofs.lemmas.Option.{slice_get-map, slice_get-get_or, slice_get_within, get_or_from_slice_get, same_Some}
use Rattle.std.proofs.lemmas.Bool.{false_from_ne_true, both_ways, cond-true, lt-ltb}
use Rattle.std.proofs.lemmas.Slice.Eq.{bytes_eq-Decides}
use Rattle.std.proofs.lemmas.List.Sums.{position_or_len_is}
use Rattle.std.proofs.lemmas.Map.Keys.{IsDistinct-head, IsDistinct-tail, apart_from_distinct}
use Rattle.std.specs.List.{AllByRecursion, prefix_len, position_or_len, IsDistinct}
use Rattle.std.specs.Map.{keys_of, values_of, lookup, remove_entry}
use Rattle.std.specs.Option.{option_map}
use Rattle.std.specs.Str.{bytes_eq}
use Rattle.iv_lines.specs.Named.{AreApart, names_of, name_index}

prefix-along : {X Y : Type 0} (f : X → Y) (p : Y → Bool) (xs : List X) → prefix_len p (map f xs) ≡ prefix_len (λ x. p (f x)) xs
prefix-along f p [] = refl
prefix-along f p (x ∷ xs) = ap (λ n. cond {A = ℕ} (p (f x)) (1 + n) 0) (prefix-along f p xs)

position-along : {X Y : Type 0} (f : X → Y) (p : Y → Bool) (xs : List X) → position p (map f xs) ≡ position (λ x. p (f x)) xs
position-along f p xs =
    ap (λ n. cond (nat_lt n (length (map f xs))) (Some n) None) (prefix-along f (λ y. not (p y)) xs)
    ∙ ap (λ n. cond (nat_lt (prefix_len (λ x. not (p (f x))) xs) n) (Some (prefix_len (λ x. not (p (f x))) xs)) None) (length-map xs f)

-- ---- a name by its index, and what is under it

none_is : {X : Type 0} (o : Option X) → is_some o ≡ false → o ≡ None
none_is None h = refl
none_is (Some x) h = absurd (true≢false h)

module _ {V : Type 0} (named : List (List ℕ × V)) (name : List ℕ) where
  -- a name has an index if something is under it
  pub there-is : is_some (name_index named name) ≡ is_some (lookup (bytes_eq name) named)
  there-is = some_index (bytes_eq name) named

  pub unnamed : name_index named name ≡ None → lookup (bytes_eq name) named ≡ None
  unnamed none = none_is (lookup (bytes_eq name) named) (sym there-is ∙ ap is_some none)

  pub unplaced : lookup (bytes_eq name) named ≡ None → name_index named name ≡ None
  unplaced none = none_is (name_index named name) (there-is ∙ ap is_some none)

-- the value of an entry
pub value-of : {K V : Type 0} (es : List (K × V)) (i : ℕ) (k : K) (v : V) → slice_get es i ≡ Some (k, v) → slice_get (values_of es) i ≡ Some v
value-of {K} {V} es i k v at = slice_get-map (λ (e : K × V). e.1) es i ∙ ap (option_map {T = K × V} (λ e. e.1)) at

module _ {K V : Type 0} (items : K → List ℕ) where
  -- the entries, each by the name that is its key's
  abbrev pub named_by : List (K × V) → List (List ℕ × V)
  named_by es = map {B = List ℕ × V} (λ e. (items e.0, e.1)) es

  names-items : (es : List (K × V)) → names_of (named_by es) ≡ map items (keys_of es)
  names-items [] = refl
  names-items (e ∷ es) = ap (λ (l : List (List ℕ)). items e.0 ∷ l) (names-items es)

  -- the index of a key is the index of its name
  pub index-is : (name : List ℕ) (es : List (K × V)) → position (λ k. bytes_eq name (items k)) (keys_of es) ≡ name_index (named_by es) name
  index-is name es = sym (ap (position (bytes_eq name)) (names-items es) ∙ position-along items (bytes_eq name) (keys_of es))

  -- the entry at an index
  pub at-is : (es : List (K × V)) (i : ℕ) (k : K) (v : V) → Some (k, v) ≡ slice_get es i → Some (items k, v) ≡ slice_get (named_by es) i
  at-is es i k v at = ap (option_map {U = List ℕ × V} (λ e. (items e.0, e.1))) at ∙ sym (slice_get-map (λ e. (items e.0, e.1)) es i)

  -- the values are the same
  pub value-at : (es : List (K × V)) (named : List (List ℕ × V)) → named_by es ≡ named → (i : ℕ) (v : V) → slice_get (values_of es) i ≡ Some v → slice_get (values_of named) i ≡ Some v
  value-at es named same i v at = ap (λ (s : List (List ℕ × V)). slice_get (values_of s) i) (sym same) ∙ ap (λ (l : List V). slice_get l i) (by es) ∙ at
    where
      by : (es : List (K × V)) → values_of (named_by es) ≡ values_of es
      by [] = refl
      by (e ∷ es) = ap (λ (l : List V). e.1 ∷ l) (by es)

  -- a value that is written under a key is written under its name
  pub set-is : (es : List (K × V)) (i : ℕ) (w : V) → named_by (set_value_at es i w) ≡ set_value_at (named_by es) i w
  set-is [] i w = refl
  set-is (e ∷ es) zero w = refl
  set-is (e ∷ es) (suc i) w = ap (λ (l : List (List ℕ × V)). (items e.0, e.1) ∷ l) (set-is es i w)

  -- what is under a key is what is under its name
  pub lookup-is : (name : List ℕ) (es : List (K × V)) → lookup (λ k. bytes_eq name (items k)) es ≡ lookup (bytes_eq name) (named_by es)
  lookup-is name [] = refl
  lookup-is name (e ∷ es) = ap (λ o. cond (bytes_eq name (items e.0)) (Some e.1) o) (lookup-is name es)

  -- what is left without a key is what is left without its name
  pub remove-is : (name : List ℕ) (es : List (K × V)) → named_by (remove_entry (λ k. bytes_eq name (items k)) es) ≡ remove_entry (bytes_eq name) (named_by es)
  remove-is name [] = refl
  remove-is name (e ∷ es) =
      let head : List ℕ × V = (items e.0, e.1) in
      elim (bytes_eq name (items e.0)) as (λ b. named_by (cond b es (e ∷ remove_entry (λ k. bytes_eq name (items k)) es)) ≡ cond b (named_by es) (head ∷ remove_entry (bytes_eq name) (named_by es))) [
        | true ↦ refl
        | false ↦ ap (λ (l : List (List ℕ × V)). head ∷ l) (remove-is name es)
      ]

  -- a name that has no index is put last
  pub push-is : {S : Type 0} (eq : K → K → Bool) (m : IndexMap K V S) (k : K) (v : V) (name : List ℕ)
      → ((x : K) → eq k x ≡ bytes_eq name (items x)) → items k ≡ name → name_index (named_by m.entries) name ≡ None
      → named_by (insert_entry eq m.entries k v) ≡ named_by m.entries ++ (name, v) ∷ []
  push-is eq m k v name same is fresh =
      let none : lookup (eq k) m.entries ≡ None = (λ j. lookup (λ x. same x j) m.entries) ∙ lookup-is name m.entries ∙ unnamed (named_by m.entries) name fresh in
      ap named_by (insert_entry-new eq m k v none)
      ∙ map-append (λ e. (items e.0, e.1)) m.entries ((k, v) ∷ [])
      ∙ ap (λ t. named_by m.entries ++ (t, v) ∷ []) is

-- ---- no name occurs twice

apart : (a b : List ℕ) → bytes_eq a b ≡ false → bytes_eq b a ≡ false
apart a b differ = false_from_ne_true (bytes_eq b a) (λ same. both_ways (bytes_eq a b) differ ((bytes_eq-Decides a b).1 (sym ((bytes_eq-Decides b a).0 same))))

position-is : (xs : List (List ℕ)) (i : ℕ) (name : List ℕ) → slice_get xs i ≡ Some name → ((k : ℕ) → k < i → bytes_eq name (get_or xs k []) ≡ false) → position (bytes_eq name) xs ≡ Some i
position-is xs i name at before =
    let within : i < length xs = slice_get_within xs i name at in
    let first : position_or_len (bytes_eq name) xs ≡ i =
    position_or_len_is (bytes_eq name) xs i [] (omega arith) before (λ _. ap (bytes_eq name) (get_or_from_slice_get xs i name [] at) ∙ (bytes_eq-Decides name name).1 refl) in
    ap (λ n. cond (nat_lt n (length xs)) (Some n) None) first ∙ cond-true _ _ _ (lt-ltb i (length xs) within)

ranked-key : {K : Type 0} (items : K → List ℕ) (ks : List K) → IsDistinct (λ a b. bytes_eq (items a) (items b)) ks → (i : ℕ) (name : List ℕ) (o : Option K) → slice_get ks i ≡ o → option_map items o ≡ Some name
    → position (bytes_eq name) (map items ks) ≡ Some i
ranked-key items ks distinct i name None at is = cc
ranked-key {K} items ks distinct i name (Some x) at is =
    let named : items x ≡ name = same_Some (items x) name is in
    let within : i < length ks = slice_get_within ks i x at in
    position-is (map items ks) i name (slice_get-map items ks i ∙ ap (option_map items) at ∙ is)
    (λ k below.
    let key : get_or (map items ks) k [] ≡ items (get_or ks k x) = get_or_from_slice_get (map items ks) k (items (get_or ks k x)) []
    (slice_get-map items ks k ∙ ap (option_map items) (slice_get-get_or ks k x (omega arith))) in
    let differ : bytes_eq (items (get_or ks k x)) (items (get_or ks i x)) ≡ false = apart_from_distinct (λ a b. bytes_eq (items a) (items b)) ks k i x distinct below within in
    ap (bytes_eq name) key
    ∙ apart (items (get_or ks k x)) name (ap (bytes_eq (items (get_or ks k x))) (sym (ap items (get_or_from_slice_get ks i x x at) ∙ named)) ∙ differ))

-- the index of the name at an index is that index
pub ranked-is : {K V : Type 0} (items : K → List ℕ) (es : List (K × V)) → IsDistinct (λ a b. bytes_eq (items a) (items b)) (keys_of es) → AreApart (named_by items es)
ranked-is {K} {V} items es distinct i name at =
    let named : slice_get (map items (keys_of es)) i ≡ Some name =
    ap (λ (l : List (List ℕ)). slice_get l i) (sym (names-items items es)) ∙ slice_get-map (λ (s : List ℕ × V). s.0) (named_by items es) i ∙ at in
    ap (position (bytes_eq name)) (names-items items es) ∙ ranked-key items (keys_of es) distinct i name (slice_get (keys_of es) i) refl (sym (slice_get-map items (keys_of es) i) ∙ named)

-- ---- entries that are put one after another into a map without one

abbrev same_by : {K : Type 0} → (K → List ℕ) → K → K → Bool
same_by items a b = bytes_eq (items a) (items b)

module _ {K V : Type 0} (items : K → List ℕ) where
  -- no entry has this key
  abbrev Lacks : List (K × V) → K → Type 0
  Lacks done k = AllByRecursion (λ d. same_by items k d ≡ false) (keys_of done)

  -- nor has one more of another key
  lacks-more : (done : List (K × V)) (x : K × V) (k : K) → Lacks done k → same_by items k x.0 ≡ false → Lacks (done ++ x ∷ []) k
  lacks-more [] x k lacks other = (other, lacks)
  lacks-more (d ∷ done) x k lacks other = (lacks.0, lacks-more done x k lacks.1 other)

  -- the entries have none of these keys
  abbrev LacksAll : List (K × V) → List (K × V) → Type 0
  LacksAll done xs = AllByRecursion (λ x. Lacks done x) (keys_of xs)

  lacks-all-none : (xs : List (K × V)) → LacksAll [] xs
  lacks-all-none [] = tt
  lacks-all-none (x ∷ xs) = (tt, lacks-all-none xs)

  lacks-all-more : (done : List (K × V)) (x : K × V) (xs : List (K × V)) → LacksAll done xs → AllByRecursion (λ y. same_by items x.0 y ≡ false) (keys_of xs) → LacksAll (done ++ x ∷ []) xs
  lacks-all-more done x [] lacks others = tt
  lacks-all-more done x (y ∷ ys) lacks others =
      (lacks-more done x y.0 lacks.0 (apart (items x.0) (items y.0) others.0), lacks-all-more done x ys lacks.1 others.1)

  put-after : (done xs : List (K × V)) → LacksAll done xs → IsDistinct (same_by items) (keys_of xs) → insert_all (same_by items) done xs ≡ done ++ xs
  put-after done [] lacks distinct = sym (append-nil done)
  put-after done (x ∷ xs) lacks distinct =
      ap (λ (l : List (K × V)). insert_all (same_by items) l xs) (insert_entry-absent (same_by items) x.0 x.1 done lacks.0)
      ∙ put-after (done ++ x ∷ []) xs (lacks-all-more done x xs lacks.1 (IsDistinct-head (same_by items) x.0 (keys_of xs) distinct)) (IsDistinct-tail (same_by items) x.0 (keys_of xs) distinct)
      ∙ append_assoc done (x ∷ []) xs

  -- entries of distinct names are all put, in their order
  pub put-all : (none xs : List (K × V)) → none ≡ [] → IsDistinct (λ a b. bytes_eq (items a) (items b)) (keys_of xs) → insert_all (λ a b. bytes_eq (items a) (items b)) none xs ≡ xs
  put-all none xs empty distinct = ap (λ (l : List (K × V)). insert_all (same_by items) l xs) empty ∙ put-after [] xs (lacks-all-none xs) distinct
