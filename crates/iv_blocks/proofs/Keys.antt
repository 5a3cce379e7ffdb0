-- Keys of blocks, and what is at a key after an insertion.
use Rattle.std.proofs.Common.{◌≡◌, ◌⊎◌, inl, inr, ℕ, ◌==◌, Bool, true, false, cond, if◌then◌else◌, List, [], ◌∷◌, Option, Some, Ordering, Less, Equal, Greater, nat_cmp, refl, sym, ap, subst, ◌∙◌, eq-eqb, ne_eqb}
use Rattle.std.specs.Ordering.{bool_cmp, is_eq}
use Rattle.std.specs.Cmp.{IsTotalOrder, then_total, on_total, nat_cmp_total, bool_cmp_total, tied_itself, Equal-is}
use Rattle.std.specs.BTreeMap.{insert_entry}
use Rattle.std.proofs.lemmas.Bool.{cond-true, cond-false, cases_eq, false_from_ne_true}
use Rattle.std.proofs.lemmas.Map.Lookups.{CmpEqualImpliesEq, exact_pairs, exact_unsigned}
use Rattle.iv_ledger.specs.Entries.{value_at}
use Rattle.iv_blocks.specs.Inside.Groups.{is_minus}
use Rattle.iv_blocks.specs.KeptBlocks.{Key, key_cmp, Kept, Entries}
use Rattle.iv_blocks.specs.Inside.Insertion.{key_of, IsOfOther}
use Rattle.iv_blocks.specs.declared.group.Group.{Group}

-- the order of keys is a total order
pub keys_total : IsTotalOrder key_cmp
keys_total =
    then_total (then_total (on_total (λ (k : Key). k.0) nat_cmp_total) (on_total (λ (k : Key). k.1) bool_cmp_total))
    (on_total (λ (k : Key). k.2) nat_cmp_total)

exact_bools : CmpEqualImpliesEq bool_cmp
exact_bools false false h = refl
exact_bools false true h = cc
exact_bools true false h = cc
exact_bools true true h = refl

-- keys that compare alike are one
pub keys_exact : CmpEqualImpliesEq key_cmp
keys_exact a b h =
    ap {B = Key} (λ (p : (ℕ × Bool) × ℕ). (p.0.0, p.0.1, p.1))
    (exact_pairs _ nat_cmp (exact_pairs nat_cmp bool_cmp exact_unsigned exact_bools) exact_unsigned ((a.0, a.1), a.2) ((b.0, b.1), b.2) h)

module _ {K V : Type 0} (cmp : K → K → Ordering) where
  -- at the key is the new value
  pub put-here : IsTotalOrder cmp → (es : List (K × V)) (k : K) (v : V) → value_at cmp (insert_entry cmp es k v) k ≡ Some v
  put-here o [] k v = let tied : cmp k k ≡ Equal = tied_itself o k in rw tied refl
  put-here o (e ∷ es) k v = go (put-here o es k v) (cmp k e.0) refl
    where
      go : value_at cmp (insert_entry cmp es k v) k ≡ Some v → (r : Ordering) → cmp k e.0 ≡ r → value_at cmp (insert_entry cmp (e ∷ es) k v) k ≡ Some v
      go rest Less is = let tied : cmp k k ≡ Equal = tied_itself o k in rw (is, tied) refl
      go rest Equal is = rw (is, is) refl
      go rest Greater is = rw (is, is) rest

  -- and at each other key what was there
  pub put-other : CmpEqualImpliesEq cmp → (es : List (K × V)) (k j : K) (v : V) → is_eq (cmp j k) ≡ false → value_at cmp (insert_entry cmp es k v) j ≡ value_at cmp es j
  put-other exact [] k j v off = rw off refl
  put-other exact (e ∷ es) k j v off = go (put-other exact es k j v off) (cmp k e.0) refl
    where
      go : value_at cmp (insert_entry cmp es k v) j ≡ value_at cmp es j → (r : Ordering) → cmp k e.0 ≡ r → value_at cmp (insert_entry cmp (e ∷ es) k v) j ≡ value_at cmp (e ∷ es) j
      go rest Less is = rw (is, off) refl
      go rest Equal is =
          let there : is_eq (cmp j e.0) ≡ false = subst (λ (q : K). is_eq (cmp j q) ≡ false) (exact k e.0 is) off in
          rw (is, there) refl
      go rest Greater is = rw is (ap (λ (o : Option V). cond (is_eq (cmp j e.0)) (Some e.1) o) rest)

-- two starts of a group's blocks are two keys
key-apart : (g : Group) (x y : ℕ) → (x ≡ y → ⊥) → is_eq (key_cmp (key_of g x) (key_of g y)) ≡ false
key-apart g x y ne =
    false_from_ne_true _ (λ e. ne (ap (λ (k : Key). k.2) (keys_exact (key_of g x) (key_of g y) ((Equal-is (key_cmp (key_of g x) (key_of g y))).0 e))))

key-of_other : (g : Group) (k : Key) (x : ℕ) → IsOfOther g k → is_eq (key_cmp k (key_of g x)) ≡ false
key-of_other g k x other = false_from_ne_true _ (λ e.
    let same : k ≡ key_of g x = keys_exact k (key_of g x) ((Equal-is (key_cmp k (key_of g x))).0 e) in
    elim other [ inl seq ↦ seq (ap (λ (j : Key). j.0) same) | inr side ↦ side (ap (λ (j : Key). j.1) same) ])

-- a block that is inserted, as seen at the positions of its group
pub look-put : (entries : Entries) (g : Group) (x : ℕ) (v : Kept) (y : ℕ)
    → value_at key_cmp (insert_entry key_cmp entries (key_of g x) v) (key_of g y) ≡ (if y == x then Some v else value_at key_cmp entries (key_of g y))
look-put entries g x v y = elim (cases_eq y x) [
  | inl at ↦
      ap (λ (n : ℕ). value_at key_cmp (insert_entry key_cmp entries (key_of g x) v) (key_of g n)) at
      ∙ put-here key_cmp keys_total entries (key_of g x) v
      ∙ sym (cond-true (y == x) _ _ (eq-eqb y x at))
  | inr ne ↦
      put-other key_cmp keys_exact entries (key_of g x) (key_of g y) v (key-apart g y x ne)
      ∙ sym (cond-false (y == x) _ _ (ne_eqb y x ne))
]

-- and at the keys of other groups
pub look-put_other : (entries : Entries) (g : Group) (x : ℕ) (v : Kept) (k : Key) → IsOfOther g k
    → value_at key_cmp (insert_entry key_cmp entries (key_of g x) v) k ≡ value_at key_cmp entries k
look-put_other entries g x v k other = put-other key_cmp keys_exact entries (key_of g x) k v (key-of_other g k x other)

-- a key is of the group or of another
pub key-cases : (g : Group) (k : Key) → (k ≡ key_of g k.2) ⊎ IsOfOther g k
key-cases g k = elim (cases_eq k.0 g.seq) [
  | inl seq ↦ go k.1 (is_minus g.side) refl refl seq
  | inr ne ↦ inr (inl ne)
]
  where
    go : (a b : Bool) → k.1 ≡ a → is_minus g.side ≡ b → k.0 ≡ g.seq → (k ≡ key_of g k.2) ⊎ IsOfOther g k
    go false false p q seq = let side : k.1 ≡ is_minus g.side = p ∙ sym q in inl (λ i. (seq i, side i, k.2))
    go true true p q seq = let side : k.1 ≡ is_minus g.side = p ∙ sym q in inl (λ i. (seq i, side i, k.2))
    go false true p q seq = inr (inr (λ same. cc))
    go true false p q seq = inr (inr (λ same. cc))
