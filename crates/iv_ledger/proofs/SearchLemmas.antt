-- What the steps of a binary search by an order keep.
use Rattle.std.proofs.Common.{◌≡◌, ℕ, ◌+◌, ◌<◌, ◌≤◌, Bool, true, false, nat_lt, List, length, get_or, take, drop, refl, sym, ap, ◌∙◌, subst, arith}
use Rattle.std.specs.Vec.{vec_items}
use Rattle.std.specs.Cmp.{IsTotalOrder}
use Rattle.std.specs.List.{AllWithin}
use Rattle.std.specs.List.Sorted.{IsPartitionedBy}
use Rattle.std.specs.Map.{keys_of}
use Rattle.std.specs.declared.cmp.Ordering.{Ordering}
use Rattle.std.specs.declared.cmp.Ordering.TheVariants.{Less, Greater}
use Rattle.std.specs.declared.vec.Vec.{Vec}
use Rattle.std.proofs.lemmas.Bool.{ltb-true, ltb-false, false_from_ne_true, both_ways}
use Rattle.std.proofs.lemmas.List.{get_or_default, get_or-map, length-map}
use Rattle.std.proofs.lemmas.Map.Keys.{Less-from_sorted}
use Rattle.iv_ledger.specs.Inside.Chunks.{concatenated, AreChunks}
use Rattle.iv_ledger.specs.Entries.{IsLedger}
use Rattle.iv_ledger.proofs.ChunkLemmas.{concatenated-parts}
use Rattle.iv_ledger.proofs.FindLemmas.{past, ledger_front, ledger_back}

-- an item that is read is the one at its index
at_index : {Y : Type 0} (ys : List Y) (at : ℕ) (y d : Y) → at < length ys → y ≡ get_or ys at y → get_or ys at d ≡ y
at_index ys at y d lt is = get_or_default ys at d y lt ∙ sym is

module _ {Y : Type 0} (t : Y → Bool) (ys : List Y) (at : ℕ) (y : Y) (parted : IsPartitionedBy t ys) (lt : at < length ys) (is : y ≡ get_or ys at y) where
  -- all up to an item that passes pass
  pub up_to_true : t y ≡ true → AllWithin (λ c. t c ≡ true) ys 0 (at + 1)
  up_to_true passes = λ j d from to. parted j at d (omega arith) lt (ap t (at_index ys at y d lt is) ∙ passes)

  -- none from one on that doesn't pass
  pub from_false : t y ≡ false → AllWithin (λ c. t c ≡ false) ys at (length ys)
  from_false fails = λ j d from to. false_from_ne_true (t (get_or ys j d)) (λ passes. both_ways (t y) fails (ap t (sym (at_index ys at y d lt is)) ∙ parted at j d from to passes))

module _ {S V : Type 0} {cmp : S → S → Ordering} (o : IsTotalOrder cmp) (es : List (S × V)) (sorted : IsLedger cmp es) where
  -- of two entries the earlier one has the lesser key
  rising : (i j : ℕ) (d : S × V) → i < j → j < length es → cmp (get_or es i d).0 (get_or es j d).0 ≡ Less
  rising i j d less lt =
      let here = get_or-map (λ (e : S × V). e.0) es i d d.0 (omega arith) in
      let next = get_or-map (λ (e : S × V). e.0) es j d d.0 lt in
      ap (λ y. cmp y (get_or es j d).0) (sym here) ∙ ap (cmp (get_or (keys_of es) i d.0)) (sym next)
      ∙ Less-from_sorted cmp (keys_of es) i j d.0 sorted less (omega (arith, length-map es (λ (e : S × V). e.0)))

  module _ (k : S) (at : ℕ) (e : S × V) (lt : at < length es) (is : e ≡ get_or es at e) where
    pub up_to_greater : cmp k e.0 ≡ Greater → AllWithin (λ f. cmp k f.0 ≡ Greater) es 0 (at + 1)
    up_to_greater above = λ j d from to. go j d to (nat_lt j at) refl
      where
        go : (j : ℕ) (d : S × V) → j < at + 1 → (b : Bool) → b ≡ nat_lt j at → cmp k (get_or es j d).0 ≡ Greater
        go j d to true less = past o k (get_or es j d).0 (get_or es at d).0 Greater (ap (λ (f : S × V). cmp k f.0) (at_index es at e d lt is) ∙ above) refl (rising j at d (ltb-true j at (sym less)) lt)
        go j d to false more =
            let low : at ≤ j = ltb-false j at (sym more) in
            let same : j ≡ at = omega arith in
            ap (λ n. cmp k (get_or es n d).0) same ∙ ap (λ (f : S × V). cmp k f.0) (at_index es at e d lt is) ∙ above

    pub from_less : cmp k e.0 ≡ Less → AllWithin (λ f. cmp k f.0 ≡ Less) es at (length es)
    from_less below = λ j d from to. go j d from to (nat_lt at j) refl
      where
        go : (j : ℕ) (d : S × V) → at ≤ j → j < length es → (b : Bool) → b ≡ nat_lt at j → cmp k (get_or es j d).0 ≡ Less
        go j d from to true less = o.trans k (get_or es at d).0 (get_or es j d).0 (ap (λ (f : S × V). cmp k f.0) (at_index es at e d lt is) ∙ below) (rising at j d (ltb-true at j (sym less)) to)
        go j d from to false more =
            let low : j ≤ at = ltb-false at j (sym more) in
            let same : j ≡ at = omega arith in
            ap (λ n. cmp k (get_or es n d).0) same ∙ ap (λ (f : S × V). cmp k f.0) (at_index es at e d lt is) ∙ below

-- the entries of a chunk are in order
pub chunk_sorted : {S V Z : Type 0} {cmp : S → S → Ordering} (o : IsTotalOrder cmp) (cs : List (Vec (S × V) Z)) (ok : AreChunks cmp cs) (c : ℕ) (x : Vec (S × V) Z) → c < length cs → x ≡ get_or cs c x → IsLedger cmp (vec_items x)
chunk_sorted {cmp = cmp} o cs ok c x lt read =
    ledger_front o (vec_items x) (concatenated (drop (c + 1) cs))
    (ledger_back o (concatenated (take c cs)) _ (subst (IsLedger cmp) (concatenated-parts cs c x lt read) ok.ordered))

-- the same up to another number that is the length
pub from_less_of : {S V : Type 0} {cmp : S → S → Ordering} (o : IsTotalOrder cmp) (es : List (S × V)) (sorted : IsLedger cmp es) (k : S) (at : ℕ) (e : S × V) → at < length es → e ≡ get_or es at e → {n : ℕ} → length es ≡ n → cmp k e.0 ≡ Less → AllWithin (λ f. cmp k f.0 ≡ Less) es at n
from_less_of {cmp = cmp} o es sorted k at e lt is len below = subst (λ n. AllWithin (λ f. cmp k f.0 ≡ Less) es at n) len (from_less o es sorted k at e lt is below)

pub from_false_of : {Y : Type 0} (t : Y → Bool) (ys : List Y) (at : ℕ) (y : Y) → IsPartitionedBy t ys → at < length ys → y ≡ get_or ys at y → {n : ℕ} → length ys ≡ n → t y ≡ false → AllWithin (λ c. t c ≡ false) ys at n
from_false_of t ys at y parted lt is len fails = subst (λ n. AllWithin (λ c. t c ≡ false) ys at n) len (from_false t ys at y parted lt is fails)
