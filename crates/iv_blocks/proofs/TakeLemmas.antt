-- A block that is taken out.
use Rattle.std.proofs.Common.{◌≡◌, inl, inr, ℕ, ◌<◌, Bool, true, false, if◌then◌else◌, ◌==◌, cond, [], ◌∷◌, length, Option, Some, None, refl, sym, ap, ◌∙◌, arith, eq-eqb, eqb-true}
use Rattle.std.specs.Ordering.{is_eq}
use Rattle.std.specs.Map.{lookup, remove_entry}
use Rattle.std.specs.BTreeMap.{is_at}
use Rattle.std.proofs.lemmas.Bool.{cond-false, false_from_ne_true}
use Rattle.std.proofs.lemmas.Cmp.{tied_itself}
use Rattle.std.specs.Cmp.{Equal-is}
use Rattle.iv_ledger.specs.Entries.{IsLedger, value_at}
use Rattle.iv_lines.proofs.ListLemmas.{same_tests}
use Rattle.iv_blocks.specs.KeptBlocks.{Key, key_cmp, Kept, Entries, KeptBlocks}
use Rattle.iv_blocks.specs.Inside.Lookups.{kept_in}
use Rattle.iv_blocks.specs.Inside.Insertion.{key_of, IsOfOther}
use Rattle.iv_blocks.specs.Inside.Repairs.{KeepsOthers}
use Rattle.iv_blocks.specs.declared.group.Group.{Group}
use Rattle.iv_blocks.proofs.EntriesLemmas.{value_at-remove_entry}
use Rattle.iv_blocks.proofs.Keys.{keys_total, keys_exact}

-- keys of a group tie if their starts are one
at-group : (g : Group) (x y : ℕ) → is_at (key_cmp (key_of g x)) (key_of g y) ≡ (y == x)
at-group g x y = same_tests _ _
    (λ e. eq-eqb y x (sym (ap (λ (k : Key). k.2) (keys_exact (key_of g x) (key_of g y) ((Equal-is (key_cmp (key_of g x) (key_of g y))).0 e)))))
    (λ e. let at : x ≡ y = sym (eqb-true y x e) in ap is_eq (ap (λ n. key_cmp (key_of g x) (key_of g n)) (sym at) ∙ tied_itself keys_total (key_of g x)))

-- and with no key of another group
at-other : (g : Group) (x : ℕ) (k : Key) → IsOfOther g k → is_at (key_cmp (key_of g x)) k ≡ false
at-other g x k other = false_from_ne_true _ (λ e.
    let same : key_of g x ≡ k = keys_exact (key_of g x) k ((Equal-is (key_cmp (key_of g x) k)).0 e) in
    elim other [
      | inl ne ↦ ne (sym (ap (λ (q : Key). q.0) same))
      | inr ne ↦ ne (sym (ap (λ (q : Key). q.1) same))
    ])

-- a block taken out
pub without-here : (es : Entries) (g : Group) (x : ℕ) → IsLedger key_cmp es → (y : ℕ) → kept_in (remove_entry (is_at (key_cmp (key_of g x))) es) g y ≡ (if y == x then None else kept_in es g y)
without-here es g x sorted y =
    value_at-remove_entry key_cmp keys_total es (key_of g x) (key_of g y) sorted
    ∙ ap (λ (b : Bool). cond b None (kept_in es g y)) (at-group g x y)

pub without-others : (es : Entries) (g : Group) (x : ℕ) → IsLedger key_cmp es → (k : Key) → IsOfOther g k → value_at key_cmp (remove_entry (is_at (key_cmp (key_of g x))) es) k ≡ value_at key_cmp es k
without-others es g x sorted k other =
    value_at-remove_entry key_cmp keys_total es (key_of g x) k sorted
    ∙ cond-false _ _ _ (at-other g x k other)

-- one that is there leaves fewer entries
fewer : (test : Key → Bool) (es : Entries) (v : Kept) → lookup test es ≡ Some v → length (remove_entry test es) < length es
fewer test [] v e = let never : ◌≡◌ {A = Option Kept} None (Some v) = e in cc
fewer test (f ∷ es) v e = go (test f.0) refl (λ later. fewer test es v later)
  where
    go : (b : Bool) → test f.0 ≡ b → (lookup test es ≡ Some v → length (remove_entry test es) < length es) → length (remove_entry test (f ∷ es)) < length (f ∷ es)
    go true is rest = rw is (omega arith)
    go false is rest = let less = rest (rw is at e) in rw is (omega arith)

pub without-fewer : (es : Entries) (g : Group) (x : ℕ) (v : Kept) → kept_in es g x ≡ Some v → length (remove_entry (is_at (key_cmp (key_of g x))) es) < length es
without-fewer es g x v e = fewer (is_at (key_cmp (key_of g x))) es v e

pub keeps-all : (g : Group) (b : KeptBlocks) → IsLedger key_cmp b.entries → KeepsOthers g b b
keeps-all g b sorted = record { options = refl; ordered = sorted; others = λ k other. refl }

pub keeps-taken : (g : Group) (old now new : KeptBlocks) (x : ℕ) → KeepsOthers g old now
    → new ≡ record now { entries = remove_entry (is_at (key_cmp (key_of g x))) now.entries } → IsLedger key_cmp new.entries → KeepsOthers g old new
keeps-taken g old now new x kept taken sorted = record {
  options = ap (λ (b : KeptBlocks). b.options) taken ∙ kept.options;
  ordered = sorted;
  others = λ k other. ap (λ (b : KeptBlocks). value_at key_cmp b.entries k) taken ∙ without-others now.entries g x kept.ordered k other ∙ kept.others k other;
}
