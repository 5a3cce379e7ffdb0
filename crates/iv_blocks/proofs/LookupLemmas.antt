-- Look-ups among the blocks of one group.
use Rattle.std.proofs.Common.{◌≡◌, ◌≢◌, ℕ, ◌<◌, ◌≤◌, Bool, true, false, Option, Some, None, MatchOption, option_map, unwrap_or, Ordering, Less, Equal, Greater, nat_cmp, refl, sym, ap, subst, ◌∙◌, arith}
use Rattle.std.specs.Ordering.{is_le, is_ge, bool_cmp, ordering_reverse}
use Rattle.std.specs.Cmp.{bool_cmp_total}
use Rattle.std.proofs.lemmas.Bool.{false≢true}
use Rattle.std.proofs.lemmas.Cmp.{nat_cmp_total, ranked, tied_itself}
use Rattle.std.proofs.lemmas.Map.Keys.{le_from_is_le}
use Rattle.iv_ledger.specs.Entries.{IsLedger, value_at, first_from, last_until}
use Rattle.iv_track.proofs.NumberOrder.{le-cmp, ge-cmp, ge-from}
use Rattle.iv_blocks.specs.Inside.Groups.{is_minus}
use Rattle.iv_blocks.specs.KeptBlocks.{Key, key_cmp, Kept, Entries}
use Rattle.iv_blocks.specs.Inside.Insertion.{key_of}
use Rattle.iv_blocks.specs.Inside.StoredBlocks.{key_and_stop}
use Rattle.iv_blocks.specs.Inside.Lookups.{kept_in, IsLastBlock, IsFirstBlock}
use Rattle.iv_blocks.specs.declared.group.Group.{Group}
use Rattle.iv_blocks.proofs.EntriesLemmas.{IsFirst, IsLast, first-found, last-found}
use Rattle.iv_blocks.proofs.Keys.{keys_total}

same-bool : (a b : Bool) → bool_cmp a b ≡ Equal → a ≡ b
same-bool false false e = refl
same-bool false true e = cc
same-bool true false e = cc
same-bool true true e = refl

-- within a group keys compare by their starts
pub key_cmp-group : (seq : ℕ) (minus : Bool) (a b : ℕ) → key_cmp (seq, minus, a) (seq, minus, b) ≡ nat_cmp a b
key_cmp-group seq minus a b = rw (tied_itself nat_cmp_total seq, tied_itself bool_cmp_total minus) refl

reverse-bool : (a b : Bool) → bool_cmp a b ≡ Greater → bool_cmp b a ≡ Less
reverse-bool a b e = bool_cmp_total.antisymm b a ∙ ap ordering_reverse e

-- a key of another group that comes before some key of this group comes before each
beside-before : (seq : ℕ) (minus : Bool) (p k : ℕ) (x : Key) → (x.0 ≡ seq → x.1 ≡ minus → ⊥) → is_ge (key_cmp (seq, minus, p) x) ≡ true → key_cmp x (seq, minus, k) ≡ Less
beside-before seq minus p k x beside e = go (nat_cmp seq x.0) refl (bool_cmp minus x.1) refl
  where
    go : (a : Ordering) → nat_cmp seq x.0 ≡ a → (b : Ordering) → bool_cmp minus x.1 ≡ b → key_cmp x (seq, minus, k) ≡ Less
    go Less is b is' = absurd (false≢true (rw is at e))
    go Equal is Less is' = absurd (false≢true (rw (is, is') at e))
    go Equal is Equal is' = absurd (beside (sym (ranked seq x.0 Equal (sym is))) (sym (same-bool minus x.1 is')))
    go Equal is Greater is' =
        let tied : nat_cmp x.0 seq ≡ Equal = nat_cmp_total.antisymm x.0 seq ∙ ap ordering_reverse is in
        rw (tied, reverse-bool minus x.1 is') refl
    go Greater is b is' =
        let before : nat_cmp x.0 seq ≡ Less = nat_cmp_total.antisymm x.0 seq ∙ ap ordering_reverse is in
        rw before refl

-- and one that comes after some key of this group comes after each
pub beside-after : (seq : ℕ) (minus : Bool) (p k : ℕ) (x : Key) → (x.0 ≡ seq → x.1 ≡ minus → ⊥) → is_le (key_cmp (seq, minus, p) x) ≡ true → key_cmp (seq, minus, k) x ≡ Less
beside-after seq minus p k x beside e = go (nat_cmp seq x.0) refl (bool_cmp minus x.1) refl
  where
    go : (a : Ordering) → nat_cmp seq x.0 ≡ a → (b : Ordering) → bool_cmp minus x.1 ≡ b → key_cmp (seq, minus, k) x ≡ Less
    go Less is b is' = rw is refl
    go Equal is Less is' = rw (is, is') refl
    go Equal is Equal is' = absurd (beside (sym (ranked seq x.0 Equal (sym is))) (sym (same-bool minus x.1 is')))
    go Equal is Greater is' = absurd (false≢true (rw (is, is') at e))
    go Greater is b is' = absurd (false≢true (rw is at e))

less_cmp : (a b : ℕ) → a < b → nat_cmp a b ≡ Less
less_cmp a b h = go (nat_cmp a b) refl
  where
    go : (o : Ordering) → nat_cmp a b ≡ o → o ≡ Less
    go Less is = refl
    go Equal is = absurd (omega (arith, ranked a b Equal (sym is)))
    go Greater is = absurd (omega (arith, ranked a b Greater (sym is)))

-- the keys of a group, compared
group-ge : (g : Group) (p x : ℕ) → x ≤ p → is_ge (key_cmp (key_of g p) (key_of g x)) ≡ true
group-ge g p x h = ap is_ge (key_cmp-group g.seq (is_minus g.side) p x) ∙ ge-cmp p x h

group-le : (g : Group) (p x : ℕ) → p ≤ x → is_le (key_cmp (key_of g p) (key_of g x)) ≡ true
group-le g p x h = ap is_le (key_cmp-group g.seq (is_minus g.side) p x) ∙ le-cmp p x h

-- an entry of which the key and the stop are known
record IsEntryWith (found : Option (Key × Kept)) (k : Key) (stop : ℕ) : Type 0 where
  pub block : Kept
  pub is : found ≡ Some (k, block)
  pub stops : block.stop ≡ stop

entry_with : (found : Option (Key × Kept)) (k : Key) (stop : ℕ) → Some (k, stop) ≡ option_map key_and_stop found → IsEntryWith found k stop
entry_with None k stop e = cc
entry_with (Some f) k stop e =
    let same : (k, stop) ≡ key_and_stop f = ap (λ (o : Option (Key × ℕ)). unwrap_or o (k, stop)) e in
    record {
      block = f.1;
      is = ap (λ (q : Key × ℕ). Some (q.0, f.1)) (sym same);
      stops = sym (ap (λ (q : Key × ℕ). q.1) same);
    }

no_entry : (found : Option (Key × Kept)) → None ≡ option_map key_and_stop found → found ≡ None
no_entry None e = refl
no_entry (Some f) e = cc

module _ (es : Entries) (g : Group) (p : ℕ) (sorted : IsLedger key_cmp es) where
  -- no entry of any group up to the position: so none of this group
  pub none_until : None ≡ option_map key_and_stop (last_until key_cmp es (key_of g p)) → (x : ℕ) → x ≤ p → kept_in es g x ≡ None
  none_until e x within =
      let none = subst (λ o. MatchOption o ((q : Key) → is_ge (key_cmp (key_of g p) q) ≡ true → value_at key_cmp es q ≡ None) (λ e. IsLast key_cmp keys_total es (key_of g p) e)) (no_entry _ e) (last-found key_cmp keys_total es (key_of g p) sorted) in
      none (key_of g x) (group-ge g p x within)

  pub none_from : None ≡ option_map key_and_stop (first_from key_cmp es (key_of g p)) → (x : ℕ) → p ≤ x → kept_in es g x ≡ None
  none_from e x within =
      let none = subst (λ o. MatchOption o ((q : Key) → is_le (key_cmp (key_of g p) q) ≡ true → value_at key_cmp es q ≡ None) (λ e. IsFirst key_cmp keys_total es (key_of g p) e)) (no_entry _ e) (first-found key_cmp keys_total es (key_of g p) sorted) in
      none (key_of g x) (group-le g p x within)

  -- the last entry of all groups up to the position, and a block of this group
  pub last_block : (k : Key) (stop : ℕ) (found : Option (ℕ × ℕ)) → Some (k, stop) ≡ option_map key_and_stop (last_until key_cmp es (key_of g p))
      → MatchOption found (k.0 ≡ g.seq → k.1 ≢ is_minus g.side) (λ b. (k ≡ (g.seq, is_minus g.side, b.0)) × (b.1 ≡ stop))
      → MatchOption found ((x : ℕ) → x ≤ p → kept_in es g x ≡ None) (λ b. IsLastBlock (kept_in es g) p b)
  last_block k stop None e beside = λ x within.
      let v = entry_with _ k stop e in
      let last = subst (λ o. MatchOption o ((q : Key) → is_ge (key_cmp (key_of g p) q) ≡ true → value_at key_cmp es q ≡ None) (λ e. IsLast key_cmp keys_total es (key_of g p) e)) v.is (last-found key_cmp keys_total es (key_of g p) sorted) in
      last.none (key_of g x) (group-ge g p x within) (beside-before g.seq (is_minus g.side) p x k beside last.within)
  last_block k stop (Some b) e is =
      let v = entry_with _ k stop e in
      let last = subst (λ o. MatchOption o ((q : Key) → is_ge (key_cmp (key_of g p) q) ≡ true → value_at key_cmp es q ≡ None) (λ e. IsLast key_cmp keys_total es (key_of g p) e)) v.is (last-found key_cmp keys_total es (key_of g p) sorted) in
      record {
        within = ge-from p b.0 (ap is_ge (sym (key_cmp-group g.seq (is_minus g.side) p b.0)) ∙ ap (λ q. is_ge (key_cmp (key_of g p) q)) (sym is.0) ∙ last.within);
        results = v.block.results;
        is = ap (value_at key_cmp es) (sym is.0) ∙ last.is ∙ ap (λ (n : ℕ). Some (record { stop = n; results = v.block.results })) (v.stops ∙ sym is.1);
        none = λ x past within. last.none (key_of g x) (group-ge g p x within) (ap (λ q. key_cmp q (key_of g x)) is.0 ∙ key_cmp-group g.seq (is_minus g.side) b.0 x ∙ less_cmp b.0 x past);
      }

  -- the first entry of all groups from the position on, and a block of this group
  pub first_block : (k : Key) (stop : ℕ) (found : Option (ℕ × ℕ)) → Some (k, stop) ≡ option_map key_and_stop (first_from key_cmp es (key_of g p))
      → MatchOption found (k.0 ≡ g.seq → k.1 ≢ is_minus g.side) (λ b. (k ≡ (g.seq, is_minus g.side, b.0)) × (b.1 ≡ stop))
      → MatchOption found ((x : ℕ) → p ≤ x → kept_in es g x ≡ None) (λ b. IsFirstBlock (kept_in es g) p b)
  first_block k stop None e beside = λ x within.
      let v = entry_with _ k stop e in
      let first = subst (λ o. MatchOption o ((q : Key) → is_le (key_cmp (key_of g p) q) ≡ true → value_at key_cmp es q ≡ None) (λ e. IsFirst key_cmp keys_total es (key_of g p) e)) v.is (first-found key_cmp keys_total es (key_of g p) sorted) in
      first.none (key_of g x) (group-le g p x within) (beside-after g.seq (is_minus g.side) p x k beside first.within)
  first_block k stop (Some b) e is =
      let v = entry_with _ k stop e in
      let first = subst (λ o. MatchOption o ((q : Key) → is_le (key_cmp (key_of g p) q) ≡ true → value_at key_cmp es q ≡ None) (λ e. IsFirst key_cmp keys_total es (key_of g p) e)) v.is (first-found key_cmp keys_total es (key_of g p) sorted) in
      record {
        within = le_from_is_le p b.0 (ap is_le (sym (key_cmp-group g.seq (is_minus g.side) p b.0)) ∙ ap (λ q. is_le (key_cmp (key_of g p) q)) (sym is.0) ∙ first.within);
        results = v.block.results;
        is = ap (value_at key_cmp es) (sym is.0) ∙ first.is ∙ ap (λ (n : ℕ). Some (record { stop = n; results = v.block.results })) (v.stops ∙ sym is.1);
        none = λ x past within. first.none (key_of g x) (group-le g p x past) (ap (λ q. key_cmp (key_of g x) q) is.0 ∙ key_cmp-group g.seq (is_minus g.side) x b.0 ∙ less_cmp x b.0 within);
      }
