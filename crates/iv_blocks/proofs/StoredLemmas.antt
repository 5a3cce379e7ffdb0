-- Blocks that are stored without results, as entries with empty ones.
use Rattle.std.proofs.Common.{◌≡◌, ℕ, Bool, true, false, cond, List, [], ◌∷◌, ◌++◌, map, filter, find, reverse, Option, option_map, Some, Result, Ok, Err, OnOk, Ordering, Less, Equal, Greater, refl, sym, ap, ap₂, subst, ◌∙◌}
use Rattle.std.specs.BTreeMap.{is_at, insert_entry}
use Rattle.std.specs.List.Sorted.{IsStrictlySortedBy}
use Rattle.std.specs.Map.{remove_entry}
use Rattle.std.specs.Ordering.{is_le, is_ge, match_ordering}
use Rattle.std.proofs.lemmas.List.{map-append, reverse-append}
use Rattle.std.proofs.lemmas.Map.Made.{keys_of-map_values, lookup-map_values}
use Rattle.iv_ledger.specs.Entries.{IsLedger, value_at, first_from, last_until}
use Rattle.iv_blocks.specs.KeptBlocks.{Key, Kept, Entries, key_cmp}
use Rattle.iv_blocks.specs.Inside.StoredBlocks.{StoredBlocks, plain_entry, key_and_stop, stored}
use Rattle.iv_blocks.specs.declared.block_ledger.Storage.{Storage}
use Rattle.iv_blocks.specs.declared.block_ledger.Storage.TheVariants as all

-- a block without results
abbrev plain : ℕ → Kept
plain stop = record { stop = stop; results = [] }

-- what holds of blocks that are stored without results
pub of-plain : {A : Type 0} (P : StoredBlocks → Type 0) (storage : Storage A) (blocks : StoredBlocks) (ledger : List (Key × ℕ)) → stored storage ≡ blocks → storage ≡ all.Plain ledger
    → P (record { with_results = false; entries = map plain_entry ledger }) → P blocks
of-plain P storage blocks ledger same is holds = subst P same (subst (λ s. P (stored s)) (sym is) holds)

-- and of those with results
pub with_stored : {A : Type 0} (P : StoredBlocks → Type 0) (storage : Storage A) (blocks : StoredBlocks) (ledger : Entries) → stored storage ≡ blocks → storage ≡ all.WithResults ledger
    → P (record { with_results = true; entries = ledger }) → P blocks
with_stored P storage blocks ledger same is holds = subst P same (subst (λ s. P (stored s)) (sym is) holds)

pub plain-ordered : (es : List (Key × ℕ)) → IsLedger key_cmp es → IsLedger key_cmp (map plain_entry es)
plain-ordered es sorted = subst (IsStrictlySortedBy key_cmp) (sym (keys_of-map_values plain es)) sorted

pub ordered-plain : (es : List (Key × ℕ)) → IsLedger key_cmp (map plain_entry es) → IsLedger key_cmp es
ordered-plain es sorted = subst (IsStrictlySortedBy key_cmp) (keys_of-map_values plain es) sorted

plain-value : (es : List (Key × ℕ)) (k : Key) → value_at key_cmp (map plain_entry es) k ≡ option_map plain (value_at key_cmp es k)
plain-value es k = lookup-map_values plain (is_at (key_cmp k)) es

-- stops that are alike at a key
pub plain-alike : (es fs : List (Key × ℕ)) (k : Key) → value_at key_cmp es k ≡ value_at key_cmp fs k → value_at key_cmp (map plain_entry es) k ≡ value_at key_cmp (map plain_entry fs) k
plain-alike es fs k same = plain-value es k ∙ ap (option_map plain) same ∙ sym (plain-value fs k)

-- ---- searches

find-plain : (test : Key → Bool) (es : List (Key × ℕ)) → option_map key_and_stop (find (λ (e : Key × Kept). test e.0) (map plain_entry es)) ≡ find (λ (e : Key × ℕ). test e.0) es
find-plain test [] = refl
find-plain test (e ∷ es) = go (test e.0) (find-plain test es)
  where
    go : (b : Bool) → option_map key_and_stop (find (λ (f : Key × Kept). test f.0) (map plain_entry es)) ≡ find (λ (f : Key × ℕ). test f.0) es
        → option_map key_and_stop (cond b (Some (plain_entry e)) (find (λ (f : Key × Kept). test f.0) (map plain_entry es))) ≡ cond b (Some e) (find (λ (f : Key × ℕ). test f.0) es)
    go true rest = refl
    go false rest = rest

map-reverse : (es : List (Key × ℕ)) → map plain_entry (reverse es) ≡ reverse (map plain_entry es)
map-reverse [] = refl
map-reverse (e ∷ es) =
    ap (map plain_entry) (reverse-append (e ∷ []) es) ∙ map-append plain_entry (reverse es) (e ∷ []) ∙ ap (λ l. l ++ plain_entry e ∷ []) (map-reverse es)
    ∙ sym (reverse-append (plain_entry e ∷ []) (map plain_entry es))

pub plain-first : (es : List (Key × ℕ)) (k : Key) → option_map key_and_stop (first_from key_cmp (map plain_entry es) k) ≡ first_from key_cmp es k
plain-first es k = find-plain (λ q. is_le (key_cmp k q)) es

pub plain-last : (es : List (Key × ℕ)) (k : Key) → option_map key_and_stop (last_until key_cmp (map plain_entry es) k) ≡ last_until key_cmp es k
plain-last es k =
    ap (λ (l : Entries). option_map key_and_stop (find (λ e. is_ge (key_cmp k e.0)) l)) (sym (map-reverse es))
    ∙ find-plain (λ q. is_ge (key_cmp k q)) (reverse es)

-- an entry that is found among those that are stored without results
pub plain-found : {A : Type 0} (sought : Entries → Option (Key × Kept)) (storage : Storage A) (blocks : StoredBlocks) (ledger : List (Key × ℕ)) (found answer : Option (Key × ℕ))
    → stored storage ≡ blocks → storage ≡ all.Plain ledger → option_map key_and_stop (sought (map plain_entry ledger)) ≡ found → answer ≡ found → IsLedger key_cmp ledger
    → (answer ≡ option_map key_and_stop (sought blocks.entries)) × IsLedger key_cmp blocks.entries
plain-found sought storage blocks ledger found answer same is at here sorted =
    of-plain (λ (b : StoredBlocks). (answer ≡ option_map key_and_stop (sought b.entries)) × IsLedger key_cmp b.entries) storage blocks ledger same is (here ∙ sym at, plain-ordered ledger sorted)

-- ---- walks

filter-plain : (test : Key → Bool) (es : List (Key × ℕ)) → filter (λ (e : Key × Kept). test e.0) (map plain_entry es) ≡ map plain_entry (filter (λ (e : Key × ℕ). test e.0) es)
filter-plain test [] = refl
filter-plain test (e ∷ es) = go (test e.0) (filter-plain test es)
  where
    go : (b : Bool) → filter (λ (f : Key × Kept). test f.0) (map plain_entry es) ≡ map plain_entry (filter (λ (f : Key × ℕ). test f.0) es)
        → cond b (plain_entry e ∷ filter (λ (f : Key × Kept). test f.0) (map plain_entry es)) (filter (λ (f : Key × Kept). test f.0) (map plain_entry es))
        ≡ map plain_entry (cond b (e ∷ filter (λ (f : Key × ℕ). test f.0) es) (filter (λ (f : Key × ℕ). test f.0) es))
    go true rest = ap (λ (l : Entries). plain_entry e ∷ l) rest
    go false rest = rest

pub plain-from : (es : List (Key × ℕ)) (k : Key) → filter (λ e. is_le (key_cmp k e.0)) (map plain_entry es) ≡ map plain_entry (filter (λ e. is_le (key_cmp k e.0)) es)
plain-from es k = filter-plain (λ q. is_le (key_cmp k q)) es

-- ---- edits

pub plain-removed : (test : Key → Bool) (es : List (Key × ℕ)) → remove_entry test (map plain_entry es) ≡ map plain_entry (remove_entry test es)
plain-removed test [] = refl
plain-removed test (e ∷ es) = go (test e.0) (plain-removed test es)
  where
    go : (b : Bool) → remove_entry test (map plain_entry es) ≡ map plain_entry (remove_entry test es)
        → cond b (map plain_entry es) (plain_entry e ∷ remove_entry test (map plain_entry es)) ≡ map plain_entry (cond b es (e ∷ remove_entry test es))
    go true rest = refl
    go false rest = ap (λ (l : Entries). plain_entry e ∷ l) rest

pub plain-inserted : (es : List (Key × ℕ)) (k : Key) (n : ℕ) → insert_entry key_cmp (map plain_entry es) k (plain n) ≡ map plain_entry (insert_entry key_cmp es k n)
plain-inserted [] k n = refl
plain-inserted (e ∷ es) k n = go (key_cmp k e.0) (plain-inserted es k n)
  where
    go : (o : Ordering) → insert_entry key_cmp (map plain_entry es) k (plain n) ≡ map plain_entry (insert_entry key_cmp es k n)
        → match_ordering o ((k, plain n) ∷ plain_entry e ∷ map plain_entry es) ((e.0, plain n) ∷ map plain_entry es) (plain_entry e ∷ insert_entry key_cmp (map plain_entry es) k (plain n))
        ≡ map plain_entry (match_ordering o ((k, n) ∷ e ∷ es) ((e.0, n) ∷ es) (e ∷ insert_entry key_cmp es k n))
    go Less rest = refl
    go Equal rest = refl
    go Greater rest = ap (λ (l : Entries). plain_entry e ∷ l) rest

-- a block without results that is put
pub plain-put : (es new : List (Key × ℕ)) (k : Key) (n : ℕ) (b : Kept) → new ≡ insert_entry key_cmp es k n → n ≡ b.stop → b.results ≡ [] → map plain_entry new ≡ insert_entry key_cmp (map plain_entry es) k b
plain-put es new k n b put at none =
    ap (map plain_entry) put
    ∙ sym (plain-inserted es k n)
    ∙ ap₂ (λ (stop : ℕ) (results : List ℕ). insert_entry key_cmp (map plain_entry es) k (record { stop = stop; results = results })) at (sym none)

-- what holds anyway holds of a success
pub on_ok : {T E : Type 0} (r : Result T E) (P : Type 0) → P → OnOk r P
on_ok (Ok t) P p = p
on_ok (Err e) P p = tt

-- ---- blocks that are stored after an edit

-- those of which one is taken out
pub taken-plain : {A : Type 0} (storage : Storage A) (blocks : StoredBlocks) (es new : List (Key × ℕ)) (test : Key → Bool) → stored storage ≡ blocks → storage ≡ all.Plain es
    → new ≡ remove_entry test es → record { with_results = false; entries = map plain_entry new } ≡ record blocks { entries = remove_entry test blocks.entries }
taken-plain storage blocks es new test same is rest =
    of-plain (λ (b : StoredBlocks). record { with_results = false; entries = map plain_entry new } ≡ record b { entries = remove_entry test b.entries }) storage blocks es same is
    (ap (λ (l : Entries). record { with_results = false; entries = l }) (ap (map plain_entry) rest ∙ sym (plain-removed test es)))

pub taken-stored : {A : Type 0} (storage : Storage A) (blocks : StoredBlocks) (es new : Entries) (test : Key → Bool) → stored storage ≡ blocks → storage ≡ all.WithResults es
    → new ≡ remove_entry test es → record { with_results = true; entries = new } ≡ record blocks { entries = remove_entry test blocks.entries }
taken-stored storage blocks es new test same is rest =
    with_stored (λ (b : StoredBlocks). record { with_results = true; entries = new } ≡ record b { entries = remove_entry test b.entries }) storage blocks es same is
    (ap (λ (l : Entries). record { with_results = true; entries = l }) rest)

-- those into which one is put
pub put-plain : {A : Type 0} (storage : Storage A) (blocks : StoredBlocks) (es new : List (Key × ℕ)) (k : Key) (n : ℕ) (b : Kept) → stored storage ≡ blocks → storage ≡ all.Plain es
    → (blocks.with_results ≡ false → b.results ≡ []) → new ≡ insert_entry key_cmp es k n → n ≡ b.stop
    → record { with_results = false; entries = map plain_entry new } ≡ record blocks { entries = insert_entry key_cmp blocks.entries k b }
put-plain storage blocks es new k n b same is none put at =
    let empty : b.results ≡ [] = none (of-plain (λ (s : StoredBlocks). s.with_results ≡ false) storage blocks es same is refl) in
    of-plain (λ (s : StoredBlocks). record { with_results = false; entries = map plain_entry new } ≡ record s { entries = insert_entry key_cmp s.entries k b }) storage blocks es same is
    (ap (λ (l : Entries). record { with_results = false; entries = l }) (plain-put es new k n b put at empty))

pub put-stored : {A : Type 0} (storage : Storage A) (blocks : StoredBlocks) (es new : Entries) (k : Key) (b : Kept) → stored storage ≡ blocks → storage ≡ all.WithResults es
    → new ≡ insert_entry key_cmp es k b → record { with_results = true; entries = new } ≡ record blocks { entries = insert_entry key_cmp blocks.entries k b }
put-stored storage blocks es new k b same is put =
    with_stored (λ (s : StoredBlocks). record { with_results = true; entries = new } ≡ record s { entries = insert_entry key_cmp s.entries k b }) storage blocks es same is
    (ap (λ (l : Entries). record { with_results = true; entries = l }) put)
