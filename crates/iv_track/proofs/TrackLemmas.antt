-- What a change of a track's map does to the track.
use Rattle.std.proofs.Common.{Bool, Result, Ok, Err, ◌≡◌, ◌≢◌, ℕ, ◌+◌, ◌-◌, ◌<◌, ◌≤◌, List, Option, Some, None, length, refl, sym, ap, ◌∙◌, subst, arith, suc}
use Rattle.std.specs.Prelude.{find, option_map, All, unwrap_or, IfSome, OnOk, IfErr}
use Rattle.std.specs.Map.{keys_of, values_of, remove_entry, set_value}
use Rattle.std.specs.BTreeMap.{insert_entry, is_at}
use Rattle.std.proofs.lemmas.Map.{keys-set_value}
use Rattle.std.proofs.lemmas.Map.Views.{All-keys-insert_entry, All-values-insert_entry, All-map-remove_entry, All-values-set_value, IfSome-lookup_from_All}
use Rattle.std.proofs.lemmas.Map.Steps.{lookup-le-sum}
use Rattle.iv_ledger.specs.Entries.{IsLedger, value_at}
use Rattle.iv_lines.specs.RecordValue.{RecordValue, IsPlaced, record_cmp, records_total}
use Rattle.iv_lines.proofs.RecordLemmas.{rows_exact}
use Rattle.iv_track.specs.Copies.{expanded}
use Rattle.iv_lines.specs.Ordered.{copies, added}
use Rattle.iv_lines.proofs.OrderedLemmas.{length-added}
use Rattle.iv_track.specs.Tracked.{with_copies, removed}
use Rattle.iv_track.specs.Inside.Tracked.{HasColumns, IsTrack}
use Rattle.iv_track.proofs.Counts.{find-expanded, copies-found, copies-expanded, length-expanded, expanded-insert, expanded-remove_entry, expanded-set_value, length-removed}

-- the number of copies in the map
pub count_here : (es : List (RecordValue × ℕ)) (len width limit : ℕ) (r : RecordValue) → IsTrack es len width limit → copies (expanded es) r ≡ unwrap_or (value_at record_cmp es r) 0
count_here es len width limit r t = copies-expanded record_cmp records_total es r t.ordered

-- no count is above the number of records
pub count-le-len : (es : List (RecordValue × ℕ)) (len width limit : ℕ) (r : RecordValue) → IsTrack es len width limit → unwrap_or (value_at record_cmp es r) 0 ≤ len
count-le-len es len width limit r t = omega (arith, lookup-le-sum (is_at (record_cmp r)) es, t.len_is)

-- len is the number of records
pub len-rows : (es : List (RecordValue × ℕ)) (len width limit : ℕ) → IsTrack es len width limit → len ≡ length (expanded es)
len-rows es len width limit t = t.len_is ∙ sym (length-expanded es)

-- gs is the map es with one copy of r less
pub record IsLowered (es gs : List (RecordValue × ℕ)) (r : RecordValue) (width : ℕ) : Type 0 where
  pub records : expanded gs ≡ removed (expanded es) r
  pub present : All (λ m. 0 < m) (values_of gs)
  pub widths : All (λ (q : RecordValue). q.width ≡ width) (keys_of gs)
  pub wide : All HasColumns (keys_of gs)
  pub placed : All IsPlaced (keys_of gs)
  pub ordered : IsLedger record_cmp gs

module _ (es fs : List (RecordValue × ℕ)) (len width limit : ℕ) (r : RecordValue) (t : IsTrack es len width limit) where
  module _ (n : ℕ) (count : n ≡ unwrap_or (value_at record_cmp es r) 0) (put : fs ≡ insert_entry record_cmp es r (n + 1)) where
    pub staged_rows : expanded fs ≡ added (expanded es) r
    staged_rows =
        ap expanded (put ∙ ap (λ m. insert_entry record_cmp es r (m + 1)) count)
        ∙ expanded-insert record_cmp records_total rows_exact es r t.ordered t.present

    pub staged_track : IsLedger record_cmp fs → r.width ≡ width → HasColumns r → IsPlaced r → len ≤ limit → IsTrack fs (len + 1) width limit
    staged_track ordered fits columns place room = record {
      ordered = ordered;
      present = subst (λ gs. All (λ m. 0 < m) (values_of gs)) (sym put) (All-values-insert_entry record_cmp r (n + 1) (λ m. 0 < m) es t.present (omega arith));
      widths = subst (λ gs. All (λ (q : RecordValue). q.width ≡ width) (keys_of gs)) (sym put) (All-keys-insert_entry record_cmp r (n + 1) (λ (q : RecordValue). q.width ≡ width) es t.widths fits);
      wide = subst (λ gs. All HasColumns (keys_of gs)) (sym put) (All-keys-insert_entry record_cmp r (n + 1) HasColumns es t.wide columns);
      placed = subst (λ gs. All IsPlaced (keys_of gs)) (sym put) (All-keys-insert_entry record_cmp r (n + 1) IsPlaced es t.placed place);
      len_is = omega (arith, length-expanded fs, ap length staged_rows, length-added record_cmp (expanded es) r, length-expanded es, t.len_is);
      room = omega arith;
      bounded = t.bounded;
    }

  module _ (n : ℕ) (count : value_at record_cmp es r ≡ Some n) where
    pub count-pos : 0 < n
    count-pos = subst (λ o. IfSome o (λ m. 0 < m)) count (IfSome-lookup_from_All (λ m. 0 < m) (is_at (record_cmp r)) es t.present)

    pub found : 0 < copies (expanded es) r
    found = subst (λ m. 0 < m) (sym (count_here es len width limit r t ∙ ap (λ o. unwrap_or o 0) count)) count-pos

    pub len-pos : 0 < len
    len-pos = omega (arith, count-pos, count-le-len es len width limit r t, ap (λ o. unwrap_or o 0) count)

    pub lowered_by_take : n ≡ 1 → fs ≡ remove_entry (is_at (record_cmp r)) es → IsLedger record_cmp fs → IsLowered es fs r width
    lowered_by_take one is ordered = record {
      records = ap expanded is ∙ expanded-remove_entry record_cmp es r (count ∙ ap Some one);
      present = subst (λ gs. All (λ m. 0 < m) (values_of gs)) (sym is) (All-map-remove_entry (is_at (record_cmp r)) (λ e. e.1) (λ m. 0 < m) es t.present);
      widths = subst (λ gs. All (λ (q : RecordValue). q.width ≡ width) (keys_of gs)) (sym is) (All-map-remove_entry (is_at (record_cmp r)) (λ e. e.0) (λ (q : RecordValue). q.width ≡ width) es t.widths);
      wide = subst (λ gs. All HasColumns (keys_of gs)) (sym is) (All-map-remove_entry (is_at (record_cmp r)) (λ e. e.0) HasColumns es t.wide);
      placed = subst (λ gs. All IsPlaced (keys_of gs)) (sym is) (All-map-remove_entry (is_at (record_cmp r)) (λ e. e.0) IsPlaced es t.placed);
      ordered = ordered;
    }

    pub lowered_by_set : n ≢ 1 → fs ≡ set_value (is_at (record_cmp r)) es (n - 1) → IsLedger record_cmp fs → IsLowered es fs r width
    lowered_by_set more is ordered =
        let e : n ≡ suc (n - 1) = omega (arith, count-pos) in
        let below : 0 < n - 1 = omega (arith, count-pos) in
        record {
          records = ap expanded is ∙ expanded-set_value record_cmp es r (n - 1) (count ∙ ap Some e);
          present = subst (λ gs. All (λ m. 0 < m) (values_of gs)) (sym is) (All-values-set_value (is_at (record_cmp r)) (λ m. 0 < m) es (n - 1) t.present below);
          widths = subst (λ gs. All (λ (q : RecordValue). q.width ≡ width) (keys_of gs)) (sym is) (subst (All (λ (q : RecordValue). q.width ≡ width)) (sym (keys-set_value (is_at (record_cmp r)) es (n - 1))) t.widths);
          wide = subst (λ gs. All HasColumns (keys_of gs)) (sym is) (subst (All HasColumns) (sym (keys-set_value (is_at (record_cmp r)) es (n - 1))) t.wide);
          placed = subst (λ gs. All IsPlaced (keys_of gs)) (sym is) (subst (All IsPlaced) (sym (keys-set_value (is_at (record_cmp r)) es (n - 1))) t.placed);
          ordered = ordered;
        }

    pub lowered_track : IsLowered es fs r width → IsTrack fs (len - 1) width limit
    lowered_track low = record {
      ordered = low.ordered;
      present = low.present;
      widths = low.widths;
      wide = low.wide;
      placed = low.placed;
      len_is = omega (arith, length-expanded fs, ap length low.records, length-removed record_cmp (expanded es) r found, length-expanded es, t.len_is);
      room = omega (arith, t.room);
      bounded = t.bounded;
    }

-- a write of a key that is there is done
pub set_gives : {V : Type 0} (res : Result V V) (at : Option V) (n m : V) (P : Type 0) → at ≡ Some n → OnOk res P → IfErr res (λ back. back ≡ m × (at ≡ None)) → P
set_gives (Ok x) at n m P here done absent = done
set_gives {V} (Err x) at n m P here done absent = let none : at ≡ None = absent.1 in absurd (some_not_none n (sym here ∙ none))
  where
    some_not_none : (n : V) → Some n ≡ None → ⊥
    some_not_none n e = cc

-- the first record that passes a test, with its copies, is the first entry that does
pub next-entry : (p : RecordValue → Bool) (es : List (RecordValue × ℕ)) (len width limit : ℕ) → IsTrack es len width limit → with_copies (expanded es) (find p (expanded es)) ≡ find (λ e. p e.0) es
next-entry p es len width limit t =
    ap (with_copies (expanded es)) (find-expanded record_cmp p es t.present)
    ∙ (elim (find (λ e. p e.0) es) as (λ o. find (λ e. p e.0) es ≡ o → with_copies (expanded es) (option_map (λ e. e.0) o) ≡ o) [
      | None ↦ λ h. refl
      | Some e ↦ λ h. ap (λ n. Some (e.0, n)) (copies-found record_cmp records_total (λ f. p f.0) es e.0 e.1 t.ordered h)
    ] refl)
