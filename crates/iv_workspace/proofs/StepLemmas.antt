-- The steps of prints.
use Rattle.std.proofs.lemmas.Option.{slice_get_within, get_or_from_slice_get}
use Rattle.std.proofs.Common.{◌+◌, ◌<◌, ◌≡◌, ◌⊎◌, ◌∙◌, ℕ, true, false, List, [], ◌∷◌, Option, None, Some, add-one, ap, ap₂, arith, drop, drop-cons, get_or, inl, inr, length, refl, slice_get, subst, sym}
use Rattle.std.specs.Prelude.{IfSome, IsSomeAnd}
use Rattle.std.specs.Map.{lookup}
use Rattle.std.specs.Str.{bytes_eq}
use Rattle.iv_lines.specs.Named.{name_index}
use Rattle.iv_lines.specs.Genome.{Sequences}
use Rattle.iv_lines.specs.RecordValue.{RecordValue}
use Rattle.iv_track.specs.declared.region.Region.{Region}
use Rattle.iv_view.specs.declared.view.View.{View}
use Rattle.iv_view.specs.declared.view.View.TheVariants as view
use Rattle.iv_view.specs.declared.view.KeptView.TheVariants as kept
use Rattle.iv_view.specs.declared.written_view.WrittenView.TheVariants as written
use Rattle.iv_workspace.specs.declared.views.OpenView.{OpenView}
use Rattle.iv_workspace.specs.OpenViews.{Shown, all_current, stale_count}
use Rattle.iv_workspace.specs.Prints.{ViewPrintsWithin, NamedPrintsWithin, AllPrintWithin}
use Rattle.iv_workspace.specs.States.{State}
use Rattle.iv_workspace.specs.Inside.ViewStates.{all_seen}
use Rattle.iv_workspace.specs.Views.{view_named}
use Rattle.iv_workspace.proofs.StateLemmas.{current_to, stale-among, stale-named}

-- ---- one view

-- no view has the name, and no step was taken
pub none-within : (part : Option Region) (o p : Option Shown) (g : Sequences) (records : List RecordValue) (old new : ℕ) → o ≡ p → None ≡ p → (new ≡ old) ⊎ IsSomeAnd o (λ v. v.stale ≡ true) → NamedPrintsWithin part p g records old new
none-within part None None g records old new same none (inl is) = is
none-within part None None g records old new same none (inr is) = absurd is
none-within part None (Some w) g records old new same none steps = absurd (cc same)
none-within part (Some v) None g records old new same none steps = absurd (cc same)
none-within part (Some v) (Some w) g records old new same none steps = absurd (cc none)

-- a stale view may take as many as it needs
pub stale-within : (part : Option Region) (p : Option Shown) (g : Sequences) (records : List RecordValue) (old new : ℕ) (v : Shown) → Some v ≡ p → v.stale ≡ true → NamedPrintsWithin part p g records old new
stale-within part p g records old new v is stale = subst (λ (o : Option Shown). NamedPrintsWithin part o g records old new) is (λ fresh. absurd (cc (sym stale ∙ fresh)))

-- a view was built again, or no step was taken before it was printed
pub named-within : (part : Option Region) (inside s : State) (name : List ℕ) (old mid new : ℕ) (v : Shown) (view : View) → inside ≡ s → Some v ≡ view_named inside.views name → view ≡ v.view
    → (mid ≡ old) ⊎ IsSomeAnd (view_named inside.views name) (λ v. v.stale ≡ true) → ViewPrintsWithin part view inside.genome inside.track.records mid new
    → NamedPrintsWithin part (view_named s.views name) s.genome s.track.records old new
named-within part inside s name old mid new v view same found is steps within =
    subst (λ (t : State). NamedPrintsWithin part (view_named t.views name) t.genome t.track.records old new) same
    (subst (λ (o : Option Shown). NamedPrintsWithin part o inside.genome inside.track.records old new) found (by steps))
  where
    by : (mid ≡ old) ⊎ IsSomeAnd (view_named inside.views name) (λ v. v.stale ≡ true) → v.stale ≡ false → ViewPrintsWithin part v.view inside.genome inside.track.records old new
    by (inl begun) fresh =
        subst (λ (n : ℕ). ViewPrintsWithin part v.view inside.genome inside.track.records n new) begun
        (subst (λ (w : View). ViewPrintsWithin part w inside.genome inside.track.records mid new) is within)
    by (inr stale) fresh = absurd (cc (sym (subst (λ (o : Option Shown). IsSomeAnd o (λ v. v.stale ≡ true)) (sym found) stale) ∙ fresh))

-- ---- all views

none-taken : (part : Option Region) (v : View) (g : Sequences) (records : List RecordValue) (n : ℕ) → ViewPrintsWithin part v g records n n
none-taken None (view.Kept (kept.Merge options)) g records n = record { no_less = omega arith; at_most = omega arith }
none-taken None (view.Written (written.Paired shown)) g records n = tt
none-taken None (view.Written (written.Getfasta shown)) g records n = tt
none-taken (Some at) (view.Kept (kept.Merge options)) g records n = record { no_less = omega arith; at_most = omega arith }
none-taken part v g records n = record { no_less = omega arith; at_most = omega arith }

-- a print that ends before them takes nothing for these
pub nothing-taken : (part : Option Region) (views : List (List ℕ × Shown)) (g : Sequences) (records : List RecordValue) (n : ℕ) → AllPrintWithin part views g records n n
nothing-taken part [] g records n = refl
nothing-taken part (v ∷ views) g records n = (n, none-taken part v.1.view g records n, nothing-taken part views g records n)

-- the view at an index is printed
pub next-within : (part : Option Region) (inside s : State) (i : ℕ) (v : List ℕ × Shown) (first old mid : ℕ) → inside ≡ s → Some v ≡ slice_get inside.views i
    → ((m : ℕ) → AllPrintWithin part (drop i s.views) s.genome s.track.records old m → AllPrintWithin part s.views s.genome s.track.records first m)
    → ViewPrintsWithin part v.1.view inside.genome inside.track.records old mid
    → (m : ℕ) → AllPrintWithin part (drop (i + 1) s.views) s.genome s.track.records mid m → AllPrintWithin part s.views s.genome s.track.records first m
next-within part inside s i v first old mid same found so_far one m rest =
    let at : Some v ≡ slice_get s.views i = found ∙ ap (λ (t : State). slice_get t.views i) same in
    let low = slice_get_within s.views i v (sym at) in
    let is : get_or s.views i v ≡ v = get_or_from_slice_get s.views i v v (sym at) in
    let split : drop i s.views ≡ v ∷ drop (i + 1) s.views = drop-cons s.views i v low ∙ ap₂ (λ (q : List ℕ × Shown) (k : ℕ). q ∷ drop k s.views) is (sym (add-one i)) in
    let here : ViewPrintsWithin part v.1.view s.genome s.track.records old mid = subst (λ (t : State). ViewPrintsWithin part v.1.view t.genome t.track.records old mid) same one in
    so_far m (subst (λ (l : List (List ℕ × Shown)). AllPrintWithin part l s.genome s.track.records old m) (sym split) (mid, here, rest))

-- views take as much once they are current
current-within : (part : Option Region) (views : List (List ℕ × Shown)) (g : Sequences) (records : List RecordValue) (old new : ℕ) → AllPrintWithin part (all_current views) g records old new → AllPrintWithin part views g records old new
current-within part [] g records old new within = within
current-within part (v ∷ views) g records old new within = (within.0, within.1, current-within part views g records within.0 new within.2)

-- views were built again, or no step was taken before all were printed
pub printed-within : (part : Option Region) (inside s : State) (more : List (List ℕ × Shown)) (old mid new : ℕ) → inside ≡ s → more ≡ all_current inside.views
    → (mid ≡ old) ⊎ (0 < stale_count inside.views) → AllPrintWithin part more inside.genome inside.track.records mid new
    → stale_count s.views ≡ 0 → AllPrintWithin part s.views s.genome s.track.records old new
printed-within part inside s more old mid new same are steps within fresh =
    subst (λ (t : State). AllPrintWithin part t.views t.genome t.track.records old new) same
    (current-within part inside.views inside.genome inside.track.records old new (by steps))
  where
    none : stale_count inside.views ≡ 0
    none = ap (λ (t : State). stale_count t.views) same ∙ fresh

    by : (mid ≡ old) ⊎ (0 < stale_count inside.views) → AllPrintWithin part (all_current inside.views) inside.genome inside.track.records old new
    by (inl begun) =
        subst (λ (n : ℕ). AllPrintWithin part (all_current inside.views) inside.genome inside.track.records n new) begun
        (subst (λ (l : List (List ℕ × Shown)). AllPrintWithin part l inside.genome inside.track.records mid new) are within)
    by (inr some) = absurd (omega (arith, some, none))

-- ---- building again

-- the view of a name was looked at: a step was taken only if it is stale
pub named-stale : {A : Type 0} (before after : ℕ) (name : List ℕ) (inside views : List (List ℕ × OpenView A)) (index : ℕ) (v : OpenView A) → inside ≡ views → Some index ≡ name_index inside name
    → Some v ≡ lookup (bytes_eq name) inside → (after ≡ before) ⊎ IfSome (slice_get (all_seen views) index) (λ v. v.1.stale ≡ true)
    → (after ≡ before) ⊎ IsSomeAnd (lookup (bytes_eq name) (all_seen views)) (λ v. v.stale ≡ true)
named-stale before after name inside views index v same at found (inl none) = inl none
named-stale before after name inside views index v same at found (inr stale) = inr (stale-named name inside views index v same at found stale)

-- one more view was looked at: a step was taken only if some view is stale
pub either-stale : {A : Type 0} (before after first index : ℕ) (old : List (List ℕ × OpenView A)) (now : List (List ℕ × Shown)) → now ≡ current_to index (all_seen old) → index < length (all_seen old)
    → (before ≡ first) ⊎ (0 < stale_count (all_seen old)) → (after ≡ before) ⊎ IfSome (slice_get now index) (λ v. v.1.stale ≡ true)
    → (after ≡ first) ⊎ (0 < stale_count (all_seen old))
either-stale before after first index old now is within (inr some) later = inr some
either-stale before after first index old now is within (inl same) (inl next) = inl (next ∙ same)
either-stale before after first index old now is within (inl same) (inr stale) =
    inr (stale-among index index (all_seen old) (subst (λ l. IfSome (slice_get l index) (λ v. v.1.stale ≡ true)) is stale) within)
