-- The lengths that a genome says of sequences.
use Rattle.std.proofs.Common.{◌≡◌, ℕ, zero, suc, ◌+◌, ◌≤◌, ◌==◌, ◌&&◌, Bool, true, false, not, cond, List, [], ◌∷◌, Option, None, Some, Result, Ok, Err, length, drop, find, slice_get, is_some, refl, sym, ◌∙◌, ap, arith}
use Rattle.std.proofs.lemmas.Bool.{cond-true, cond-false, eqb-true, not-false}
use Rattle.std.proofs.lemmas.Slice.Eq.{bytes_eq-Decides}
use Rattle.std.proofs.lemmas.List.{drop_more, drop_all}
use Rattle.std.proofs.lemmas.Option.{slice_get-map, slice_get_within, get_or_from_slice_get, same_Some}
use Rattle.std.specs.Map.{lookup}
use Rattle.std.specs.Option.{option_map, unwrap_or}
use Rattle.std.specs.Str.{bytes_eq}
use Rattle.iv_lines.specs.Genome.{Sequences, AreRanked, length_at}
use Rattle.iv_lines.specs.Named.{name_index}
use Rattle.iv_lines.specs.Read.{length_of}
use Rattle.iv_lines.specs.declared.fault.LoadCause.TheVariants as cause
use Rattle.iv_lines.specs.declared.fault.LoadFault.{LoadFault}
use Rattle.iv_fasta.specs.Fasta.{Stretch, Found, Bases, has_wrong_length, bases_of, HasLengthsOf}
use Rattle.iv_fasta.specs.FastaReading.{Summary, Summaries, Wanted, only, has_other_count, held_by_rank, ended}
use Rattle.iv_fasta.specs.Inside.FastaMeaning.{differs, by_rank}

differs-named : (g : Sequences) (name : List ℕ) (count r n : ℕ) → Some r ≡ name_index g name → length_at g r ≡ Some n → not (count == n) ≡ differs g name count
differs-named g name count r n named long =
    let is : length_of g name ≡ n = ap (λ o. unwrap_or (length_at g (unwrap_or o 0)) 0) (sym named) ∙ ap (λ o. unwrap_or o 0) long in
    ap (λ (k : ℕ). not (count == k)) (sym is) ∙ ap (λ (o : Option ℕ). is_some o && not (count == length_of g name)) named

at-drop : {X : Type 0} (xs : List X) (i : ℕ) (x : X) → Some x ≡ slice_get xs i → drop i xs ≡ x ∷ drop (i + 1) xs
at-drop {X} xs i x at =
    drop_more xs i x (slice_get_within xs i x (sym at)) ∙ ap (λ (y : X). y ∷ drop (i + 1) xs) (get_or_from_slice_get xs i x x (sym at))

pub lengths-wrong : (g : Sequences) (wanted : Wanted) (found : Summaries) (i : ℕ) (s : List ℕ × Summary) → find (has_other_count g) (drop i found) ≡ find (has_other_count g) found
    → Some s ≡ slice_get found i → has_other_count g s ≡ true → ended g wanted found ≡ Err (record { line = s.1.line; cause = cause.WrongLength })
lengths-wrong g wanted found i s rest at wrong =
    let first : find (has_other_count g) found ≡ Some s = sym rest ∙ ap (find (has_other_count g)) (at-drop found i s at) ∙ cond-true _ _ _ wrong in
    ap (λ (o : Option (List ℕ × Summary)). elim o as (λ _. Result Bases LoadFault) [ None ↦ Ok (only wanted (held_by_rank g found)) | Some t ↦ Err (record { line = t.1.line; cause = cause.WrongLength }) ]) first

pub lengths-next : (g : Sequences) (found : Summaries) (i : ℕ) (s : List ℕ × Summary) → find (has_other_count g) (drop i found) ≡ find (has_other_count g) found
    → Some s ≡ slice_get found i → has_other_count g s ≡ false → find (has_other_count g) (drop (i + 1) found) ≡ find (has_other_count g) found
lengths-next g found i s rest at right = sym (sym rest ∙ ap (find (has_other_count g)) (at-drop found i s at) ∙ cond-false _ _ _ right)

pub none-past : {X : Type 0} (xs : List X) (i : ℕ) → slice_get xs i ≡ None → length xs ≤ i
none-past [] i none = omega arith
none-past (x ∷ xs) zero none = cc
none-past (x ∷ xs) (suc i) none = let rest = none-past xs i none in omega (arith, rest)

pub lengths-end : (g : Sequences) (found : Summaries) (i : ℕ) → length found ≤ i → find (has_other_count g) (drop i found) ≡ find (has_other_count g) found → find (has_other_count g) found ≡ None
lengths-end g found i past rest = sym rest ∙ ap (find (has_other_count g)) (drop_all i found past)

-- if all lengths are right, the bases by rank come
pub lengths-right : (g : Sequences) (wanted : Wanted) (found : Summaries) → find (has_other_count g) found ≡ None → ended g wanted found ≡ Ok (only wanted (held_by_rank g found))
lengths-right g wanted found right =
    ap (λ (o : Option (List ℕ × Summary)). elim o as (λ _. Result Bases LoadFault) [ None ↦ Ok (only wanted (held_by_rank g found)) | Some t ↦ Err (record { line = t.1.line; cause = cause.WrongLength }) ]) right

-- ---- the lengths of what is made

abbrev bases_under : Found → List ℕ → Option (List ℕ)
bases_under found name = option_map (λ (f : Stretch). f.bases) (lookup (bytes_eq name) found)

-- what is under a name has the right length
not-wrong : (g : Sequences) (found : Found) (name : List ℕ) (st : Stretch) → find (has_wrong_length g) found ≡ None → lookup (bytes_eq name) found ≡ Some st → differs g name (length st.bases) ≡ false
not-wrong g [] name st right there = cc
not-wrong g (s ∷ found) name st right there = by (has_wrong_length g s) refl right (bytes_eq name s.0) (bytes_eq-Decides name s.0).0 there (not-wrong g found name st)
  where
    by : (b : Bool) → has_wrong_length g s ≡ b → cond b (Some s) (find (has_wrong_length g) found) ≡ None
        → (e : Bool) → (e ≡ true → name ≡ s.0) → cond e (Some s.1) (lookup (bytes_eq name) found) ≡ Some st
        → (find (has_wrong_length g) found ≡ None → lookup (bytes_eq name) found ≡ Some st → differs g name (length st.bases) ≡ false)
        → differs g name (length st.bases) ≡ false
    by true is right e same there rest = cc
    by false is right true same there rest =
        let st-is : s.1 ≡ st = same_Some s.1 st there in
        ap (λ (n : List ℕ). differs g n (length st.bases)) (same refl) ∙ ap (λ (t : Stretch). differs g s.0 (length t.bases)) (sym st-is) ∙ is
    by false is right false same there rest = rest right there

lengths-at : (g : Sequences) (found : Found) (seq : ℕ) (bases : List ℕ) (o : Option (List ℕ × ℕ)) → AreRanked g → find (has_wrong_length g) found ≡ None → slice_get g seq ≡ o
    → unwrap_or (option_map (λ s. bases_under found s.0) o) None ≡ Some bases → length_at g seq ≡ Some (length bases)
lengths-at g found seq bases None ranked right at is = cc
lengths-at g found seq bases (Some s) ranked right at is = by (lookup (bytes_eq s.0) found) refl is
  where
    by : (l : Option Stretch) → lookup (bytes_eq s.0) found ≡ l → option_map (λ (f : Stretch). f.bases) l ≡ Some bases → length_at g seq ≡ Some (length bases)
    by None there is = cc
    by (Some st) there is =
        let same : st.bases ≡ bases = same_Some st.bases bases is in
        let rank : name_index g s.0 ≡ Some seq = ranked seq s.0 (ap (option_map (λ (x : List ℕ × ℕ). x.0)) at) in
        let long : length_at g seq ≡ Some s.1 = ap (option_map (λ (x : List ℕ × ℕ). x.1)) at in
        let says : not (length st.bases == s.1) ≡ false = differs-named g s.0 (length st.bases) seq s.1 (sym rank) long ∙ not-wrong g found s.0 st right there in
        let equal : length st.bases ≡ s.1 = eqb-true (length st.bases) s.1 (not-false (length st.bases == s.1) says) in
        long ∙ ap {B = Option ℕ} (λ (n : ℕ). Some n) (sym equal ∙ ap length same)

pub lengths-of : (g : Sequences) (found : Found) (fasta : Bases) → AreRanked g → find (has_wrong_length g) found ≡ None → fasta ≡ by_rank g found → HasLengthsOf g fasta
lengths-of g found fasta ranked right is = λ seq bases there.
    lengths-at g found seq bases (slice_get g seq) ranked right refl
    (ap (λ (o : Option (Option (List ℕ))). unwrap_or o None) (sym (slice_get-map (λ s. bases_under found s.0) g seq)) ∙ ap (λ (f : Bases). bases_of f seq) (sym is) ∙ there)
