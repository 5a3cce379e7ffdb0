-- What is held of a FASTA file is all of it except the bases that aren't held.
use Rattle.std.proofs.Common.{◌≡◌, ℕ, zero, suc, ◌+◌, ◌++◌, ◌==◌, Bool, true, false, cond, List, [], ◌∷◌, Option, None, Some, Result, Ok, Err, length, map, find, slice_get, append_assoc, refl, sym, ◌∙◌, ap, arith, length-append}
use Rattle.std.proofs.lemmas.List.{length-map}
use Rattle.std.specs.List.{list_any, position}
use Rattle.std.specs.Option.{is_some, option_map, unwrap_or}
use Rattle.std.specs.Map.{lookup}
use Rattle.std.proofs.lemmas.Bool.{cond-true}
use Rattle.std.proofs.lemmas.Slice.Eq.{bytes_eq-Decides}
use Rattle.iv_lines.specs.Chains.{if_ok}
use Rattle.iv_lines.specs.Lines.{lines, begins_with}
use Rattle.std.specs.Str.{bytes_eq}
use Rattle.iv_lines.specs.Named.{names_of, name_index}
use Rattle.iv_lines.specs.Genome.{Sequences, AreRanked}
use Rattle.iv_lines.specs.GenomeFile.{bad_name}
use Rattle.iv_fasta.specs.Fasta.{Stretch, Found, header_sign, header_name, with_bases, after_fasta_line, Bases, bases_of, has_wrong_length, fasta_of}
use Rattle.iv_fasta.specs.FastaReading.{Draft, Summary, Summaries, Wanted, is_wanted, is_held, only, only_from, only_or_fault, with_part, with_rest, with_header, after_line, after_lines, said, has_other_count, held_by_rank, ended}
use Rattle.iv_fasta.specs.Inside.FastaMeaning.{with_lengths, by_rank}
use Rattle.iv_fasta.specs.Inside.Fasta.{is_no_base}
use Rattle.iv_fasta.specs.Inside.Drafts.{begun_with, with_sequence, with_base_line, after_fasta_lines}
use Rattle.iv_lines.specs.declared.fault.LoadCause.{LoadCause}
use Rattle.iv_lines.specs.declared.fault.LoadCause.TheVariants as cause
use Rattle.iv_lines.specs.declared.fault.LoadFault.{LoadFault}

module _ (g : Sequences) (wanted : Wanted) where
  abbrev pub held : List ℕ → Bool
  held name = is_held g wanted name

  abbrev pub summed_one : List ℕ × Stretch → List ℕ × Summary
  summed_one s = (s.0, record { line = s.1.line; count = length s.1.bases; bases = cond (held s.0) s.1.bases [] })

  abbrev pub summed_all : Found → Summaries
  summed_all found = map summed_one found

  abbrev pub last_held : Found → Bool
  last_held [] = false
  last_held (s ∷ []) = held s.0
  last_held (s ∷ next ∷ rest) = last_held (next ∷ rest)

  abbrev pub summed : Found → Draft
  summed found = record { sequences = summed_all found; holds = last_held found }

  abbrev pub along : {E : Type 0} → Result Found E → Result Draft E
  along (Ok found) = Ok (summed found)
  along (Err e) = Err e

  along-cond : (b : Bool) (x y : Result Found LoadCause) → along (cond b x y) ≡ cond b (along x) (along y)
  along-cond true x y = refl
  along-cond false x y = refl

  names-summed : (found : Found) → names_of (summed_all found) ≡ names_of found
  names-summed [] = refl
  names-summed (s ∷ found) = ap (λ (l : List (List ℕ)). s.0 ∷ l) (names-summed found)

  index-summed : (found : Found) (name : List ℕ) → name_index (summed_all found) name ≡ name_index found name
  index-summed found name = ap (position (bytes_eq name)) (names-summed found)

  empty-either : (b : Bool) → cond {A = List ℕ} b [] [] ≡ []
  empty-either true = refl
  empty-either false = refl

  summed-push : (found : Found) (name : List ℕ) (n : ℕ) → summed_all (found ++ (name, record { line = n; bases = [] }) ∷ []) ≡ summed_all found ++ (name, record { line = n; count = 0; bases = [] }) ∷ []
  summed-push [] name n = ap {B = Summaries} (λ (l : List ℕ). (name, record { line = n; count = 0; bases = l }) ∷ []) (empty-either (held name))
  summed-push (s ∷ found) name n = ap {B = Summaries} (λ (l : Summaries). summed_one s ∷ l) (summed-push found name n)

  last-push : (found : Found) (name : List ℕ) (s : Stretch) → last_held (found ++ (name, s) ∷ []) ≡ held name
  last-push [] name s = refl
  last-push (x ∷ []) name s = refl
  last-push (x ∷ y ∷ found) name s = last-push (y ∷ found) name s

  pair-up : (found found2 : Summaries) (b c : Bool) → found ≡ found2 → b ≡ c → ◌≡◌ {A = Result Draft LoadCause} (Ok (record { sequences = found; holds = b })) (Ok (record { sequences = found2; holds = c }))
  pair-up found found2 b c same is = ap {B = Result Draft LoadCause} (λ (f : Summaries). Ok (record { sequences = f; holds = b })) same ∙ ap {B = Result Draft LoadCause} (λ (d : Bool). Ok (record { sequences = found2; holds = d })) is

  header-along : (n : ℕ) (found : Found) (name : List ℕ) → with_header g wanted n (summed found) name ≡ along (with_sequence n found name)
  header-along n found name =
      ap (λ (r : Result Draft LoadCause). cond (bad_name name) (Err cause.Name) r)
      (ap (λ (o : Option ℕ). cond {A = Result Draft LoadCause} (is_some o) (Err cause.Repeated) (Ok (record { sequences = summed_all found ++ (name, record { line = n; count = 0; bases = [] }) ∷ []; holds = held name }))) (index-summed found name)
      ∙ ap (λ (r : Result Draft LoadCause). cond (is_some (name_index found name)) (Err cause.Repeated) r)
      (pair-up _ _ _ _ (sym (summed-push found name n)) (sym (last-push found name (record { line = n; bases = [] }))))
      ∙ sym (along-cond (is_some (name_index found name)) _ _))
      ∙ sym (along-cond (bad_name name) _ _)

  both-held : (b : Bool) (old line : List ℕ) → cond b old [] ++ cond b line [] ≡ cond b (old ++ line) []
  both-held true old line = refl
  both-held false old line = refl

  summed-bases : (found : Found) (line : List ℕ) → with_part (last_held found) (summed_all found) line ≡ summed_all (with_bases found line)
  summed-bases [] line = refl
  summed-bases (s ∷ []) line =
      ap {B = Summaries} (λ (l : List ℕ). (s.0, record { line = s.1.line; count = length s.1.bases + length line; bases = l }) ∷ []) (both-held (held s.0) s.1.bases line)
      ∙ ap {B = Summaries} (λ (n : ℕ). (s.0, record { line = s.1.line; count = n; bases = cond (held s.0) (s.1.bases ++ line) [] }) ∷ []) (sym (length-append s.1.bases line))
  summed-bases (s ∷ t ∷ rest) line = ap {B = Summaries} (λ (l : Summaries). summed_one s ∷ l) (summed-bases (t ∷ rest) line)

  last-bases : (found : Found) (line : List ℕ) → last_held (with_bases found line) ≡ last_held found
  last-bases [] line = refl
  last-bases (s ∷ []) line = refl
  last-bases (s ∷ t ∷ []) line = refl
  last-bases (s ∷ t ∷ u ∷ rest) line = last-bases (t ∷ u ∷ rest) line

  bases-along : (found : Found) (line : List ℕ) → cond (length (summed_all found) == 0) (Err cause.BasesFirst) (with_rest (summed found) line) ≡ along (with_base_line found line)
  bases-along found line =
      ap (λ (n : ℕ). cond {A = Result Draft LoadCause} (n == 0) (Err cause.BasesFirst) (with_rest (summed found) line)) (length-map found summed_one)
      ∙ ap (λ (r : Result Draft LoadCause). cond (length found == 0) (Err cause.BasesFirst) (cond (list_any is_no_base line) (Err cause.Base) r))
      (pair-up _ _ _ _ (summed-bases found line) (sym (last-bases found line)))
      ∙ ap (λ (r : Result Draft LoadCause). cond (length found == 0) (Err cause.BasesFirst) r) (sym (along-cond (list_any is_no_base line) _ _))
      ∙ sym (along-cond (length found == 0) _ _)

  pub line-along : (n : ℕ) (found : Found) (line : List ℕ) → after_line g wanted n (summed found) line ≡ along (after_fasta_line n found line)
  unfolding after_line after_fasta_line
  line-along n found line =
      ap (λ (r : Result Draft LoadCause). cond (length line == 0) (Ok (summed found)) (cond (begins_with header_sign line) r (cond (length (summed_all found) == 0) (Err cause.BasesFirst) (with_rest (summed found) line)))) (header-along n found (header_name line))
      ∙ ap (λ (r : Result Draft LoadCause). cond (length line == 0) (Ok (summed found)) (cond (begins_with header_sign line) (along (with_sequence n found (header_name line))) r)) (bases-along found line)
      ∙ ap (λ (r : Result Draft LoadCause). cond (length line == 0) (Ok (summed found)) r) (sym (along-cond (begins_with header_sign line) _ _))
      ∙ sym (along-cond (length line == 0) _ _)

  pub lines-along : (n : ℕ) (found : Found) (ls : List (List ℕ)) → after_lines g wanted n (summed found) ls ≡ along (after_fasta_lines n found ls)
  lines-along n found [] = refl
  lines-along n found (line ∷ ls) =
      ap (λ (r : Result Draft LoadCause). elim r as (λ _. Result Draft LoadFault) [ Ok more ↦ after_lines g wanted (n + 1) more ls | Err c ↦ Err (record { line = n; cause = c }) ]) (line-along n found line)
      ∙ by (after_fasta_line n found line) (λ more. lines-along (n + 1) more ls)
    where
      by : (r : Result Found LoadCause) → ((more : Found) → after_lines g wanted (n + 1) (summed more) ls ≡ along (after_fasta_lines (n + 1) more ls))
          → (elim (along r) as (λ _. Result Draft LoadFault) [ Ok more ↦ after_lines g wanted (n + 1) more ls | Err c ↦ Err (record { line = n; cause = c }) ])
          ≡ along (elim r as (λ _. Result Found LoadFault) [ Ok more ↦ after_fasta_lines (n + 1) more ls | Err c ↦ Err (record { line = n; cause = c }) ])
      by (Ok more) rest = rest more
      by (Err c) rest = refl

  -- ---- lengths, and bases by rank, are those of what is held

  abbrev reported : Bases → Option (List ℕ × Stretch) → Result Bases LoadFault
  reported bases None = Ok bases
  reported bases (Some s) = Err (record { line = s.1.line; cause = cause.WrongLength })

  abbrev reported_sum : Bases → Option (List ℕ × Summary) → Result Bases LoadFault
  reported_sum bases None = Ok bases
  reported_sum bases (Some s) = Err (record { line = s.1.line; cause = cause.WrongLength })

  reported-either : (bases : Bases) (b : Bool) (s : List ℕ × Stretch) (x : Option (List ℕ × Summary)) (y : Option (List ℕ × Stretch)) → reported_sum (only wanted bases) x ≡ only_or_fault wanted (reported bases y)
      → reported_sum (only wanted bases) (cond b (Some (summed_one s)) x) ≡ only_or_fault wanted (reported bases (cond b (Some s) y))
  reported-either bases true s x y same = refl
  reported-either bases false s x y same = same

  reported-summed : (bases : Bases) (found : Found) → reported_sum (only wanted bases) (find (has_other_count g) (summed_all found)) ≡ only_or_fault wanted (reported bases (find (has_wrong_length g) found))
  reported-summed bases [] = refl
  reported-summed bases (s ∷ found) = reported-either bases (has_wrong_length g s) s _ _ (reported-summed bases found)

  abbrev bases_under : Found → List ℕ → Option (List ℕ)
  bases_under found name = option_map (λ (f : Stretch). f.bases) (lookup (bytes_eq name) found)

  abbrev held_under : Found → List ℕ → Option (List ℕ)
  held_under found name = option_map (λ (f : Summary). f.bases) (lookup (bytes_eq name) (summed_all found))

  under-summed : (found : Found) (name : List ℕ) → held name ≡ true → held_under found name ≡ bases_under found name
  under-summed [] name there = refl
  under-summed (s ∷ found) name there = by (bytes_eq name s.0) (bytes_eq-Decides name s.0).0 (under-summed found name there)
    where
      by : (b : Bool) → (b ≡ true → name ≡ s.0) → held_under found name ≡ bases_under found name
          → option_map (λ (f : Summary). f.bases) (cond b (Some (summed_one s).1) (lookup (bytes_eq name) (summed_all found)))
          ≡ option_map (λ (f : Stretch). f.bases) (cond b (Some s.1) (lookup (bytes_eq name) found))
      by true same rest = ap {B = Option (List ℕ)} (λ (l : List ℕ). Some l) (cond-true _ _ _ (ap held (sym (same refl)) ∙ there))
      by false same rest = rest

  is-there : (front rest : Sequences) (s : List ℕ × ℕ) → slice_get (front ++ s ∷ rest) (length front) ≡ Some s
  is-there [] rest s = refl
  is-there (f ∷ front) rest s = is-there front rest s

  ranks-summed : (found : Found) (front rest : Sequences) (rank : ℕ) → AreRanked g → g ≡ front ++ rest → rank ≡ length front
      → only_from wanted rank (map (λ s. held_under found s.0) rest) ≡ only_from wanted rank (map (λ s. bases_under found s.0) rest)
  ranks-summed found front [] rank ranked all at = refl
  ranks-summed found front (s ∷ rest) rank ranked all at =
      ap {B = Bases} (λ (o : Option (List ℕ)). o ∷ only_from wanted (rank + 1) (map (λ t. held_under found t.0) rest)) (by (is_wanted wanted rank) refl)
      ∙ ap {B = Bases} (λ (l : Bases). cond (is_wanted wanted rank) (bases_under found s.0) None ∷ l)
      (ranks-summed found (front ++ s ∷ []) rest (rank + 1) ranked (all ∙ sym (append_assoc front (s ∷ []) rest)) (omega (arith, at, length-append front (s ∷ []))))
    where
      there : slice_get g rank ≡ Some s
      there = ap (λ n. slice_get g n) at ∙ ap (λ (l : Sequences). slice_get l (length front)) all ∙ is-there front rest s

      placed : name_index g s.0 ≡ Some rank
      placed = ranked rank s.0 (ap (option_map (λ (n : List ℕ × ℕ). n.0)) there)

      by : (b : Bool) → is_wanted wanted rank ≡ b → cond (is_wanted wanted rank) (held_under found s.0) None ≡ cond (is_wanted wanted rank) (bases_under found s.0) None
      by true is = ap (λ (o : Option (List ℕ)). cond (is_wanted wanted rank) o None)
          (under-summed found s.0 (ap (λ (o : Option ℕ). elim o as (λ _. Bool) [ None ↦ false | Some seq ↦ is_wanted wanted seq ]) placed ∙ is))
      by false is = ap (λ b. cond b (held_under found s.0) None) is ∙ sym (ap (λ b. cond b (bases_under found s.0) None) is)

  lengths-summed : (found : Found) → AreRanked g → ended g wanted (summed_all found) ≡ only_or_fault wanted (with_lengths g found)
  lengths-summed found ranked =
      ap (λ (b : Bases). reported_sum b (find (has_other_count g) (summed_all found))) (ranks-summed found [] g 0 ranked refl refl)
      ∙ reported-summed (by_rank g found) found

  -- ---- the whole text

  along-ended : (r : Result Found LoadFault) → AreRanked g → if_ok (along r) (λ d. ended g wanted d.sequences) ≡ only_or_fault wanted (if_ok r (with_lengths g))
  along-ended (Ok found) ranked = lengths-summed found ranked
  along-ended (Err f) ranked = refl

  -- what comes of a text of which nothing was read
  pub text-remaining : (text : List ℕ) → AreRanked g → if_ok (said g (begun_with wanted) text) (λ d. ended g wanted d.sequences) ≡ only_or_fault wanted (fasta_of g text)
  text-remaining text ranked = ap (λ (r : Result Draft LoadFault). if_ok r (λ d. ended g wanted d.sequences)) (lines-along 1 [] (lines text)) ∙ along-ended (after_fasta_lines 1 [] (lines text)) ranked

-- ---- the bases of the wanted sequences

bases-from : (wanted : Wanted) (first : ℕ) (fasta : Bases) (k rank : ℕ) → rank ≡ first + k → slice_get (only_from wanted first fasta) k ≡ option_map (λ o. cond (is_wanted wanted rank) o None) (slice_get fasta k)
bases-from wanted first [] k rank is = refl
bases-from wanted first (o ∷ rest) zero rank is =
    let same : first ≡ rank = omega (arith, is) in
    ap {B = Option (Option (List ℕ))} (λ (n : ℕ). Some (cond (is_wanted wanted n) o None)) same
bases-from wanted first (o ∷ rest) (suc k) rank is = bases-from wanted (first + 1) rest k rank (omega (arith, is))

pub length-only : (wanted : Wanted) (first : ℕ) (fasta : Bases) → length (only_from wanted first fasta) ≡ length fasta
length-only wanted first [] = refl
length-only wanted first (o ∷ rest) = ap suc (length-only wanted (first + 1) rest)

-- without a list all are wanted
pub only-all : (first : ℕ) (fasta : Bases) → only_from None first fasta ≡ fasta
only-all first [] = refl
only-all first (o ∷ rest) = ap {B = Bases} (λ (l : Bases). o ∷ l) (only-all (first + 1) rest)

pub only-all-or-fault : (file : Result Bases LoadFault) → only_or_fault None file ≡ file
only-all-or-fault (Ok fasta) = ap {B = Result Bases LoadFault} (λ (f : Bases). Ok f) (only-all 0 fasta)
only-all-or-fault (Err f) = refl

pub length-ranks : (wanted : Wanted) (g : Sequences) (found : Summaries) → length (only wanted (held_by_rank g found)) ≡ length g
length-ranks wanted g found = length-only wanted 0 (held_by_rank g found) ∙ length-map g (λ s. option_map (λ (f : Summary). f.bases) (lookup (bytes_eq s.0) found))

only-at : (wanted : Wanted) (fasta : Bases) (seq : ℕ) (b : Bool) (o : Option (Option (List ℕ))) → is_wanted wanted seq ≡ b → slice_get fasta seq ≡ o → bases_of (only wanted fasta) seq ≡ cond b (unwrap_or o None) None
only-at wanted fasta seq b o is at =
    ap (λ (p : Option (Option (List ℕ))). unwrap_or p None) (bases-from wanted 0 fasta seq seq (omega arith) ∙ ap (option_map (λ p. cond (is_wanted wanted seq) p None)) at)
    ∙ ap (λ t. unwrap_or (option_map (λ p. cond t p None) o) None) is
    ∙ by b o
  where
    by : (b : Bool) (o : Option (Option (List ℕ))) → unwrap_or (option_map (λ p. cond b p None) o) None ≡ cond b (unwrap_or o None) None
    by true None = refl
    by true (Some p) = refl
    by false None = refl
    by false (Some p) = refl

-- a wanted sequence has its bases
pub bases-wanted : (wanted : Wanted) (fasta : Bases) (seq : ℕ) → is_wanted wanted seq ≡ true → bases_of (only wanted fasta) seq ≡ bases_of fasta seq
bases-wanted wanted fasta seq is = only-at wanted fasta seq true (slice_get fasta seq) is refl

-- and another one has none
pub bases-unwanted : (wanted : Wanted) (fasta : Bases) (seq : ℕ) → is_wanted wanted seq ≡ false → bases_of (only wanted fasta) seq ≡ None
bases-unwanted wanted fasta seq is = only-at wanted fasta seq false (slice_get fasta seq) is refl
