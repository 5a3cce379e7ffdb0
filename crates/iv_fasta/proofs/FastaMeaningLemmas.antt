-- A FASTA file has its sequences if no line has a cause, else the first fault.
use Rattle.std.proofs.Common.{◌≡◌, ◌↔◌, ◌⊎◌, inl, inr, ℕ, ◌+◌, ◌++◌, ◌==◌, ◌&&◌, Bool, true, false, not, cond, List, [], ◌∷◌, Option, None, Some, Result, Ok, Err, length, find, is_some, append_assoc, append-nil, refl, sym, ◌∙◌, ap, ap₂, subst, arith}
use Rattle.std.specs.List.{list_any, concat}
use Rattle.std.proofs.lemmas.Bool.{cond-true, cond-false, eqb-true}
use Rattle.iv_lines.specs.Chains.{if_ok}
use Rattle.iv_lines.specs.FileMeaning.{HaveNoCause, IsFirstFault}
use Rattle.iv_lines.specs.Genome.{Sequences}
use Rattle.iv_lines.specs.GenomeFile.{bad_name}
use Rattle.iv_lines.specs.Lines.{lines}
use Rattle.iv_lines.specs.Named.{name_index}
use Rattle.iv_lines.specs.declared.fault.LoadCause.{LoadCause}
use Rattle.iv_lines.specs.declared.fault.LoadCause.TheVariants as cause
use Rattle.iv_lines.specs.declared.fault.LoadFault.{LoadFault}
use Rattle.iv_lines.proofs.FileMeaningLemmas.{AreSteps, looked, ok-err, run-fault, run-value, same-err, same-ok}
use Rattle.iv_fasta.specs.Fasta.{Found, Stretch, Bases, header_name, has_wrong_length, with_bases, after_fasta_line, fasta_of}
use Rattle.iv_fasta.specs.Inside.Fasta.{is_no_base}
use Rattle.iv_fasta.specs.Inside.FastaMeaning.{is_header, before_header, sequences_from, sequences_said, line_cause, HaveRightLengths, IsFirstWrongLength, with_lengths, by_rank}

-- ---- the lines before the next header

header-ends : (before : List (List ℕ)) (line : List ℕ) → is_header line ≡ true → before_header (before ++ line ∷ []) ≡ before_header before
header-ends [] line is = cond-true _ _ _ is
header-ends (b ∷ before) line is = by (is_header b) (header-ends before line is)
  where
    by : (t : Bool) → before_header (before ++ line ∷ []) ≡ before_header before
        → cond t [] (b ∷ before_header (before ++ line ∷ [])) ≡ cond t [] (b ∷ before_header before)
    by true rest = refl
    by false rest = ap {B = List (List ℕ)} (λ (l : List (List ℕ)). b ∷ l) rest

-- a line of bases goes to what is before the next header if there is none, and else it doesn't
module _ (line : List ℕ) (is : is_header line ≡ false) where
  abbrev Goes : List (List ℕ) → ℕ → Type 0
  Goes before n =
      ((sequences_from n before ≡ []) × (before_header (before ++ line ∷ []) ≡ before_header before ++ line ∷ []))
      ⊎ ((s : List ℕ × Stretch) × (more : Found) × (sequences_from n before ≡ s ∷ more) × (before_header (before ++ line ∷ []) ≡ before_header before))

  goes : (before : List (List ℕ)) (n : ℕ) → Goes before n
  goes [] n = inl (refl, cond-false _ _ _ is)
  goes (b ∷ before) n = by (is_header b) refl (goes before (n + 1))
    where
      by : (t : Bool) → is_header b ≡ t → Goes before (n + 1) → Goes (b ∷ before) n
      by true head rest = inr (
        (header_name b, record { line = n; bases = concat (before_header before) }),
        sequences_from (n + 1) before,
        cond-true _ _ _ head,
        cond-true _ _ _ head ∙ sym (cond-true _ [] (b ∷ before_header before) head),
      )
      by false plain (inl w) = inl (
        cond-false _ _ _ plain ∙ w.0,
        cond-false _ _ _ plain ∙ ap {B = List (List ℕ)} (λ (l : List (List ℕ)). b ∷ l) w.1
            ∙ ap {B = List (List ℕ)} (λ (l : List (List ℕ)). l ++ line ∷ []) (sym (cond-false _ [] (b ∷ before_header before) plain)),
      )
      by false plain (inr w) = inr (
        w.0,
        w.1,
        cond-false _ _ _ plain ∙ w.2,
        cond-false _ _ _ plain ∙ ap {B = List (List ℕ)} (λ (l : List (List ℕ)). b ∷ l) w.3 ∙ sym (cond-false _ [] (b ∷ before_header before) plain),
      )

-- ---- one more line

concat-push : (xs : List (List ℕ)) (y : List ℕ) → concat (xs ++ y ∷ []) ≡ concat xs ++ y
concat-push [] y = append-nil y
concat-push (x ∷ xs) y = ap (λ (l : List ℕ). x ++ l) (concat-push xs y) ∙ sym (append_assoc x (concat xs) y)

-- a header begins one more sequence
header-more : (before : List (List ℕ)) (line : List ℕ) (n : ℕ) → is_header line ≡ true
    → sequences_from n (before ++ line ∷ []) ≡ sequences_from n before ++ (header_name line, record { line = n + length before; bases = [] }) ∷ []
header-more [] line n is =
    let same : n ≡ n + 0 = omega arith in
    cond-true _ _ _ is ∙ ap {B = Found} (λ (k : ℕ). (header_name line, record { line = k; bases = [] }) ∷ []) same
header-more (b ∷ before) line n is =
    let count : n + 1 + length before ≡ n + length (b ∷ before) = omega arith in
    by (is_header b)
    (header-more before line (n + 1) is ∙ ap {B = Found} (λ (k : ℕ). sequences_from (n + 1) before ++ (header_name line, record { line = k; bases = [] }) ∷ []) count)
  where
    by : (t : Bool) → sequences_from (n + 1) (before ++ line ∷ []) ≡ sequences_from (n + 1) before ++ (header_name line, record { line = n + length (b ∷ before); bases = [] }) ∷ []
        → cond t ((header_name b, record { line = n; bases = concat (before_header (before ++ line ∷ [])) }) ∷ sequences_from (n + 1) (before ++ line ∷ [])) (sequences_from (n + 1) (before ++ line ∷ []))
        ≡ cond t ((header_name b, record { line = n; bases = concat (before_header before) }) ∷ sequences_from (n + 1) before) (sequences_from (n + 1) before)
        ++ (header_name line, record { line = n + length (b ∷ before); bases = [] }) ∷ []
    by true rest =
        ap₂ (λ (l : List (List ℕ)) (f : Found). (header_name b, record { line = n; bases = concat l }) ∷ f) (header-ends before line is) rest
    by false rest = rest

-- a line of bases goes to the last sequence
bases-more : (before : List (List ℕ)) (line : List ℕ) (n : ℕ) → is_header line ≡ false → sequences_from n (before ++ line ∷ []) ≡ with_bases (sequences_from n before) line
bases-more [] line n is = cond-false _ _ _ is
bases-more (b ∷ before) line n is = by (is_header b) refl (goes line is before (n + 1)) (bases-more before line (n + 1) is)
  where
    by : (t : Bool) → is_header b ≡ t → Goes line is before (n + 1) → sequences_from (n + 1) (before ++ line ∷ []) ≡ with_bases (sequences_from (n + 1) before) line
        → sequences_from n ((b ∷ before) ++ line ∷ []) ≡ with_bases (sequences_from n (b ∷ before)) line
    by false plain w rest = cond-false _ _ _ plain ∙ rest ∙ ap {B = Found} (λ (f : Found). with_bases f line) (sym (cond-false _ _ _ plain))
    by true head (inl w) rest =
        cond-true _ _ _ head
        ∙ ap {B = Found} (λ (f : Found). (header_name b, record { line = n; bases = concat (before_header (before ++ line ∷ [])) }) ∷ f) (rest ∙ ap {B = Found} (λ (f : Found). with_bases f line) w.0)
        ∙ ap {B = Found} (λ (l : List (List ℕ)). (header_name b, record { line = n; bases = concat l }) ∷ []) w.1
        ∙ ap {B = Found} (λ (l : List ℕ). (header_name b, record { line = n; bases = l }) ∷ []) (concat-push (before_header before) line)
        ∙ ap {B = Found} (λ (f : Found). with_bases f line) (ap {B = Found} (λ (f : Found). (header_name b, record { line = n; bases = concat (before_header before) }) ∷ f) (sym w.0) ∙ sym (cond-true _ _ _ head))
    by true head (inr w) rest =
        cond-true _ _ _ head
        ∙ ap₂ (λ (l : List (List ℕ)) (f : Found). (header_name b, record { line = n; bases = concat l }) ∷ f) w.3 (rest ∙ ap {B = Found} (λ (f : Found). with_bases f line) w.2)
        ∙ ap {B = Found} (λ (f : Found). with_bases f line) (ap {B = Found} (λ (f : Found). (header_name b, record { line = n; bases = concat (before_header before) }) ∷ f) (sym w.2) ∙ sym (cond-true _ _ _ head))

-- ---- one line by its tests

-- what a line does: it is empty, a header, its name is bad or came before; no header came before, a byte is no base
abbrev acts : (e h bad again none no_base : Bool) (same more longer : Found) → Result Found LoadCause
acts e h bad again none no_base same more longer =
    cond e (Ok same)
    (cond h (cond bad (Err cause.Name) (cond again (Err cause.Repeated) (Ok more)))
    (cond none (Err cause.BasesFirst) (cond no_base (Err cause.Base) (Ok longer))))

abbrev first-of : (e h bad again none no_base : Bool) → Option LoadCause
first-of e h bad again none no_base =
    cond e None
    (cond (h && bad) (Some cause.Name)
    (cond (h && again) (Some cause.Repeated)
    (cond (not h && none) (Some cause.BasesFirst)
    (cond (not h && no_base) (Some cause.Base) None))))

acts-goes : (e h bad again none no_base : Bool) (same more longer next : Found) → first-of e h bad again none no_base ≡ None
    → (e ≡ true → same ≡ next) → (h ≡ true → more ≡ next) → (h ≡ false → longer ≡ next) → acts e h bad again none no_base same more longer ≡ Ok next
acts-goes true h bad again none no_base same more longer next is empty head bases = ap {B = Result Found LoadCause} Ok (empty refl)
acts-goes false true true again none no_base same more longer next is empty head bases = absurd (cc is)
acts-goes false true false true none no_base same more longer next is empty head bases = absurd (cc is)
acts-goes false true false false none no_base same more longer next is empty head bases = ap {B = Result Found LoadCause} Ok (head refl)
acts-goes false false bad again true no_base same more longer next is empty head bases = absurd (cc is)
acts-goes false false bad again false true same more longer next is empty head bases = absurd (cc is)
acts-goes false false bad again false false same more longer next is empty head bases = ap {B = Result Found LoadCause} Ok (bases refl)

acts-stops : (e h bad again none no_base : Bool) (same more longer : Found) (c : LoadCause) → first-of e h bad again none no_base ≡ Some c
    → acts e h bad again none no_base same more longer ≡ Err c
acts-stops true h bad again none no_base same more longer c is = absurd (cc is)
acts-stops false true true again none no_base same more longer c is = let to : cause.Name ≡ c = cc is in ap {B = Result Found LoadCause} Err to
acts-stops false true false true none no_base same more longer c is = let to : cause.Repeated ≡ c = cc is in ap {B = Result Found LoadCause} Err to
acts-stops false true false false none no_base same more longer c is = absurd (cc is)
acts-stops false false bad again true no_base same more longer c is = let to : cause.BasesFirst ≡ c = cc is in ap {B = Result Found LoadCause} Err to
acts-stops false false bad again false true same more longer c is = let to : cause.Base ≡ c = cc is in ap {B = Result Found LoadCause} Err to
acts-stops false false bad again false false same more longer c is = absurd (cc is)

-- an empty line changes nothing
bases-none : (found : Found) → with_bases found [] ≡ found
bases-none [] = refl
bases-none (s ∷ []) = ap {B = Found} (λ (l : List ℕ). (s.0, record { line = s.1.line; bases = l }) ∷ []) (append-nil s.1.bases)
bases-none (s ∷ t ∷ found) = ap {B = Found} (λ (l : Found). s ∷ l) (bases-none (t ∷ found))

empty-more : (before : List (List ℕ)) (line : List ℕ) → (length line == 0) ≡ true → sequences_said before ≡ sequences_said (before ++ line ∷ [])
empty-more before [] is = sym (bases-more before [] 1 refl ∙ bases-none (sequences_said before))
empty-more before (b ∷ line) is = let same : length (b ∷ line) ≡ 0 = eqb-true (length (b ∷ line)) 0 is in absurd (omega (arith, same))

line-acts : (n : ℕ) (found : Found) (line : List ℕ)
    → after_fasta_line n found line
    ≡ acts (length line == 0) (is_header line) (bad_name (header_name line)) (is_some (name_index found (header_name line))) (length found == 0) (list_any is_no_base line)
    found (found ++ (header_name line, record { line = n; bases = [] }) ∷ []) (with_bases found line)
unfolding after_fasta_line
line-acts n found line = refl

line-goes : (before : List (List ℕ)) (line : List ℕ) → line_cause before line ≡ None → after_fasta_line (1 + length before) (sequences_said before) line ≡ Ok (sequences_said (before ++ line ∷ []))
line-goes before line none =
    line-acts (1 + length before) (sequences_said before) line
    ∙ acts-goes _ _ _ _ _ _ _ _ _ _ none (empty-more before line) (λ is. sym (header-more before line 1 is)) (λ is. sym (bases-more before line 1 is))

line-stops : (before : List (List ℕ)) (line : List ℕ) (c : LoadCause) → line_cause before line ≡ Some c → after_fasta_line (1 + length before) (sequences_said before) line ≡ Err c
line-stops before line c is = line-acts (1 + length before) (sequences_said before) line ∙ acts-stops _ _ _ _ _ _ _ _ _ c is

-- ---- all lines

fasta-steps : AreSteps line_cause sequences_said 1 after_fasta_line
fasta-steps = record { goes = line-goes; stops = line-stops }

-- the lengths of all sequences
abbrev Lengths : Sequences → Found → Option (List ℕ × Stretch) → Result Bases LoadFault
Lengths g found o = elim o [ None ↦ Ok (by_rank g found) | Some s ↦ Err (record { line = s.1.line; cause = cause.WrongLength }) ]

module _ (g : Sequences) (text : List ℕ) where
  abbrev all : List (List ℕ)
  all = lines text

  -- if no line has a cause the lengths decide
  decided : HaveNoCause line_cause all → fasta_of g text ≡ Lengths g (sequences_said all) (find (has_wrong_length g) (sequences_said all))
  decided none = ap (λ r. if_ok r (with_lengths g)) ((run-value line_cause sequences_said after_fasta_line fasta-steps all (sequences_said all)).1 (none, refl))

  -- if one has, its fault is the first
  refused : (f : LoadFault) → IsFirstFault line_cause all f → fasta_of g text ≡ Err f
  refused f w = ap (λ r. if_ok r (with_lengths g)) ((run-fault line_cause sequences_said after_fasta_line fasta-steps all f).1 w)

  abbrev IsValue : Bases → Type 0
  IsValue f = HaveNoCause line_cause all × HaveRightLengths g (sequences_said all) × (f ≡ by_rank g (sequences_said all))

  abbrev IsFault : LoadFault → Type 0
  IsFault f = IsFirstFault line_cause all f ⊎ (HaveNoCause line_cause all × IsFirstWrongLength g (sequences_said all) f)

  value-back : (f : Bases) → IsValue f → fasta_of g text ≡ Ok f
  value-back f h = decided h.0 ∙ ap (Lengths g (sequences_said all)) h.1 ∙ ap {B = Result Bases LoadFault} Ok (sym h.2)

  fault-back : (f : LoadFault) → IsFault f → fasta_of g text ≡ Err f
  fault-back f (inl w) = refused f w
  fault-back f (inr w) = decided w.0 ∙ ap (Lengths g (sequences_said all)) w.1.first ∙ ap {B = Result Bases LoadFault} Err (sym w.1.fault)

  -- one of two: the lines have a value, or a fault
  either : (P : Type 0) → ((f : Bases) → IsValue f → P) → ((f : LoadFault) → IsFault f → P) → P
  either P value fault = by (looked line_cause all)
    where
      long : HaveNoCause line_cause all → (o : Option (List ℕ × Stretch)) → find (has_wrong_length g) (sequences_said all) ≡ o → P
      long none None right = value (by_rank g (sequences_said all)) (none, right, refl)
      long none (Some s) wrong = fault (record { line = s.1.line; cause = cause.WrongLength }) (inr (none, record { wrong = s; first = wrong; fault = refl }))

      by : HaveNoCause line_cause all ⊎ ((f : LoadFault) × IsFirstFault line_cause all f) → P
      by (inl none) = long none (find (has_wrong_length g) (sequences_said all)) refl
      by (inr w) = fault w.0 (inl w.1)

  value-there : (f : Bases) → fasta_of g text ≡ Ok f → IsValue f
  value-there f is = either (IsValue f) (λ v w. subst IsValue (same-ok v f (sym (value-back v w) ∙ is)) w) (λ e w. absurd (ok-err f e (sym is ∙ fault-back e w)))

  fault-there : (f : LoadFault) → fasta_of g text ≡ Err f → IsFault f
  fault-there f is = either (IsFault f) (λ v w. absurd (ok-err v f (sym (value-back v w) ∙ is))) (λ e w. subst IsFault (same-err {X = Bases} e f (sym (fault-back e w) ∙ is)) w)

pub fasta-value : (g : Sequences) (text : List ℕ) (f : Bases) → (fasta_of g text ≡ Ok f) ↔ (HaveNoCause line_cause (lines text) × HaveRightLengths g (sequences_said (lines text)) × (f ≡ by_rank g (sequences_said (lines text))))
fasta-value g text f = (value-there g text f, value-back g text f)

pub fasta-fault : (g : Sequences) (text : List ℕ) (f : LoadFault) → (fasta_of g text ≡ Err f) ↔ (IsFirstFault line_cause (lines text) f ⊎ (HaveNoCause line_cause (lines text) × IsFirstWrongLength g (sequences_said (lines text)) f))
fasta-fault g text f = (fault-there g text f, fault-back g text f)
