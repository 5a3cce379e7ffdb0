-- The lines of bases after a header are joined.
use Rattle.std.proofs.Common.{◌≡◌, ◌≢◌, ℕ, ◌+◌, ◌++◌, ◌==◌, false, List, [], ◌∷◌, Result, Ok, length, append_assoc, append-nil, refl, sym, ◌∙◌, ap, arith, is_some, true≢false}
use Rattle.std.specs.Prelude.{All}
use Rattle.std.specs.List.{concat}
use Rattle.std.proofs.lemmas.Bool.{cond-true, cond-false, ne_eqb}
use Rattle.std.proofs.lemmas.List.{length_push}
use Rattle.std.proofs.lemmas.List.Elements.{All-head, All-tail}
use Rattle.iv_lines.specs.declared.fault.LoadCause.{LoadCause}
use Rattle.iv_lines.proofs.FileMeaningLemmas.{all-step}
use Rattle.iv_lines.proofs.ListLemmas.{some-cons}
use Rattle.iv_fasta.specs.Fasta.{Stretch, Found, header_name, with_bases, after_fasta_line}
use Rattle.iv_fasta.specs.Inside.Drafts.{after_fasta_lines}
use Rattle.iv_fasta.specs.Inside.Fasta.{IsNewHeader, IsBaseLine, with_joined}

-- the last sequence takes the bases
last-takes : (found : Found) (name : List ℕ) (n : ℕ) (bases line : List ℕ)
    → with_bases (found ++ (name, record { line = n; bases = bases }) ∷ []) line ≡ found ++ (name, record { line = n; bases = bases ++ line }) ∷ []
last-takes [] name n bases line = refl
last-takes (s ∷ []) name n bases line = refl
last-takes (s ∷ t ∷ found) name n bases line = ap {B = Found} (λ (l : Found). s ∷ l) (last-takes (t ∷ found) name n bases line)

some-pushed : (found : Found) (s : List ℕ × Stretch) → (length (found ++ s ∷ []) == 0) ≡ false
some-pushed found s =
    let some : length (found ++ s ∷ []) ≢ 0 = omega (arith, length_push found s) in
    ne_eqb (length (found ++ s ∷ [])) 0 some

-- a line of bases is put after the last sequence's
line-joined : (n m : ℕ) (found : Found) (name bases line : List ℕ) → IsBaseLine line
    → after_fasta_line n (found ++ (name, record { line = m; bases = bases }) ∷ []) line ≡ Ok (found ++ (name, record { line = m; bases = bases ++ line }) ∷ [])
unfolding after_fasta_line
line-joined n m found name bases [] is =
    ap {B = Result Found LoadCause} (λ (l : List ℕ). Ok (found ++ (name, record { line = m; bases = l }) ∷ [])) (sym (append-nil bases))
line-joined n m found name bases (b ∷ line) is =
    cond-false _ _ _ (some-cons b line) ∙ cond-false _ _ _ is.no_header
    ∙ cond-false _ _ _ (some-pushed found (name, record { line = m; bases = bases })) ∙ cond-false _ _ _ is.all_bases
    ∙ ap {B = Result Found LoadCause} (λ (f : Found). Ok f) (last-takes found name m bases (b ∷ line))

lines-joined : (n m : ℕ) (found : Found) (name bases : List ℕ) (ls rest : List (List ℕ)) → All IsBaseLine ls
    → after_fasta_lines n (found ++ (name, record { line = m; bases = bases }) ∷ []) (ls ++ rest)
    ≡ after_fasta_lines (n + length ls) (found ++ (name, record { line = m; bases = bases ++ concat ls }) ∷ []) rest
lines-joined n m found name bases [] rest all =
    let same : n ≡ n + 0 = omega arith in
    ap (λ (k : ℕ). after_fasta_lines k (found ++ (name, record { line = m; bases = bases }) ∷ []) rest) same
    ∙ ap (λ (l : List ℕ). after_fasta_lines (n + 0) (found ++ (name, record { line = m; bases = l }) ∷ []) rest) (sym (append-nil bases))
lines-joined n m found name bases (line ∷ ls) rest all =
    let count : n + 1 + length ls ≡ n + length (line ∷ ls) = omega arith in
    all-step after_fasta_line n _ line (ls ++ rest) _ (line-joined n m found name bases line (All-head IsBaseLine line ls all))
    ∙ lines-joined (n + 1) m found name (bases ++ line) ls rest (All-tail IsBaseLine line ls all)
    ∙ ap (λ (k : ℕ). after_fasta_lines k (found ++ (name, record { line = m; bases = (bases ++ line) ++ concat ls }) ∷ []) rest) count
    ∙ ap (λ (l : List ℕ). after_fasta_lines (n + length (line ∷ ls)) (found ++ (name, record { line = m; bases = l }) ∷ []) rest) (append_assoc bases line (concat ls))

-- a new header begins a sequence without bases
header-joined : (n : ℕ) (found : Found) (header : List ℕ) → IsNewHeader found header → after_fasta_line n found header ≡ Ok (found ++ (header_name header, record { line = n; bases = [] }) ∷ [])
unfolding after_fasta_line
header-joined n found [] is = absurd (true≢false (sym is.begins))
header-joined n found (b ∷ line) is =
    cond-false _ _ _ (some-cons b line) ∙ cond-true _ _ _ is.begins ∙ cond-false _ _ _ is.good ∙ cond-false _ _ _ (ap is_some is.new)

pub joined-lines : (n : ℕ) (found : Found) (header : List ℕ) (base_lines rest : List (List ℕ)) → IsNewHeader found header → All IsBaseLine base_lines
    → after_fasta_lines n found (header ∷ (base_lines ++ rest)) ≡ after_fasta_lines (n + 1 + length base_lines) (with_joined n found header base_lines) rest
joined-lines n found header base_lines rest is all =
    all-step after_fasta_line n found header (base_lines ++ rest) _ (header-joined n found header is)
    ∙ lines-joined (n + 1) n found (header_name header) [] base_lines rest all
