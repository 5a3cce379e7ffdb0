-- A FASTA file that comes in pieces.
use Rattle.std.proofs.Common.{◌≡◌, ◌∙◌, ◌⊎◌, inl, inr, ℕ, ◌+◌, ◌<◌, ◌≤◌, ◌++◌, List, [], None, Result, Ok, Err, IfOk, IfErr, length, refl, sym, ap, append_assoc, append-nil, length-append, arith}
use Rattle.iv_lines.specs.Genome.{Sequences, AreRanked}
use Rattle.iv_lines.specs.declared.fault.LoadFault.{LoadFault}
use Rattle.iv_lines.specs.declared.fault.LoadCause.TheVariants as cause
use Rattle.iv_fasta.specs.Fasta.{Bases, fasta_of}
use Rattle.iv_fasta.specs.FastaReading.{Reading, Wanted, only, only_or_fault, read_on, size_of}
use Rattle.iv_fasta.proofs.SummaryLemmas.{only-all-or-fault}
use Rattle.iv_run.specs.FastaPieces.{FastaSoFar}
use Rattle.iv_run.specs.RunFiles.{IsFasta}

module _ (wanted : Wanted) (g : Sequences) where
  -- the bases of the wanted sequences of a file, or its first fault
  abbrev wanted_of : List ℕ → Result Bases LoadFault
  wanted_of text = only_or_fault wanted (fasta_of g text)

  -- nothing has come
  pub fasta-begun : (r : Reading) → ((genome : Sequences) (text : List ℕ) → AreRanked genome → read_on genome r text ≡ only_or_fault wanted (fasta_of genome text)) → size_of r ≡ 1 → FastaSoFar wanted g [] (Ok r)
  fasta-begun r begun size = (omega (arith, size), λ more ranked. begun g more ranked)

  -- a piece more has come
  module _ (front piece : List ℕ) where
    pub fasta-more : (r next : Reading) → FastaSoFar wanted g front (Ok r) → size_of next ≤ size_of r + length piece
        → ((more : List ℕ) → read_on g r (piece ++ more) ≡ read_on g next more) → FastaSoFar wanted g (front ++ piece) (Ok next)
    fasta-more r next known few took = (
      omega (arith, known.0, few, length-append front piece),
      λ more ranked. sym (took more) ∙ known.1 (piece ++ more) ranked ∙ ap wanted_of (sym (append_assoc front piece more)),
    )

    pub fasta-fault : (r : Reading) (f : LoadFault) → FastaSoFar wanted g front (Ok r)
        → (f ≡ record { line = 0; cause = cause.Memory }) ⊎ ((more : List ℕ) → read_on g r (piece ++ more) ≡ Err f) → FastaSoFar wanted g (front ++ piece) (Err f)
    fasta-fault r f known (inl memory) = inl memory
    fasta-fault r f known (inr refused) = inr (λ more ranked. ap wanted_of (append_assoc front piece more) ∙ sym (known.1 (piece ++ more) ranked) ∙ refused more)

    -- after a fault it stays
    pub fasta-still : (f : LoadFault) → FastaSoFar wanted g front (Err f) → FastaSoFar wanted g (front ++ piece) (Err f)
    fasta-still f (inl memory) = inl memory
    fasta-still f (inr refused) = inr (λ more ranked. ap wanted_of (append_assoc front piece more) ∙ refused (piece ++ more) ranked)

  pub fasta-few : (front : List ℕ) (r : Result Reading LoadFault) (n : ℕ) → FastaSoFar wanted g front r → 1 + length front < n → IfOk r (λ d. size_of d < n)
  fasta-few front (Ok r) n known few = omega (arith, known.0, few)
  fasta-few front (Err f) n known few = tt

  -- all has come
  module _ (text : List ℕ) (ranked : AreRanked g) where
    pub fasta-file : (r : Reading) (f : Bases) → FastaSoFar wanted g text (Ok r) → read_on g r [] ≡ Ok f → IsFasta wanted g text (Ok f)
    fasta-file r f known is = ap wanted_of (sym (append-nil text)) ∙ sym (known.1 [] ranked) ∙ is

    pub fasta-damaged : (f : LoadFault) → FastaSoFar wanted g text (Err f) → IsFasta wanted g text (Err f)
    fasta-damaged f (inl memory) = inl memory
    fasta-damaged f (inr refused) = inr (ap wanted_of (sym (append-nil text)) ∙ refused [] ranked)

    pub fasta-end_fault : (r : Reading) (f : LoadFault) → FastaSoFar wanted g text (Ok r)
        → (f ≡ record { line = 0; cause = cause.Memory }) ⊎ (read_on g r [] ≡ Err f) → IsFasta wanted g text (Err f)
    fasta-end_fault r f known (inl memory) = inl memory
    fasta-end_fault r f known (inr refused) = inr (ap wanted_of (sym (append-nil text)) ∙ sym (known.1 [] ranked) ∙ refused)

-- all bytes at once
pub fasta-parsed : (g : Sequences) (text : List ℕ) (r : Result Bases LoadFault) → IfOk r (λ f. fasta_of g text ≡ Ok f)
    → IfErr r (λ f. (f ≡ record { line = 0; cause = cause.Memory }) ⊎ (fasta_of g text ≡ Err f)) → IsFasta None g text r
fasta-parsed g text (Ok f) ok err = only-all-or-fault (fasta_of g text) ∙ ok
fasta-parsed g text (Err f) ok (inl memory) = inl memory
fasta-parsed g text (Err f) ok (inr refused) = inr (only-all-or-fault (fasta_of g text) ∙ refused)

-- ---- a FASTA file of which wanted sequences are held

-- its fault is that of the whole file
pub whole-fault : (wanted : Wanted) (r : Result Bases LoadFault) (f : LoadFault) → only_or_fault wanted r ≡ Err f → r ≡ Err f
whole-fault wanted (Ok fasta) f is = cc
whole-fault wanted (Err e) f is = is

pub whole-bases : (wanted : Wanted) (r : Result Bases LoadFault) (found : Bases) → only_or_fault wanted r ≡ Ok found → (whole : Bases) × (r ≡ Ok whole) × (found ≡ only wanted whole)
whole-bases wanted (Ok fasta) found is = let same : only wanted fasta ≡ found = cc in (fasta, refl, sym same)
whole-bases wanted (Err e) found is = cc
