-- A BED file that comes in pieces.
use Rattle.std.proofs.Common.{◌≡◌, ◌∙◌, ◌⊎◌, inl, inr, ℕ, ◌+◌, ◌<◌, ◌≤◌, ◌++◌, List, [], Result, Ok, Err, IfOk, length, sym, ap, subst, append_assoc, append-nil, length-append, arith}
use Rattle.iv_text.specs.BedFile.{Bed, Draft}
use Rattle.iv_lines.specs.Genome.{Sequences}
use Rattle.iv_places.specs.declared.places.HeldColumns.{HeldColumns}
use Rattle.iv_text.specs.BedReading.{AreSoundLines, Reading, begun, read_on, held_bed_of, size_of, finished}
use Rattle.iv_lines.specs.declared.fault.LoadFault.{LoadFault}
use Rattle.iv_lines.specs.declared.fault.LoadCause.TheVariants as cause
use Rattle.iv_text.proofs.BedReadingLemmas.{begun-sound, whole-file}
use Rattle.iv_run.specs.Loading.{IsAnswer}
use Rattle.iv_run.specs.Pieces.{SaysSoFar}

module _ (which : HeldColumns) (g : Sequences) (limit : ℕ) where
  -- nothing has come
  pub says-begun : (r : Reading) → r ≡ begun → SaysSoFar which g limit [] (Ok r)
  says-begun r is = (
    subst (λ (s : Reading). AreSoundLines which g limit s.read) (sym is) (begun-sound which g limit),
    omega (arith, ap size_of is),
    λ more. ap (λ (s : Reading). read_on which g limit s more) (sym is),
  )

  -- a piece more has come
  module _ (front piece : List ℕ) where
    joined : (more : List ℕ) → read_on which g limit begun ((front ++ piece) ++ more) ≡ read_on which g limit begun (front ++ (piece ++ more))
    joined more = ap (read_on which g limit begun) (append_assoc front piece more)

    pub says-more : (r next : Reading) → SaysSoFar which g limit front (Ok r) → AreSoundLines which g limit next.read → size_of next ≤ size_of r + length piece
        → ((more : List ℕ) → read_on which g limit r (piece ++ more) ≡ read_on which g limit next more) → SaysSoFar which g limit (front ++ piece) (Ok next)
    says-more r next says sound few took = (
      sound,
      omega (arith, says.1, few, length-append front piece),
      λ more. joined more ∙ says.2 (piece ++ more) ∙ took more,
    )

    pub says-fault : (r : Reading) (f : LoadFault) → SaysSoFar which g limit front (Ok r)
        → (f ≡ record { line = 0; cause = cause.Memory }) ⊎ ((more : List ℕ) → read_on which g limit r (piece ++ more) ≡ Err f) → SaysSoFar which g limit (front ++ piece) (Err f)
    says-fault r f says (inl memory) = inl memory
    says-fault r f says (inr refused) = inr (λ more. joined more ∙ says.2 (piece ++ more) ∙ refused more)

    -- after a fault it stays
    pub says-still : (f : LoadFault) → SaysSoFar which g limit front (Err f) → SaysSoFar which g limit (front ++ piece) (Err f)
    says-still f (inl memory) = inl memory
    says-still f (inr refused) = inr (λ more. joined more ∙ refused (piece ++ more))

  -- what is held is sound
  pub says-sound : (front : List ℕ) (r : Result Reading LoadFault) → SaysSoFar which g limit front r → IfOk r (λ d. AreSoundLines which g limit d.read)
  says-sound front (Ok r) says = says.0
  says-sound front (Err f) says = tt

  -- no more lines have come than bytes, and one
  pub says-few : (front : List ℕ) (r : Result Reading LoadFault) (n : ℕ) → SaysSoFar which g limit front r → 1 + length front < n → IfOk r (λ d. size_of d < n)
  says-few front (Ok r) n says few = omega (arith, says.1, few)
  says-few front (Err f) n says few = tt

  -- so there is room for a piece more
  pub says-room : (front piece : List ℕ) (r : Result Reading LoadFault) (n : ℕ) → SaysSoFar which g limit front r → 1 + length front + length piece < n
      → IfOk r (λ d. size_of d + length piece < n)
  says-room front piece (Ok r) n says few = omega (arith, says.1, few)
  says-room front piece (Err f) n says few = tt

  -- all has come
  module _ (width : ℕ) (text : List ℕ) where
    whole : (r : Result Draft LoadFault) → read_on which g limit begun (text ++ []) ≡ r → held_bed_of which g width limit text ≡ finished which width r
    whole r is =
        sym (whole-file which g limit width text)
        ∙ ap (λ (t : List ℕ). finished which width (read_on which g limit begun t)) (sym (append-nil text))
        ∙ ap (finished which width) is

    pub keeps-file : (r : Reading) (file : Bed) → SaysSoFar which g limit text (Ok r) → finished which width (read_on which g limit r []) ≡ Ok file → IsAnswer (Ok file) (held_bed_of which g width limit text)
    keeps-file r file says is = whole (read_on which g limit r []) (says.2 []) ∙ is

    pub keeps-fault : (f : LoadFault) → SaysSoFar which g limit text (Err f) → IsAnswer {T = Bed} (Err f) (held_bed_of which g width limit text)
    keeps-fault f (inl memory) = inl memory
    keeps-fault f (inr refused) = inr (whole (Err f) (refused []))

    pub keeps-end_fault : (r : Reading) (f : LoadFault) → SaysSoFar which g limit text (Ok r)
        → (f ≡ record { line = 0; cause = cause.Memory }) ⊎ (read_on which g limit r [] ≡ Err f) → IsAnswer {T = Bed} (Err f) (held_bed_of which g width limit text)
    keeps-end_fault r f says (inl memory) = inl memory
    keeps-end_fault r f says (inr refused) = inr (whole (Err f) (says.2 [] ∙ refused))
