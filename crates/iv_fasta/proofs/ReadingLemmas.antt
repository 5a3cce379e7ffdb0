-- A FASTA file that is read in pieces.
use Rattle.std.proofs.Common.{◌≡◌, ℕ, ◌++◌, true, false, List, [], None, Result, Err, take, drop, sym, ◌∙◌, ap, append_assoc, append-nil, take-append-drop}
use Rattle.std.proofs.lemmas.Bool.{false≢true}
use Rattle.iv_lines.specs.Chains.{if_ok}
use Rattle.iv_lines.specs.Genome.{Sequences}
use Rattle.iv_lines.specs.declared.fault.LoadFault.{LoadFault}
use Rattle.iv_fasta.specs.Fasta.{Bases, fasta_of}
use Rattle.iv_fasta.specs.FastaReading.{Draft, Progress, Reading, Wanted, said, ended, read_on, only_or_fault}
use Rattle.iv_fasta.specs.Inside.Drafts.{Reads}
use Rattle.iv_fasta.proofs.SummaryLemmas.{only-all-or-fault}

module _ (g : Sequences) where
  abbrev outcome : Wanted → Result Draft LoadFault → Result Bases LoadFault
  outcome wanted r = if_ok r (λ d. ended g wanted d.sequences)

  -- bytes were read of which the rest waits
  pub taken-so : (old : Reading) (q : Progress) (bytes tail : List ℕ) (size : ℕ) → old.tail ≡ [] → q.wanted ≡ old.read.wanted → Reads g old.read q bytes size false → tail ≡ drop size bytes
      → (more : List ℕ) → read_on g old (bytes ++ more) ≡ read_on g (record { read = q; tail = tail }) more
  taken-so old q bytes tail size none same reads is more =
      ap (λ (t : List ℕ). outcome old.read.wanted (said g old.read (t ++ (bytes ++ more)))) none
      ∙ ap (outcome old.read.wanted) (reads more (λ e. absurd (false≢true e)))
      ∙ ap (λ (t : List ℕ). outcome old.read.wanted (said g q (t ++ more))) (sym is)
      ∙ ap (λ (w : Wanted). outcome w (said g q (tail ++ more))) (sym same)

  -- or the file is refused
  pub refused-so : (old : Reading) (bytes : List ℕ) (f : LoadFault) → old.tail ≡ [] → ((more : List ℕ) → (false ≡ true → more ≡ []) → said g old.read (bytes ++ more) ≡ Err f)
      → (more : List ℕ) → read_on g old (bytes ++ more) ≡ Err f
  refused-so old bytes f none refused more =
      ap (λ (t : List ℕ). outcome old.read.wanted (said g old.read (t ++ (bytes ++ more)))) none
      ∙ ap (outcome old.read.wanted) (refused more (λ e. absurd (false≢true e)))

  -- bytes that waited are taken with the first ones of a piece
  pub carried-so : (p : Progress) (tail none line piece more : List ℕ) (size : ℕ) → none ≡ [] → line ≡ tail ++ take size piece
      → read_on g (record { read = p; tail = tail }) (piece ++ more) ≡ read_on g (record { read = p; tail = none }) (line ++ (drop size piece ++ more))
  carried-so p tail none line piece more size empty is =
      ap (λ (t : List ℕ). outcome p.wanted (said g p (tail ++ t))) (ap (λ (t : List ℕ). t ++ more) (sym (take-append-drop size piece)) ∙ append_assoc (take size piece) (drop size piece) more)
      ∙ ap (λ (t : List ℕ). outcome p.wanted (said g p t)) (sym (append_assoc tail (take size piece) (drop size piece ++ more)))
      ∙ ap (λ (t : List ℕ). outcome p.wanted (said g p (t ++ (drop size piece ++ more)))) (sym is)
      ∙ ap (λ (t : List ℕ). outcome p.wanted (said g p (t ++ (line ++ (drop size piece ++ more))))) (sym empty)

  -- a whole text is read as one piece
  pub text-so : (old : Reading) (text : List ℕ) → ((text : List ℕ) → read_on g old text ≡ only_or_fault None (fasta_of g text)) → read_on g old (text ++ []) ≡ fasta_of g text
  text-so old text begun = ap (read_on g old) (append-nil text) ∙ begun text ∙ only-all-or-fault (fasta_of g text)
