-- The files of a run, read one after another: which one is the first that is damaged.
use Rattle.std.proofs.Common.{◌≡◌, ◌∙◌, ◌⊎◌, inl, inr, ℕ, List, [], Option, None, Some, Result, Ok, Err, IfOk, IfErr, refl, sym, ap, subst}
use Rattle.std.specs.Option.{option_transpose}
use Rattle.iv_text.specs.BedFile.{Bed, bed_of}
use Rattle.iv_text.specs.BedReading.{held_bed_of, held_or_fault}
use Rattle.iv_lines.specs.Genome.{Sequences}
use Rattle.iv_lines.specs.GenomeFile.{genome_of}
use Rattle.iv_lines.specs.declared.fault.LoadFault.{LoadFault}
use Rattle.iv_lines.specs.declared.fault.LoadCause.TheVariants as cause
use Rattle.iv_fasta.specs.Fasta.{Bases, fasta_of}
use Rattle.iv_fasta.specs.FastaReading.{Wanted, only_or_fault}
use Rattle.iv_args.specs.declared.plan.Slot.TheVariants as slot
use Rattle.iv_places.specs.declared.places.HeldColumns.{HeldColumns}
use Rattle.iv_run.specs.Inside.FilesReading as reading
use Rattle.iv_run.specs.Inside.FilesReading.{damage_after, fault_in, sound_or, sound_or_none}
use Rattle.iv_run.specs.Inside.Shots.{bases_said, second_of}
use Rattle.iv_run.specs.Loading.{IsAnswer, Parsed, damage_of, parsed}
use Rattle.iv_run.specs.RunFiles.{AreForOne, AreOf, FilesRead, IsFasta, IsIfNamed, IsParsed, Reports, TakesFasta, TakesFirst, TakesSecond, held_files, report_by}
use Rattle.iv_run.specs.declared.exit_reason.CliFault.{CliFault}
use Rattle.iv_run.proofs.LoadLemmas.{IsReported, IsWhy, kept-sound, kept-why, past-first, past-genome, past-second, reports, with_bases, with_first, with_genome, with_second}
use Rattle.iv_run.proofs.FastaPieceLemmas.{whole-bases, whole-fault}

-- what a call answers
pub answer-of : {T : Type 0} (r said : Result T LoadFault) → IfOk r (λ value. said ≡ Ok value) → IfErr r (λ f. (f ≡ record { line = 0; cause = cause.Memory }) ⊎ (said ≡ Err f)) → IsAnswer r said
answer-of (Ok value) said ok err = ok
answer-of (Err f) said ok err = err

pub same-plan : (read : FilesRead) → AreForOne read read
same-plan read = record { width = refl; limit = refl; columns = refl }

-- a fault stays, whatever else it is reported of
still : (k : CliFault) (before after : Result Parsed CliFault) → (before ≡ Err k → after ≡ Err k) → IsReported k before → IsReported k after
still k before after stays (inl memory) = inl memory
still k before after stays (inr is) = inr (stays is)

module _ (w limit : ℕ) where
  -- ---- a fault of a file is there whatever the files after it are

  before-first : (first : List ℕ) (k : CliFault) (r : Result Sequences LoadFault) → with_genome w [] None None limit r ≡ Err k → with_genome w first None None limit r ≡ Err k
  before-first first k (Ok g) is = cc
  before-first first k (Err f) is = is

  before-second : (first : List ℕ) (other : Option (List ℕ)) (k : CliFault) (r : Result Sequences LoadFault) → with_genome w first None None limit r ≡ Err k → with_genome w first other None limit r ≡ Err k
  before-second first other k (Ok g) is = go (bed_of g w limit first) is
    where
      go : (r : Result Bed LoadFault) → with_first g w None None limit r ≡ Err k → with_first g w other None limit r ≡ Err k
      go (Ok bed) is = cc
      go (Err f) is = is
  before-second first other k (Err f) is = is

  before-bases : (first : List ℕ) (other bases : Option (List ℕ)) (k : CliFault) (r : Result Sequences LoadFault) → with_genome w first other None limit r ≡ Err k → with_genome w first other bases limit r ≡ Err k
  before-bases first other bases k (Ok g) is = go (bed_of g w limit first) is
    where
      past : (bed : Bed) (r : Result (Option Bed) LoadFault) → with_second g bed None limit r ≡ Err k → with_second g bed bases limit r ≡ Err k
      past bed (Ok second) is = cc
      past bed (Err f) is = is

      go : (r : Result Bed LoadFault) → with_first g w other None limit r ≡ Err k → with_first g w other bases limit r ≡ Err k
      go (Ok bed) is = past bed (second_of g w limit other) is
      go (Err f) is = is
  before-bases first other bases k (Err f) is = is

  -- ---- sound files

  module _ (sizes first : List ℕ) (g : Sequences) (genome : genome_of sizes ≡ Ok g) (other bases : Option (List ℕ)) where
    -- the first file is damaged
    report-first : (f : LoadFault) → IsWhy f (bed_of g w limit first) → IsReported (damage_of slot.First f) (parsed w sizes first other bases limit)
    report-first f why = reports slot.First (Err f) (bed_of g w limit first) _ _ _ (past-genome w sizes first limit g genome other bases) why (f, refl, refl)

    module _ (bed : Bed) (sound : bed_of g w limit first ≡ Ok bed) where
      -- the second file is damaged
      report-second : (f : LoadFault) → IsWhy f (second_of g w limit other) → IsReported (damage_of slot.Other f) (parsed w sizes first other bases limit)
      report-second f why = reports slot.Other (Err f) (second_of g w limit other) _ _ _ (past-first w sizes first limit g genome other bases bed sound) why (f, refl, refl)

      module _ (second : Option Bed) (whole : second_of g w limit other ≡ Ok second) where
        -- the FASTA file is damaged
        report-bases : (f : LoadFault) → IsWhy f (bases_said g bases) → IsReported (damage_of slot.Bases f) (parsed w sizes first other bases limit)
        report-bases f why = reports slot.Bases (Err f) (bases_said g bases) _ _ _ (past-second w sizes first limit g genome other bases bed sound second whole) why (f, refl, refl)

        -- all files are sound
        report-files : (found : Option Bases) → bases_said g bases ≡ Ok found
            → parsed w sizes first other bases limit ≡ Ok (record { genome = g; first = bed; second = second; bases = found; limit = limit })
        report-files found is = past-second w sizes first limit g genome other bases bed sound second whole ∙ ap (with_bases g bed second limit) is

-- ---- the genome file

pub sizes-step : (which : HeldColumns) (w limit : ℕ) (sizes : List ℕ) (held : Result Sequences LoadFault) → IsAnswer held (genome_of sizes)
    → AreOf None sizes [] None None (reading.with_sizes held (reading.none_read w limit which))
sizes-step which w limit sizes (Ok g) answer = (
  record { genome = g; first = record { width = w; records = [] }; second = None; bases = None; limit = limit },
  report-files w limit sizes [] g answer None None (record { width = w; records = [] }) refl None refl None refl,
  refl,
)
sizes-step which w limit sizes (Err f) answer = reports slot.Sizes (Err f) (genome_of sizes) _ _ _ refl answer (f, refl, refl)

-- ---- the first file

module _ (which : HeldColumns) (w limit : ℕ) (sizes text : List ℕ) where
  first-sound : (files : Parsed) (g : Sequences) → genome_of sizes ≡ Ok g → files ≡ held_files which None (record { genome = g; first = record { width = w; records = [] }; second = None; bases = None; limit = limit })
      → (held : Result Bed LoadFault) → IsAnswer held (held_or_fault which (bed_of g w limit text))
      → Reports which None (report_by (record files { first = sound_or held files.first }) (damage_after slot.First (fault_in held) None)) (parsed w sizes text None None limit)
  first-sound files g genome are (Ok file) answer =
      let kept = kept-sound which (bed_of g w limit text) file answer in (
        record { genome = g; first = kept.0; second = None; bases = None; limit = limit },
        report-files w limit sizes text g genome None None kept.0 kept.1 None refl None refl,
        (λ i. record { genome = (are i).genome; first = kept.2 i; second = (are i).second; bases = (are i).bases; limit = (are i).limit }),
      )
  first-sound files g genome are (Err f) answer = report-first w limit sizes text g genome None None f (kept-why which (bed_of g w limit text) f answer)

  first-step : (files : Parsed) (damage : Option CliFault) (held : Result Bed LoadFault) → IsAnswer held (held_or_fault which (bed_of files.genome w limit text))
      → Reports which None (report_by files damage) (parsed w sizes [] None None limit)
      → Reports which None (report_by (record files { first = sound_or held files.first }) (damage_after slot.First (fault_in held) damage)) (parsed w sizes text None None limit)
  first-step files (Some k) (Ok file) answer so_far = still k _ _ (before-first w limit text k (genome_of sizes)) so_far
  first-step files (Some k) (Err f) answer so_far = still k _ _ (before-first w limit text k (genome_of sizes)) so_far
  first-step files None held answer so_far = go (genome_of sizes) refl so_far.1
    where
      go : (r : Result Sequences LoadFault) → genome_of sizes ≡ r → with_genome w [] None None limit r ≡ Ok so_far.0
          → Reports which None (report_by (record files { first = sound_or held files.first }) (damage_after slot.First (fault_in held) None)) (parsed w sizes text None None limit)
      go (Ok g) genome is =
          let same : record { genome = g; first = record { width = w; records = [] }; second = None; bases = None; limit = limit } ≡ so_far.0 = cc is in
          let are = so_far.2 ∙ ap (held_files which None) (sym same) in
          first-sound files g genome are held (subst (λ (s : Sequences). IsAnswer held (held_or_fault which (bed_of s w limit text))) (ap (λ (p : Parsed). p.genome) are) answer)
      go (Err f) genome is = cc

-- no file is damaged, so this one isn't
first-is : (said : Result Bed LoadFault) (damage : Option CliFault) (held : Result Bed LoadFault) (old : Bed) → IsAnswer held said → damage_after slot.First (fault_in held) damage ≡ None
    → IsAnswer (Ok (sound_or held old)) said
first-is said damage (Ok file) old answer none = answer
first-is said None (Err f) old answer none = absurd (cc none)
first-is said (Some k) (Err f) old answer none = absurd (cc none)

pub takes-first : (text : List ℕ) (old : FilesRead) (held : Result Bed LoadFault) → IsParsed old.columns old.files.genome old.width old.files.limit text held
    → TakesFirst text old (reading.with_first held old)
takes-first text old held answer = record {
  plan = record { width = refl; limit = refl; columns = refl };
  sound = first-is (held_bed_of old.columns old.files.genome old.width old.files.limit text) old.damage held old.files.first answer;
  are = λ sizes so_far. first-step old.columns old.width old.files.limit sizes text old.files old.damage held answer so_far;
}

-- ---- the second file

module _ (which : HeldColumns) (w limit : ℕ) (sizes first text : List ℕ) where
  named-why : (g : Sequences) (f : LoadFault) → IsWhy f (bed_of g w limit text) → IsWhy f (second_of g w limit (Some text))
  named-why g f (inl memory) = inl memory
  named-why g f (inr is) = inr (ap (λ (r : Result Bed LoadFault). option_transpose (Some r)) is)

  second-sound : (files : Parsed) (g : Sequences) (bed : Bed) → genome_of sizes ≡ Ok g → bed_of g w limit first ≡ Ok bed
      → files ≡ held_files which None (record { genome = g; first = bed; second = None; bases = None; limit = limit })
      → (held : Result Bed LoadFault) → IsAnswer held (held_or_fault which (bed_of g w limit text))
      → Reports which None (report_by (record files { second = sound_or_none held files.second }) (damage_after slot.Other (fault_in held) None)) (parsed w sizes first (Some text) None limit)
  second-sound files g bed genome sound are (Ok file) answer =
      let kept = kept-sound which (bed_of g w limit text) file answer in (
        record { genome = g; first = bed; second = Some kept.0; bases = None; limit = limit },
        report-files w limit sizes first g genome (Some text) None bed sound (Some kept.0) (ap (λ (r : Result Bed LoadFault). option_transpose (Some r)) kept.1) None refl,
        (λ i. record { genome = (are i).genome; first = (are i).first; second = Some (kept.2 i); bases = (are i).bases; limit = (are i).limit }),
      )
  second-sound files g bed genome sound are (Err f) answer =
      report-second w limit sizes first g genome (Some text) None bed sound f (named-why g f (kept-why which (bed_of g w limit text) f answer))

  second-step : (files : Parsed) (damage : Option CliFault) (held : Result Bed LoadFault) → IsAnswer held (held_or_fault which (bed_of files.genome w limit text))
      → Reports which None (report_by files damage) (parsed w sizes first None None limit)
      → Reports which None (report_by (record files { second = sound_or_none held files.second }) (damage_after slot.Other (fault_in held) damage)) (parsed w sizes first (Some text) None limit)
  second-step files (Some k) (Ok file) answer so_far = still k _ _ (before-second w limit first (Some text) k (genome_of sizes)) so_far
  second-step files (Some k) (Err f) answer so_far = still k _ _ (before-second w limit first (Some text) k (genome_of sizes)) so_far
  second-step files None held answer so_far = go (genome_of sizes) refl so_far.1
    where
      past : (g : Sequences) → genome_of sizes ≡ Ok g → (r : Result Bed LoadFault) → bed_of g w limit first ≡ r → with_first g w None None limit r ≡ Ok so_far.0
          → Reports which None (report_by (record files { second = sound_or_none held files.second }) (damage_after slot.Other (fault_in held) None)) (parsed w sizes first (Some text) None limit)
      past g genome (Ok bed) sound is =
          let same : record { genome = g; first = bed; second = None; bases = None; limit = limit } ≡ so_far.0 = cc is in
          let are = so_far.2 ∙ ap (held_files which None) (sym same) in
          second-sound files g bed genome sound are held (subst (λ (s : Sequences). IsAnswer held (held_or_fault which (bed_of s w limit text))) (ap (λ (p : Parsed). p.genome) are) answer)
      past g genome (Err f) sound is = cc

      go : (r : Result Sequences LoadFault) → genome_of sizes ≡ r → with_genome w first None None limit r ≡ Ok so_far.0
          → Reports which None (report_by (record files { second = sound_or_none held files.second }) (damage_after slot.Other (fault_in held) None)) (parsed w sizes first (Some text) None limit)
      go (Ok g) genome is = past g genome (bed_of g w limit first) refl is
      go (Err f) genome is = cc

second-is : (which : HeldColumns) (g : Sequences) (w limit : ℕ) (text : List ℕ) (damage : Option CliFault) (held : Result Bed LoadFault) (old : Option Bed) → IsParsed which g w limit text held
    → damage_after slot.Other (fault_in held) damage ≡ None → IsIfNamed (λ bytes file. IsParsed which g w limit bytes (Ok file)) (Some text) (sound_or_none held old)
second-is which g w limit text damage (Ok file) old answer none = answer
second-is which g w limit text None (Err f) old answer none = absurd (cc none)
second-is which g w limit text (Some k) (Err f) old answer none = absurd (cc none)

pub takes-second : (text : List ℕ) (old : FilesRead) (held : Result Bed LoadFault) → IsParsed old.columns old.files.genome old.width old.files.limit text held
    → TakesSecond (Some text) old (reading.with_second held old)
takes-second text old held answer = record {
  plan = record { width = refl; limit = refl; columns = refl };
  sound = second-is old.columns old.files.genome old.width old.files.limit text old.damage held old.files.second answer;
  are = λ sizes first so_far. second-step old.columns old.width old.files.limit sizes first text old.files old.damage held answer so_far;
}

-- ---- the FASTA file

module _ (which : HeldColumns) (wanted : Wanted) (w limit : ℕ) (sizes first : List ℕ) (other : Option (List ℕ)) (text : List ℕ) where
  bases-why : (g : Sequences) (f : LoadFault) → IsWhy f (only_or_fault wanted (fasta_of g text)) → IsWhy f (bases_said g (Some text))
  bases-why g f (inl memory) = inl memory
  bases-why g f (inr is) = inr (ap (λ (r : Result Bases LoadFault). option_transpose (Some r)) (whole-fault wanted (fasta_of g text) f is))

  bases-sound : (files : Parsed) (g : Sequences) (bed : Bed) (second : Option Bed) → genome_of sizes ≡ Ok g → bed_of g w limit first ≡ Ok bed → second_of g w limit other ≡ Ok second
      → files ≡ held_files which None (record { genome = g; first = bed; second = second; bases = None; limit = limit })
      → (held : Result Bases LoadFault) → IsAnswer held (only_or_fault wanted (fasta_of g text))
      → Reports which wanted (report_by (record files { bases = sound_or_none held files.bases }) (damage_after slot.Bases (fault_in held) None)) (parsed w sizes first other (Some text) limit)
  bases-sound files g bed second genome sound whole are (Ok found) answer =
      let kept = whole-bases wanted (fasta_of g text) found answer in (
        record { genome = g; first = bed; second = second; bases = Some kept.0; limit = limit },
        report-files w limit sizes first g genome other (Some text) bed sound second whole (Some kept.0) (ap (λ (r : Result Bases LoadFault). option_transpose (Some r)) kept.1),
        (λ i. record { genome = (are i).genome; first = (are i).first; second = (are i).second; bases = Some (kept.2 i); limit = (are i).limit }),
      )
  bases-sound files g bed second genome sound whole are (Err f) answer =
      report-bases w limit sizes first g genome other (Some text) bed sound second whole f (bases-why g f answer)

  bases-step : (files : Parsed) (damage : Option CliFault) (held : Result Bases LoadFault) → IsAnswer held (only_or_fault wanted (fasta_of files.genome text))
      → Reports which None (report_by files damage) (parsed w sizes first other None limit)
      → Reports which wanted (report_by (record files { bases = sound_or_none held files.bases }) (damage_after slot.Bases (fault_in held) damage)) (parsed w sizes first other (Some text) limit)
  bases-step files (Some k) (Ok found) answer so_far = still k _ _ (before-bases w limit first other (Some text) k (genome_of sizes)) so_far
  bases-step files (Some k) (Err f) answer so_far = still k _ _ (before-bases w limit first other (Some text) k (genome_of sizes)) so_far
  bases-step files None held answer so_far = go (genome_of sizes) refl so_far.1
    where
      Said : Type 0
      Said = Reports which wanted (report_by (record files { bases = sound_or_none held files.bases }) (damage_after slot.Bases (fault_in held) None)) (parsed w sizes first other (Some text) limit)

      past-both : (g : Sequences) (bed : Bed) → genome_of sizes ≡ Ok g → bed_of g w limit first ≡ Ok bed → (r : Result (Option Bed) LoadFault) → second_of g w limit other ≡ r
          → with_second g bed None limit r ≡ Ok so_far.0 → Said
      past-both g bed genome sound (Ok second) whole is =
          let same : record { genome = g; first = bed; second = second; bases = None; limit = limit } ≡ so_far.0 = cc is in
          let are = so_far.2 ∙ ap (held_files which None) (sym same) in
          bases-sound files g bed second genome sound whole are held (subst (λ (s : Sequences). IsAnswer held (only_or_fault wanted (fasta_of s text))) (ap (λ (p : Parsed). p.genome) are) answer)
      past-both g bed genome sound (Err f) whole is = cc

      past : (g : Sequences) → genome_of sizes ≡ Ok g → (r : Result Bed LoadFault) → bed_of g w limit first ≡ r → with_first g w other None limit r ≡ Ok so_far.0 → Said
      past g genome (Ok bed) sound is = past-both g bed genome sound (second_of g w limit other) refl is
      past g genome (Err f) sound is = cc

      go : (r : Result Sequences LoadFault) → genome_of sizes ≡ r → with_genome w first other None limit r ≡ Ok so_far.0 → Said
      go (Ok g) genome is = past g genome (bed_of g w limit first) refl is
      go (Err f) genome is = cc

bases-are : (wanted : Wanted) (g : Sequences) (text : List ℕ) (damage : Option CliFault) (held : Result Bases LoadFault) (old : Option Bases) → IsFasta wanted g text held
    → damage_after slot.Bases (fault_in held) damage ≡ None → IsIfNamed (λ bytes found. IsFasta wanted g bytes (Ok found)) (Some text) (sound_or_none held old)
bases-are wanted g text damage (Ok found) old answer none = answer
bases-are wanted g text None (Err f) old answer none = absurd (cc none)
bases-are wanted g text (Some k) (Err f) old answer none = absurd (cc none)

pub takes-bases : (wanted : Wanted) (text : List ℕ) (old : FilesRead) (held : Result Bases LoadFault) → IsFasta wanted old.files.genome text held
    → TakesFasta wanted (Some text) old (reading.with_bases held old)
takes-bases wanted text old held answer = record {
  plan = record { width = refl; limit = refl; columns = refl };
  sound = bases-are wanted old.files.genome text old.damage held old.files.bases answer;
  first = refl;
  are = λ sizes first second so_far. bases-step old.columns wanted old.width old.files.limit sizes first second text old.files old.damage held answer so_far;
}

-- ---- files that may be left out

pub no-second : (old : FilesRead) → TakesSecond None old old
no-second old = record { plan = same-plan old; sound = λ none. tt; are = λ sizes first so_far. so_far }

pub no-bases : (old : FilesRead) → TakesFasta None None old old
no-bases old = record { plan = same-plan old; sound = λ none. tt; first = refl; are = λ sizes first second so_far. so_far }
