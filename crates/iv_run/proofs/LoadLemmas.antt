-- Damaged files.
use Rattle.std.proofs.Common.{◌≡◌, ℕ, List, Option, Result, Ok, Err, refl, sym, ap, subst, ◌∙◌, ◌⊎◌, inl, inr}
use Rattle.iv_lines.specs.Genome.{Sequences}
use Rattle.iv_lines.specs.GenomeFile.{genome_of}
use Rattle.iv_text.specs.BedFile.{Bed, bed_of}
use Rattle.iv_lines.specs.declared.fault.LoadFault.{LoadFault}
use Rattle.iv_lines.specs.declared.fault.LoadCause.{LoadCause}
use Rattle.iv_lines.specs.declared.fault.LoadCause.TheVariants as cause
use Rattle.iv_places.specs.HeldColumns.{held_bed}
use Rattle.iv_places.specs.declared.places.HeldColumns.{HeldColumns}
use Rattle.iv_run.specs.declared.exit_reason.CliFault.{CliFault}
use Rattle.iv_run.specs.declared.exit_reason.CliFault.TheVariants.{Damaged, Memory}
use Rattle.iv_args.specs.declared.plan.Slot.{Slot}
use Rattle.iv_args.specs.declared.plan.Slot.TheVariants.{Sizes, First, Other, Bases}
use Rattle.iv_fasta.specs.Fasta as Fasta
use Rattle.iv_lines.specs.Chains.{if_ok, map_fault}
use Rattle.iv_run.specs.Inside.Shots.{bases_said, second_of}
use Rattle.iv_run.specs.Loading.{IsAnswer, Parsed, parsed, fault_of, damage_of}
use Rattle.iv_text.specs.BedReading.{held_or_fault}

-- a fault is reported as damage, unless it is out of memory
reported : (c : LoadCause) (damaged : CliFault) → (c ≡ cause.Memory) ⊎ (fault_of c damaged ≡ damaged)
reported cause.Memory damaged = inl refl
reported c damaged = inr refl

-- why a file's fault is reported: out of memory, or the fault of the file's text
abbrev pub IsWhy : {T : Type 0} → LoadFault → Result T LoadFault → Type 0
IsWhy f said = (f ≡ record { line = 0; cause = cause.Memory }) ⊎ (said ≡ Err f)

-- a fault of one file is out of memory, or what holds of the damage that the text shows, if that is the reason, holds of it
pub reported-by : {W : Type 0} (slot : Slot) (f : LoadFault) (P : CliFault → Type 0)
    → (W → P (Damaged slot f)) → (f ≡ record { line = 0; cause = cause.Memory }) ⊎ W → (damage_of slot f ≡ Memory) ⊎ P (damage_of slot f)
reported-by slot f P leads (inl memory) = inl (ap (damage_of slot) memory)
reported-by slot f P leads (inr is) = elim (reported f.cause (Damaged slot f)) [
  | inl memory ↦ inl (ap (λ c. fault_of c (Damaged slot f)) memory)
  | inr same ↦ inr (subst P (sym same) (leads is))
]

-- ---- the first damaged file

-- the files once the FASTA file is read, or the fault of that
abbrev pub with_bases : Sequences → Bed → Option Bed → ℕ → Result (Option Fasta.Bases) LoadFault → Result Parsed CliFault
with_bases g first second limit read =
    if_ok (map_fault (Damaged Bases) read) (λ bases. Ok (record { genome = g; first = first; second = second; bases = bases; limit = limit }))

-- the files once the second file is read, or the fault of the first damaged one from there on
abbrev pub with_second : Sequences → Bed → Option (List ℕ) → ℕ → Result (Option Bed) LoadFault → Result Parsed CliFault
with_second g first bases limit read = if_ok (map_fault (Damaged Other) read) (λ second. with_bases g first second limit (bases_said g bases))

-- the files once the first file is read, or the fault of the first damaged one from there on
abbrev pub with_first : Sequences → ℕ → Option (List ℕ) → Option (List ℕ) → ℕ → Result Bed LoadFault → Result Parsed CliFault
with_first g width other bases limit read = if_ok (map_fault (Damaged First) read) (λ first. with_second g first bases limit (second_of g width limit other))

-- the files once the genome file is read, or the fault of the first damaged one
abbrev pub with_genome : ℕ → List ℕ → Option (List ℕ) → Option (List ℕ) → ℕ → Result Sequences LoadFault → Result Parsed CliFault
with_genome width first other bases limit read = if_ok (map_fault (Damaged Sizes) read) (λ g. with_first g width other bases limit (bed_of g width limit first))

-- the genome file is sound
module _ (width : ℕ) (sizes text : List ℕ) (limit : ℕ) (g : Sequences) (genome : genome_of sizes ≡ Ok g) (other bases : Option (List ℕ)) where
  pub past-genome : parsed width sizes text other bases limit ≡ with_first g width other bases limit (bed_of g width limit text)
  past-genome = ap (with_genome width text other bases limit) genome

  -- the first file is sound
  module _ (bed : Bed) (sound : bed_of g width limit text ≡ Ok bed) where
    pub past-first : parsed width sizes text other bases limit ≡ with_second g bed bases limit (second_of g width limit other)
    past-first = past-genome ∙ ap (with_first g width other bases limit) sound

    -- the second file is sound, or there is none
    pub past-second : (second : Option Bed) → second_of g width limit other ≡ Ok second → parsed width sizes text other bases limit ≡ with_bases g bed second limit (bases_said g bases)
    past-second second whole = past-first ∙ ap (with_second g bed bases limit) whole

-- a file of a slot is damaged, and this is the report
abbrev pub IsDamage : {T : Type 0} → Slot → Result T LoadFault → CliFault → Type 0
IsDamage slot said k = (why : LoadFault) × (said ≡ Err why) × (k ≡ damage_of slot why)

-- this is reported of all files: the fault of the first damaged one, or out of memory
abbrev pub IsReported : CliFault → Result Parsed CliFault → Type 0
IsReported k all = (k ≡ Memory) ⊎ (all ≡ Err k)

-- it is the report of all files, if those before it are sound
pub reports : {T : Type 0} (slot : Slot) (answer said : Result T LoadFault) (rest : T → Result Parsed CliFault) (all : Result Parsed CliFault) (k : CliFault)
    → all ≡ if_ok (map_fault (Damaged slot) said) rest → IsAnswer answer said → IsDamage slot answer k → IsReported k all
reports {T} slot answer said rest all k all_is is damage =
    let why : IsWhy damage.0 said = rw damage.1 at is in
    subst (λ (j : CliFault). IsReported j all) (sym damage.2)
    (reported-by slot damage.0 (λ j. all ≡ Err j) (λ e. all_is ∙ ap (λ (r : Result T LoadFault). if_ok (map_fault (Damaged slot) r) rest) e) why)

-- ---- files of which the records are held

pub kept-sound : (which : HeldColumns) (r : Result Bed LoadFault) (file : Bed) → held_or_fault which r ≡ Ok file → (bed : Bed) × (r ≡ Ok bed) × (file ≡ held_bed which bed)
kept-sound which (Ok bed) file is = let same : held_bed which bed ≡ file = cc in (bed, refl, sym same)
kept-sound which (Err f) file is = cc

pub kept-why : (which : HeldColumns) (r : Result Bed LoadFault) (f : LoadFault) → IsAnswer {T = Bed} (Err f) (held_or_fault which r) → IsWhy f r
kept-why which r f (inl memory) = inl memory
kept-why which (Ok bed) f (inr is) = cc
kept-why which (Err e) f (inr is) = let same : e ≡ f = cc in inr (ap Err same)
