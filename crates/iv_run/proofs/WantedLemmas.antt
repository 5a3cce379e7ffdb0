-- A run for which only the bases of sequences that a record is on are held.
use Rattle.std.proofs.Common.{◌≡◌, ◌∙◌, ℕ, ◌++◌, Bool, true, List, [], ◌∷◌, Option, None, Some, Result, Ok, Err, unwrap_or, refl, sym, ap, ap₂, subst}
use Rattle.std.specs.List.{flat_map}
use Rattle.std.specs.Option.{is_some, option_map}
use Rattle.std.proofs.lemmas.List.Elements.{All-head, All-tail}
use Rattle.iv_bytes.specs.Sinks.{SinkState}
use Rattle.iv_text.specs.BedFile.{Bed}
use Rattle.iv_lines.specs.Genome.{Sequences}
use Rattle.iv_lines.specs.Ordered.{ordered}
use Rattle.iv_lines.specs.RecordValue.{RecordValue}
use Rattle.iv_lines.specs.declared.fault.Fault.{Fault}
use Rattle.iv_lines.proofs.OrderedLemmas.{ordered-all}
use Rattle.iv_fasta.specs.Fasta.{Bases}
use Rattle.iv_fasta.specs.FastaReading.{Wanted, is_wanted, only}
use Rattle.iv_fasta.proofs.RowLemmas.{row-wanted}
use Rattle.iv_fasta.proofs.SummaryLemmas.{only-all}
use Rattle.iv_places.specs.HeldColumns.{held_bed}
use Rattle.iv_places.specs.declared.places.HeldColumns.{HeldColumns}
use Rattle.iv_places.specs.declared.places.HeldColumns.TheVariants as held
use Rattle.iv_places.proofs.BareLemmas.{ordered-bare}
use Rattle.iv_text.proofs.BedReadingLemmas.{all-held}
use Rattle.iv_view.specs.Arguments.{read_arguments}
use Rattle.iv_view.specs.Views.{kept_text, written_rows}
use Rattle.iv_view.specs.declared.view.View.{View}
use Rattle.iv_view.specs.declared.view.View.TheVariants as view
use Rattle.iv_view.specs.declared.written_view.WrittenView.{WrittenView}
use Rattle.iv_view.specs.declared.written_view.WrittenView.TheVariants as written
use Rattle.iv_run.specs.Inside.Prints.{Prints}
use Rattle.iv_run.specs.Inside.Shots.{ordered_other, text_beside, view_beside}
use Rattle.iv_run.specs.Loading.{Parsed, fault_of_arguments}
use Rattle.iv_run.specs.Columns.{AreEnough, AskForIntervals}
use Rattle.iv_run.specs.RunFiles.{AreWanted, Reports, held_files}
use Rattle.iv_run.specs.Shots.{Shows}
use Rattle.iv_run.specs.declared.exit_reason.CliFault.{CliFault}
use Rattle.iv_run.proofs.ColumnsLemmas.{alone}
use Rattle.iv_run.proofs.ShotLemmas.{shown_of, shows-fault, shows-text}

-- if all sequences are wanted, so is that of each record
pub any-wanted : (records : List RecordValue) → AreWanted None records
any-wanted records = λ k e within. refl

-- ---- rows

rows-wanted : (v : WrittenView) (g : Sequences) (second : List RecordValue) (wanted : Wanted) (bases : Bases) (r : RecordValue) → is_wanted wanted r.seq ≡ true
    → written_rows v g second (only wanted bases) r ≡ written_rows v g second bases r
rows-wanted (written.Paired shown) g second wanted bases r is = refl
rows-wanted (written.Getfasta shown) g second wanted bases r is = row-wanted wanted shown g bases r is
rows-wanted written.Records g second wanted bases r is = refl

all-rows : (v : WrittenView) (g : Sequences) (second : List RecordValue) (wanted : Wanted) (bases : Bases) (records : List RecordValue) → AreWanted wanted records
    → flat_map (written_rows v g second (only wanted bases)) records ≡ flat_map (written_rows v g second bases) records
all-rows v g second wanted bases [] are = refl
all-rows v g second wanted bases (r ∷ records) are =
    ap₂ (λ (a b : List ℕ). a ++ b)
    (rows-wanted v g second wanted bases r (All-head (λ (s : RecordValue). is_wanted wanted s.seq ≡ true) r records are))
    (all-rows v g second wanted bases records (All-tail (λ (s : RecordValue). is_wanted wanted s.seq ≡ true) r records are))

rows-beside : (v : WrittenView) (g : Sequences) (second : List RecordValue) (wanted : Wanted) (bases : Option Bases) (records : List RecordValue) → AreWanted wanted records
    → flat_map (written_rows v g second (unwrap_or (option_map (only wanted) bases) [])) records ≡ flat_map (written_rows v g second (unwrap_or bases [])) records
rows-beside v g second wanted None records are = refl
rows-beside v g second wanted (Some bases) records are = all-rows v g second wanted bases records are

-- ---- files of which whole records are held

-- files with the bases of the wanted sequences alone
abbrev with_wanted : Wanted → Parsed → Parsed
with_wanted wanted files = record files { bases = option_map (only wanted) files.bases }

same-beside : (o : Option Bed) → option_map (held_bed held.All) o ≡ o
same-beside None = refl
same-beside (Some file) = ap Some (all-held file)

held-wanted : (wanted : Wanted) (files : Parsed) → held_files held.All wanted files ≡ with_wanted wanted files
held-wanted wanted files = λ i. record files { first = all-held files.first i; second = same-beside files.second i; bases = option_map (only wanted) files.bases }

all-bases : (bases : Option Bases) → option_map (only None) bases ≡ bases
all-bases None = refl
all-bases (Some bases) = ap Some (only-all 0 bases)

-- if all sequences are wanted, they are the files
pub held-whole : (files : Parsed) → held_files held.All None files ≡ files
held-whole files = held-wanted None files ∙ ap (λ (b : Option Bases). record files { bases = b }) (all-bases files.bases)

-- the text of a view is the same
text-wanted : (v : View) (wanted : Wanted) (whole : Parsed) → AreWanted wanted whole.first.records → text_beside (with_wanted wanted whole) v ≡ text_beside whole v
text-wanted (view.Kept v) wanted whole are = refl
text-wanted (view.Written v) wanted whole are =
    rows-beside v whole.genome (ordered_other whole.second) wanted whole.bases (ordered whole.first.records)
    (ordered-all (λ (r : RecordValue). is_wanted wanted r.seq ≡ true) whole.first.records are)

some-wanted : (wanted : Wanted) (bases : Option Bases) → is_some (option_map (only wanted) bases) ≡ is_some bases
some-wanted wanted None = refl
some-wanted wanted (Some bases) = refl

-- so is the view
view-wanted : (wanted : Wanted) (whole : Parsed) (arguments : List (List ℕ)) → view_beside (with_wanted wanted whole) arguments ≡ view_beside whole arguments
view-wanted wanted whole arguments = ap (λ (b : Bool). read_arguments whole.first.width (is_some whole.second) b arguments) (some-wanted wanted whole.bases)

module _ (said : Result Parsed CliFault) (wanted : Wanted) (files : Parsed) (reports : Reports held.All wanted (Ok files) said) (held_are : AreWanted wanted files.first.records)
    (arguments : List (List ℕ)) where
  abbrev whole : Parsed
  whole = reports.0

  held-is : files ≡ with_wanted wanted whole
  held-is = reports.2 ∙ held-wanted wanted whole

  are : AreWanted wanted whole.first.records
  are = subst (λ (f : Parsed). AreWanted wanted f.first.records) held-is held_are

  asked-whole : (r : Result View Fault) → view_beside files arguments ≡ r → view_beside whole arguments ≡ r
  asked-whole r asked = sym (ap (λ (f : Parsed). view_beside f arguments) held-is ∙ view-wanted wanted whole arguments) ∙ asked

  text-whole : (v : View) → text_beside files v ≡ text_beside whole v
  text-whole v = ap (λ (f : Parsed). text_beside f v) held-is ∙ text-wanted v wanted whole are

  -- the text of the view is printed; or a prefix of it is, and the output failed; or nothing is, for out of memory
  wanted-text : (v : View) → view_beside files arguments ≡ Ok v → (old new : SinkState) (result : Result (Unit {0}) CliFault)
      → Prints old new result (text_beside files v) → Shows old new result (shown_of arguments said)
  wanted-text v asked old new result prints =
      shows-text said whole reports.1 arguments v (asked-whole (Ok v) asked) old new result (subst (Prints old new result) (text-whole v) prints)

  -- or the fault of its arguments is reported
  wanted-fault : (f : Fault) → view_beside files arguments ≡ Err f → (old : SinkState) → Shows old old (Err (fault_of_arguments f)) (shown_of arguments said)
  wanted-fault f asked old = shows-fault said whole reports.1 arguments f (asked-whole (Err f) asked) old

-- ---- files of which only intervals are held

module _ (said : Result Parsed CliFault) (wanted : Wanted) (files : Parsed) (reports : Reports held.Interval wanted (Ok files) said) (arguments : List (List ℕ)) (ask : AskForIntervals arguments) where
  abbrev sound : Parsed
  sound = reports.0

  -- the view is the same on fewer columns and beside other files
  asked-is : (p : Parsed) → view_beside p arguments ≡ Ok (view.Kept ask.asked)
  asked-is p = ask.reads p.first.width (is_some p.second) (is_some p.bases)

  -- so is its text
  text-is : text_beside files (view.Kept ask.asked) ≡ text_beside sound (view.Kept ask.asked)
  text-is =
      ap (λ (f : Parsed). text_beside f (view.Kept ask.asked)) reports.2
      ∙ ap (kept_text ask.asked sound.genome) (ordered-bare sound.first.records)
      ∙ alone ask.asked ask.is_of sound.genome (ordered sound.first.records)

  bare-text : (v : View) → view_beside files arguments ≡ Ok v → (old new : SinkState) (result : Result (Unit {0}) CliFault)
      → Prints old new result (text_beside files v) → Shows old new result (shown_of arguments said)
  bare-text v asked old new result prints =
      let same : v ≡ view.Kept ask.asked = cc (sym asked ∙ asked-is files) in
      shows-text said sound reports.1 arguments (view.Kept ask.asked) (asked-is sound) old new result (subst (Prints old new result) (ap (text_beside files) same ∙ text-is) prints)

  bare-fault : (f : Fault) → view_beside files arguments ≡ Err f → (old : SinkState) → Shows old old (Err (fault_of_arguments f)) (shown_of arguments said)
  bare-fault f asked old = absurd (cc (sym asked ∙ asked-is files))

-- ---- files of which enough columns are held

module _ (said : Result Parsed CliFault) (wanted : Wanted) (files : Parsed) (arguments : List (List ℕ)) where
  -- the text of the view is printed; or a prefix of it is, and the output failed; or nothing is, for out of memory
  pub held-text : (which : HeldColumns) → AreEnough which arguments → Reports which wanted (Ok files) said → AreWanted wanted files.first.records
      → (v : View) → view_beside files arguments ≡ Ok v → (old new : SinkState) (result : Result (Unit {0}) CliFault)
      → Prints old new result (text_beside files v) → Shows old new result (shown_of arguments said)
  held-text held.All enough reports held_are = wanted-text said wanted files reports held_are arguments
  held-text held.Interval enough reports held_are = bare-text said wanted files reports arguments enough

  -- or the fault of its arguments is reported
  pub held-fault : (which : HeldColumns) → AreEnough which arguments → Reports which wanted (Ok files) said → AreWanted wanted files.first.records
      → (f : Fault) → view_beside files arguments ≡ Err f → (old : SinkState) → Shows old old (Err (fault_of_arguments f)) (shown_of arguments said)
  held-fault held.All enough reports held_are = wanted-fault said wanted files reports held_are arguments
  held-fault held.Interval enough reports held_are = bare-fault said wanted files reports arguments enough
