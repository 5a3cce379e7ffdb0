-- The arguments of a view.
use Rattle.std.proofs.Common.{◌≡◌, ◌∙◌, ℕ, zero, suc, ◌+◌, ◌<◌, ◌≤◌, Bool, true, false, inl, inr, List, [], ◌∷◌, Option, Some, None, length, take, refl, sym, ap, subst, arith}
use Rattle.std.specs.Prelude.{◌==◌, IsTrue, IfOk, Result, Ok, Err, ◌&&◌, nat_lt, if◌then◌else◌, option_and_then, codes}
use Rattle.std.specs.Str.{bytes_eq}
use Rattle.std.proofs.lemmas.List.{take_all, length-take-le}
use Rattle.std.proofs.lemmas.Bool.{cases_lt}
use Rattle.std.proofs.lemmas.Option.{none-some, same_Some}
use Rattle.iv_lines.specs.declared.fault.Fault.{Fault}
use Rattle.iv_lines.proofs.ListLemmas.{some-cons}
use Rattle.iv_view.specs.Merge.{MergeArgs, said_by, with_flag, with_option, unless_given, nothing_said}
use Rattle.iv_view.specs.Flags.{only_flag, beside_flag, genomecov_rows, intersect_said, fasta_said}
use Rattle.iv_view.specs.NarrowedViews.{as_merge}
use Rattle.iv_view.specs.Arguments.{read_arguments, or_bad_arguments, beside_second, beside_fasta}
use Rattle.iv_view.specs.Views.{needs_second}
use Rattle.iv_blocks.specs.declared.options.BlockOptions.{BlockOptions}
use Rattle.iv_fasta.specs.declared.rows.FastaOutput.{FastaOutput}
use Rattle.iv_pair.specs.declared.pair_rows.PairOutput.{PairOutput}
use Rattle.iv_view.specs.declared.view.View.{View}
use Rattle.iv_view.specs.declared.view.View.TheVariants as view
use Rattle.iv_view.specs.declared.written_view.WrittenView.TheVariants as written
use Rattle.iv_view.specs.declared.view.KeptView.{KeptView}
use Rattle.iv_view.proofs.FlagLemmas.{flag-cut}
use Rattle.iv_view.proofs.RowLemmas.{intersect_others, getfasta_others}

-- how many arguments may follow: an option and its value for each that has none, and a flag
abbrev pub room : Option (List ℕ) → ℕ
room None = 2
room (Some value) = 0

abbrev pub flag_room : Bool → ℕ
flag_room true = 0
flag_room false = 1

abbrev pub rooms : MergeArgs → ℕ
rooms said = flag_room said.stranded + (room said.distance + (room said.columns + room said.ops))

-- a value takes the room of two arguments
value-room : (argument value : List ℕ) (said next : MergeArgs) → with_option argument value said ≡ Some next → rooms next + 2 ≤ rooms said
value-room argument value said next is = by (bytes_eq argument (codes "-d")) (bytes_eq argument (codes "-c")) (bytes_eq argument (codes "-o")) is
  where
    distance : (d : Option (List ℕ)) → said.distance ≡ d → unless_given d (record said { distance = Some value }) ≡ Some next → rooms next + 2 ≤ rooms said
    distance None at is = let same = same_Some _ _ is in omega (arith, ap room at, ap rooms same)
    distance (Some v) at is = absurd (none-some next is)

    columns : (d : Option (List ℕ)) → said.columns ≡ d → unless_given d (record said { columns = Some value }) ≡ Some next → rooms next + 2 ≤ rooms said
    columns None at is = let same = same_Some _ _ is in omega (arith, ap room at, ap rooms same)
    columns (Some v) at is = absurd (none-some next is)

    ops : (d : Option (List ℕ)) → said.ops ≡ d → unless_given d (record said { ops = Some value }) ≡ Some next → rooms next + 2 ≤ rooms said
    ops None at is = let same = same_Some _ _ is in omega (arith, ap room at, ap rooms same)
    ops (Some v) at is = absurd (none-some next is)

    by : (b c d : Bool)
        → (if b then unless_given said.distance (record said { distance = Some value })
        else (if c then unless_given said.columns (record said { columns = Some value })
        else (if d then unless_given said.ops (record said { ops = Some value }) else None))) ≡ Some next
        → rooms next + 2 ≤ rooms said
    by true c d is = distance said.distance refl is
    by false true d is = columns said.columns refl is
    by false false true is = ops said.ops refl is
    by false false false is = absurd (none-some next is)

-- a flag takes the room of one
flag-takes : (said next : MergeArgs) → with_flag said ≡ Some next → rooms next + 1 ≤ rooms said
flag-takes said next is = go said.stranded refl is
  where
    go : (b : Bool) → said.stranded ≡ b → (if b then None else Some (record said { stranded = true })) ≡ Some next → rooms next + 1 ≤ rooms said
    go true at is = absurd (none-some next is)
    go false at is = let same = same_Some _ _ is in omega (arith, ap flag_room at, ap rooms same)

-- more arguments than there is room for mean nothing
too-many : (n : ℕ) (arguments : List (List ℕ)) (said : MergeArgs) → length arguments ≤ n → rooms said < length arguments → said_by arguments said ≡ None
too-many n [] said size more = absurd (omega arith)
too-many n (argument ∷ []) said size more = go (bytes_eq argument (codes "-s")) (with_flag said) refl
  where
    go : (b : Bool) (o : Option MergeArgs) → with_flag said ≡ o → (if b then o else None) ≡ None
    go false o is = refl
    go true None is = refl
    go true (Some next) is = let less = flag-takes said next is in absurd (omega (arith, less, more))
too-many zero (argument ∷ next ∷ arguments) said size more = absurd (omega arith)
too-many (suc n) (argument ∷ next ∷ arguments) said size more =
    go (λ after less. too-many n (next ∷ arguments) after (omega arith) (omega (arith, less, more)))
    (λ after less. too-many n arguments after (omega arith) (omega (arith, less, more)))
    (bytes_eq argument (codes "-s")) (with_flag said) refl (with_option argument next said) refl
  where
    go : ((after : MergeArgs) → rooms after + 1 ≤ rooms said → said_by (next ∷ arguments) after ≡ None) → ((after : MergeArgs) → rooms after + 2 ≤ rooms said → said_by arguments after ≡ None)
        → (b : Bool) (flag : Option MergeArgs) → with_flag said ≡ flag → (value : Option MergeArgs) → with_option argument next said ≡ value
        → (if b then option_and_then (said_by (next ∷ arguments)) flag else option_and_then (said_by arguments) value) ≡ None
    go one two true None is value at = refl
    go one two true (Some after) is value at = one after (flag-takes said after is)
    go one two false flag is None at = refl
    go one two false flag is (Some after) at = two after (value-room argument next said after at)

-- arguments after the eighth change nothing
options-cut : (arguments : List (List ℕ)) → said_by (take 8 arguments) nothing_said ≡ said_by arguments nothing_said
options-cut arguments = elim (cases_lt 8 (length arguments)) [
  | inr few ↦ ap (λ (l : List (List ℕ)). said_by l nothing_said) (take_all 8 arguments few)
  | inl many ↦
      too-many 8 (take 8 arguments) nothing_said (omega (arith, length-take-le 8 arguments (omega arith))) (omega (arith, length-take-le 8 arguments (omega arith)))
      ∙ sym (too-many (length arguments) arguments nothing_said (omega arith) (omega arith))
]

only-cut : (flag : List ℕ) (arguments : List (List ℕ)) → only_flag flag (take 8 arguments) ≡ only_flag flag arguments
only-cut flag (argument ∷ next ∷ arguments) = refl
only-cut flag arguments = refl

rows-cut : (arguments : List (List ℕ)) → genomecov_rows (take 8 arguments) ≡ genomecov_rows arguments
rows-cut (argument ∷ next ∷ arguments) = refl
rows-cut arguments = refl

intersect-cut : (arguments : List (List ℕ)) → beside_flag (codes "-wa") intersect_said (take 8 arguments) ≡ beside_flag (codes "-wa") intersect_said arguments
intersect-cut arguments = flag-cut (codes "-wa") intersect_said intersect_others arguments

fasta-cut : (arguments : List (List ℕ)) → beside_flag (codes "-s") fasta_said (take 8 arguments) ≡ beside_flag (codes "-s") fasta_said arguments
fasta-cut arguments = flag-cut (codes "-s") fasta_said getfasta_others arguments

records-cut : (arguments : List (List ℕ)) → (length (take 8 arguments) == 0) ≡ (length arguments == 0)
records-cut [] = refl
records-cut (argument ∷ arguments) = some-cons argument (take 7 arguments) ∙ sym (some-cons argument arguments)

-- arguments after the ninth change nothing: no view has as many
pub words-cut : (width : ℕ) (has_second has_bases : Bool) (arguments : List (List ℕ))
    → read_arguments width has_second has_bases (take 9 arguments) ≡ read_arguments width has_second has_bases arguments
words-cut width has_second has_bases [] = refl
words-cut width has_second has_bases (argument ∷ arguments) = rw (options-cut arguments, only-cut (codes "-L") arguments, rows-cut arguments, intersect-cut arguments, only-cut (codes "-A") arguments, fasta-cut arguments, records-cut arguments) refl

-- the view is written with the bases of a FASTA file
abbrev needs_bases : View → Bool
needs_bases (view.Kept v) = false
needs_bases (view.Written (written.Paired output)) = false
needs_bases (view.Written (written.Getfasta shown)) = true
needs_bases (view.Written written.Records) = false

-- a view that needs a second file or a FASTA file is read only beside one
module _ (has_second has_bases : Bool) where
  abbrev IsServed : Result View Fault → Type 0
  IsServed said = IfOk said (λ v. (IsTrue (needs_second v) → IsTrue has_second) × (IsTrue (needs_bases v) → IsTrue has_bases))

  served-either : (b : Bool) (first second : Result View Fault) → IsServed first → IsServed second → IsServed (if b then first else second)
  served-either true first second one two = one
  served-either false first second one two = two

  served-merge : (said : Result BlockOptions Fault) → IsServed (as_merge said)
  served-merge (Err why) = tt
  served-merge (Ok options) = (λ needs. absurd (cc needs), λ needs. absurd (cc needs))

  served-kept : (asked : Option KeptView) → IsServed (or_bad_arguments asked)
  served-kept None = tt
  served-kept (Some v) = (λ needs. absurd (cc needs), λ needs. absurd (cc needs))

  served-beside : (has : Bool) (v : View) (fault : Fault)
      → (has ≡ true → (IsTrue (needs_second v) → IsTrue has_second) × (IsTrue (needs_bases v) → IsTrue has_bases))
      → IsServed (if has then Ok v else Err fault)
  served-beside true v fault is = is refl
  served-beside false v fault is = tt

  served-paired : (asked : Option PairOutput) → IsServed (beside_second has_second asked)
  served-paired None = tt
  served-paired (Some output) = served-beside has_second _ _ (λ is. (λ needs. is, λ needs. absurd (cc needs)))

  served-fasta : (width : ℕ) (asked : Option FastaOutput) → IsServed (beside_fasta width has_bases asked)
  served-fasta width None = tt
  served-fasta width (Some shown) =
      served-either (shown.stranded && nat_lt width 6) _ _ tt
      (served-beside has_bases _ _ (λ is. (λ needs. absurd (cc needs), λ needs. is)))

  served : (width : ℕ) (arguments : List (List ℕ)) → IsServed (read_arguments width has_second has_bases arguments)
  served width [] = tt
  served width (argument ∷ arguments) =
      served-either (bytes_eq argument (codes "merge")) _ _ (served-merge _)
      (served-either (bytes_eq argument (codes "cluster")) _ _ (served-kept _)
      (served-either (bytes_eq argument (codes "complement")) _ _ (served-kept _)
      (served-either (bytes_eq argument (codes "genomecov")) _ _ (served-kept _)
      (served-either (bytes_eq argument (codes "intersect")) _ _ (served-paired _)
      (served-either (bytes_eq argument (codes "subtract")) _ _ (served-paired _)
      (served-either (bytes_eq argument (codes "getfasta")) _ _ (served-fasta width _)
      (served-either (bytes_eq argument (codes "records") && length arguments == 0) _ _ (λ needs. absurd (cc needs), λ needs. absurd (cc needs)) tt)))))))

pub needs-there : (width : ℕ) (has_second has_bases : Bool) (arguments : List (List ℕ)) (v : View)
    → read_arguments width has_second has_bases arguments ≡ Ok v → IsTrue (needs_second v) → IsTrue has_second
needs-there width has_second has_bases arguments v is = (subst (IsServed has_second has_bases) is (served has_second has_bases width arguments)).0

pub bases-there : (width : ℕ) (has_second has_bases : Bool) (arguments : List (List ℕ)) (shown : FastaOutput)
    → read_arguments width has_second has_bases arguments ≡ Ok (view.Written (written.Getfasta shown)) → IsTrue has_bases
bases-there width has_second has_bases arguments shown is = (subst (IsServed has_second has_bases) is (served has_second has_bases width arguments)).1 refl
