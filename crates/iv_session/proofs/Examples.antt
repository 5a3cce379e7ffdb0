-- Examples that compute.
use Rattle.std.proofs.Common.{◌≡◌, ℕ, ◌++◌, List, [], ◌∷◌, None, Some, Ok, Err, false, true, refl, inl, inr, arith}
use Rattle.std.specs.Prelude.{codes}
use Rattle.iv_lines.specs.Genome.{Sequences}
use Rattle.iv_lines.specs.Fields.{words}
use Rattle.iv_lines.specs.RecordValue.{RecordValue}
use Rattle.iv_lines.specs.declared.fault.Fault.TheVariants as fault
use Rattle.iv_session.specs.Requests.{asked}
use Rattle.iv_session.specs.ScriptLines.{RunsLine}
use Rattle.iv_session.specs.Scripts.{Steps}
use Rattle.iv_workspace.specs.OpenViews.{Shown}
use Rattle.iv_track.specs.Edits.{with_record}
use Rattle.iv_workspace.specs.States.{State}
use Rattle.iv_workspace.specs.Views.{view_asked, all_text, text_in}
use Rattle.iv_view.specs.Arguments.{read_arguments}
use Rattle.iv_session.specs.Written.{Written, refused_by}
use Rattle.iv_session.specs.declared.request.Request.TheVariants as request
use Rattle.iv_workspace.specs.declared.session.edits.Edit.TheVariants as edit
use Rattle.iv_workspace.specs.declared.session.edits.Target.TheVariants as target
use Rattle.iv_blocks.specs.Groups.{filled}
use Rattle.iv_view.specs.declared.view.View.{View}
use Rattle.iv_view.specs.declared.view.View.TheVariants as view
use Rattle.iv_view.specs.declared.view.KeptView.TheVariants as kept
use Rattle.iv_view.specs.declared.written_view.WrittenView.TheVariants as written
use Rattle.iv_pair.specs.Hits.{hits_of}
use Rattle.iv_pair.specs.declared.intersect.IntersectOutput.TheVariants as records
use Rattle.iv_pair.specs.declared.pair_rows.PairOutput.TheVariants as pair
use Rattle.iv_track.specs.Tracked.{Tracked}

abbrev g : Sequences
g = (codes "chr1", 100) ∷ (codes "chr2", 50) ∷ (codes "chr3", 0) ∷ []

abbrev tab : List ℕ
tab = 9 ∷ []

-- an empty track of width 3
abbrev empty : State
empty = record { genome = g; track = record { records = []; width = 3; limit = 2 }; second = None; bases = None; views = [] }

abbrev first_row : RecordValue
first_row = record { seq = 0; start = 10; stop = 20; name = []; score = []; strand = None; width = 3 }

abbrev second_row : RecordValue
second_row = record { seq = 0; start = 15; stop = 30; name = []; score = []; strand = None; width = 3 }

-- a merge without options
abbrev plain_merge : View
plain_merge = view.Kept (kept.Merge (record { distance = 0; stranded = false; summaries = filled [] }))

-- an open view that shows the merged blocks
abbrev merging : Shown
merging = record { view = plain_merge; stale = false }

abbrev with_a_view : State
with_a_view = record empty { views = (codes "m", merging) ∷ [] }

abbrev with_one : State
with_one = record with_a_view { track = with_record first_row with_a_view.track }

abbrev with_two : State
with_two = record with_one { track = with_record second_row with_one.track }

pub comments-ask_nothing : asked empty (codes "# a note") ≡ Ok request.Nothing
comments-ask_nothing = refl

pub commands-come_before_a_tab : asked empty (codes "print" ++ tab ++ codes "m") ≡ Ok (request.Print (codes "m") None)
commands-come_before_a_tab = refl

pub other_words-are_no_commands : asked empty (codes "paint" ++ tab ++ codes "m") ≡ Err fault.Command
other_words-are_no_commands = refl

pub printall-takes_no_field : asked empty (codes "printall" ++ tab) ≡ Err fault.Command
printall-takes_no_field = refl

pub records-come_after_add : asked empty (codes "add" ++ tab ++ codes "chr1" ++ tab ++ codes "10" ++ tab ++ codes "20") ≡ Ok (request.Edit target.First (edit.Add first_row))
records-come_after_add = refl

pub lengths-come_after_names : asked empty (codes "resize" ++ tab ++ codes "chr1" ++ tab ++ codes "20") ≡ Ok (request.Resize (codes "chr1") 20)
lengths-come_after_names = refl

-- a name is looked for only after a sound length
pub bad_lengths-come_before_names : asked empty (codes "resize" ++ tab ++ codes "chr9" ++ tab ++ codes "x") ≡ Err fault.StopNumber
bad_lengths-come_before_names = refl

pub spaces-are_no_words : read_arguments 3 false false (words (codes "  merge ")) ≡ Ok plain_merge
spaces-are_no_words = refl

pub no_words-are_no_view : read_arguments 3 false false (words []) ≡ Err fault.Words
no_words-are_no_view = refl

pub names-are_not_empty : view_asked empty [] (codes "merge" ∷ []) ≡ Err fault.BadName
names-are_not_empty = refl

pub names-are_taken_once : view_asked with_a_view (codes "m") [] ≡ Err fault.Taken
names-are_taken_once = refl

pub names-come_before_words : view_asked with_a_view (codes "n") [] ≡ Err fault.Words
names-come_before_words = refl

pub views-are_under_their_names : all_text None (record with_a_view { views = (codes "b", merging) ∷ (codes "a", merging) ∷ [] }) ≡ codes "#b\n#a\n"
views-are_under_their_names = refl

-- two adds and a print between an opening and a refused add
abbrev script : List (List ℕ)
script =
    (codes "open" ++ tab ++ codes "m" ++ tab ++ codes "merge") ∷
    (codes "add" ++ tab ++ codes "chr1" ++ tab ++ codes "10" ++ tab ++ codes "20") ∷
    (codes "add" ++ tab ++ codes "chr1" ++ tab ++ codes "15" ++ tab ++ codes "30") ∷
    (codes "print" ++ tab ++ codes "m") ∷
    (codes "add" ++ tab ++ codes "chr1" ++ tab ++ codes "90" ++ tab ++ codes "101") ∷ []

abbrev printed : List ℕ → Written
printed text = record { output = text; refusal = None }

abbrev silent : Written
silent = printed []

pub script-steps : Steps empty script (silent ∷ silent ∷ silent ∷ printed (text_in None with_two plain_merge) ∷ refused_by fault.PastEnd ∷ []) with_two
script-steps = (
  with_a_view,
  inl (((plain_merge, refl, refl), refl), refl),
  (
    with_one,
    inl (((omega arith, refl, ((refl, refl, (λ stale. stale), (λ records is. refl)), tt)), refl), refl),
    (
      with_two,
      inl (((omega arith, refl, ((refl, refl, (λ stale. stale), (λ records is. refl)), tt)), refl), refl),
      (
        with_two,
        inl ((merging, refl, refl, refl), refl),
        (with_two, (refl, refl), refl),
      ),
    ),
  ),
)

-- the add of the one record may leave the view stale; then a print may want memory, or write the text and make it current
abbrev with_stale : State
with_stale = record with_one { views = (codes "m", record { view = plain_merge; stale = true }) ∷ [] }

pub edits-may_leave_a_view_stale : RunsLine with_a_view (codes "add" ++ tab ++ codes "chr1" ++ tab ++ codes "10" ++ tab ++ codes "20") with_stale silent
edits-may_leave_a_view_stale = inl (((omega arith, refl, ((refl, refl, (λ stale. refl), (λ records is. absurd (cc is))), tt)), refl), refl)

pub prints-may_want_memory : RunsLine with_stale (codes "print" ++ tab ++ codes "m") with_stale (refused_by fault.NoMemory)
prints-may_want_memory = inr (fault.NoMemory, (record { view = plain_merge; stale = true }, refl, refl), refl, refl)

pub prints-make_a_view_current : RunsLine with_stale (codes "print" ++ tab ++ codes "m") with_one (printed (text_in None with_one plain_merge))
prints-make_a_view_current = inl ((record { view = plain_merge; stale = true }, refl, refl, refl), refl)

-- ---- a second file

-- three records, two of them copies
abbrev other : Tracked
other = record {
  records = record first_row { start = 15; stop = 18 } ∷ record first_row { start = 15; stop = 18 } ∷ record first_row { start = 20; stop = 30 } ∷ [];
  width = 3;
  limit = 9;
}

abbrev beside : State
beside = record with_one { second = Some other; views = (codes "v", record { view = view.Written (written.Paired (pair.Intersect records.IfNoHit)); stale = false }) ∷ [] }

pub bad_words-come_before_the_file : view_asked empty (codes "i") (codes "intersect" ∷ codes "-u" ∷ codes "-v" ∷ []) ≡ Err fault.Words
bad_words-come_before_the_file = refl

pub no_second-is_reported : view_asked empty (codes "i") (codes "intersect" ∷ codes "-c" ∷ codes "-wa" ∷ []) ≡ Err fault.NoSecond
no_second-is_reported = refl

pub options-go_in_any_order : view_asked (record empty { second = Some other }) (codes "i") (codes "intersect" ∷ codes "-wb" ∷ codes "-wa" ∷ []) ≡ Ok (view.Written (written.Paired (pair.Intersect records.WholeAndHit)))
options-go_in_any_order = refl

pub records_with_a_hit-are_left_out : all_text None beside ≡ codes "#v\n"
records_with_a_hit-are_left_out = refl

-- an edit of the second file asks for one, before its columns are looked at
pub no_second-is_reported_before_columns : asked empty (codes "removeb") ≡ Err fault.NoSecond
no_second-is_reported_before_columns = refl

pub columns-are_missing_beside_a_second : asked beside (codes "removeb") ≡ Err fault.Columns
columns-are_missing_beside_a_second = refl

pub records-come_after_addb : asked beside (codes "addb" ++ tab ++ codes "chr1" ++ tab ++ codes "10" ++ tab ++ codes "20") ≡ Ok (request.Edit target.Second (edit.Add first_row))
records-come_after_addb = refl

-- a record that only touches is no hit
pub hits-are_no_neighbours : hits_of other.records (record first_row { start = 18; stop = 20 }) ≡ []
hits-are_no_neighbours = refl

-- ---- a FASTA file

-- a track of six columns, and bases of the first sequence alone
abbrev with_bases : State
with_bases = record empty { track = record { records = record second_row { seq = 1; width = 6 } ∷ []; width = 6; limit = 2 }; bases = Some (Some (codes "ACGT") ∷ None ∷ None ∷ []) }

pub strands-come_before_the_file : view_asked empty (codes "f") (codes "getfasta" ∷ codes "-s" ∷ []) ≡ Err fault.NoStrand
strands-come_before_the_file = refl

pub no_fasta-is_reported : view_asked empty (codes "f") (codes "getfasta" ∷ codes "-tab" ∷ []) ≡ Err fault.NoFasta
no_fasta-is_reported = refl

pub no_option-is_twice : view_asked with_bases (codes "f") (codes "getfasta" ∷ codes "-tab" ∷ codes "-tab" ∷ []) ≡ Err fault.Words
no_option-is_twice = refl

pub bases-are_shown_with_strands : view_asked with_bases (codes "f") (codes "getfasta" ∷ codes "-tab" ∷ codes "-s" ∷ []) ≡ Ok (view.Written (written.Getfasta (record { stranded = true; tab = true })))
bases-are_shown_with_strands = refl

pub sequences_without_bases-are_left_out : text_in None with_bases (view.Written (written.Getfasta (record { stranded = false; tab = false }))) ≡ []
sequences_without_bases-are_left_out = refl
