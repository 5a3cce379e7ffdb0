-- Corrected lengths: the session with another length of a sequence, or why a length is not corrected.
use Rattle.std.specs.Prelude.{ℕ, ◌==◌, ◌&&◌, ◌||◌, not, nat_lt, Bool, false, if◌then◌else◌, List, [], Option, Result, Ok, Err, length}
use Rattle.std.specs.List.{list_any}
use Rattle.std.specs.Option.{ok_or, option_map, option_map_or, unwrap_or}
use Rattle.iv_lines.specs.Chains.{if_ok}
use Rattle.iv_lines.specs.Genome.{with_length}
use Rattle.iv_lines.specs.Named.{name_index}
use Rattle.iv_lines.specs.RecordValue.{RecordValue}
use Rattle.iv_lines.specs.declared.fault.Fault.{Fault}
use Rattle.iv_lines.specs.declared.fault.Fault.TheVariants as fault
use Rattle.iv_fasta.specs.Fasta.{Bases, bases_of}
use Rattle.iv_view.specs.Views.{second_records}
use Rattle.iv_workspace.specs.States.{State}

-- the record is on the sequence of this rank, and its stop is above a length
abbrev pub reaches_past : ℕ → ℕ → RecordValue → Bool
reaches_past seq n r = (r.seq == seq) && nat_lt n r.stop

-- the track or the second file has a record on the sequence of this rank whose stop is above a length
abbrev pub has_record_past : State → ℕ → ℕ → Bool
has_record_past s seq n = list_any (reaches_past seq n) s.track.records || list_any (reaches_past seq n) (second_records s.second)

-- the FASTA file has the sequence of this rank, and another number of bases of it
abbrev pub has_other_bases : Option Bases → ℕ → ℕ → Bool
has_other_bases bases seq n = option_map_or (λ count. not (count == n)) (option_map length (bases_of (unwrap_or bases []) seq)) false

-- the session with this length of the sequence of a name, or the first fault: no sequence has the name; a record passes the new
-- end; the FASTA file has another number of bases
abbrev pub resized : State → List ℕ → ℕ → Result State Fault
resized s name n = if_ok (ok_or (name_index s.genome name) fault.UnknownSeq) (λ seq.
    if has_record_past s seq n then Err fault.Shorter
    else if has_other_bases s.bases seq n then Err fault.Fixed
    else Ok (record s { genome = with_length s.genome seq n }))
