-- The arguments that ask for a view.
use Rattle.std.specs.Prelude.{ℕ, ◌==◌, Bool, nat_lt, ◌&&◌, if◌then◌else◌, List, [], ◌∷◌, length, Option, Result, Ok, Err, codes}
use Rattle.std.specs.Option.{ok_or, option_map}
use Rattle.std.specs.Str.{bytes_eq}
use Rattle.iv_lines.specs.declared.fault.Fault.{Fault}
use Rattle.iv_lines.specs.declared.fault.Fault.TheVariants as fault
use Rattle.iv_fasta.specs.declared.rows.FastaOutput.{FastaOutput}
use Rattle.iv_pair.specs.declared.pair_rows.PairOutput.{PairOutput}
use Rattle.iv_pair.specs.declared.pair_rows.PairOutput.TheVariants as pair
use Rattle.iv_lines.specs.Chains.{if_ok}
use Rattle.iv_view.specs.Flags.{only_flag, beside_flag, genomecov_rows, intersect_said, fasta_said}
use Rattle.iv_view.specs.Merge.{said_by, nothing_said, merge_options, cluster_distance}
use Rattle.iv_view.specs.declared.view.View.{View}
use Rattle.iv_view.specs.declared.view.View.TheVariants as view
use Rattle.iv_view.specs.declared.view.KeptView.{KeptView}
use Rattle.iv_view.specs.declared.view.KeptView.TheVariants as kept
use Rattle.iv_view.specs.declared.written_view.WrittenView.TheVariants as written

-- the view of which a state is kept, or bad arguments if there is none
abbrev pub or_bad_arguments : Option KeptView → Result View Fault
or_bad_arguments asked = ok_or (option_map view.Kept asked) fault.Words

-- the view that needs a second file: bad arguments if there is none, and then a fault if there is no such file
abbrev pub beside_second : Bool → Option PairOutput → Result View Fault
beside_second has_second asked =
    if_ok (ok_or asked fault.Words) (λ output. if has_second then Ok (view.Written (written.Paired output)) else Err fault.NoSecond)

-- the view that needs a FASTA file, on a track of this width: bad arguments if there is none, then a fault if there are no strands
-- to show, and then one if there is no such file
abbrev pub beside_fasta : ℕ → Bool → Option FastaOutput → Result View Fault
beside_fasta width has_bases asked =
    if_ok (ok_or asked fault.Words) (λ shown.
    if shown.stranded && nat_lt width 6 then Err fault.NoStrand
    else if has_bases then Ok (view.Written (written.Getfasta shown))
    else Err fault.NoFasta)

-- the view that arguments ask for on a track of this width, beside a second file and a FASTA file or without, or their first fault
abbrev pub read_arguments : ℕ → Bool → Bool → List (List ℕ) → Result View Fault
read_arguments width has_second has_bases [] = Err fault.Words
read_arguments width has_second has_bases (argument ∷ arguments) =
    if bytes_eq argument (codes "merge") then if_ok (merge_options width (said_by arguments nothing_said)) (λ options. Ok (view.Kept (kept.Merge options)))
    else if bytes_eq argument (codes "cluster") then or_bad_arguments (option_map kept.Cluster (cluster_distance (said_by arguments nothing_said)))
    else if bytes_eq argument (codes "complement") then or_bad_arguments (option_map kept.Complement (only_flag (codes "-L") arguments))
    else if bytes_eq argument (codes "genomecov") then or_bad_arguments (option_map kept.Genomecov (genomecov_rows arguments))
    else if bytes_eq argument (codes "intersect") then beside_second has_second (option_map pair.Intersect (beside_flag (codes "-wa") intersect_said arguments))
    else if bytes_eq argument (codes "subtract") then beside_second has_second (option_map pair.Subtract (only_flag (codes "-A") arguments))
    else if bytes_eq argument (codes "getfasta") then beside_fasta width has_bases (beside_flag (codes "-s") fasta_said arguments)
    else if bytes_eq argument (codes "records") && length arguments == 0 then Ok (view.Written written.Records)
    else Err fault.Words
