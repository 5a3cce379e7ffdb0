-- What a run of one subcommand prints.
use Rattle.std.specs.Prelude.{◌≡◌, ℕ, List, [], Option, Result, Ok, Err}
use Rattle.std.specs.Option.{is_some, option_map, unwrap_or}
use Rattle.iv_bytes.specs.Sinks.{SinkState, Takes, FailsIn}
use Rattle.iv_lines.specs.Ordered.{ordered}
use Rattle.iv_lines.specs.Chains.{if_ok, map_fault}
use Rattle.iv_view.specs.Arguments.{read_arguments}
use Rattle.iv_view.specs.Views.{shown_text}
use Rattle.iv_run.specs.declared.exit_reason.CliFault.{CliFault}
use Rattle.iv_run.specs.declared.exit_reason.CliFault.TheVariants as fault
use Rattle.iv_run.specs.Loading.{parsed}
use Rattle.iv_args.specs.Arguments.{RunPlan}

-- what a run of the plan prints for the bytes of the genome file, of the first file, and of the second and the FASTA file, if
-- there are any: the text of its view for their records in track order; or its first fault: that of a damaged file, and then that of
-- the arguments of the view, at the width of the records and beside these files
abbrev pub shown : RunPlan → List ℕ → List ℕ → Option (List ℕ) → Option (List ℕ) → ℕ → Result (List ℕ) CliFault
shown plan sizes first other bases limit =
    if_ok (parsed plan.width sizes first other bases limit) (λ files.
    if_ok (map_fault fault.Words (read_arguments files.first.width (is_some files.second) (is_some files.bases) plan.view)) (λ view.
    Ok (shown_text view files.genome (ordered files.first.records) (unwrap_or (option_map (λ file. ordered file.records) files.second) []) (unwrap_or files.bases []))))

-- what a run leaves of its output, if this is what it is to print: all of the text; or a prefix of it, the output failed;
-- or nothing, for out of memory, or for a fault that it is to report
abbrev pub Shows : SinkState → SinkState → Result (Unit {0}) CliFault → Result (List ℕ) CliFault → Type 0
Shows old new (Ok done) said = (text : List ℕ) × (said ≡ Ok text) × Takes old new text
Shows old new (Err fault.Output) said = (text : List ℕ) × (said ≡ Ok text) × FailsIn old new text
Shows old new (Err fault.Memory) said = new ≡ old
Shows old new (Err reported) said = (said ≡ Err reported) × (new ≡ old)
