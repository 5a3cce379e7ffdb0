-- The session that the files of a run begin.
use Rattle.std.specs.Prelude.{ℕ, List, Option, Result, Ok}
use Rattle.iv_lines.specs.Chains.{if_ok}
use Rattle.iv_workspace.specs.States.{State, begun}
use Rattle.iv_run.specs.Loading.{parsed}
use Rattle.iv_run.specs.declared.exit_reason.CliFault.{CliFault}

-- the session that the bytes of the files begin, or the fault of the first damaged file
abbrev pub loaded : ℕ → List ℕ → List ℕ → Option (List ℕ) → Option (List ℕ) → ℕ → Result State CliFault
loaded width sizes first other bases limit =
    if_ok (parsed width sizes first other bases limit) (λ files. Ok (begun files.genome files.first files.second files.bases files.limit))
