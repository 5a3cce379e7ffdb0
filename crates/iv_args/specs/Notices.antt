-- The arguments that ask for a notice.
use Rattle.std.specs.Prelude.{ℕ, ◌||◌, if◌then◌else◌, List, [], ◌∷◌, Option, None, Some, codes}
use Rattle.std.specs.Option.{option_map}
use Rattle.std.specs.Str.{bytes_eq}
use Rattle.iv_args.specs.Arguments.{run_of}
use Rattle.iv_args.specs.declared.subcommand.Notice.{Notice}
use Rattle.iv_args.specs.declared.subcommand.Notice.TheVariants.{Help, HelpOf, Version}

-- the notice that arguments ask for: help if `--help`, `help` or `-h` is alone; help on one kind of run if its argument comes after `--help` or
-- `help`, or before `--help` or `-h`; and the version if `--version` is alone
abbrev pub notice_of : List (List ℕ) → Option Notice
notice_of (argument ∷ []) =
    if bytes_eq argument (codes "--help") || bytes_eq argument (codes "help") || bytes_eq argument (codes "-h") then Some Help
    else if bytes_eq argument (codes "--version") then Some Version
    else None
notice_of (argument ∷ next ∷ []) =
    if bytes_eq argument (codes "--help") || bytes_eq argument (codes "help") then option_map HelpOf (run_of next)
    else if bytes_eq next (codes "--help") || bytes_eq next (codes "-h") then option_map HelpOf (run_of argument)
    else None
notice_of arguments = None
