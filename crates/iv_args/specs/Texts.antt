-- What the program says about itself.
use Rattle.std.specs.Prelude.{ℕ, List}
use Rattle.iv_args.specs.declared.help.TheConstants.{HELP, SESSION, MERGE, CLUSTER, COMPLEMENT, GENOMECOV, INTERSECT, SUBTRACT, GETFASTA, RECORDS}
use Rattle.iv_args.specs.declared.subcommand.TheConstants.{VERSION}
use Rattle.iv_args.specs.declared.subcommand.Notice.{Notice}
use Rattle.iv_args.specs.declared.subcommand.Notice.TheVariants.{Help, HelpOf, Version}
use Rattle.iv_args.specs.declared.subcommand.Subcommand.{Subcommand}
use Rattle.iv_args.specs.declared.subcommand.Subcommand.TheVariants as kind

-- how one kind of run is used
abbrev pub help_text : Subcommand → List ℕ
help_text kind.Session = SESSION.now
help_text kind.Merge = MERGE.now
help_text kind.Cluster = CLUSTER.now
help_text kind.Complement = COMPLEMENT.now
help_text kind.Genomecov = GENOMECOV.now
help_text kind.Intersect = INTERSECT.now
help_text kind.Subtract = SUBTRACT.now
help_text kind.Getfasta = GETFASTA.now
help_text kind.Records = RECORDS.now

-- the text of a notice
abbrev pub notice_text : Notice → List ℕ
notice_text Help = HELP.now
notice_text (HelpOf run) = help_text run
notice_text Version = VERSION.now
