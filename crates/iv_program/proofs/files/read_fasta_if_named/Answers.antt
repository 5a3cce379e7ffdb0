use Rattle.std.proofs.Common.{◌≡◌, List, ℕ, Option, Some, subst, sym}
use Rattle.iv_args.specs.declared.plan.Slot.TheVariants.{Bases}
use Rattle.iv_program.specs.Inside.Files.{ReadsNamed}
use Rattle.iv_program.proofs.RunLemmas.{in-slot-err, in-slot-ok}
use Rattle.iv_program.proofs.files.read_fasta_if_named.Goals as goal

pub returns-in-Some-clause-ok : goal.returns-in-Some-clause-ok
returns-in-Some-clause-ok g c =
    let named : Some c.in-Some.name.now ≡ c.args.plan.now.bases = c.in-Some.ensures in
    in-slot-ok c.read_fasta.result c.in_slot.result c.in_slot.ensures.ok c.read_fasta.ensures.ok
    (λ read. (read.0, Some read.1, read.2, subst (λ (o : Option (List ℕ)). ReadsNamed (g.F.InputFiles.state c.args.files.now) o (Some read.1) (g.F.InputFiles.state c.read_fasta.new.files)) named read.3, read.4))

pub returns-in-Some-clause-err : goal.returns-in-Some-clause-err
returns-in-Some-clause-err g c =
    let named : Some c.in-Some.name.now ≡ c.args.plan.now.bases = c.in-Some.ensures in
    in-slot-err Bases c.read_fasta.result c.in_slot.result c.in_slot.ensures.err c.read_fasta.ensures.err (λ why stops. (c.in-Some.name.now, sym named, stops))
