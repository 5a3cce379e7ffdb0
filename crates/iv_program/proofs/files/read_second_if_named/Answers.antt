use Rattle.std.proofs.Common.{◌≡◌, List, ℕ, Option, Some, subst, sym}
use Rattle.iv_args.specs.declared.plan.Slot.TheVariants.{Other}
use Rattle.iv_program.specs.Inside.Files.{ReadsNamed}
use Rattle.iv_program.proofs.RunLemmas.{in-slot-err, in-slot-ok}
use Rattle.iv_program.proofs.files.read_second_if_named.Goals as goal

pub returns-in-Some-clause-ok : goal.returns-in-Some-clause-ok
returns-in-Some-clause-ok g c =
    let named : Some c.in-Some.name.now ≡ c.args.plan.now.other = c.in-Some.ensures in
    in-slot-ok c.read_second.result c.in_slot.result c.in_slot.ensures.ok c.read_second.ensures.ok
    (λ read. (Some read.0, subst (λ (o : Option (List ℕ)). ReadsNamed (g.F.InputFiles.state c.args.files.now) o (Some read.0) (g.F.InputFiles.state c.read_second.new.files)) named read.1, read.2))

pub returns-in-Some-clause-err : goal.returns-in-Some-clause-err
returns-in-Some-clause-err g c =
    let named : Some c.in-Some.name.now ≡ c.args.plan.now.other = c.in-Some.ensures in
    in-slot-err Other c.read_second.result c.in_slot.result c.in_slot.ensures.err c.read_second.ensures.err (λ why stops. (c.in-Some.name.now, sym named, stops))
