use Rattle.std.proofs.Common.{◌≡◌, Option, sym, subst, length, ◌≤◌}
use Rattle.std.specs.Prelude.{All, IfOk, IfSome}
use Rattle.iv_text.specs.BedFile.{Bed}
use Rattle.iv_lines.specs.Read.{Fits}
use Rattle.iv_workspace.specs.States.{begun}
use Rattle.iv_workspace.proofs.session.Session.new.Goals as goal

pub from_places-requires-clause-fit : goal.from_places-requires-clause-fit
from_places-requires-clause-fit g c = subst (λ (b : Bed). All (Fits c.args.genome b.width) b.records) (sym c.in_ok-first.ensures) c.requires.fit

pub from_places-requires-clause-second_fit : goal.from_places-requires-clause-second_fit
from_places-requires-clause-second_fit g c =
    subst (λ (o : Option Bed). IfSome o (λ file. All (Fits c.args.genome file.width) file.records)) (sym c.in_ok-second.ensures) c.requires.second_fit

pub from_places-requires-clause-second_few : goal.from_places-requires-clause-second_few
from_places-requires-clause-second_few g c = subst (λ (o : Option Bed). IfSome o (λ file. length file.records ≤ c.args.limit)) (sym c.in_ok-second.ensures) c.requires.second_few

pub returns : goal.returns
returns g c =
    let a = c.args in
    subst (λ (o : Option Bed). IfOk c.from_places.result (λ s. s ≡ begun a.genome a.first o a.fasta a.limit)) c.in_ok-second.ensures
    (subst (λ (b : Bed). IfOk c.from_places.result (λ s. s ≡ begun a.genome b c.in_ok-second.second a.fasta a.limit)) c.in_ok-first.ensures c.from_places.ensures)
