use Rattle.iv_view.proofs.written_view.WrittenView.print_from.Goals as goal

pub returns-in-Paired-clause-text : goal.returns-in-Paired-clause-text
returns-in-Paired-clause-text g c = rw c.in-Paired.is c.print_beside.ensures.text
