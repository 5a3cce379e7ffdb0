use Rattle.std.proofs.Common.{sym, ◌∙◌, ap}
use Rattle.std.specs.Option.{is_some}
use Rattle.iv_fasta.proofs.CutLemmas.{index-cut}
use Rattle.iv_fasta.proofs.held_sequences.HeldSequences.has.Goals as goal

pub returns : goal.returns
returns g c =
    let self = c.args.self.now in
    c.is_some.ensures ∙ ap is_some (c.index_of.ensures.value ∙ sym (index-cut self.headers self.bases.items self.count c.args.name.now))
