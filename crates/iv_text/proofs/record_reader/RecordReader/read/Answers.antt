use Rattle.std.proofs.Common.{Option, Some, ap, sym, ◌∙◌}
use Rattle.std.proofs.lemmas.List.Elements.{All-set}
use Rattle.std.specs.Prelude.{IfSome}
use Rattle.iv_text.specs.Inside.OnePass.{IsNamed}
use Rattle.iv_text.specs.declared.record_reader.Named.{Named}
use Rattle.iv_text.proofs.OnePassLemmas.{read-ranked}
use Rattle.iv_text.proofs.record_reader.RecordReader.read.Goals as goal

pub named_by-self-inside-requires : goal.named_by-self-inside-requires
named_by-self-inside-requires g c =
    read-ranked c.self.inside.genome.now c.args.width c.args.line.now c.in_ok-feature.feature (sym c.in_ok-feature.ensures.value)
    ∙ ap Some (sym c.seq.ensures)

pub invariant_of-self : goal.invariant_of-self
invariant_of-self g c =
    let fields = c.self.inside in
    let named = c.named_by-self-inside in (
      named.ensures,
      All-set (λ (slot : Option Named). IfSome slot (λ n. IsNamed fields.genome.now n.name.now n.rank n.length)) fields.known c.slot_of.result named.result named.ensures c.self.invariant.1,
    )
