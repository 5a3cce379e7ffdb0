use Rattle.std.proofs.Common.{inl, inr, length, refl, sym, ap, ap₂, ◌∙◌, arith}
use Rattle.std.proofs.lemmas.List.{length-append}
use Rattle.iv_lines.specs.Fields.{columns, fields_left}
use Rattle.iv_session.specs.Inside.Requests.{both}
use Rattle.iv_session.proofs.ColumnLemmas.{fields-after, two-split_up}
use Rattle.iv_session.proofs.request.two_rows.Goals as goal

pub returns-in-Some-clause-value : goal.returns-in-Some-clause-value
returns-in-Some-clause-value g c =
    let after = fields-after c.args.fields c.unwrap_or.result _ refl c.unwrap_or.ensures in
    let parts = columns c.in-Some.old.now in
    let more = columns c.in-Some.new.now in
    elim after [
      | inl are ↦ two-split_up c.args.genome.now c.args.width (fields_left 9 c.args.fields) parts more c.both_rows.result
          (are ∙ c.in-Some.ensures.0) c.in-Some.ensures.1
          (λ e. c.both_rows.ensures.columns (c.read_record-in-Some.ensures.value ∙ e))
          (λ differ. c.both_rows.ensures.others (λ e. differ (sym c.read_record-in-Some.ensures.value ∙ e)) ∙ ap₂ both c.read_record.ensures.value c.read_record-in-Some.ensures.value)
      | inr (none, one) ↦ absurd (omega (arith, one, ap length c.in-Some.ensures.0, length-append parts more, c.in-Some.ensures.1, c.requires))
    ]
