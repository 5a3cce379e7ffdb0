use Rattle.std.proofs.Common.{ap, sym, ◌∙◌, inr}
use Rattle.std.specs.Option.{is_some}
use Rattle.iv_lines.specs.Named.{name_index}
use Rattle.iv_fasta.specs.FastaReading.{Draft, Progress, with_header}
use Rattle.iv_fasta.specs.Inside.Drafts.{cut}
use Rattle.iv_fasta.proofs.SaidLemmas.{header-repeated, header-taken}
use Rattle.iv_fasta.proofs.fasta_draft.FastaDraft.push_header.Goals as goal

pub returns-then-has-clause-err : goal.returns-then-has-clause-err
returns-then-has-clause-err g c =
    let p = c.args.self.now in
    let name = c.args.name.now in
    inr (header-repeated c.args.genome.now p.wanted p.number p.draft name (sym c.is_bad_name.ensures ∙ c.if-is_bad_name.false)
    (ap (λ (q : Progress). is_some (name_index q.draft.sequences name)) (sym c.self.view_is) ∙ sym c.has.ensures ∙ c.if-has.true))

pub push-requires : goal.push-requires
push-requires g c = record { fresh = sym c.has.ensures ∙ c.if-has.false }

pub returns-clause-ok : goal.returns-clause-ok
returns-clause-ok g c =
    let name = c.args.name.now in
    let in_self = c.self.inside in
    let draft : Draft = record { sequences = cut in_self.held.headers in_self.held.bases.items in_self.held.count; holds = in_self.holds } in
    ap (λ (q : Progress). with_header c.args.genome.now q.wanted q.number q.draft name) (sym c.self.view_is)
    ∙ header-taken c.args.genome.now _ in_self.number draft name _ c.holds-self-inside.result (sym c.is_bad_name.ensures ∙ c.if-is_bad_name.false) (sym c.has.ensures ∙ c.if-has.false)
    c.in_ok-push.ensures.ok c.holds-self-inside.ensures
