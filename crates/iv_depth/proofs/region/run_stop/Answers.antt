use Rattle.std.proofs.Common.{sym, subst, ◌≡◌, ◌∙◌, ◌∷◌, ℕ, ap, rules, w64, to_z, of_z, SFits}
use Rattle.std.specs.Prelude.{ℤ}
use Rattle.std.proofs.lemmas.Int.{to_z-of_z}
use Rattle.iv_depth.specs.Changes.{Entries}
use Rattle.iv_depth.specs.Inside.Region.{EndsRun}
use Rattle.iv_depth.proofs.Sequences.{BeginsElsewhere}
use Rattle.iv_depth.proofs.Lookups.{EndsRun-next, EndsRun-last}
use Rattle.iv_depth.proofs.region.run_stop.Goals as goal

pub returns-in_default-clause-stop : goal.returns-in_default-clause-stop
returns-in_default-clause-stop g c = λ f here d left low.
    EndsRun-last f c.args.seq here c.args.length d c.args.left.now _ (subst (BeginsElsewhere c.args.seq) (sym c.in_default.ensures.next.0) tt) low left

pub returns-then-change_seq-seq-clause-stop : goal.returns-then-change_seq-seq-clause-stop
returns-then-change_seq-seq-clause-stop g c = λ f here d left low.
    EndsRun-last f c.args.seq here c.args.length d c.args.left.now _ (subst (BeginsElsewhere c.args.seq) (sym c.in-Some.ensures.next) c.if-change_seq-seq.true) low left

pub returns-clause-stop : goal.returns-clause-stop
returns-clause-stop g c = λ f here d left low.
    let rest : Entries = c.next.new.self in
    let change : ℤ = c.in-Some.change.now in
    let fits : SFits w64 change = search rules in
    let same : to_z w64 (of_z w64 change) ≡ change = to_z-of_z w64 change fits in
    let h : EndsRun f c.args.seq here c.args.length d c.in-Some.field-0-0.now.1 change rest
    = EndsRun-next f c.args.seq here c.args.length d c.in-Some.field-0-0.now.1 change c.args.left.now rest
    (c.in-Some.ensures.next ∙ ap (λ (r : ℕ). ((r, c.in-Some.field-0-0.now.1), change) ∷ rest) c.if-change_seq-seq.false) left in
    subst (λ (z : ℤ). EndsRun f c.args.seq here c.args.length d c.in-Some.field-0-0.now.1 z rest) (cc (same)) h
