use Rattle.std.proofs.Common.{◌≡◌, ◌∙◌, ℕ, ◌∷◌, sym, ap, subst, rules, w64, to_z, of_z, SFits, Option}
use Rattle.std.specs.Prelude.{ℤ}
use Rattle.std.proofs.lemmas.Int.{to_z-of_z}
use Rattle.iv_depth.specs.Changes.{ChangeKey, Entries}
use Rattle.iv_cover.specs.RecordWalks.{ahead_of}
use Rattle.iv_cover.proofs.ReadAheadLemmas.{ahead-read}
use Rattle.iv_depth.proofs.Sequences.{BeginsElsewhere, AreAhead-next, AreAhead-past}
use Rattle.iv_depth.proofs.change_cursor.ChangeCursorDepthChanges.next_on.Goals as goal

pub returns-then-change_seq-seq-clause-change : goal.returns-then-change_seq-seq-clause-change
returns-then-change_seq-seq-clause-change t c = λ g f from d h.
    let e = c.in_ok-change_seq in
    let now : c.args.self.now ≡ ((e.change_seq, e.position), e.change) ∷ c.self.inside.walk = sym c.self.view_is ∙ ap (λ (a : Option (ChangeKey × ℤ)). ahead_of a c.self.inside.walk) (e.was) in
    AreAhead-past g f c.args.seq from d c.args.self.now (subst (BeginsElsewhere c.args.seq) (sym now) c.if-change_seq-seq.true) h

pub returns-clause-change : goal.returns-clause-change
returns-clause-change t c = λ g f from d h.
    let e = c.in_ok-change_seq in
    let rest : Entries = ahead_of c.read-self-inside.result c.read-self-inside.new.walk in
    let fits : SFits w64 e.change = search rules in
    let same : to_z w64 (of_z w64 e.change) ≡ e.change = to_z-of_z w64 e.change fits in
    let now : c.args.self.now ≡ ((c.args.seq, e.position), e.change) ∷ rest
    = sym c.self.view_is ∙ ap (λ (a : Option (ChangeKey × ℤ)). ahead_of a c.self.inside.walk) (e.was)
    ∙ ap (λ (k : ℕ). ((k, e.position), e.change) ∷ c.self.inside.walk) c.if-change_seq-seq.false
    ∙ ap (λ (l : Entries). ((c.args.seq, e.position), e.change) ∷ l) (sym (ahead-read _ _ _ c.read-self-inside.ensures.next)) in
    rw (same, c.from.ensures) (AreAhead-next g f c.args.seq from d e.position e.change c.args.self.now rest now h)
