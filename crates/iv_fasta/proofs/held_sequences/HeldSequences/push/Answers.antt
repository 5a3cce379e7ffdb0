use Rattle.std.proofs.Common.{ap, sym, ◌∙◌, subst, length, refl, inl, inr}
use Rattle.iv_fasta.specs.Inside.Drafts.{NamedHeaders, AreRising, cut}
use Rattle.iv_fasta.proofs.CutLemmas.{cut-push, rises-push, fresh-cut, either-of}
use Rattle.iv_fasta.proofs.held_sequences.HeldSequences.push.Goals as goal

pub push_header-requires : goal.push_header-requires
push_header-requires g c =
    let self = c.args.self.now in
    record { fresh = fresh-cut self.headers self.bases.items self.count c.args.name.now c.requires.fresh }

pub invariant_of-self-2 : goal.invariant_of-self-2
invariant_of-self-2 g c =
    let self = c.args.self.now in
    elim (either-of c.push_header.result c.push_header.ensures.ok c.push_header.ensures.err) [
      | inl is ↦ record {
        in_order = subst (λ (hs : NamedHeaders). AreRising (λ h. h.start) 0 hs (length self.bases.items)) (sym is)
            (rises-push (λ h. h.start) 0 self.headers c.args.name.now _ (length self.bases.items) c.held_count.ensures self.in_order);
        counted = subst (λ (hs : NamedHeaders). AreRising (λ h. h.before) 0 hs self.count) (sym is) (rises-push (λ h. h.before) 0 self.headers c.args.name.now _ self.count refl self.counted);
      }
      | inr same ↦ record {
        in_order = subst (λ (hs : NamedHeaders). AreRising (λ h. h.start) 0 hs (length self.bases.items)) (sym same) self.in_order;
        counted = subst (λ (hs : NamedHeaders). AreRising (λ h. h.before) 0 hs self.count) (sym same) self.counted;
      }
    ]

pub returns-clause-ok : goal.returns-clause-ok
returns-clause-ok g c =
    let self = c.args.self.now in
    ap (λ (hs : NamedHeaders). cut hs self.bases.items self.count) c.in_ok-push_header.ensures.ok
    ∙ cut-push self.headers c.args.name.now _ self.bases.items self.count c.held_count.ensures refl
