use Rattle.std.proofs.Common.{rules, refl, arith, ap, subst, ◌∙◌, ◌≡◌, ◌++◌, ◌∷◌, [], length, All, List}
use Rattle.std.specs.Vec.{vec_items}
use Rattle.std.proofs.lemmas.List.Elements.{All-head, All-tail}
use Rattle.iv_ledger.specs.Inside.Chunks.{IsFilled, AreFilled, concatenated}
use Rattle.iv_ledger.proofs.walk.Walk.advance.Goals as goal

none_left : {X : Type 0} (xs : List X) → length xs ≡ 0 → xs ≡ []
none_left [] h = refl
none_left (x ∷ xs) h = absurd (omega arith)

pub invariant_of-self : goal.invariant_of-self
invariant_of-self g c =
    let P : g.row.K.Denot × g.row.V.Denot → Type 0 = λ e. g.O.Order.IsKey c.self.inside.order.now e.0 in
    let e = c.in-Some.entry.now in
    let rest = c.in-Some.rest.now in
    let later = concatenated c.self.inside.later.now in
    let parts : c.self.inside.rest.now ≡ e ∷ rest = search rules in
    (c.self.invariant.0, All-tail P e (rest ++ later) (subst (λ xs. All P (xs ++ later)) parts c.self.invariant.1))

pub returns-in_err-entry : goal.returns-in_err-entry
returns-in_err-entry g c =
    let x = c.in_ok-chunk.chunk.now in
    let rest = c.in_ok-chunk.later.now in
    let parts : c.self.inside.later.now ≡ x ∷ rest = search rules in
    let filled : IsFilled x = All-head IsFilled x rest (subst AreFilled parts c.self.invariant.0) in
    let none : length c.deref.result.now ≡ 0 = search rules in
    absurd (omega (arith, filled, none, x.ok.0, c.deref.ensures.len))

pub invariant_of-self-2 : goal.invariant_of-self-2
invariant_of-self-2 g c =
    let P : g.row.K.Denot × g.row.V.Denot → Type 0 = λ e. g.O.Order.IsKey c.self.inside.order.now e.0 in
    let x = c.in_ok-chunk.chunk.now in
    let later = c.in_ok-chunk.later.now in
    let e = c.in_ok-entry.entry.now in
    let rest = c.in_ok-entry.rest.now in
    let zero : length c.self.inside.rest.now ≡ 0 = search rules in
    let none : c.self.inside.rest.now ≡ [] = none_left c.self.inside.rest.now zero in
    let parts : c.self.inside.later.now ≡ x ∷ later = search rules in
    let items : vec_items x ≡ e ∷ rest = search rules in
    let all = (λ i. none i ++ concatenated (parts i)) ∙ ap (λ xs. xs ++ concatenated later) items in (
      All-tail IsFilled x later (subst AreFilled parts c.self.invariant.0),
      All-tail P e (rest ++ concatenated later) (subst (All P) all c.self.invariant.1),
    )

pub lend-lent-requires : goal.lend-lent-requires
lend-lent-requires g c =
    let P : g.row.K.Denot × g.row.V.Denot → Type 0 = λ e. g.O.Order.IsKey c.self.inside.order.now e.0 in
    let e = c.in-Some.entry.now in
    let rest = c.in-Some.rest.now in
    let later = concatenated c.self.inside.later.now in
    let parts : c.self.inside.rest.now ≡ e ∷ rest = search rules in
    λ κs. ((refl, tt), All-head P e (rest ++ later) (subst (λ xs. All P (xs ++ later)) parts c.self.invariant.1))

pub lend-lent-requires-2 : goal.lend-lent-requires-2
lend-lent-requires-2 g c =
    let P : g.row.K.Denot × g.row.V.Denot → Type 0 = λ e. g.O.Order.IsKey c.self.inside.order.now e.0 in
    let x = c.in_ok-chunk.chunk.now in
    let later = c.in_ok-chunk.later.now in
    let e = c.in_ok-entry.entry.now in
    let rest = c.in_ok-entry.rest.now in
    let zero : length c.self.inside.rest.now ≡ 0 = search rules in
    let none : c.self.inside.rest.now ≡ [] = none_left c.self.inside.rest.now zero in
    let parts : c.self.inside.later.now ≡ x ∷ later = search rules in
    let items : vec_items x ≡ e ∷ rest = search rules in
    let all = (λ i. none i ++ concatenated (parts i)) ∙ ap (λ xs. xs ++ concatenated later) items in
    λ κs. ((refl, tt), All-head P e (rest ++ concatenated later) (subst (All P) all c.self.invariant.1))
