use Rattle.std.proofs.Common.{rules, ◌≡◌, ◌≤◌, ◌++◌, ◌*◌, ◌∷◌, [], length, sym, ap, subst, ◌∙◌, append-nil, append_assoc, arith}
use Rattle.iv_lines.specs.Widths.{IsWidth}
use Rattle.iv_lines.specs.declared.interval.Interval.{Interval}
use Rattle.iv_places.specs.Inside.Places.{place_at}
use Rattle.iv_places.proofs.PlaceLemmas.{key-put, padded-kept}
use Rattle.iv_places.proofs.rests.Rests.keep.Goals as goal

pub returns-in_err-pad-clause-kept : goal.returns-in_err-pad-clause-kept
returns-in_err-pad-clause-kept g c =
    let s = c.self.inside in
    let four : 4 ≤ s.width = omega (arith, c.in-Some.ensures.some.0, sym c.width.ensures.value, c.if-width-self.false) in
    padded-kept c.args.self.now s.width s.bytes.items c.pad.new.bytes.items [] c.pad.new.bytes.items c.self.view_is four c.pad.ensures.kept (sym (append-nil c.pad.new.bytes.items))

pub returns-in_default-try_from-clause-kept : goal.returns-in_default-try_from-clause-kept
returns-in_default-try_from-clause-kept g c =
    let s = c.self.inside in
    let four : 4 ≤ s.width = omega (arith, c.in-Some.ensures.some.0, sym c.width.ensures.value, c.if-width-self.false) in
    padded-kept c.args.self.now s.width s.bytes.items c.pad.new.bytes.items [] c.pad.new.bytes.items c.self.view_is four c.pad.ensures.kept (sym (append-nil c.pad.new.bytes.items))

pub returns-in_err-extend_from_slice-clause-kept : goal.returns-in_err-extend_from_slice-clause-kept
returns-in_err-extend_from_slice-clause-kept g c =
    let s = c.self.inside in
    let four : 4 ≤ s.width = omega (arith, c.in-Some.ensures.some.0, sym c.width.ensures.value, c.if-width-self.false) in
    padded-kept c.args.self.now s.width s.bytes.items c.pad.new.bytes.items [] c.extend_from_slice.new.self.items c.self.view_is four c.pad.ensures.kept (search rules)

pub returns-in_err-push-clause-kept : goal.returns-in_err-push-clause-kept
returns-in_err-push-clause-kept g c =
    let s = c.self.inside in
    let four : 4 ≤ s.width = omega (arith, c.in-Some.ensures.some.0, sym c.width.ensures.value, c.if-width-self.false) in
    padded-kept c.args.self.now s.width s.bytes.items c.pad.new.bytes.items c.in-Some.rest.now c.push.new.self.items c.self.view_is four c.pad.ensures.kept (search rules)

pub returns-clause-kept : goal.returns-clause-kept
returns-clause-kept g c =
    let s = c.self.inside in
    let rest = c.in-Some.rest.now in
    let four : 4 ≤ s.width = omega (arith, c.in-Some.ensures.some.0, sym c.width.ensures.value, c.if-width-self.false) in
    let are : c.push.new.self.items ≡ (c.pad.new.bytes.items ++ rest) ++ 10 ∷ [] = search rules in
    padded-kept c.args.self.now s.width s.bytes.items c.pad.new.bytes.items (rest ++ 10 ∷ []) c.push.new.self.items c.self.view_is four c.pad.ensures.kept (are ∙ append_assoc c.pad.new.bytes.items rest (10 ∷ []))

pub returns-clause-key : goal.returns-clause-key
returns-clause-key g c =
    let s = c.self.inside in
    let r = c.args.feature.now in
    let rest = c.in-Some.rest.now in
    let wide : r.width ≡ s.width = sym c.width.ensures.value ∙ c.if-width-self.false in
    let are : c.push.new.self.items ≡ (c.pad.new.bytes.items ++ rest) ++ 10 ∷ [] = search rules in
    let from : 4 * c.in-Ok.from ≡ length c.pad.new.bytes.items = search rules in
    let here : record { interval = c.interval-2.result; rest = c.in-Ok.from } ≡ place_at r c.in-Ok.from =
    ap (λ (i : Interval). record { interval = i; rest = c.in-Ok.from }) c.interval-2.ensures in
    key-put s.width c.pad.new.bytes.items rest c.push.new.self.items c.in-Ok.from (record { interval = c.interval-2.result; rest = c.in-Ok.from }) r are from here wide
    (subst IsWidth c.width.ensures.value c.width.ensures.known) c.lemma_of_interval.ensures.some c.in-Some.ensures.plain c.in-Some.ensures.text c.in-Some.ensures.some.1
