use Rattle.std.proofs.Common.{◌≡◌, ◌<◌, ◌≤◌, ℕ, List, ◌++◌, length, take, sym, ap, ◌∙◌, arith, append-nil, filter}
use Rattle.std.proofs.lemmas.List.{take_all, length-map, length-take-le, length-set}
use Rattle.std.proofs.lemmas.Bool.{eqb-true}
use Rattle.std.specs.Borrow.{Bor}
use Rattle.iv_view.proofs.CuttingLemmas.{shown, some, word-taken, word-empty, word-past, positive}
use Rattle.iv_view.proofs.words.Words.of.Goals as goal
use Rattle.iv_view.proofs.words.Words.of.Goals.{else-not-is_empty-via-then-not-is_empty+else-count-lt-MOST_WORDS, else-not-is_empty-via-else-not-is_empty}

pub loop-field-preserved-then-count-lt-MOST_WORDS : goal.loop-field-preserved-then-count-lt-MOST_WORDS
loop-field-preserved-then-count-lt-MOST_WORDS c =
    let inv = c.loop-field.invariant in
    let room : c.loop-field.count < length c.loop-field.arguments = omega (arith, inv.size, c.if-count-lt-MOST_WORDS.true) in
    let long : 0 < length c.in-Some.field.now = positive (length c.in-Some.field.now) (sym c.if-not-is_empty.ensures) in
    record {
      arguments = ap (take 9) (word-taken c.loop-field.count c.loop-field.arguments c.in-Some.field _ _ room c.in-Some.ensures long) ∙ inv.arguments;
      few = omega (arith, c.if-count-lt-MOST_WORDS.true);
      size = length-set c.loop-field.arguments c.loop-field.count c.in-Some.field ∙ inv.size;
    }

pub loop-field-preserved : goal.loop-field-preserved
loop-field-preserved c =
    let inv = c.loop-field.invariant in
    elim c.else-not-is_empty.branch [
      | else-not-is_empty-via-then-not-is_empty+else-count-lt-MOST_WORDS w ↦ record {
        arguments = word-past c.loop-field.count c.loop-field.arguments _ _ (omega (arith, inv.few, w.if-count-lt-MOST_WORDS.false)) (omega (arith, inv.few, inv.size)) ∙ inv.arguments;
        few = inv.few;
        size = inv.size;
      }
      | else-not-is_empty-via-else-not-is_empty w ↦ record {
        arguments = ap (λ (l : List (List ℕ)). take 9 (shown c.loop-field.count c.loop-field.arguments ++ l)) (word-empty c.in-Some.field.now _ _ c.in-Some.ensures (eqb-true (length c.in-Some.field.now) 0 (sym w.if-not-is_empty.ensures))) ∙ inv.arguments;
        few = inv.few;
        size = inv.size;
      }
    ]

pub returns : goal.returns
returns c =
    let inv = c.loop-field.invariant in
    let within : c.loop-field.count ≤ length c.loop-field.arguments = omega (arith, inv.few, inv.size) in
    let size : length (shown c.loop-field.count c.loop-field.arguments) ≡ c.loop-field.count =
    length-map (take c.loop-field.count c.loop-field.arguments) (λ (argument : Bor (List ℕ)). argument.now) ∙ length-take-le c.loop-field.count c.loop-field.arguments within in
    sym (take_all 9 (shown c.loop-field.count c.loop-field.arguments) (omega (arith, size, inv.few)))
    ∙ ap (take 9) (sym (append-nil (shown c.loop-field.count c.loop-field.arguments)))
    ∙ ap (λ (l : List (List ℕ)). take 9 (shown c.loop-field.count c.loop-field.arguments ++ filter some l)) (sym c.in_default.ensures.0)
    ∙ inv.arguments
