-- Summaries that are asked for one after another.
use Rattle.std.proofs.Common.{◌≡◌, ℕ, suc, ◌+◌, ◌-◌, ◌<◌, List, [], ◌∷◌, ◌++◌, Option, Some, None, length, map, drop, replicate, get_or, set, sym, ap, ap₂, ◌∙◌, arith, append_assoc, length-append, drop-cons, add-one}
use Rattle.std.proofs.Math.Seq.{set-append_seam}
use Rattle.std.specs.List.{zip}
use Rattle.iv_cover.specs.declared.column.ColumnSummary.{ColumnSummary}
use Rattle.iv_cover.specs.declared.op.Op.{Op}
use Rattle.iv_cover.specs.declared.op.Op.TheVariants.{Count}
use Rattle.iv_blocks.specs.Groups.{filled}
use Rattle.iv_blocks.specs.Inside.Groups.{unused, pushed}
use Rattle.iv_blocks.specs.declared.options.Summaries.{Summaries}
use Rattle.iv_view.specs.Lists.{all_some}
use Rattle.iv_view.specs.Merge.{summary_within}
use Rattle.iv_view.proofs.ListLemmas.{with_rest, rest-more}

-- the rest of a list begins with its next item
drop-here : {A : Type 0} (i : ℕ) (xs : List A) (d : A) → i < length xs → drop i xs ≡ get_or xs i d ∷ drop (i + 1) xs
drop-here i xs d within = drop-cons xs i d within ∙ ap (λ (n : ℕ). get_or xs i d ∷ drop n xs) (sym (add-one i))

pushed-filled : (done : List ColumnSummary) (s : ColumnSummary) → length done < 16 → pushed (filled done) s ≡ filled (done ++ s ∷ [])
pushed-filled done s few =
    let n : ℕ = length done in
    let left : 16 - n ≡ suc (16 - (n + 1)) = omega arith in
    let long : length (done ++ s ∷ []) ≡ n + 1 = length-append done (s ∷ []) in
    let rest : replicate (16 - n) unused ≡ unused ∷ replicate (16 - (n + 1)) unused = ap (λ (k : ℕ). replicate k unused) left in
    let places : set (done ++ replicate (16 - n) unused) n s ≡ (done ++ s ∷ []) ++ replicate (16 - length (done ++ s ∷ [])) unused
    = ap (λ (l : List ColumnSummary). set (done ++ l) n s) rest
    ∙ set-append_seam done unused (replicate (16 - (n + 1)) unused) s
    ∙ sym (append_assoc done (s ∷ []) (replicate (16 - (n + 1)) unused))
    ∙ ap (λ (k : ℕ). (done ++ s ∷ []) ++ replicate (16 - k) unused) (sym long) in
    ap₂ (λ (l : List ColumnSummary) (k : ℕ). record { summaries = l; count = k }) places (sym long)

-- what is asked for up to an index is at its indexes, and with the rest it is all that is asked for
pub record IsAsked (width : ℕ) (columns : List ℕ) (ops : List Op) (place : ℕ) (now : Summaries) : Type 0 where
  pub done : List ColumnSummary
  pub filled_with : now ≡ filled done
  pub count : length done ≡ place
  pub rest : with_rest done (all_some (map (summary_within width) (zip (drop place columns) (drop place ops)))) ≡ all_some (map (summary_within width) (zip columns ops))

module _ (width : ℕ) (columns : List ℕ) (ops : List Op) (place : ℕ) (now : Summaries) (asked : IsAsked width columns ops place now) (here : place < length columns) (same : length ops ≡ length columns) (column : ℕ) (op : Op) (column_is : column ≡ get_or columns place 0) (op_is : op ≡ get_or ops place Count) where
  next-is : zip (drop place columns) (drop place ops) ≡ (column, op) ∷ zip (drop (place + 1) columns) (drop (place + 1) ops)
  next-is =
      ap₂ (λ (a : List ℕ) (b : List Op). zip a b)
      (drop-here place columns 0 here ∙ ap (λ (c : ℕ). c ∷ drop (place + 1) columns) (sym column_is))
      (drop-here place ops Count (omega (arith, same)) ∙ ap (λ (o : Op). o ∷ drop (place + 1) ops) (sym op_is))

  -- a column that isn't there
  pub asked-fault : summary_within width (column, op) ≡ None → all_some (map (summary_within width) (zip columns ops)) ≡ None
  asked-fault none =
      sym asked.rest
      ∙ ap (λ (l : List (ℕ × Op)). with_rest asked.done (all_some (map (summary_within width) l))) next-is
      ∙ ap (λ (o : Option ColumnSummary). with_rest asked.done (all_some (o ∷ map (summary_within width) (zip (drop (place + 1) columns) (drop (place + 1) ops))))) none

  -- one more summary
  pub asked-more : (s : ColumnSummary) (next : Summaries) → summary_within width (column, op) ≡ Some s → place < 16 → next ≡ pushed now s → IsAsked width columns ops (place + 1) next
  asked-more s next is few step = record {
    done = asked.done ++ s ∷ [];
    filled_with = step ∙ ap (λ (n : Summaries). pushed n s) asked.filled_with ∙ pushed-filled asked.done s (omega (arith, asked.count));
    count = length-append asked.done (s ∷ []) ∙ ap (λ (n : ℕ). n + 1) asked.count;
    rest =
        sym (rest-more asked.done s (all_some (map (summary_within width) (zip (drop (place + 1) columns) (drop (place + 1) ops)))))
        ∙ ap (λ (o : Option ColumnSummary). with_rest asked.done (all_some (o ∷ map (summary_within width) (zip (drop (place + 1) columns) (drop (place + 1) ops))))) (sym is)
        ∙ ap (λ (l : List (ℕ × Op)). with_rest asked.done (all_some (map (summary_within width) l))) (sym next-is)
        ∙ asked.rest;
  }
