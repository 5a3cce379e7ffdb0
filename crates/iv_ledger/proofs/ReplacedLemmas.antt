-- A list of which a few items were replaced.
use Rattle.std.proofs.Common.{◌≡◌, ℕ, zero, suc, ◌+◌, ◌-◌, ◌<◌, ◌≤◌, Bool, true, false, nat_lt, List, [], ◌∷◌, ◌++◌, length, take, drop, set, refl, sym, ap, ◌∙◌, append_assoc, arith}
use Rattle.std.specs.List.{insert}
use Rattle.std.proofs.Math.Seq.{take-length, take-append-add, drop-append-add}
use Rattle.std.proofs.Math.ListN.{drop_of_length-le}
use Rattle.std.proofs.lemmas.Bool.{ltb-true, ltb-false}
use Rattle.std.proofs.lemmas.List.{take-append-drop, take-append-le, drop_at, drop-drop, take-take, set_split, set-append_left, set-append_right, length-take-le, length-drop, length-append, length-set, append-nil}
use Rattle.iv_ledger.specs.Inside.Replaced.{IsReplaced, IsAmong}

few_taken : {X : Type 0} (n : ℕ) (xs : List X) → length (take n xs) ≤ n
few_taken zero xs = omega arith
few_taken (suc n) [] = omega arith
few_taken (suc n) (x ∷ xs) = omega (arith, few_taken n xs)

module _ {X : Type 0} (xs : List X) (p : ℕ) where
  -- the items before an index, n from it on, and those after them
  in_parts : (n : ℕ) → xs ≡ take p xs ++ (take n (drop p xs) ++ drop (p + n) xs)
  in_parts n =
      sym (take-append-drop p xs)
      ∙ ap (λ ys. take p xs ++ ys) (sym (take-append-drop n (drop p xs)) ∙ ap (λ ys. take n (drop p xs) ++ ys) (drop-drop n p xs))

  -- the list is the same
  pub replaced_none : (n m : ℕ) → n ≤ m → IsReplaced xs p n m xs
  replaced_none n m le = record {
    others = take n (drop p xs);
    few = omega (arith, few_taken n (drop p xs));
    are = in_parts n;
  }

  -- an item is written
  pub replaced_written : (y : X) → p < length xs → IsReplaced xs p 1 1 (set xs p y)
  replaced_written y lt =
      let next : suc p ≡ p + 1 = omega arith in
      record { others = y ∷ []; few = omega arith; are = set_split xs p y lt ∙ ap (λ n. take p xs ++ y ∷ drop n xs) next }

  -- an item is inserted
  pub replaced_inserted : (y : X) → IsReplaced xs p 0 1 (insert xs p y)
  replaced_inserted y =
      let here : p ≡ p + 0 = omega arith in
      record { others = y ∷ []; few = omega arith; are = ap (λ n. take p xs ++ y ∷ drop n xs) here }

-- the list is the same, and the index is of one of its items
pub among_same : {X : Type 0} (xs : List X) (p : ℕ) → p < length xs → IsAmong xs p 1 2 xs p
among_same xs p lt =
    let some : p < p + length (take 1 (drop p xs)) = omega (arith, lt, length-drop p xs, length-take-le 1 (drop p xs) (omega (arith, lt, length-drop p xs))) in
    record {
      replaced = record { others = take 1 (drop p xs); few = omega (arith, few_taken 1 (drop p xs)); are = in_parts xs p 1 };
      no_less = omega arith;
      below = some;
    }

-- an item is inserted, and then the one at an index written, before it or, at the end, anywhere
module _ {X : Type 0} {xs ys zs : List X} {p q : ℕ} (one : IsReplaced xs q 0 1 ys) (two : IsReplaced ys p 1 1 zs) where
  -- the item after p was inserted
  pub replaced_both : q ≡ p + 1 → p < length xs → IsReplaced xs p 1 2 zs
  replaced_both next lt =
      let here : q + 0 ≡ p + 1 = omega (arith, next) in
      let len : length (take (p + 1) xs) ≡ p + 1 = length-take-le (p + 1) xs (omega arith) in
      let parts : ys ≡ take (p + 1) xs ++ (one.others ++ drop (p + 1) xs) = one.are ∙ ap (λ n. take n xs ++ (one.others ++ drop (q + 0) xs)) next ∙ ap (λ n. take (p + 1) xs ++ (one.others ++ drop n xs)) here in
      let front : take p ys ≡ take p xs = ap (take p) parts ∙ take-append-le p (take (p + 1) xs) (one.others ++ drop (p + 1) xs) (omega (arith, len)) ∙ take-take p (p + 1) xs (omega arith) in
      let back : drop (p + 1) ys ≡ one.others ++ drop (p + 1) xs = ap (drop (p + 1)) parts ∙ drop_at (take (p + 1) xs) (one.others ++ drop (p + 1) xs) (p + 1) len in
      record {
        others = two.others ++ one.others;
        few = omega (arith, one.few, two.few, length-append two.others one.others);
        are =
            two.are
            ∙ ap (λ ws. ws ++ (two.others ++ drop (p + 1) ys)) front
            ∙ ap (λ ws. take p xs ++ (two.others ++ ws)) back
            ∙ ap (λ ws. take p xs ++ ws) (sym (append_assoc two.others one.others (drop (p + 1) xs)));
      }

  -- the item was inserted at the end, and p is there or after it
  pub replaced_end : q ≡ length xs → length xs ≤ p → IsReplaced xs p 1 2 zs
  replaced_end at le =
      let k = p - length xs in
      let front : take q xs ≡ xs = ap (λ n. take n xs) at ∙ take-length xs in
      let back : drop (q + 0) xs ≡ [] = drop_of_length-le xs (omega (arith, at)) in
      let parts : ys ≡ xs ++ one.others = one.are ∙ ap (λ ws. ws ++ (one.others ++ drop (q + 0) xs)) front ∙ ap (λ ws. xs ++ (one.others ++ ws)) back ∙ ap (λ ws. xs ++ ws) (append-nil one.others) in
      let low : take p ys ≡ xs ++ take k one.others = ap (take p) parts ∙ ap (λ n. take n (xs ++ one.others)) (omega (arith, le)) ∙ take-append-add xs one.others k in
      let high : drop (p + 1) ys ≡ drop (k + 1) one.others = ap (drop (p + 1)) parts ∙ ap (λ n. drop n (xs ++ one.others)) (omega (arith, le)) ∙ drop-append-add xs one.others (k + 1) in
      let all : take p xs ≡ xs = sym (append-nil (take p xs)) ∙ ap (λ ws. take p xs ++ ws) (sym (drop_of_length-le xs le)) ∙ take-append-drop p xs in
      let none : drop (p + 1) xs ≡ [] = drop_of_length-le xs (omega (arith, le)) in
      let into = take k one.others ++ (two.others ++ drop (k + 1) one.others) in
      record {
        others = into;
        few = omega (
          arith,
          one.few,
          two.few,
          length-append (take k one.others) (two.others ++ drop (k + 1) one.others),
          length-append two.others (drop (k + 1) one.others),
          length-drop (k + 1) one.others,
          length-drop k one.others,
          ap length (take-append-drop k one.others),
          length-append (take k one.others) (drop k one.others),
        );
        are =
            two.are
            ∙ ap (λ ws. ws ++ (two.others ++ drop (p + 1) ys)) low
            ∙ ap (λ ws. (xs ++ take k one.others) ++ (two.others ++ ws)) high
            ∙ append_assoc xs (take k one.others) (two.others ++ drop (k + 1) one.others)
            ∙ sym (ap (λ ws. ws ++ (into ++ drop (p + 1) xs)) all ∙ ap (λ ws. xs ++ (into ++ ws)) none ∙ ap (λ ws. xs ++ ws) (append-nil into));
      }

  -- the item was inserted after p, or at the end
  pub replaced_follow : (p < length xs → q ≡ p + 1) → (length xs ≤ p → q ≡ length xs) → IsReplaced xs p 1 2 zs
  replaced_follow next end = go (nat_lt p (length xs)) refl
    where
      go : (b : Bool) → b ≡ nat_lt p (length xs) → IsReplaced xs p 1 2 zs
      go true e = let lt = ltb-true p (length xs) (sym e) in replaced_both (next lt) lt
      go false e = let le = ltb-false p (length xs) (sym e) in replaced_end (end le) le

-- one of the items that came is written
module _ {X : Type 0} {xs ys : List X} {p n m q : ℕ} (among : IsAmong xs p n m ys q) (in_range : p ≤ length xs) where
  pub replaced_among : (y : X) → IsReplaced xs p n m (set ys q y)
  replaced_among y =
      let r = among.replaced in
      let rest = drop (p + n) xs in
      record {
        others = set r.others (q - p) y;
        few = omega (arith, r.few, length-set r.others (q - p) y);
        are =
            ap (λ ws. set ws q y) r.are
            ∙ set-append_right (take p xs) (r.others ++ rest) p q y (length-take-le p xs in_range) among.no_less
            ∙ ap (λ ws. take p xs ++ ws) (set-append_left r.others rest (q - p) y (omega (arith, among.below, among.no_less)));
      }
