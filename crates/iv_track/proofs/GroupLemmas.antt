-- A list that is taken from its end, and the entries of the list reversed.
use Rattle.std.proofs.Common.{◌≡◌, ℕ, suc, ◌+◌, ◌-◌, ◌<◌, ◌≤◌, ◌^◌, true, false, List, [], ◌∷◌, ◌++◌, Some, None, length, reverse, take, map, refl, sym, ap, ◌∙◌, subst, arith, append-nil, append_assoc, take-append-drop, drop-cons}
use Rattle.std.specs.Prelude.{All}
use Rattle.std.specs.List.{slice_get}
use Rattle.std.specs.Ordering.{is_eq}
use Rattle.std.specs.declared.cmp.Ordering.{Ordering}
use Rattle.std.proofs.lemmas.Bool.{cond-true, cond-false}
use Rattle.std.proofs.lemmas.List.{drop_all, length-take-le, map-append, take_all, length-append, length-map, length-reverse, length-take, reverse-append, reverse-reverse, take-append-le, take-take}
use Rattle.std.proofs.lemmas.List.Elements.{All-head, All-nil, All-push, All-tail, All-take}
use Rattle.std.proofs.lemmas.List.Sorted.{All-permutation, IsPermutation-reverse}
use Rattle.std.proofs.lemmas.Option.{get_or_from_slice_get, slice_get-get_or}
use Rattle.iv_ledger.specs.Inside.Seen.{seen}
use Rattle.iv_track.specs.Inside.Counted.{grouped, grouped_from}

module _ {X : Type 0} where
  -- without its last a list is not changed before it
  without-last : (xs : List X) (x : X) → Some x ≡ slice_get xs (length xs - 1) → xs ≡ take (length xs - 1) xs ++ x ∷ []
  without-last [] x at = absurd cc
  without-last (y ∷ ys) x at =
      sym (take-append-drop (length (y ∷ ys) - 1) (y ∷ ys))
      ∙ ap (λ l. take (length (y ∷ ys) - 1) (y ∷ ys) ++ l) (
      drop-cons (y ∷ ys) (length (y ∷ ys) - 1) x (omega arith)
      ∙ (λ i. get_or_from_slice_get (y ∷ ys) (length (y ∷ ys) - 1) x x (sym at) i ∷ drop_all (suc (length (y ∷ ys) - 1)) (y ∷ ys) (omega arith) i)
      )

  -- the last of a list is the first of the list reversed
  pub reverse-last : (xs : List X) (x : X) → Some x ≡ slice_get xs (length xs - 1) → reverse xs ≡ x ∷ reverse (take (length xs - 1) xs)
  reverse-last xs x at = ap reverse (without-last xs x at) ∙ reverse-append (take (length xs - 1) xs) (x ∷ [])

  pub none-last : (xs : List X) → None ≡ slice_get xs (length xs - 1) → xs ≡ []
  none-last [] at = refl
  none-last (y ∷ ys) at = absurd (some (at ∙ slice_get-get_or (y ∷ ys) (length (y ∷ ys) - 1) y (omega arith)))
    where
      some : {x : X} → None ≡ Some x → ⊥
      some is = cc

module _ {P K : Type 0} (cmp : K → K → Ordering) (read : P → K) (place : P) where
  -- from the end of the old places copies of `place` were taken, so that with it there are so many
  pub record AreTaken (old places : List P) (copies : ℕ) : Type 0 where
    pub some : 0 < copies
    pub few : copies ≤ length old + 1
    pub left : places ≡ take (length old + 1 - copies) old
    pub same : grouped cmp (read place ∷ map read (reverse old)) ≡ grouped_from cmp (read place) copies (map read (reverse places))

  pub taken-none : (old : List P) → AreTaken old old 1
  taken-none old = record {
    some = omega arith;
    few = omega arith;
    left = sym (take_all (length old + 1 - 1) old (omega arith));
    same = refl;
  }

  -- one copy more
  pub taken-one : (old places new : List P) (copies : ℕ) (next : P) → Some next ≡ slice_get places (length places - 1) → is_eq (cmp (read next) (read place)) ≡ true → new ≡ take (length places - 1) places → 0 < length places → AreTaken old places copies → AreTaken old new (copies + 1)
  taken-one old places new copies next at alike is longer t =
      let long : length places ≡ length old + 1 - copies = ap length t.left ∙ length-take-le (length old + 1 - copies) old (omega (arith, t.some)) in
      record {
        some = omega arith;
        few = omega (arith, long, longer);
        left = is ∙ ap (λ l. take (length places - 1) l) t.left ∙ take-take (length places - 1) (length old + 1 - copies) old (omega (arith, long)) ∙ ap (λ (n : ℕ). take n old) (omega (arith, long));
        same =
            t.same
            ∙ ap (λ l. grouped_from cmp (read place) copies (map read l)) (reverse-last places next at)
            ∙ cond-true (is_eq (cmp (read next) (read place))) _ _ alike
            ∙ ap (λ l. grouped_from cmp (read place) (copies + 1) (map read (reverse l))) (sym is);
      }

  -- the next is no copy
  pub taken-apart : (old places : List P) (copies : ℕ) (next : P) → Some next ≡ slice_get places (length places - 1) → is_eq (cmp (read next) (read place)) ≡ false → AreTaken old places copies
      → grouped cmp (read place ∷ map read (reverse old)) ≡ (read place, copies) ∷ grouped cmp (map read (reverse places))
  taken-apart old places copies next at apart t =
      t.same
      ∙ ap (λ l. grouped_from cmp (read place) copies (map read l)) (reverse-last places next at)
      ∙ cond-false (is_eq (cmp (read next) (read place))) _ _ apart
      ∙ ap (λ l. (read place, copies) ∷ grouped cmp (map read l)) (sym (reverse-last places next at))

  -- there is no next
  pub taken-all : (old places : List P) (copies : ℕ) → None ≡ slice_get places (length places - 1) → AreTaken old places copies
      → grouped cmp (read place ∷ map read (reverse old)) ≡ (read place, copies) ∷ grouped cmp (map read (reverse places))
  taken-all old places copies at t =
      t.same ∙ (λ i. grouped_from cmp (read place) copies (map read (reverse (none-last places at i)))) ∙ (λ i. (read place, copies) ∷ grouped cmp (map read (reverse (sym (none-last places at) i))))

module _ {P K : Type 0} (cmp : K → K → Ordering) (read : P → K) (IsKey : P → Type 0) (all : List K) where
  -- the entries so far, and those of the places that are left, are those of all: the last place comes next
  pub record AreGrouped (entries : List (P × ℕ)) (places : List P) : Type 0 where
    pub same : map (seen read) entries ++ grouped cmp (map read (reverse places)) ≡ grouped cmp all
    pub keys : All (λ e. IsKey e.0) entries
    pub left : All IsKey places
    pub few : length places < 2 ^ 32

  pub grouped-begins : (ps places : List P) → places ≡ reverse ps → map read ps ≡ all → All IsKey ps → length all < 2 ^ 32 → AreGrouped [] places
  grouped-begins ps places is reads keys few = record {
    same = ap (λ l. grouped cmp (map read l)) (ap reverse is ∙ reverse-reverse ps) ∙ ap (grouped cmp) reads;
    keys = All-nil (λ e. IsKey e.0);
    left = subst (All IsKey) (sym is) (All-permutation IsKey ps (reverse ps) (IsPermutation-reverse ps) keys);
    few = omega (arith, few, ap length reads, length-map ps read, ap length is, length-reverse ps);
  }

  -- the next place with its copies
  pub grouped-next : (entries more : List (P × ℕ)) (places left new : List P) (place : P) (copies n : ℕ) → places ≡ left ++ place ∷ [] → new ≡ take n left
      → grouped cmp (read place ∷ map read (reverse left)) ≡ (read place, copies) ∷ grouped cmp (map read (reverse new)) → more ≡ entries ++ (place, copies) ∷ [] → AreGrouped entries places → AreGrouped more new
  grouped-next entries more places left new place copies n at is group pushed g =
      let known : All IsKey (left ++ place ∷ []) = subst (All IsKey) at g.left in
      let before : All IsKey left = subst (All IsKey) (take-append-le (length left) left (place ∷ []) (omega arith) ∙ take_all (length left) left (omega arith)) (All-take IsKey (length left) (left ++ place ∷ []) known) in
      record {
        same =
            ap (λ es. map (seen read) es ++ grouped cmp (map read (reverse new))) pushed
            ∙ ap (λ es. es ++ grouped cmp (map read (reverse new))) (map-append (seen read) entries ((place, copies) ∷ []))
            ∙ append_assoc (map (seen read) entries) ((read place, copies) ∷ []) (grouped cmp (map read (reverse new)))
            ∙ ap (λ es. map (seen read) entries ++ es) (sym group)
            ∙ ap (λ l. map (seen read) entries ++ grouped cmp (map read l)) (sym (ap reverse at ∙ reverse-append left (place ∷ [])))
            ∙ g.same;
        keys = subst (All (λ e. IsKey e.0)) (sym pushed) (All-push (λ e. IsKey e.0) entries (place, copies) g.keys (All-last left known));
        left = subst (All IsKey) (sym is) (All-take IsKey n left before);
        few = omega (arith, g.few, ap length at, length-append left (place ∷ []), ap length is, length-take n left);
      }
    where
      All-last : (left : List P) → All IsKey (left ++ place ∷ []) → IsKey place
      All-last [] h = All-head IsKey place [] h
      All-last (p ∷ left) h = All-last left (All-tail IsKey p (left ++ place ∷ []) h)

  -- no place is left
  pub grouped-all : (entries : List (P × ℕ)) (places : List P) → length places ≡ 0 → AreGrouped entries places → map (seen read) entries ≡ grouped cmp all
  grouped-all entries [] none g = sym (append-nil (map (seen read) entries)) ∙ g.same
  grouped-all entries (p ∷ places) none g = absurd (omega (arith, none))
