-- One put after another.
use Rattle.std.proofs.lemmas.List.{take_all}
use Rattle.std.proofs.Common.{◌≡◌, ◌≤◌, ℕ, subst, OnErr, ◌+◌, ◌-◌, ◌<◌, arith, length-drop, length, take, drop, take-append-drop, get_or, drop-cons, add-one, IsErr, List, [], ◌∷◌, ◌++◌, refl, sym, ap, ◌∙◌, append_assoc, append-nil, Result, Ok, Err, Option, Some, None, Bool, is_some, IsNone, true≢false, unwrap_or}
use Rattle.std.specs.List.{flat_map}
use Rattle.std.proofs.lemmas.Result.{MatchResult-from_err}
use Rattle.std.proofs.lemmas.Slice.{take-put_mid}
use Rattle.std.proofs.lemmas.Grind.{common_steps}
use borrow.Rule.Slice.PartMut.{put_mid}
use Rattle.std.proofs.KnownBytes.{Appends-nil, Appends-trans}
use Rattle.std.specs.Io.KnownBytes.{Appends}
use Rattle.std.specs.Borrow.{GName}
use Rattle.iv_bytes.specs.Sinks.{SinkState, Moves, Takes, FailsIn, Puts, buffered, waiting}

pub Moves-nothing : (state : SinkState) → Moves state state []
Moves-nothing state = record { sent = []; reaches = Appends-nil state.reached; all = append-nil (waiting state); holds = refl; same = refl }

-- nothing waits in a direct sink
pub waits-nothing : (state : SinkState) → IsNone state.held → waiting state ≡ []
waits-nothing state direct = by state.held direct where
  by : (held : Option (List ℕ)) → IsNone held → unwrap_or held [] ≡ []
  by None is = refl
  by (Some bytes) is = absurd (true≢false is)

-- one text after another
pub Moves-append : (old mid new : SinkState) (a b : List ℕ) → Moves old mid a → Moves mid new b → Moves old new (a ++ b)
Moves-append old mid new a b first second = record {
  sent = first.sent ++ second.sent;
  reaches = Appends-trans old.reached mid.reached new.reached first.sent second.sent first.reaches second.reaches;
  all = sym (append_assoc (waiting old) a b) ∙ ap (λ (l : List ℕ). l ++ b) first.all ∙ append_assoc first.sent (waiting mid) b
      ∙ ap (λ (l : List ℕ). first.sent ++ l) second.all ∙ sym (append_assoc first.sent second.sent (waiting new));
  holds = second.holds ∙ first.holds;
  same = second.same ∙ first.same;
}

-- all that a direct sink took went on
pub direct-sent : (old new : SinkState) (text : List ℕ) → IsNone old.held → Takes old new text → Appends old.reached new.reached text
direct-sent old new text direct took =
    let none : waiting new ≡ [] = waits-nothing new (took.moved.holds ∙ direct) in
    let all : took.moved.sent ≡ text =
    sym (append-nil took.moved.sent) ∙ ap (λ (l : List ℕ). took.moved.sent ++ l) (sym none) ∙ sym took.moved.all
    ∙ ap (λ (l : List ℕ). l ++ text) (waits-nothing old direct) in
    subst (λ (l : List ℕ). Appends old.reached new.reached l) all took.moved.reaches

-- the front was put, and then the back
pub Takes-append : (old mid new : SinkState) (a b : List ℕ) → Takes old mid a → Takes mid new b → Takes old new (a ++ b)
Takes-append old mid new a b first second = record {
  moved = Moves-append old mid new a b first.moved second.moved;
  failed = second.failed ∙ first.failed;
}

pub Takes-nothing : (state : SinkState) → Takes state state []
Takes-nothing state = record { moved = Moves-nothing state; failed = refl }

-- the back was not reached
pub FailsIn-front : (old new : SinkState) (a b : List ℕ) → FailsIn old new a → FailsIn old new (a ++ b)
FailsIn-front old new a b fails = record {
  sent = fails.sent;
  lost = fails.lost ++ b;
  reaches = fails.reaches;
  all = sym (append_assoc (waiting old) a b) ∙ ap (λ (l : List ℕ). l ++ b) fails.all ∙ append_assoc fails.sent fails.lost b;
  holds = fails.holds;
  same = fails.same;
  failed = fails.failed;
}

-- the front was put, and the back was not
pub FailsIn-back : (old mid new : SinkState) (a b : List ℕ) → Takes old mid a → FailsIn mid new b → FailsIn old new (a ++ b)
FailsIn-back old mid new a b first fails = record {
  sent = first.moved.sent ++ fails.sent;
  lost = fails.lost;
  reaches = Appends-trans old.reached mid.reached new.reached first.moved.sent fails.sent first.moved.reaches fails.reaches;
  all = sym (append_assoc (waiting old) a b) ∙ ap (λ (l : List ℕ). l ++ b) first.moved.all ∙ append_assoc first.moved.sent (waiting mid) b
      ∙ ap (λ (l : List ℕ). first.moved.sent ++ l) fails.all ∙ sym (append_assoc first.moved.sent fails.sent fails.lost);
  holds = fails.holds ∙ first.moved.holds;
  same = fails.same ∙ first.moved.same;
  failed = fails.failed;
}

-- a last put, whose result is returned
pub Puts-back : {T E : Type 0} (old mid new : SinkState) (result : Result T E) (a b : List ℕ)
    → Takes old mid a → Puts mid new result b → Puts old new result (a ++ b)
Puts-back old mid new (Ok x) a b first puts = Takes-append old mid new a b first puts
Puts-back old mid new (Err e) a b first puts = FailsIn-back old mid new a b first puts

-- what a failed put leaves, whatever the error is turned into on the way out
pub Puts-err : {T E : Type 0} (old new : SinkState) (result : Result T E) (text : List ℕ) → IsErr result → FailsIn old new text → Puts old new result text
Puts-err old new result text is fails = MatchResult-from_err result (λ _. Takes old new text) (λ _. FailsIn old new text) is (λ _. fails)

-- while the whole text is put: what is taken since the start, and what remains, are the whole
pub record Underway (start now : SinkState) (to_come whole : List ℕ) : Type 0 where
  pub done : List ℕ
  pub took : Takes start now done
  pub all : whole ≡ done ++ to_come

pub Underway-begin : (start : SinkState) (whole : List ℕ) → Underway start start whole whole
Underway-begin start whole = record { done = []; took = Takes-nothing start; all = refl }

pub Underway-more : (start mid now : SinkState) (piece to_come whole : List ℕ)
    → Underway start mid (piece ++ to_come) whole → Takes mid now piece → Underway start now to_come whole
Underway-more start mid now piece to_come whole u took = record {
  done = u.done ++ piece;
  took = Takes-append start mid now u.done piece u.took took;
  all = rw append_assoc u.all;
}

pub Underway-fails : (start mid now : SinkState) (piece to_come whole : List ℕ)
    → Underway start mid (piece ++ to_come) whole → FailsIn mid now piece → FailsIn start now whole
Underway-fails start mid now piece to_come whole u fails =
    rw u.all (FailsIn-back start mid now u.done (piece ++ to_come) u.took (FailsIn-front mid now piece to_come fails))

pub Underway-stops : (start mid now : SinkState) (to_come whole : List ℕ)
    → Underway start mid to_come whole → FailsIn mid now [] → FailsIn start now whole
Underway-stops start mid now to_come whole u fails = Underway-fails start mid now [] to_come whole u fails

pub Underway-ends : (start now : SinkState) (whole : List ℕ) → Underway start now [] whole → Takes start now whole
Underway-ends start now whole u = rw (u.all, append-nil) u.took

-- before the element at i: its text is the next piece
pub flat_map-drop : {X : Type 0} (f : X → List ℕ) (xs : List X) (i : ℕ) (d : X) → i < length xs
    → flat_map f (drop i xs) ≡ f (get_or xs i d) ++ flat_map f (drop (i + 1) xs)
flat_map-drop f xs i d low = rw (drop-cons xs i d low, add-one) refl

-- ---- pieces laid one after another in an array

-- the piece was copied after what is laid
pub laid-more : {X : Type 0} (f : X → List ℕ) (xs : List X) (i : ℕ) (d : X) (row copied : List ℕ) (at : ℕ) (whole : List ℕ)
    → take at row ++ flat_map f (drop i xs) ≡ whole → i < length xs → at ≤ length row → copied ≡ f (get_or xs i d)
    → take (at + length (f (get_or xs i d))) (put_mid at ((at + length (f (get_or xs i d))) - at) row copied) ++ flat_map f (drop (i + 1) xs) ≡ whole
laid-more f xs i d row copied at whole all low within is =
    let n : ℕ = length (f (get_or xs i d)) in
    let rest : List ℕ = flat_map f (drop (i + 1) xs) in
    ap (λ (l : List ℕ). l ++ rest) (take-put_mid at ((at + n) - at) row copied (at + n) (ap (λ (l : List ℕ). at + length l) (sym is)) within)
    ∙ append_assoc (take at row) copied rest
    ∙ ap (λ (l : List ℕ). take at row ++ (l ++ rest)) is
    ∙ ap (λ (l : List ℕ). take at row ++ l) (sym (flat_map-drop f xs i d low))
    ∙ all

-- the array is as long as before
pub laid-length : (row copied : List ℕ) (at n : ℕ) → at + n ≤ length row → length copied ≡ n
    → length (put_mid at ((at + n) - at) row copied) ≡ length row
laid-length row copied at n within long = grind (arith, common_steps)

-- the same, if its result is returned
pub Underway-last : {T E : Type 0} (start mid now : SinkState) (to_come : List ℕ) (result : Result T E) (whole : List ℕ)
    → Underway start mid to_come whole → Puts mid now result to_come → Puts start now result whole
Underway-last start mid now to_come (Ok x) whole u puts = rw u.all (Takes-append start mid now u.done to_come u.took puts)
Underway-last start mid now to_come (Err e) whole u puts = rw u.all (FailsIn-back start mid now u.done to_come u.took puts)

-- the value of `&xs[n..]`
pub tail_is : (n : ℕ) (xs : List ℕ) → take (length xs - n) (drop n xs) ≡ drop n xs
tail_is n xs = take_all (length xs - n) (drop n xs) (omega (arith, length-drop n xs))

-- the sink took the first n bytes of what remains
pub Underway-pushed : (start mid now : SinkState) (n : ℕ) (to_come whole : List ℕ)
    → Underway start mid to_come whole → Takes mid now (take n to_come) → Underway start now (take (length to_come - n) (drop n to_come)) whole
Underway-pushed start mid now n to_come whole u took =
    let cut : to_come ≡ take n to_come ++ drop n to_come = sym (take-append-drop n to_come) in
    let begun : Underway start mid (take n to_come ++ drop n to_come) whole = record { done = u.done; took = u.took; all = u.all ∙ ap (λ (l : List ℕ). u.done ++ l) cut } in
    rw (tail_is n to_come) (Underway-more start mid now (take n to_come) (drop n to_come) whole begun took)

-- some of the bytes that a buffer held went on to the sink below
pub Moves-sent : (old new : SinkState) (name : GName) (n : ℕ) (held : List ℕ)
    → Takes old new (take n held) → Takes (buffered old name held) (buffered new name (drop n held)) []
Moves-sent old new name n held took = record {
  moved = record {
    sent = took.moved.sent;
    reaches = took.moved.reaches;
    all = append-nil (waiting old ++ held) ∙ ap (λ (l : List ℕ). waiting old ++ l) (sym (take-append-drop n held))
        ∙ sym (append_assoc (waiting old) (take n held) (drop n held)) ∙ ap (λ (l : List ℕ). l ++ drop n held) took.moved.all
        ∙ append_assoc took.moved.sent (waiting new) (drop n held);
    holds = refl;
    same = rw (took.moved.holds, took.moved.same) refl;
  };
  failed = took.failed;
}

-- none of the bytes that a buffer held went on: the sink below failed
pub FailsIn-sent : (old new : SinkState) (name : GName) (held later : List ℕ)
    → FailsIn old new [] → FailsIn (buffered old name held) (buffered new name later) []
FailsIn-sent old new name held later fails = record {
  sent = fails.sent;
  lost = fails.lost ++ held;
  reaches = fails.reaches;
  all = append-nil (waiting old ++ held) ∙ ap (λ (l : List ℕ). l ++ held) (sym (append-nil (waiting old)) ∙ fails.all)
      ∙ append_assoc fails.sent fails.lost held;
  holds = refl;
  same = rw (fails.holds, fails.same) refl;
  failed = fails.failed;
}

-- the top of what two buffers hold their sinks by: the borrow, and whether it may hold bytes back
pub same-top : (after name : GName) (b c : Bool) (xs ys : List (GName × Bool)) → (after, b) ∷ xs ≡ (name, c) ∷ ys → (after ≡ name) × (b ≡ c)
same-top after name b c xs ys same =
    let top : ◌≡◌ {A = GName × Bool} (after, b) (name, c) = cc (same) in
    (ap (λ (p : GName × Bool). p.0) top, ap (λ (p : GName × Bool). p.1) top)

-- all that was put into a new buffer went on to the sink that was lent
pub Takes-finished : (old mid new : SinkState) (name after : GName) (held text : List ℕ)
    → Takes (buffered old name []) (buffered mid after held) text → Takes mid new held → Takes old new text
Takes-finished old mid new name after held text took last =
    let holds : is_some mid.held ≡ is_some old.held = (same-top _ _ _ _ _ _ took.moved.same).1 in
    let below : mid.below ≡ old.below = cc (took.moved.same) in
    record {
      moved = record {
        sent = took.moved.sent ++ last.moved.sent;
        reaches = Appends-trans old.reached mid.reached new.reached took.moved.sent last.moved.sent took.moved.reaches last.moved.reaches;
        all = ap (λ (l : List ℕ). l ++ text) (sym (append-nil (waiting old))) ∙ took.moved.all
            ∙ ap (λ (l : List ℕ). took.moved.sent ++ l) last.moved.all ∙ sym (append_assoc took.moved.sent last.moved.sent (waiting new));
        holds = last.moved.holds ∙ holds;
        same = last.moved.same ∙ below;
      };
      failed = last.failed ∙ took.failed;
    }

pub FailsIn-finished : (old mid new : SinkState) (name after : GName) (held text : List ℕ)
    → Takes (buffered old name []) (buffered mid after held) text → FailsIn mid new held → FailsIn old new text
FailsIn-finished old mid new name after held text took fails =
    let holds : is_some mid.held ≡ is_some old.held = (same-top _ _ _ _ _ _ took.moved.same).1 in
    let below : mid.below ≡ old.below = cc (took.moved.same) in
    record {
      sent = took.moved.sent ++ fails.sent;
      lost = fails.lost;
      reaches = Appends-trans old.reached mid.reached new.reached took.moved.sent fails.sent took.moved.reaches fails.reaches;
      all = ap (λ (l : List ℕ). l ++ text) (sym (append-nil (waiting old))) ∙ took.moved.all
          ∙ ap (λ (l : List ℕ). took.moved.sent ++ l) fails.all ∙ sym (append_assoc took.moved.sent fails.sent fails.lost);
      holds = fails.holds ∙ holds;
      same = fails.same ∙ below;
      failed = fails.failed;
    }

-- the text was put into a new buffer, which was then finished
pub Puts-finished : {T E : Type 0} (old mid new : SinkState) (name after : GName) (held text : List ℕ) (result : Result T E)
    → Takes (buffered old name []) (buffered mid after held) text → Puts mid new result held → Puts old new result text
Puts-finished old mid new name after held text (Ok x) took puts = Takes-finished old mid new name after held text took puts
Puts-finished old mid new name after held text (Err e) took puts = FailsIn-finished old mid new name after held text took puts

-- a new buffer failed, and what it held is lost
pub FailsIn-given_up : (old mid : SinkState) (name after : GName) (held text : List ℕ)
    → FailsIn (buffered old name []) (buffered mid after held) text → FailsIn old mid text
FailsIn-given_up old mid name after held text fails =
    let holds : is_some mid.held ≡ is_some old.held = (same-top _ _ _ _ _ _ fails.same).1 in
    let below : mid.below ≡ old.below = cc (fails.same) in
    record {
      sent = fails.sent;
      lost = fails.lost;
      reaches = fails.reaches;
      all = ap (λ (l : List ℕ). l ++ text) (sym (append-nil (waiting old))) ∙ fails.all;
      holds = holds;
      same = below;
      failed = fails.failed;
    }

-- the same, if what is held afterwards is known by an equation, while handing on
pub Takes-sent : (start old new : SinkState) (name : GName) (n : ℕ) (held later shown : List ℕ)
    → Takes start (buffered old name held) [] → shown ≡ held → Takes old new (take n shown) → later ≡ drop n held
    → Takes start (buffered new name later) []
Takes-sent start old new name n held later shown begun same took is =
    let took2 : Takes old new (take n held) = subst (λ (l : List ℕ). Takes old new (take n l)) same took in
    let all : Takes start (buffered new name (drop n held)) [] =
    Takes-append start (buffered old name held) (buffered new name (drop n held)) [] [] begun (Moves-sent old new name n held took2) in
    subst (λ (l : List ℕ). Takes start (buffered new name l) []) (sym is) all

pub OnErr-all : {T E P : Type 0} (result : Result T E) → P → OnErr result P
OnErr-all (Ok x) p = tt
OnErr-all (Err e) p = p
