-- The records of one sequence, taken one after another from a walk.
use Rattle.std.proofs.Common.{◌≡◌, ◌≢◌, ℕ, ◌<◌, ◌≤◌, ◌==◌, List, [], ◌∷◌, ◌++◌, All, map, filter, nat_lt, true, false, refl, sym, ap, ◌∙◌, subst, arith, inl, inr, append_assoc, eq-eqb, lt-ltb, le-ltb}
use Rattle.std.proofs.lemmas.Bool.{ne_eqb}
use Rattle.std.proofs.lemmas.List.{map-append}
use Rattle.std.proofs.lemmas.List.Elements.{All-head, All-tail, All-nil, All-push}
use Rattle.std.specs.Ordering.{is_le}
use Rattle.iv_lines.specs.CoveredPositions.{on}
use Rattle.iv_lines.specs.Ordered.{AreInOrder}
use Rattle.iv_lines.specs.RecordValue.{RecordValue, record_cmp}
use Rattle.iv_lines.proofs.InOrderLemmas.{all-recursion}
use Rattle.iv_lines.proofs.ListLemmas.{Mem, mem-all}
use Rattle.iv_lines.proofs.PrecedesLemmas.{precedes-from}
use Rattle.iv_cover.specs.Blocks.{start_of, stop_of}
use Rattle.iv_depth.specs.Inside.SequenceEdges.{Gathered, WritesSequence}

-- records on the sequence were taken, and where they start and stop is written; those that are left are on it or on later ones
pub record IsTaking (seq : ℕ) (all left : List RecordValue) (starts stops : List ℕ) : Type 0 where
  pub done : List RecordValue
  pub all_are : all ≡ done ++ left
  pub here : All (λ r. r.seq ≡ seq) done
  pub order : AreInOrder left
  pub from : All (λ r. seq ≤ r.seq) left
  pub starts_are : starts ≡ map start_of done
  pub stops_are : stops ≡ map stop_of done

-- none yet
pub taking-begin : (seq : ℕ) (all : List RecordValue) (starts stops : List ℕ) → AreInOrder all → All (λ r. seq ≤ r.seq) all → starts ≡ [] → stops ≡ []
    → IsTaking seq all all starts stops
taking-begin seq all starts stops order from no_starts no_stops = record {
  done = [];
  all_are = refl;
  here = All-nil (λ (r : RecordValue). r.seq ≡ seq);
  order = order;
  from = from;
  starts_are = no_starts;
  stops_are = no_stops;
}

-- the next one
pub taking-next : (seq : ℕ) (all left after : List RecordValue) (r : RecordValue) (starts stops more_starts more_stops : List ℕ) (start stop : ℕ) → left ≡ r ∷ after → r.seq ≡ seq
    → start ≡ r.start → stop ≡ r.stop → more_starts ≡ starts ++ start ∷ [] → more_stops ≡ stops ++ stop ∷ []
    → IsTaking seq all left starts stops → IsTaking seq all after more_starts more_stops
taking-next seq all left after r starts stops more_starts more_stops start stop is here start_is stop_is starts_are stops_are t =
    let order : AreInOrder (r ∷ after) = subst AreInOrder is t.order in record {
      done = t.done ++ r ∷ [];
      all_are = t.all_are ∙ ap (λ (l : List RecordValue). t.done ++ l) is ∙ sym (append_assoc t.done (r ∷ []) after);
      here = All-push (λ (q : RecordValue). q.seq ≡ seq) t.done r t.here here;
      order = order.1;
      from = All-tail (λ (q : RecordValue). seq ≤ q.seq) r after (subst (All (λ (q : RecordValue). seq ≤ q.seq)) is t.from);
      starts_are = starts_are ∙ (λ i. t.starts_are i ++ start_is i ∷ []) ∙ sym (map-append start_of t.done (r ∷ []));
      stops_are = stops_are ∙ (λ i. t.stops_are i ++ stop_is i ∷ []) ∙ sym (map-append stop_of t.done (r ∷ []));
    }

-- records on the sequence in front of those on later ones
split-all : (seq : ℕ) (done left : List RecordValue) → All (λ r. r.seq ≡ seq) done → All (λ r. seq < r.seq) left
    → (on seq (done ++ left) ≡ done) × (filter (λ r. nat_lt seq r.seq) (done ++ left) ≡ left)
split-all seq [] [] here past = (refl, refl)
split-all seq [] (r ∷ left) here past =
    let rest = split-all seq [] left here (All-tail (λ (q : RecordValue). seq < q.seq) r left past) in
    let first : seq < r.seq = All-head (λ (q : RecordValue). seq < q.seq) r left past in
    let off : (r.seq == seq) ≡ false = ne_eqb r.seq seq (λ at. omega (arith, first, at)) in
    let later : nat_lt seq r.seq ≡ true = lt-ltb seq r.seq first in
    (rw off rest.0, rw later (ap (λ (l : List RecordValue). r ∷ l) rest.1))
split-all seq (r ∷ done) left here past =
    let rest = split-all seq done left (All-tail (λ (q : RecordValue). q.seq ≡ seq) r done here) past in
    let at : r.seq ≡ seq = All-head (λ (q : RecordValue). q.seq ≡ seq) r done here in
    let on_it : (r.seq == seq) ≡ true = eq-eqb r.seq seq at in
    let not_later : nat_lt seq r.seq ≡ false = le-ltb seq r.seq (omega (arith, at)) in
    (rw on_it (ap (λ (l : List RecordValue). r ∷ l) rest.0), rw not_later rest.1)

-- if the first of those that are left is on a later sequence, all are
all-past : (seq : ℕ) (r : RecordValue) (after : List RecordValue) → AreInOrder (r ∷ after) → seq < r.seq → All (λ q. seq < q.seq) (r ∷ after)
all-past seq r after order past = mem-all (λ q. seq < q.seq) (r ∷ after) (λ q m. go q m)
  where
    go : (q : RecordValue) → Mem q (r ∷ after) → seq < q.seq
    go q (inl same) = subst (λ (x : RecordValue). seq < x.seq) same past
    go q (inr m) = elim (precedes-from r q (all-recursion (λ y. is_le (record_cmp r y) ≡ true) after order.0 q m)) [
      | inl less ↦ omega (arith, past, less)
      | inr at ↦ omega (arith, past, at.0)
    ]

module _ (seq : ℕ) (old new : Gathered) (t : IsTaking seq old.left new.left new.starts new.stops) where
  taking-past : All (λ r. seq < r.seq) new.left → WritesSequence seq old new
  taking-past past =
      let split = split-all seq t.done new.left t.here past in
      let on_it : on seq old.left ≡ t.done = ap (on seq) t.all_are ∙ split.0 in
      record {
        later = sym split.1 ∙ ap (filter (λ r. nat_lt seq r.seq)) (sym t.all_are);
        starts = t.starts_are ∙ ap (map start_of) (sym on_it);
        stops = t.stops_are ∙ ap (map stop_of) (sym on_it);
      }

  -- all are taken
  pub taking-all : new.left ≡ [] → WritesSequence seq old new
  taking-all none = taking-past (subst (All (λ (r : RecordValue). seq < r.seq)) (sym none) (All-nil (λ (r : RecordValue). seq < r.seq)))

  -- the next one is on another sequence
  pub taking-else : (r : RecordValue) (after : List RecordValue) → new.left ≡ r ∷ after → r.seq ≢ seq → WritesSequence seq old new
  taking-else r after is other =
      let low : seq ≤ r.seq = All-head (λ (q : RecordValue). seq ≤ q.seq) r after (subst (All (λ (q : RecordValue). seq ≤ q.seq)) is t.from) in
      taking-past (subst (All (λ (q : RecordValue). seq < q.seq)) (sym is) (all-past seq r after (subst AreInOrder is t.order) (omega (arith, low, other))))
