-- Rows that are put of some records and then of others.
use Rattle.std.proofs.Common.{◌≡◌, List, [], ◌∷◌, ◌++◌, Result, Ok, Err, OnOk, Option, Some, None, false, refl, sym, ap, ◌∙◌, subst, append_assoc, append-nil}
use Rattle.std.specs.Iterator.{YieldsFirst}
use Rattle.std.specs.Option.{is_some}
use Rattle.std.specs.Result.{IsErr}
use Rattle.std.proofs.lemmas.List.{flat_map_more}
use Rattle.std.proofs.lemmas.List.Concat.{flat_map-append}
use Rattle.iv_bytes.specs.Sinks.{Puts, Takes, FailsIn, SinkState}
use Rattle.iv_bytes.proofs.PutLemmas.{Takes-nothing, Takes-append, FailsIn-front, FailsIn-back, Puts-back, Puts-err}
use Rattle.iv_lines.specs.Genome.{Sequences}
use Rattle.iv_lines.specs.Ordered.{AreInOrder}
use Rattle.iv_lines.specs.RecordValue.{RecordValue}
use Rattle.iv_pair.specs.PairRows.{pair_rows, pair_text}
use Rattle.iv_pair.specs.Inside.PairTexts.{PutsSome}
use Rattle.iv_pair.specs.declared.pair_rows.PairOutput.{PairOutput}

-- the rows of some records from the front are put, and the others are left
pub record HasPut (output : PairOutput) (g : Sequences) (second old new : List RecordValue) (before after : SinkState) : Type 0 where
  pub taken : List RecordValue
  pub all_are : old ≡ taken ++ new
  pub put : Takes before after (pair_text output g taken second)

module _ (output : PairOutput) (g : Sequences) (second : List RecordValue) where
  pub put-none : (old : List RecordValue) (before : SinkState) → HasPut output g second old old before before
  put-none old before = record { taken = []; all_are = refl; put = Takes-nothing before }

  text-more : (taken : List RecordValue) (a : RecordValue) → pair_text output g (taken ++ a ∷ []) second ≡ pair_text output g taken second ++ pair_rows output g a second
  text-more taken a = sym (flat_map_more (λ r. pair_rows output g r second) [] taken a)

  all-more : (old left rest taken : List RecordValue) (a : RecordValue) → old ≡ taken ++ left → left ≡ a ∷ rest → old ≡ (taken ++ a ∷ []) ++ rest
  all-more old left rest taken a all first = all ∙ ap (λ (l : List RecordValue). taken ++ l) first ∙ sym (append_assoc taken (a ∷ []) rest)

  -- one record more
  pub put-more : (old left rest : List RecordValue) (a : RecordValue) (before mid after : SinkState) → HasPut output g second old left before mid → left ≡ a ∷ rest
      → Takes mid after (pair_rows output g a second) → HasPut output g second old rest before after
  put-more old left rest a before mid after h first took = record {
    taken = h.taken ++ a ∷ [];
    all_are = all-more old left rest h.taken a h.all_are first;
    put = subst (Takes before after) (sym (text-more h.taken a)) (Takes-append before mid after (pair_text output g h.taken second) (pair_rows output g a second) h.put took);
  }

  -- it failed in the rows of one
  pub put-fails : {T E : Type 0} (old left rest : List RecordValue) (a : RecordValue) (before mid after : SinkState) (result : Result T E) → IsErr result → HasPut output g second old left before mid → left ≡ a ∷ rest
      → FailsIn mid after (pair_rows output g a second) → PutsSome output g second old rest before after result
  put-fails old left rest a before mid after result is h first fails = record {
    taken = h.taken ++ a ∷ [];
    all_are = all-more old left rest h.taken a h.all_are first;
    put = Puts-err before after result (pair_text output g (h.taken ++ a ∷ []) second) is
        (subst (FailsIn before after) (sym (text-more h.taken a)) (FailsIn-back before mid after (pair_text output g h.taken second) (pair_rows output g a second) h.put fails));
  }

  -- all that were wanted are put
  pub puts-some : {T E : Type 0} {x : T} (old left : List RecordValue) (before after : SinkState) → HasPut output g second old left before after → PutsSome {T = T} {E = E} output g second old left before after (Ok x)
  puts-some old left before after h = record { taken = h.taken; all_are = h.all_are; put = h.put }

  -- the same are left
  pub put-ended : (old left rest : List RecordValue) (before after : SinkState) → left ≡ rest → HasPut output g second old left before after → HasPut output g second old rest before after
  put-ended old left rest before after same h = subst (λ (l : List RecordValue). HasPut output g second old l before after) same h

  -- if none is left, the rows of all are put
  pub puts-all : {T E : Type 0} (old new : List RecordValue) (before after : SinkState) (result : Result T E) → PutsSome output g second old new before after result → OnOk result (new ≡ [])
      → Puts before after result (pair_text output g old second)
  puts-all old new before after (Ok x) p none =
      let all : p.taken ≡ old = sym (append-nil p.taken) ∙ ap (λ (l : List RecordValue). p.taken ++ l) (sym none) ∙ sym p.all_are in
      subst (λ (l : List RecordValue). Takes before after (pair_text output g l second)) all p.put
  puts-all old new before after (Err e) p none =
      let all : pair_text output g old second ≡ pair_text output g p.taken second ++ pair_text output g new second
      = ap (λ (l : List RecordValue). pair_text output g l second) p.all_are ∙ flat_map-append (λ r. pair_rows output g r second) p.taken new in
      subst (FailsIn before after) (sym all) (FailsIn-front before after (pair_text output g p.taken second) (pair_text output g new second) p.put)

  -- the rows of some, and then those of the others
  pub puts-rest : {T E : Type 0} {x : T} (old left : List RecordValue) (before mid after : SinkState) (result : Result T E) → PutsSome {T = T} {E = E} output g second old left before mid (Ok x) → Puts mid after result (pair_text output g left second)
      → Puts before after result (pair_text output g old second)
  puts-rest old left before mid after result p puts =
      let all : pair_text output g old second ≡ pair_text output g p.taken second ++ pair_text output g left second
      = ap (λ (l : List RecordValue). pair_text output g l second) p.all_are ∙ flat_map-append (λ r. pair_rows output g r second) p.taken left in
      subst (Puts before after result) (sym all) (Puts-back before mid after result (pair_text output g p.taken second) (pair_text output g left second) p.put puts)

  -- it failed among some
  pub puts-failed : {T E U F : Type 0} {e : E} (old left : List RecordValue) (before after : SinkState) (result : Result U F) → IsErr result → PutsSome {T = T} {E = E} output g second old left before after (Err e)
      → Puts before after result (pair_text output g old second)
  puts-failed old left before after result is p =
      let all : pair_text output g old second ≡ pair_text output g p.taken second ++ pair_text output g left second
      = ap (λ (l : List RecordValue). pair_text output g l second) p.all_are ∙ flat_map-append (λ r. pair_rows output g r second) p.taken left in
      Puts-err before after result (pair_text output g old second) is (subst (FailsIn before after) (sym all) (FailsIn-front before after (pair_text output g p.taken second) (pair_text output g left second) p.put))

-- what is left is in order
in_order-back : (xs ys : List RecordValue) → AreInOrder (xs ++ ys) → AreInOrder ys
in_order-back [] ys order = order
in_order-back (x ∷ xs) ys order = in_order-back xs ys order.1

pub left-ordered : {T E : Type 0} {result : Result T E} (output : PairOutput) (g : Sequences) (second old left : List RecordValue) (before after : SinkState) → AreInOrder old → PutsSome output g second old left before after result → AreInOrder left
left-ordered output g second old left before after order p = in_order-back p.taken left (subst AreInOrder p.all_are order)

-- a call gave none
pub none-left : (old new : List RecordValue) (given : Option RecordValue) → is_some given ≡ false → YieldsFirst (λ (l : List RecordValue). l) old given new → old ≡ []
none-left old new None without gives = gives.0
none-left old new (Some r) without gives = absurd cc
