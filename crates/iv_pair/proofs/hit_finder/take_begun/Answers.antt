use Rattle.std.proofs.Common.{◌≡◌, ◌++◌, [], ◌∷◌, List, true, false, map, length, sym, ap, ◌∙◌, subst, arith, length-append}
use Rattle.std.proofs.lemmas.List.{map-append}
use Rattle.std.proofs.lemmas.List.Elements.{All-push}
use Rattle.iv_lines.specs.Ordered.{AreInOrder}
use Rattle.iv_lines.specs.RecordValue.{RecordValue}
use Rattle.iv_lines.specs.CoveredPositions.{covers}
use Rattle.iv_pair.specs.Inside.HitFinder.{AllCover, HitAlike, IsOnward}
use Rattle.iv_pair.proofs.CarryLemmas.{alike-pushed, alike-passed, begun-not_from, given-next, given-first}
use Rattle.iv_pair.proofs.hit_finder.take_begun.Goals.{in-Some-next, in_default-next}
use Rattle.iv_pair.proofs.hit_finder.take_begun.Goals as goal

pub loop-preserved-then-not-covers : goal.loop-preserved-then-not-covers
loop-preserved-then-not-covers g c =
    let value = g.W.Record.BedRecord.as_record in
    let seq = c.args.seq in
    let start = c.args.start in
    let i = c.loop.invariant in
    let seen = c.in-Some.ensures.next in
    let r = seen.0 in
    let others = seen.1 in
    let xs : List RecordValue = map value c.loop.carried.items in
    let old : List RecordValue = map value c.args.carried.now.items ++ g.W.RecordWalk.left c.args.walk.now in
    let rest = given-next value (g.W.RecordWalk.left c.loop.walk) (g.W.RecordWalk.left c.next.new.self) c.next.result r others c.next.ensures.first seen.2 in
    let not : covers seq start r ≡ false = sym (c.covers.ensures r seen.3) ∙ c.if-not-covers.true in
    let begun : IsOnward r.seq r.start seq start = begun-not_from seq start r (sym (c.is_from.ensures r seen.3) ∙ c.if-is_from.false) in
    let alike : HitAlike seq start (xs ++ r ∷ others) old = subst (λ (l : List RecordValue). HitAlike seq start (xs ++ l) old) seen.2 i.alike in
    let one = ap (λ (l : List RecordValue). length l) seen.2 in
    let less = ap (λ (l : List RecordValue). length l) rest in
    record {
      ordered = subst AreInOrder (sym rest) (subst AreInOrder seen.2 i.ordered).1;
      few = omega (arith, one, less, i.few);
      cover = i.cover;
      alike = subst (λ (l : List RecordValue). HitAlike seq start (xs ++ l) old) (sym rest) (alike-passed seq start r xs others old begun not alike);
    }

pub loop-preserved : goal.loop-preserved
loop-preserved g c =
    let value = g.W.Record.BedRecord.as_record in
    let seq = c.args.seq in
    let start = c.args.start in
    let i = c.loop.invariant in
    let seen = c.in-Some.ensures.next in
    let bs : List RecordValue = g.W.RecordWalk.left c.next-in-loop.new.self in
    let xs : List RecordValue = map value c.loop.carried.items in
    let old : List RecordValue = map value c.args.carried.now.items ++ g.W.RecordWalk.left c.args.walk.now in
    elim c.match-next-2.branch [
      | in-Some-next w ↦
          let f = w.in-Some-next.feature in
          let b : RecordValue = value f in
          let first : g.W.RecordWalk.left c.loop.walk ≡ b ∷ bs = w.in-Some-next.ensures.first in
          let same : seen.0 ≡ b = given-first value (g.W.RecordWalk.left c.loop.walk) bs f seen.0 seen.1 first seen.2 in
          let is : covers seq start b ≡ true = ap (covers seq start) (sym same) ∙ sym (c.covers.ensures seen.0 seen.3) ∙ c.if-not-covers.false in
          let items : c.match-next-2.carried.items ≡ c.loop.carried.items ++ f ∷ [] = ap (λ v. v.items) w.carried-is ∙ w.push_reserved.ensures.items in
          let e : map value c.match-next-2.carried.items ≡ xs ++ b ∷ [] = ap (map value) items ∙ map-append value c.loop.carried.items (f ∷ []) in
          let alike : HitAlike seq start (xs ++ b ∷ bs) old = subst (λ (l : List RecordValue). HitAlike seq start (xs ++ l) old) first i.alike in
          let one = ap (λ (l : List RecordValue). length l) first in
          let more = ap (λ l. length l) items ∙ length-append c.loop.carried.items (f ∷ []) in
          record {
            ordered = (subst AreInOrder first i.ordered).1;
            few = omega (arith, one, more, i.few);
            cover = subst (AllCover seq start) (sym e) (All-push (λ (q : RecordValue). covers seq start q ≡ true) xs b i.cover is);
            alike = subst (λ (l : List RecordValue). HitAlike seq start (l ++ bs) old) (sym e) (alike-pushed seq start b xs bs old alike);
          }
      | in_default-next w ↦
          let none : [] ≡ seen.0 ∷ seen.1 = sym w.in_default-next.ensures.first.0 ∙ seen.2 in
          absurd cc
    ]
