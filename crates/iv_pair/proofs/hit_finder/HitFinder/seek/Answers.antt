use Rattle.std.proofs.Common.{◌≡◌, ◌++◌, ℕ, List, map, ap, ◌∙◌, subst, arith}
use Rattle.std.proofs.lemmas.List.{length-map}
use Rattle.iv_lines.specs.RecordValue.{RecordValue}
use Rattle.iv_track.specs.Regions.{hits}
use Rattle.iv_pair.specs.Inside.HitFinder.{Finding, StandsAt}
use Rattle.iv_pair.proofs.CarryLemmas.{stands-on, stands-found}
use Rattle.iv_pair.proofs.hit_finder.HitFinder.seek.Goals as goal

pub returns-then-take_begun-clause-found : goal.returns-then-take_begun-clause-found
returns-then-take_begun-clause-found g c =
    let value = g.W.Record.BedRecord.as_record in
    let s = c.self.inside in
    let seq = c.args.seq in
    let start = c.args.start in
    let all = g.N.SecondRecords.records s.second in
    let carried : List RecordValue = map value s.carried.items in
    let ahead = g.W.RecordWalk.left s.walk in
    let took : List RecordValue = map value c.take_begun.new.carried.items in
    let left = g.W.RecordWalk.left c.take_begun.new.walk in
    let on : s.seq ≡ seq = ap (λ (f : Finding). f.seq) c.self.view_is ∙ c.go_to.ensures.there.0 in
    let at : s.start ≡ start = ap (λ (f : Finding). f.start) c.self.view_is ∙ c.go_to.ensures.there.1 in
    let end : s.stop ≡ c.args.stop = ap (λ (f : Finding). f.stop) c.self.view_is ∙ c.go_to.ensures.there.2 in
    let before : StandsAt all carried ahead seq start = subst (λ (n : ℕ). StandsAt all carried ahead n start) on (subst (StandsAt all carried ahead s.seq) at c.self.invariant) in
    let t = c.take_begun.ensures in
    (λ i. took ++ hits left (on i) (at i) (end i))
    ∙ stands-found all took left seq start c.args.stop c.requires (stands-on all took left carried ahead seq start t.cover t.ordered (omega (arith, t.few, length-map c.take_begun.new.carried.items value, length-map s.carried.items value)) t.alike before)
    ∙ ap (λ (f : Finding). hits f.records seq start c.args.stop) c.self.view_is
    ∙ ap (λ (l : List RecordValue). hits l seq start c.args.stop) c.go_to.ensures.same

pub returns-clause-found : goal.returns-clause-found
returns-clause-found g c =
    let value = g.W.Record.BedRecord.as_record in
    let s = c.self-2.inside in
    let seq = c.args.seq in
    let start = c.args.start in
    let all = g.N.SecondRecords.records s.second in
    let carried : List RecordValue = map value s.carried.items in
    let ahead = g.W.RecordWalk.left s.walk in
    let took : List RecordValue = map value c.take_begun-2.new.carried.items in
    let left = g.W.RecordWalk.left c.take_begun-2.new.walk in
    let on : s.seq ≡ seq = ap (λ (f : Finding). f.seq) c.self-2.view_is ∙ c.skip.ensures.seq ∙ ap (λ (f : Finding). f.seq) c.self.view_is ∙ c.go_to.ensures.there.0 in
    let at : s.start ≡ start = ap (λ (f : Finding). f.start) c.self-2.view_is ∙ c.skip.ensures.start ∙ ap (λ (f : Finding). f.start) c.self.view_is ∙ c.go_to.ensures.there.1 in
    let end : s.stop ≡ c.args.stop = ap (λ (f : Finding). f.stop) c.self-2.view_is ∙ c.skip.ensures.stop ∙ ap (λ (f : Finding). f.stop) c.self.view_is ∙ c.go_to.ensures.there.2 in
    let before : StandsAt all carried ahead seq start = subst (λ (n : ℕ). StandsAt all carried ahead n start) on (subst (StandsAt all carried ahead s.seq) at c.self-2.invariant) in
    let t = c.take_begun-2.ensures in
    (λ i. took ++ hits left (on i) (at i) (end i))
    ∙ stands-found all took left seq start c.args.stop c.requires (stands-on all took left carried ahead seq start t.cover t.ordered (omega (arith, t.few, length-map c.take_begun-2.new.carried.items value, length-map s.carried.items value)) t.alike before)
    ∙ ap (λ (f : Finding). hits f.records seq start c.args.stop) c.self-2.view_is
    ∙ ap (λ (l : List RecordValue). hits l seq start c.args.stop) (c.skip.ensures.records ∙ ap (λ (f : Finding). f.records) c.self.view_is ∙ c.go_to.ensures.same)
