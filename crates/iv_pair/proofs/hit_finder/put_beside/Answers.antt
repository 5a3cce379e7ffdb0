use Rattle.std.proofs.Common.{◌≡◌, ◌∙◌, List, map, option_to_list, refl, sym, ap, subst}
use Rattle.std.proofs.lemmas.Iterator.Consumers.{YieldsList-from_first, YieldsList-from_shown}
use Rattle.std.specs.Iterator.Adapters.{once_item, once_steps}
use Rattle.std.proofs.lemmas.Iterator.{YieldsList}
use Rattle.iv_lines.specs.Ordered.{AreInOrder}
use Rattle.iv_lines.specs.RecordValue.{RecordValue}
use Rattle.iv_pair.specs.Hits.{hits_of}
use Rattle.iv_pair.proofs.hit_finder.put_beside.Goals as goal

pub returns-then-has_none-clause-text : goal.returns-then-has_none-clause-text
returns-then-has_none-clause-text g c =
    let second = c.args.finder.now.records in
    let value = g.V.Record.BedRecord.as_record in
    let sought : c.seek.new.self.found ≡ hits_of second (g.R.BedRecord.as_record c.args.feature.now) = rw (c.seq.ensures, c.start.ensures, c.stop.ensures.value) at c.seek.ensures.found in
    let yields = YieldsList-from_shown once_steps value (λ s. map value (option_to_list (once_item s))) (λ s t h. rw (← h.0) refl) (λ s x t h. rw (← h.0, h.1) refl) c.empty.result in
    let none = ap (λ o. map value (option_to_list o)) c.empty.ensures.item ∙ sym (c.has_none.ensures.none c.if-has_none.true) ∙ sought in
    c.put_pair_rows.ensures second (subst AreInOrder c.seek.ensures.same c.has_none.ensures.ordered)
    (subst (λ (l : List RecordValue). YieldsList once_steps value c.empty.result l) none yields).runs

pub returns-then-not-counts-clause-text : goal.returns-then-not-counts-clause-text
returns-then-not-counts-clause-text g c =
    let second = c.args.finder.now.records in
    let a = g.R.BedRecord.as_record c.args.feature.now in
    let sought : c.seek.new.self.found ≡ hits_of second a = rw (c.seq.ensures, c.start.ensures, c.stop.ensures.value) at c.seek.ensures.found in
    c.put_pair_rows-then-not-counts.ensures second (subst AreInOrder c.seek.ensures.same c.has_none.ensures.ordered)
    (YieldsList-from_first g.V.Record.BedRecord.as_record (λ h. h) _ (c.hits-hits.ensures.found ∙ ap (λ f. f.found) c.has_none.ensures.same ∙ sought)).runs

pub returns-clause-text : goal.returns-clause-text
returns-clause-text g c =
    let second = c.args.finder.now.records in
    let a = g.R.BedRecord.as_record c.args.feature.now in
    let sought : c.seek.new.self.found ≡ hits_of second a = rw (c.seq.ensures, c.start.ensures, c.stop.ensures.value) at c.seek.ensures.found in
    c.put_pair_rows-2.ensures second (subst AreInOrder c.seek.ensures.same c.has_none.ensures.ordered)
    (YieldsList-from_first g.V.Record.BedRecord.as_record (λ h. h) _ (c.hits-hits.ensures.found ∙ ap (λ f. f.found) c.has_none.ensures.same ∙ sought)).runs
