use Rattle.std.proofs.Common.{◌≡◌, ◌∙◌, List, refl, sym, ap, subst}
use Rattle.iv_bytes.specs.Sinks.{Puts}
use Rattle.iv_lines.specs.RecordValue.{RecordValue}
use Rattle.iv_pair.specs.CoverAlone.{GiveRowsAlike}
use Rattle.iv_pair.specs.PairRows.{pair_text}
use Rattle.iv_pair.specs.Pairs.{Beside}
use Rattle.iv_pair.specs.Inside.PairSweeps.{IsRoom}
use Rattle.iv_pair.specs.declared.intersect.IntersectOutput.TheVariants.{Count}
use Rattle.iv_pair.specs.declared.pair_rows.PairOutput.{PairOutput}
use Rattle.iv_pair.specs.declared.pair_rows.PairOutput.TheVariants.{Intersect}
use Rattle.iv_pair.proofs.PairTextLemmas.{puts-all}
use Rattle.iv_pair.proofs.pair_sweep.PairSweep.print.Goals as goal

pub returns-in-Ends : goal.returns-in-Ends
returns-in-Ends g c = λ second alike.
    let s = c.self.inside in
    let fits = subst (IsRoom s.output s.second) c.in-Ends.is c.self.invariant.fits in
    let output : c.args.self.output ≡ Intersect Count = sym (ap (λ (b : Beside). b.output) c.self.view_is) ∙ fits.0 in
    let others : c.args.self.second ≡ s.second = sym (ap (λ (b : Beside). b.second) c.self.view_is) in
    let same : GiveRowsAlike (Intersect Count) s.second second
    = subst (λ (o : PairOutput). GiveRowsAlike o s.second second) output (subst (λ (l : List RecordValue). GiveRowsAlike c.args.self.output l second) others alike) in
    subst (λ (o : PairOutput). Puts (g.S.Sink.state c.args.sink.now) (g.S.Sink.state c.put_counts.new.sink) c.put_counts.result (pair_text o c.args.genome.now (g.W.RecordWalk.left c.args.first) second)) (sym output)
    (c.put_counts.ensures second same)

pub returns-in-Hits : goal.returns-in-Hits
returns-in-Hits g c = λ second alike.
    let s = c.self.inside in
    let first = g.W.RecordWalk.left c.args.first in
    let output : c.args.self.output ≡ s.output = sym (ap (λ (b : Beside). b.output) c.self.view_is) in
    let others : c.args.self.second ≡ c.of-finder.result.records = sym (ap (λ (b : Beside). b.second) c.self.view_is) ∙ sym c.of-finder.ensures in
    let same : GiveRowsAlike s.output c.of-finder.result.records second
    = subst (λ (o : PairOutput). GiveRowsAlike o c.of-finder.result.records second) output (subst (λ (l : List RecordValue). GiveRowsAlike c.args.self.output l second) others alike) in
    subst (λ (o : PairOutput). Puts (g.S.Sink.state c.args.sink.now) (g.S.Sink.state c.put_by_hits.new.sink) c.put_by_hits.result (pair_text o c.args.genome.now first second)) (sym output)
    (puts-all s.output c.args.genome.now second first _ _ _ c.put_by_hits.result (c.put_by_hits.ensures.text second same) (c.put_by_hits.ensures.all refl))
