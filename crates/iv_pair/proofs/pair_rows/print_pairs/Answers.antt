use Rattle.std.proofs.Common.{◌≡◌, ◌∙◌, List, Ok, not, refl, sym, ap, subst}
use Rattle.iv_bytes.specs.Sinks.{Puts}
use Rattle.iv_bytes.specs.declared.sink.WriteFault.{WriteFault}
use Rattle.iv_lines.specs.Ordered.{AreInOrder}
use Rattle.iv_lines.specs.RecordValue.{RecordValue}
use Rattle.iv_track.proofs.WalkLemmas.{filter-from_first}
use Rattle.iv_pair.specs.CoverAlone.{GiveRowsAlike}
use Rattle.iv_pair.specs.PairRows.{pair_rows, pair_text}
use Rattle.iv_pair.proofs.PairTextLemmas.{puts-all, puts-rest, puts-failed, left-ordered, none-left}
use Rattle.iv_pair.proofs.pair_rows.print_pairs.Goals as goal

pub returns-then-not-is_helped_by_copy : goal.returns-then-not-is_helped_by_copy
returns-then-not-is_helped_by_copy g c =
    let second = c.args.second.now.records in
    let output = c.args.output in
    let all : c.walk-records.result ≡ c.args.track.now.records = c.walk-records.ensures.records ∙ filter-from_first c.args.track.now.records in
    let alike : GiveRowsAlike output c.of-finder.result.records second = λ g' a some. ap (λ (l : List RecordValue). pair_rows output g' a l) (c.of-finder.ensures ∙ c.of.ensures) in
    subst (λ (l : List RecordValue). Puts (g.S.Sink.state c.args.sink.now) (g.S.Sink.state c.put_by_hits.new.sink) c.put_by_hits.result (pair_text output c.args.genome.now l second)) all
    (puts-all output c.args.genome.now second c.walk-records.result _ _ _ c.put_by_hits.result (c.put_by_hits.ensures.text second alike) (c.put_by_hits.ensures.all refl))

pub returns-in_err-put_by_hits : goal.returns-in_err-put_by_hits
returns-in_err-put_by_hits g c =
    let second = c.args.second.now.records in
    let output = c.args.output in
    let all : c.walk-records.result ≡ c.args.track.now.records = c.walk-records.ensures.records ∙ filter-from_first c.args.track.now.records in
    let alike : GiveRowsAlike output c.of-finder.result.records second = λ g' a some. ap (λ (l : List RecordValue). pair_rows output g' a l) (c.of-finder.ensures ∙ c.of.ensures) in
    subst (λ (l : List RecordValue). Puts (g.S.Sink.state c.args.sink.now) (g.S.Sink.state c.put_by_hits-2.new.sink) c.from_residual.result (pair_text output c.args.genome.now l second)) all
    (puts-failed output c.args.genome.now second c.walk-records.result _ _ _ c.from_residual.result c.from_residual.ensures.0 (c.in_err-put_by_hits.ensures.text second alike))

pub returns-then-is_none : goal.returns-then-is_none
returns-then-is_none g c =
    let second = c.args.second.now.records in
    let output = c.args.output in
    let all : c.walk-records.result ≡ c.args.track.now.records = c.walk-records.ensures.records ∙ filter-from_first c.args.track.now.records in
    let alike : GiveRowsAlike output c.of-finder.result.records second = λ g' a some. ap (λ (l : List RecordValue). pair_rows output g' a l) (c.of-finder.ensures ∙ c.of.ensures) in
    let none = sym c.again.ensures ∙ none-left c.again.result c.next.new.self c.next.result (c.is_none.ensures ∙ ap not c.if-is_none.true) c.next.ensures.feature in
    subst (λ (l : List RecordValue). Puts {T = Unit {0}} {E = WriteFault} (g.S.Sink.state c.args.sink.now) (g.S.Sink.state c.put_by_hits-2.new.sink) (Ok tt) (pair_text output c.args.genome.now l second)) all
    (puts-all output c.args.genome.now second c.walk-records.result _ _ _ (Ok tt) (c.in_ok-put_by_hits.ensures.text second alike) none)

pub put_by_copy-requires-clause-first : goal.put_by_copy-requires-clause-first
put_by_copy-requires-clause-first g c =
    let second = c.args.second.now.records in
    let output = c.args.output in
    let all : c.walk-records.result ≡ c.args.track.now.records = c.walk-records.ensures.records ∙ filter-from_first c.args.track.now.records in
    let alike : GiveRowsAlike output c.of-finder.result.records second = λ g' a some. ap (λ (l : List RecordValue). pair_rows output g' a l) (c.of-finder.ensures ∙ c.of.ensures) in
    subst AreInOrder (sym c.again-2.ensures) (left-ordered output c.args.genome.now second c.walk-records.result _ _ _ (subst AreInOrder (sym all) c.len-len.ensures.ordered) (c.in_ok-put_by_hits.ensures.text second alike))

pub returns-in-Ok : goal.returns-in-Ok
returns-in-Ok g c =
    let second = c.args.second.now.records in
    let output = c.args.output in
    let all : c.walk-records.result ≡ c.args.track.now.records = c.walk-records.ensures.records ∙ filter-from_first c.args.track.now.records in
    let alike : GiveRowsAlike output c.of-finder.result.records second = λ g' a some. ap (λ (l : List RecordValue). pair_rows output g' a l) (c.of-finder.ensures ∙ c.of.ensures) in
    let rest = subst (λ (l : List RecordValue). Puts (g.S.Sink.state c.put_by_hits-2.new.sink) (g.S.Sink.state c.put_by_copy.new.sink) c.in-Ok.put (pair_text output c.args.genome.now l second)) c.again-2.ensures c.in-Ok.ensures.text in
    subst (λ (l : List RecordValue). Puts (g.S.Sink.state c.args.sink.now) (g.S.Sink.state c.put_by_copy.new.sink) c.in-Ok.put (pair_text output c.args.genome.now l second)) all
    (puts-rest output c.args.genome.now second c.walk-records.result _ _ _ _ c.in-Ok.put (c.in_ok-put_by_hits.ensures.text second alike) rest)

pub returns : goal.returns
returns g c =
    let second = c.args.second.now.records in
    let output = c.args.output in
    let all : c.walk-records.result ≡ c.args.track.now.records = c.walk-records.ensures.records ∙ filter-from_first c.args.track.now.records in
    let alike : GiveRowsAlike output c.of-finder.result.records second = λ g' a some. ap (λ (l : List RecordValue). pair_rows output g' a l) (c.of-finder.ensures ∙ c.of.ensures) in
    let alike-2 : GiveRowsAlike output c.put_by_hits-2.new.finder.records second = λ g' a some. ap (λ (l : List RecordValue). pair_rows output g' a l) (c.in_ok-put_by_hits.ensures.same ∙ c.of-finder.ensures ∙ c.of.ensures) in
    let back = puts-all output c.args.genome.now second c.put_by_hits-2.new.records _ _ _ c.put_by_hits-3.result (c.put_by_hits-3.ensures.text second alike-2) (c.put_by_hits-3.ensures.all refl) in
    let rest = subst (λ k. Puts (g.S.Sink.state k) (g.S.Sink.state c.put_by_hits-3.new.sink) c.put_by_hits-3.result (pair_text output c.args.genome.now c.put_by_hits-2.new.records second)) c.in_default.ensures.alone back in
    subst (λ (l : List RecordValue). Puts (g.S.Sink.state c.args.sink.now) (g.S.Sink.state c.put_by_hits-3.new.sink) c.put_by_hits-3.result (pair_text output c.args.genome.now l second)) all
    (puts-rest output c.args.genome.now second c.walk-records.result _ _ _ _ c.put_by_hits-3.result (c.in_ok-put_by_hits.ensures.text second alike) rest)
