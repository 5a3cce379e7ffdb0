use Rattle.std.proofs.Common.{◌≡◌, ◌∙◌, ℕ, List, ◌∷◌, ◌++◌, length, ap, arith}
use Rattle.std.specs.Prelude.{replicate}
use Rattle.std.proofs.lemmas.Grind.{flat_map-append}
use Rattle.iv_bytes.proofs.PutLemmas.{Underway-begin, Underway-more, Underway-fails, Puts-err}
use Rattle.iv_lines.specs.Genome.{Sequences}
use Rattle.iv_lines.specs.RecordValue.{RecordValue}
use Rattle.iv_track.specs.Copies.{expanded}
use Rattle.iv_track.specs.Tracked.{different_records}
use Rattle.iv_track.proofs.StepLemmas.{takes_none, takes_one_more}
use Rattle.iv_track.proofs.WalkLemmas.{filter-from_first}
use Rattle.iv_pair.specs.IntersectRows.{record_line}
use Rattle.iv_view.specs.Inside.Texts.{records_text}
use Rattle.iv_view.proofs.written_view.print_records.Goals as goal

-- the rows of an entry are before those of the others
first-rows : (g : Sequences) (entries rest : List (RecordValue × ℕ)) (r : RecordValue) (n : ℕ) → entries ≡ (r, n) ∷ rest
    → records_text g (expanded entries) ≡ records_text g (replicate n r) ++ records_text g (expanded rest)
first-rows g entries rest r n first =
    ap (λ (es : List (RecordValue × ℕ)). records_text g (expanded es)) first ∙ flat_map-append (record_line g) (replicate n r) (expanded rest)

pub entries-init : goal.entries-init
entries-init g c =
    let all = filter-from_first c.args.track.now.records in
    let one = takes_one_more c.args.meter.now c.args.meter.now c.entries-entries.new.meter 0 (takes_none c.args.meter.now) c.entries-entries.ensures.step in
    let each : length c.entries-entries.result ≡ different_records c.args.track.now.records = c.entries-entries.ensures.each ∙ ap different_records all in
    record {
      put = rw (c.entries-entries.ensures.records ∙ all) (Underway-begin _ _);
      no_less = one.no_less;
      at_most = omega (arith, one.at_most, each);
    }

pub entries-preserved : goal.entries-preserved
entries-preserved g c =
    let i = c.entries.invariant in
    let first = c.in-Some.ensures.next in
    let next = first-rows c.args.genome.now c.entries.entries c.next.new.self c.in-Some.record c.in-Some.copies first in
    let one = takes_one_more c.entries.meter c.entries.meter c.next.new.meter 0 (takes_none c.entries.meter) c.in-Some.ensures.step in
    record {
      put = Underway-more _ _ _ _ _ _ (rw next at i.put) c.in_ok-put_copies.ensures;
      no_less = omega (arith, i.no_less, one.no_less);
      at_most = omega (arith, i.at_most, one.at_most, ap (λ (es : List (RecordValue × ℕ)). length es) first);
    }

pub returns-in_err-put_copies-clause-text : goal.returns-in_err-put_copies-clause-text
returns-in_err-put_copies-clause-text g c =
    let next = first-rows c.args.genome.now c.entries.entries c.next.new.self c.in-Some.record c.in-Some.copies c.in-Some.ensures.next in
    Puts-err _ _ c.from_residual.result _ c.from_residual.ensures.0
    (Underway-fails _ _ _ _ _ _ (rw next at c.entries.invariant.put) c.in_err-put_copies.ensures)
