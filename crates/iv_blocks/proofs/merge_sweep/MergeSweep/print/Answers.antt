use Rattle.std.proofs.Common.{◌≡◌, ◌≤◌, ◌<◌, ◌-◌, ◌==◌, ◌∙◌, nat_lt, filter, List, ℕ, All, length, vec_capacity, ap, sym, subst, arith}
use Rattle.iv_bytes.proofs.PutLemmas.{Underway-begin, Puts-err}
use Rattle.iv_lines.specs.Genome.{seq_count}
use Rattle.iv_lines.specs.Ordered.{AreInOrder}
use Rattle.iv_lines.specs.RecordValue.{RecordValue}
use Rattle.iv_lines.specs.CoveredPositions.{on}
use Rattle.iv_blocks.specs.Groups.{listed}
use Rattle.iv_blocks.specs.declared.options.BlockOptions.{BlockOptions}
use Rattle.iv_cover.specs.Results.{HasRoom}
use Rattle.iv_cover.proofs.FirstLemmas.{Underway-step, Underway-failed}
use Rattle.iv_places.proofs.SequenceLemmas.{all-from, from-in, from-order, from-here, from-later}
use Rattle.iv_blocks.proofs.RoomLemmas.{room-more}
use Rattle.iv_track.proofs.WalkLemmas.{few}
use Rattle.iv_blocks.proofs.TextLemmas.{rows-next}
use Rattle.iv_blocks.proofs.merge_sweep.MergeSweep.print.Goals as goal

pub loop-seq-init : goal.loop-seq-init
loop-seq-init g c =
    let n : seq_count c.args.genome.now - 0 ≡ seq_count c.args.genome.now = omega arith in
    let records : c.self.inside.records ≡ c.args.self.now.1 = ap (λ (p : BlockOptions × List RecordValue). p.1) c.self.view_is in
    record {
      put = rw n (Underway-begin _ _);
      left_is = c.again-left.ensures ∙ records ∙ sym (all-from c.args.self.now.1);
      options_are = ap (λ (p : BlockOptions × List RecordValue). p.0) c.self.view_is;
      records_are = records;
      room = subst (λ (p : BlockOptions × List RecordValue). HasRoom (vec_capacity c.self.inside.values) (length p.1) (listed p.0.summaries)) c.self.view_is c.self.invariant;
    }

pub split_sequence-here-requires-clause-order : goal.split_sequence-here-requires-clause-order
split_sequence-here-requires-clause-order g c =
    subst AreInOrder (sym c.loop-seq.invariant.left_is) (from-order c.loop-seq.seq c.args.self.now.1 c.requires.order)

pub split_sequence-here-requires-clause-from : goal.split_sequence-here-requires-clause-from
split_sequence-here-requires-clause-from g c =
    subst (λ (l : List RecordValue). All (λ r. c.loop-seq.seq ≤ r.seq) l) (sym c.loop-seq.invariant.left_is) (from-in c.loop-seq.seq c.args.self.now.1)

pub put_sequence-requires : goal.put_sequence-requires
put_sequence-requires g c =
    let i = c.loop-seq.invariant in
    let records = c.args.self.now.1 in
    let seq = c.loop-seq.seq in
    let room : ℕ = vec_capacity c.loop-seq.self-inside.values in
    let here : c.split_sequence-here.result.0 ≡ on seq records = c.split_sequence-here.ensures.here ∙ ap (on seq) i.left_is ∙ from-here seq records in
    let fewer : length c.split_sequence-here.result.0 ≤ length records = omega (arith, ap (λ (l : List RecordValue). length l) here, few (λ (r : RecordValue). r.seq == seq) records) in
    record {
      room = room-more room room (length records) (length c.split_sequence-here.result.0) (listed c.loop-seq.self-inside.options.summaries) (omega arith) fewer
          (subst (λ (o : BlockOptions). HasRoom room (length records) (listed o.summaries)) (sym i.options_are) i.room);
    }

pub returns-in_err-put_sequence-clause-text : goal.returns-in_err-put_sequence-clause-text
returns-in_err-put_sequence-clause-text g c =
    let i = c.loop-seq.invariant in
    let records = c.args.self.now.1 in
    let seq = c.loop-seq.seq in
    let genome = c.args.genome.now in
    let low : seq < seq_count genome = omega (arith, c.loop-seq-test.true, c.count-seq-end.ensures.value) in
    let here : c.split_sequence-here.result.0 ≡ on seq records = c.split_sequence-here.ensures.here ∙ ap (on seq) i.left_is ∙ from-here seq records in
    let next = rows-next c.args.self.now.0 genome records c.requires.order c.requires.on_genome c.loop-seq.self-inside.options c.name_or_empty-name.result.now c.split_sequence-here.result.0 seq low i.options_are c.name_or_empty-name.ensures here in
    Puts-err _ _ c.from_residual.result _ c.from_residual.ensures.0
    (Underway-failed _ _ _ _ _ _ _ next i.put c.in_err-put_sequence.ensures.text)

pub loop-seq-preserved : goal.loop-seq-preserved
loop-seq-preserved g c =
    let i = c.loop-seq.invariant in
    let records = c.args.self.now.1 in
    let seq = c.loop-seq.seq in
    let genome = c.args.genome.now in
    let low : seq < seq_count genome = omega (arith, c.loop-seq-test.true, c.count-seq-end.ensures.value) in
    let here : c.split_sequence-here.result.0 ≡ on seq records = c.split_sequence-here.ensures.here ∙ ap (on seq) i.left_is ∙ from-here seq records in
    let next = rows-next c.args.self.now.0 genome records c.requires.order c.requires.on_genome c.loop-seq.self-inside.options c.name_or_empty-name.result.now c.split_sequence-here.result.0 seq low i.options_are c.name_or_empty-name.ensures here in
    record {
      put = Underway-step _ _ _ _ _ _ _ next i.put c.in_ok-put_sequence.ensures.text;
      left_is = c.split_sequence-here.ensures.later ∙ ap (λ (l : List RecordValue). filter (λ r. nat_lt seq r.seq) l) i.left_is ∙ from-later seq records;
      options_are = i.options_are;
      records_are = i.records_are;
      room = room-more (vec_capacity c.loop-seq.self-inside.values) (vec_capacity c.put_sequence.new.values) (length records) (length records) (listed c.args.self.now.0.summaries) c.in_ok-put_sequence.ensures.room (omega arith) i.room;
    }
