use Rattle.std.proofs.Common.{◌≡◌, ◌+◌, ◌∙◌, refl, sym, ap, subst, arith, length, List, ◌∷◌}
use Rattle.std.specs.List.{take_while}
use Rattle.std.proofs.lemmas.List.{length-map}
use Rattle.iv_bytes.proofs.PutLemmas.{Underway-begin, Underway-more, Underway-fails, Puts-err}
use Rattle.iv_lines.specs.Ordered.{AreInOrder}
use Rattle.iv_lines.specs.RecordValue.{RecordValue}
use Rattle.iv_lines.specs.declared.interval.Interval.{Interval}
use Rattle.iv_track.proofs.WalkLemmas.{filter-from_first}
use Rattle.iv_blocks.specs.Inside.BlockCursor.{interval_of, starts_until, drop_while}
use Rattle.iv_blocks.specs.KeptBlocks.{KeptBlocks, Entries}
use Rattle.iv_blocks.proofs.ClusterLemmas.{IsPassed-begin, IsPassed-next, IsPassed-few, number-is, rows-next}
use Rattle.iv_blocks.specs.declared.options.BlockOptions.{BlockOptions}
use Rattle.iv_blocks.proofs.MergeLemmas.{count-is}
use Rattle.iv_blocks.proofs.blocks.Blocks.print_cluster.Goals as goal

pub loop-feature-init : goal.loop-feature-init
loop-feature-init g c =
    let all : c.walk-records.result ≡ c.args.track.now.records = c.walk-records.ensures.records ∙ filter-from_first c.args.track.now.records in
    let ahead = c.of-ahead.ensures.all in
    let long : length c.of-ahead.result ≡ length c.args.self.now.entries = ap (λ (l : List Interval). length l) ahead ∙ length-map c.args.self.now.entries interval_of in
    record {
      put = rw all (Underway-begin _ _);
      ordered = subst (λ (l : List RecordValue). AreInOrder l) (sym all) c.walk-records.ensures.ordered;
      passed = IsPassed-begin _ _ _ ahead;
      no_less = omega (arith, c.of-ahead.ensures.steps, c.walk-records.ensures.steps);
      at_most = omega (arith, c.of-ahead.ensures.steps, c.walk-records.ensures.steps, long, ap (λ (l : List RecordValue). length l) all);
    }

pub count_until-number-requires : goal.count_until-number-requires
count_until-number-requires g c =
    let entries : c.self.inside.ledger.entries ≡ c.args.self.now.entries = ap (λ (b : KeptBlocks). b.entries) c.self.view_is in
    let few = IsPassed-few c.loop-feature.number _ _ c.loop-feature.ahead c.loop-feature.records c.in-Some.feature c.loop-feature.invariant.passed refl in
    record { few = omega (arith, few.1, length-map c.args.self.now.entries interval_of, ap (λ (l : Entries). length l) entries, c.len-few.ensures.len, c.len-few.ensures.small) }

pub overflow_add-number : goal.overflow_add-number
overflow_add-number g c =
    let entries : c.self.inside.ledger.entries ≡ c.args.self.now.entries = ap (λ (b : KeptBlocks). b.entries) c.self.view_is in
    let r = c.in-Some.feature in
    let counted : c.count_until-number.result ≡ length (take_while (starts_until r.seq r.start) c.loop-feature.ahead) = rw (← c.seq.ensures, ← c.start.ensures) c.count_until-number.ensures.count in
    let few = IsPassed-few c.loop-feature.number c.count_until-number.result _ c.loop-feature.ahead c.loop-feature.records r c.loop-feature.invariant.passed counted in
    omega (arith, few.0, length-map c.args.self.now.entries interval_of, ap (λ (l : Entries). length l) entries, c.len-few.ensures.len, c.len-few.ensures.small)

pub loop-feature-preserved : goal.loop-feature-preserved
loop-feature-preserved g c =
    let i = c.loop-feature.invariant in
    let r = c.in-Some.feature in
    let first : c.loop-feature.records ≡ r ∷ c.next.new.self = c.in-Some.ensures.feature in
    let counted : c.count_until-number.result ≡ length (take_while (starts_until r.seq r.start) c.loop-feature.ahead) = rw (← c.seq.ensures, ← c.start.ensures) c.count_until-number.ensures.count in
    let past : c.count_until-number.new.ahead ≡ drop_while (starts_until r.seq r.start) c.loop-feature.ahead = rw (← c.seq.ensures, ← c.start.ensures) c.count_until-number.ensures.past in
    let number = number-is c.loop-feature.number c.count_until-number.result _ c.loop-feature.ahead c.count_until-number.new.ahead c.loop-feature.records c.next.new.self r i.passed first counted past in
    let next = rows-next c.args.self.now.options c.args.genome.now c.args.track.now.width c.args.track.now.records c.args.self.now.entries c.requires.right c.requires.fit (ap (λ (o : BlockOptions). o.stranded) c.requires.joined)
    c.loop-feature.records c.next.new.self r (c.loop-feature.number + c.count_until-number.result) first number in
    let sorted : AreInOrder (r ∷ c.next.new.self) = subst (λ (l : List RecordValue). AreInOrder l) first i.ordered in
    record {
      put = Underway-more _ _ _ _ _ _ (rw next at i.put) c.in_ok-put_numbered.ensures;
      ordered = sorted.1;
      passed = IsPassed-next c.loop-feature.number c.count_until-number.result _ c.loop-feature.ahead c.count_until-number.new.ahead c.loop-feature.records c.next.new.self r i.passed first counted past i.ordered;
      no_less = omega (arith, i.no_less, c.in-Some.ensures.steps, c.count_until-number.ensures.steps);
      at_most = omega (arith, i.at_most, c.in-Some.ensures.steps, c.count_until-number.ensures.steps, ap (λ (l : List RecordValue). length l) first);
    }

pub returns-in_err-put_numbered-clause-text : goal.returns-in_err-put_numbered-clause-text
returns-in_err-put_numbered-clause-text g c =
    let i = c.loop-feature.invariant in
    let r = c.in-Some.feature in
    let first : c.loop-feature.records ≡ r ∷ c.next.new.self = c.in-Some.ensures.feature in
    let counted : c.count_until-number.result ≡ length (take_while (starts_until r.seq r.start) c.loop-feature.ahead) = rw (← c.seq.ensures, ← c.start.ensures) c.count_until-number.ensures.count in
    let past : c.count_until-number.new.ahead ≡ drop_while (starts_until r.seq r.start) c.loop-feature.ahead = rw (← c.seq.ensures, ← c.start.ensures) c.count_until-number.ensures.past in
    let number = number-is c.loop-feature.number c.count_until-number.result _ c.loop-feature.ahead c.count_until-number.new.ahead c.loop-feature.records c.next.new.self r i.passed first counted past in
    let next = rows-next c.args.self.now.options c.args.genome.now c.args.track.now.width c.args.track.now.records c.args.self.now.entries c.requires.right c.requires.fit (ap (λ (o : BlockOptions). o.stranded) c.requires.joined)
    c.loop-feature.records c.next.new.self r (c.loop-feature.number + c.count_until-number.result) first number in
    Puts-err _ _ c.from_residual.result _ c.from_residual.ensures.0
    (Underway-fails _ _ _ _ _ _ (rw next at i.put) c.in_err-put_numbered.ensures)

pub returns-in_err-put_numbered-clause-steps : goal.returns-in_err-put_numbered-clause-steps
returns-in_err-put_numbered-clause-steps g c =
    let a = c.args in
    let i = c.loop-feature.invariant in
    let count = count-is a.self.now.options a.genome.now a.track.now.width a.track.now.records a.self.now.entries c.requires.right c.requires.fit in
    let first = ap (λ (l : List RecordValue). length l) c.in-Some.ensures.feature in
    record {
      no_less = omega (arith, i.no_less, c.in-Some.ensures.steps, c.count_until-number.ensures.steps);
      at_most = omega (arith, i.at_most, c.in-Some.ensures.steps, c.count_until-number.ensures.steps, first, count);
    }

pub returns-clause-steps : goal.returns-clause-steps
returns-clause-steps g c =
    let a = c.args in
    let i = c.loop-feature.invariant in
    let count = count-is a.self.now.options a.genome.now a.track.now.width a.track.now.records a.self.now.entries c.requires.right c.requires.fit in
    record {
      no_less = omega (arith, i.no_less, c.in_default.ensures.steps);
      at_most = omega (arith, i.at_most, c.in_default.ensures.steps, count);
    }
