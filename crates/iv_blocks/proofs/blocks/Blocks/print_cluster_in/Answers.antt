use Rattle.std.proofs.Common.{◌≡◌, ◌+◌, refl, sym, ap, subst, arith, length, List, ◌∷◌, inl, inr}
use Rattle.std.specs.List.{take_while}
use Rattle.std.proofs.lemmas.List.{length-map}
use Rattle.iv_bytes.proofs.PutLemmas.{Underway-begin, Underway-more, Underway-fails, Puts-err}
use Rattle.iv_lines.specs.Ordered.{AreInOrder}
use Rattle.iv_lines.specs.RecordValue.{RecordValue, record_cmp}
use Rattle.iv_lines.proofs.InOrderLemmas.{in_order-filter}
use Rattle.iv_lines.proofs.ListLemmas.{Mem, mem-filter}
use Rattle.iv_track.specs.Regions.{hits, overlaps}
use Rattle.iv_track.proofs.RegionLemmas.{overlaps_parts}
use Rattle.iv_blocks.specs.Inside.BlockCursor.{interval_of, starts_until, drop_while}
use Rattle.iv_blocks.specs.KeptBlocks.{KeptBlocks, Entries}
use Rattle.iv_blocks.specs.declared.options.BlockOptions.{BlockOptions}
use Rattle.iv_blocks.proofs.ClusterLemmas.{IsPassed-begin, IsPassed-next, IsPassed-few, count-below, left-is, number-is, rows-next}
use Rattle.iv_blocks.proofs.blocks.Blocks.print_cluster_in.Goals as goal

pub loop-feature-init : goal.loop-feature-init
loop-feature-init g c =
    let a = c.args in
    let test = overlaps a.region.seq a.region.start a.region.stop in
    let all : c.hits-hits.result.records ≡ hits a.track.now.records a.region.seq a.region.start a.region.stop = c.hits-hits.ensures.records in
    record {
      put = rw all (Underway-begin _ _);
      ordered = subst (λ (l : List RecordValue). AreInOrder l) (sym all) (in_order-filter record_cmp test a.track.now.records c.len-ordered.ensures.ordered);
      here = λ r m.
          let parts = overlaps_parts a.region.seq a.region.start a.region.stop r (mem-filter test a.track.now.records r (subst (λ (l : List RecordValue). Mem r l) all m)).1 in
          (parts.0, parts.1);
      passed = IsPassed-begin _ _ _ c.of-ahead.ensures.all;
      until = omega arith;
      no_less = omega (arith, c.of-ahead.ensures.steps, c.hits-hits.ensures.steps);
      at_most = omega (arith, c.of-ahead.ensures.steps, c.hits-hits.ensures.steps, c.hits-hits.ensures.passes);
    }

pub count_until-number-requires : goal.count_until-number-requires
count_until-number-requires g c =
    let entries : c.self.inside.ledger.entries ≡ c.args.self.now.entries = ap (λ (b : KeptBlocks). b.entries) c.self.view_is in
    let few = IsPassed-few c.loop-feature.number _ _ c.loop-feature.ahead c.loop-feature.hits.records c.in-Some.feature c.loop-feature.invariant.passed refl in
    record { few = omega (arith, few.1, length-map c.args.self.now.entries interval_of, ap (λ (l : Entries). length l) entries, c.len-few.ensures.len, c.len-few.ensures.small) }

pub overflow_add-number : goal.overflow_add-number
overflow_add-number g c =
    let entries : c.self.inside.ledger.entries ≡ c.args.self.now.entries = ap (λ (b : KeptBlocks). b.entries) c.self.view_is in
    let r = c.in-Some.feature in
    let counted : c.count_until-number.result ≡ length (take_while (starts_until r.seq r.start) c.loop-feature.ahead) = rw (← c.seq.ensures, ← c.start.ensures) c.count_until-number.ensures.count in
    let few = IsPassed-few c.loop-feature.number c.count_until-number.result _ c.loop-feature.ahead c.loop-feature.hits.records r c.loop-feature.invariant.passed counted in
    omega (arith, few.0, length-map c.args.self.now.entries interval_of, ap (λ (l : Entries). length l) entries, c.len-few.ensures.len, c.len-few.ensures.small)

pub loop-feature-preserved : goal.loop-feature-preserved
loop-feature-preserved g c =
    let a = c.args in
    let i = c.loop-feature.invariant in
    let r = c.in-Some.feature in
    let first : c.loop-feature.hits.records ≡ r ∷ c.next.new.self.records = c.in-Some.ensures.feature in
    let counted : c.count_until-number.result ≡ length (take_while (starts_until r.seq r.start) c.loop-feature.ahead) = rw (← c.seq.ensures, ← c.start.ensures) c.count_until-number.ensures.count in
    let past : c.count_until-number.new.ahead ≡ drop_while (starts_until r.seq r.start) c.loop-feature.ahead = rw (← c.seq.ensures, ← c.start.ensures) c.count_until-number.ensures.past in
    let number = number-is c.loop-feature.number c.count_until-number.result _ c.loop-feature.ahead c.count_until-number.new.ahead c.loop-feature.hits.records c.next.new.self.records r i.passed first counted past in
    let together = ap (λ (o : BlockOptions). o.stranded) c.requires.joined in
    let next = rows-next a.self.now.options a.genome.now a.track.now.width a.track.now.records a.self.now.entries c.requires.right c.requires.fit together
    c.loop-feature.hits.records c.next.new.self.records r (c.loop-feature.number + c.count_until-number.result) first number in
    let sorted : AreInOrder (r ∷ c.next.new.self.records) = subst (λ (l : List RecordValue). AreInOrder l) first i.ordered in
    let here = i.here r (subst (λ (l : List RecordValue). Mem r l) (sym first) (inl refl)) in
    let left = left-is c.loop-feature.number c.count_until-number.result _ c.loop-feature.ahead c.count_until-number.new.ahead c.loop-feature.hits.records c.next.new.self.records r i.passed first counted past in
    record {
      put = Underway-more _ _ _ _ _ _ (rw next at i.put) c.in_ok-put_numbered.ensures;
      ordered = sorted.1;
      here = λ q m. i.here q (subst (λ (l : List RecordValue). Mem q l) (sym first) (inr m));
      passed = IsPassed-next c.loop-feature.number c.count_until-number.result _ c.loop-feature.ahead c.count_until-number.new.ahead c.loop-feature.hits.records c.next.new.self.records r i.passed first counted past i.ordered;
      until = count-below a.self.now.options a.genome.now a.track.now.width a.track.now.records a.self.now.entries c.requires.right c.requires.fit together
          r a.region.seq a.region.stop (c.loop-feature.number + c.count_until-number.result) here.0 here.1 number;
      no_less = omega (arith, i.no_less, c.in-Some.ensures.steps, c.count_until-number.ensures.steps);
      at_most = omega (arith, i.at_most, c.in-Some.ensures.steps, c.count_until-number.ensures.steps, left);
    }

pub returns-in_err-put_numbered : goal.returns-in_err-put_numbered
returns-in_err-put_numbered g c =
    let a = c.args in
    let i = c.loop-feature.invariant in
    let r = c.in-Some.feature in
    let first : c.loop-feature.hits.records ≡ r ∷ c.next.new.self.records = c.in-Some.ensures.feature in
    let counted : c.count_until-number.result ≡ length (take_while (starts_until r.seq r.start) c.loop-feature.ahead) = rw (← c.seq.ensures, ← c.start.ensures) c.count_until-number.ensures.count in
    let past : c.count_until-number.new.ahead ≡ drop_while (starts_until r.seq r.start) c.loop-feature.ahead = rw (← c.seq.ensures, ← c.start.ensures) c.count_until-number.ensures.past in
    let number = number-is c.loop-feature.number c.count_until-number.result _ c.loop-feature.ahead c.count_until-number.new.ahead c.loop-feature.hits.records c.next.new.self.records r i.passed first counted past in
    let together = ap (λ (o : BlockOptions). o.stranded) c.requires.joined in
    let next = rows-next a.self.now.options a.genome.now a.track.now.width a.track.now.records a.self.now.entries c.requires.right c.requires.fit together
    c.loop-feature.hits.records c.next.new.self.records r (c.loop-feature.number + c.count_until-number.result) first number in
    let here = i.here r (subst (λ (l : List RecordValue). Mem r l) (sym first) (inl refl)) in
    let left = left-is c.loop-feature.number c.count_until-number.result _ c.loop-feature.ahead c.count_until-number.new.ahead c.loop-feature.hits.records c.next.new.self.records r i.passed first counted past in
    let until = count-below a.self.now.options a.genome.now a.track.now.width a.track.now.records a.self.now.entries c.requires.right c.requires.fit together
    r a.region.seq a.region.stop (c.loop-feature.number + c.count_until-number.result) here.0 here.1 number in
    record {
      text = Puts-err _ _ c.from_residual.result _ c.from_residual.ensures.0
          (Underway-fails _ _ _ _ _ _ (rw next at i.put) c.in_err-put_numbered.ensures);
      steps = record {
        no_less = omega (arith, i.no_less, c.in-Some.ensures.steps, c.count_until-number.ensures.steps);
        at_most = omega (arith, i.at_most, c.in-Some.ensures.steps, c.count_until-number.ensures.steps, left, until);
      };
    }

pub returns-clause-steps : goal.returns-clause-steps
returns-clause-steps g c =
    let i = c.loop-feature.invariant in
    record {
      no_less = omega (arith, i.no_less, c.in_default.ensures.steps);
      at_most = omega (arith, i.at_most, c.in_default.ensures.steps, i.until);
    }
