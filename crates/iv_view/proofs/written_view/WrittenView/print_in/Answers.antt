use Rattle.std.proofs.Common.{◌≡◌, ◌∙◌, ◌∷◌, [], ap, arith}
use Rattle.std.specs.List.{flat_map}
use Rattle.std.specs.Option.{option_copied, unwrap_or}
use Rattle.iv_bytes.proofs.PutLemmas.{Underway-begin, Underway-more, Underway-fails, Puts-err}
use Rattle.iv_view.specs.Views.{second_records, written_rows}
use Rattle.iv_view.proofs.RegionLemmas.{first-rows}
use Rattle.iv_view.proofs.written_view.WrittenView.print_in.Goals as goal

pub records-init : goal.records-init
records-init g c = record {
  put = rw c.hits-hits.ensures.records (Underway-begin _ _);
  no_less = omega (arith, c.hits-hits.ensures.steps);
  at_most = omega (arith, c.hits-hits.ensures.steps, c.hits-hits.ensures.passes);
}

pub records-preserved : goal.records-preserved
records-preserved g c =
    let a = c.args in
    let i = c.records.invariant in
    let second = second_records (option_copied a.second) in
    let bases = unwrap_or (option_copied a.fasta) [] in
    let first : c.records.hits.records ≡ c.in-Some.feature ∷ c.next.new.self.records = c.in-Some.ensures.feature in
    let next = ap (flat_map (written_rows a.self a.genome.now second bases)) first ∙ first-rows a.self a.genome.now c.in-Some.feature c.next.new.self.records second bases in
    record {
      put = Underway-more _ _ _ _ _ _ (rw next at i.put) c.in_ok-put_rows.ensures;
      no_less = omega (arith, i.no_less, c.in-Some.ensures.steps);
      at_most = omega (arith, i.at_most, c.in-Some.ensures.steps);
    }

pub returns-in_err-put_rows : goal.returns-in_err-put_rows
returns-in_err-put_rows g c =
    let a = c.args in
    let i = c.records.invariant in
    let second = second_records (option_copied a.second) in
    let bases = unwrap_or (option_copied a.fasta) [] in
    let first : c.records.hits.records ≡ c.in-Some.feature ∷ c.next.new.self.records = c.in-Some.ensures.feature in
    let next = ap (flat_map (written_rows a.self a.genome.now second bases)) first ∙ first-rows a.self a.genome.now c.in-Some.feature c.next.new.self.records second bases in
    record {
      text = Puts-err _ _ c.from_residual.result _ c.from_residual.ensures.0
          (Underway-fails _ _ _ _ _ _ (rw next at i.put) c.in_err-put_rows.ensures);
      steps = record {
        no_less = omega (arith, i.no_less, c.in-Some.ensures.steps);
        at_most = omega (arith, i.at_most, c.in-Some.ensures.steps);
      };
    }

pub returns-clause-steps : goal.returns-clause-steps
returns-clause-steps g c =
    let i = c.records.invariant in
    record {
      no_less = omega (arith, i.no_less, c.in_default.ensures.steps);
      at_most = omega (arith, i.at_most, c.in_default.ensures.steps);
    }
