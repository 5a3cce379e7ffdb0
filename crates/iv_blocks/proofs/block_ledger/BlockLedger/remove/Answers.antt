use Rattle.std.proofs.Common.{◌∙◌, ap, subst, sym}
use Rattle.std.specs.BTreeMap.{is_at}
use Rattle.iv_ledger.specs.Entries.{IsLedger}
use Rattle.iv_blocks.specs.KeptBlocks.{key_cmp}
use Rattle.iv_blocks.specs.Inside.StoredBlocks.{stored}
use Rattle.iv_blocks.proofs.StoredLemmas.{plain-ordered, taken-plain, taken-stored}
use Rattle.iv_blocks.proofs.block_ledger.BlockLedger.remove.Goals.{in-Plain, in-WithResults+in-Some+in-Short-1, in-WithResults+in-Some+in-Long-1, in-WithResults+in-None-1}
use Rattle.iv_blocks.proofs.block_ledger.BlockLedger.remove.Goals as goal

pub returns-clause-taken : goal.returns-clause-taken
returns-clause-taken g c =
    let test = is_at (key_cmp c.args.key.now) in
    elim c.match-self.branch [
      | in-Plain w ↦ ap (λ i. stored i.storage) w.self-inside-is ∙ taken-plain _ _ w.in-Plain.ledger w.take.new.self test c.self.view_is w.in-Plain.is w.take.ensures.rest
      | in-WithResults+in-Some+in-Short-1 w ↦ ap (λ i. stored i.storage) w.self-inside-is ∙ taken-stored _ _ w.in-WithResults.ledger w.take-in-WithResults.new.self test c.self.view_is w.in-WithResults.is w.take-in-WithResults.ensures.rest
      | in-WithResults+in-Some+in-Long-1 w ↦ ap (λ i. stored i.storage) w.self-inside-is ∙ taken-stored _ _ w.in-WithResults.ledger w.take-in-WithResults.new.self test c.self.view_is w.in-WithResults.is w.take-in-WithResults.ensures.rest
      | in-WithResults+in-None-1 w ↦ ap (λ i. stored i.storage) w.self-inside-is ∙ taken-stored _ _ w.in-WithResults.ledger w.take-in-WithResults.new.self test c.self.view_is w.in-WithResults.is w.take-in-WithResults.ensures.rest
    ]

pub returns-clause-ordered : goal.returns-clause-ordered
returns-clause-ordered g c =
    elim c.match-self.branch [
      | in-Plain w ↦ subst (λ i. IsLedger key_cmp (stored i.storage).entries) (sym w.self-inside-is) (plain-ordered w.take.new.self w.take.ensures.ordered)
      | in-WithResults+in-Some+in-Short-1 w ↦ subst (λ i. IsLedger key_cmp (stored i.storage).entries) (sym w.self-inside-is) w.take-in-WithResults.ensures.ordered
      | in-WithResults+in-Some+in-Long-1 w ↦ subst (λ i. IsLedger key_cmp (stored i.storage).entries) (sym w.self-inside-is) w.take-in-WithResults.ensures.ordered
      | in-WithResults+in-None-1 w ↦ subst (λ i. IsLedger key_cmp (stored i.storage).entries) (sym w.self-inside-is) w.take-in-WithResults.ensures.ordered
    ]
