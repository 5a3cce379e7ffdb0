use Rattle.std.proofs.Common.{◌∙◌, ap, subst, sym}
use Rattle.iv_ledger.specs.Entries.{IsLedger}
use Rattle.iv_blocks.specs.KeptBlocks.{key_cmp}
use Rattle.iv_blocks.specs.Inside.StoredBlocks.{StoredBlocks, stored}
use Rattle.iv_blocks.proofs.StoredLemmas.{of-plain, with_stored, plain-ordered, on_ok, put-plain, put-stored}
use Rattle.iv_blocks.proofs.block_ledger.BlockLedger.put.Goals.{in-Plain+in_ok-put-in-Plain+in-Short-1, in-Plain+in_ok-put-in-Plain+in-Long-1, in-WithResults+in_ok-put-in-WithResults}
use Rattle.iv_blocks.proofs.block_ledger.BlockLedger.put.Goals as goal

pub returns-clause-ok : goal.returns-clause-ok
returns-clause-ok g c =
    let a = c.args in
    elim c.match-self.branch [
      | in-Plain+in_ok-put-in-Plain+in-Short-1 w ↦ on_ok c.match-self.result _ (ap (λ i. stored i.storage) w.self-inside-is
          ∙ put-plain _ _ w.in-Plain.ledger w.put.new.self a.key w.stop.result a.block c.self.view_is w.in-Plain.is c.requires w.in_ok-put-in-Plain.ensures.ok w.stop.ensures)
      | in-Plain+in_ok-put-in-Plain+in-Long-1 w ↦ on_ok c.match-self.result _ (ap (λ i. stored i.storage) w.self-inside-is
          ∙ put-plain _ _ w.in-Plain.ledger w.put.new.self a.key w.stop.result a.block c.self.view_is w.in-Plain.is c.requires w.in_ok-put-in-Plain.ensures.ok w.stop.ensures)
      | in-WithResults+in_ok-put-in-WithResults w ↦ on_ok c.match-self.result _ (ap (λ i. stored i.storage) w.self-inside-is
          ∙ put-stored _ _ w.in-WithResults.ledger w.put-in-WithResults.new.self a.key a.block c.self.view_is w.in-WithResults.is w.in_ok-put-in-WithResults.ensures.ok)
    ]

pub returns-clause-was_ordered : goal.returns-clause-was_ordered
returns-clause-was_ordered g c =
    elim c.match-self.branch [
      | in-Plain+in_ok-put-in-Plain+in-Short-1 w ↦ of-plain (λ (b : StoredBlocks). IsLedger key_cmp b.entries) _ _ w.in-Plain.ledger c.self.view_is w.in-Plain.is (plain-ordered w.in-Plain.ledger w.in_ok-put-in-Plain.ensures.was_ordered)
      | in-Plain+in_ok-put-in-Plain+in-Long-1 w ↦ of-plain (λ (b : StoredBlocks). IsLedger key_cmp b.entries) _ _ w.in-Plain.ledger c.self.view_is w.in-Plain.is (plain-ordered w.in-Plain.ledger w.in_ok-put-in-Plain.ensures.was_ordered)
      | in-WithResults+in_ok-put-in-WithResults w ↦ with_stored (λ (b : StoredBlocks). IsLedger key_cmp b.entries) _ _ w.in-WithResults.ledger c.self.view_is w.in-WithResults.is w.in_ok-put-in-WithResults.ensures.was_ordered
    ]

pub returns-clause-ordered : goal.returns-clause-ordered
returns-clause-ordered g c =
    elim c.match-self.branch [
      | in-Plain+in_ok-put-in-Plain+in-Short-1 w ↦ subst (λ i. IsLedger key_cmp (stored i.storage).entries) (sym w.self-inside-is) (plain-ordered w.put.new.self w.in_ok-put-in-Plain.ensures.ordered)
      | in-Plain+in_ok-put-in-Plain+in-Long-1 w ↦ subst (λ i. IsLedger key_cmp (stored i.storage).entries) (sym w.self-inside-is) (plain-ordered w.put.new.self w.in_ok-put-in-Plain.ensures.ordered)
      | in-WithResults+in_ok-put-in-WithResults w ↦ subst (λ i. IsLedger key_cmp (stored i.storage).entries) (sym w.self-inside-is) w.in_ok-put-in-WithResults.ensures.ordered
    ]

pub returns-in_err-put-in-Plain-clause-was_ordered : goal.returns-in_err-put-in-Plain-clause-was_ordered
returns-in_err-put-in-Plain-clause-was_ordered g c =
    of-plain (λ (b : StoredBlocks). IsLedger key_cmp b.entries) _ _ c.in-Plain.ledger c.self.view_is c.in-Plain.is (plain-ordered c.in-Plain.ledger c.in_err-put-in-Plain.ensures.was_ordered)

pub returns-in_err-put-in-Plain-clause-ordered : goal.returns-in_err-put-in-Plain-clause-ordered
returns-in_err-put-in-Plain-clause-ordered g c = plain-ordered c.put.new.self c.in_err-put-in-Plain.ensures.ordered
