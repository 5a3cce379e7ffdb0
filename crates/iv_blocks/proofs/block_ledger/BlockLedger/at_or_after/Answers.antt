use Rattle.std.proofs.Common.{◌∙◌}
use Rattle.iv_ledger.specs.Entries.{first_from}
use Rattle.iv_blocks.specs.KeptBlocks.{key_cmp}
use Rattle.iv_blocks.proofs.StoredLemmas.{plain-found, plain-first}
use Rattle.iv_blocks.proofs.block_ledger.BlockLedger.at_or_after.Goals as goal

pub returns-in_err-key-in-Plain : goal.returns-in_err-key-in-Plain
returns-in_err-key-in-Plain g c =
    let found = plain-found (λ entries. first_from key_cmp entries c.args.key.now) _ _ c.in-Plain.ledger _ _ c.self.view_is c.in-Plain.is (plain-first c.in-Plain.ledger c.args.key.now)
    (c.from_residual.ensures ∙ c.in_err-key-in-Plain.ensures.entry) c.at_or_after.ensures.ordered in
    record { entry = found.0; ordered = found.1; step = c.at_or_after.ensures.step }

pub returns-in_ok-key-in-Plain : goal.returns-in_ok-key-in-Plain
returns-in_ok-key-in-Plain g c =
    let found = plain-found (λ entries. first_from key_cmp entries c.args.key.now) _ _ c.in-Plain.ledger _ _ c.self.view_is c.in-Plain.is (plain-first c.in-Plain.ledger c.args.key.now)
    c.in_ok-key-in-Plain.ensures.entry c.at_or_after.ensures.ordered in
    record { entry = found.0; ordered = found.1; step = c.at_or_after.ensures.step }
