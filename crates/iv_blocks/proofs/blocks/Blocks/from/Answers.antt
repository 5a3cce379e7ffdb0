use Rattle.std.proofs.Common.{◌≡◌, ap}
use Rattle.iv_blocks.specs.KeptBlocks.{KeptBlocks}
use Rattle.iv_blocks.proofs.LookupLemmas.{none_from, first_block}
use Rattle.iv_blocks.proofs.blocks.Blocks.from.Goals as goal

pub returns-in_err-key-clause-found : goal.returns-in_err-key-clause-found
returns-in_err-key-clause-found g c =
    let entries : c.self.inside.ledger.entries ≡ c.args.self.now.entries = ap (λ (b : KeptBlocks). b.entries) c.self.view_is in
    rw (← entries, c.from_residual.ensures) (none_from c.self.inside.ledger.entries c.args.group c.args.position c.at_or_after.ensures.ordered (rw c.key.ensures at c.in_err-key.ensures.entry))

pub returns-clause-found : goal.returns-clause-found
returns-clause-found g c =
    let entries : c.self.inside.ledger.entries ≡ c.args.self.now.entries = ap (λ (b : KeptBlocks). b.entries) c.self.view_is in
    rw (← entries) (first_block c.self.inside.ledger.entries c.args.group c.args.position c.at_or_after.ensures.ordered _ _ c.of_group.result (rw c.key.ensures at c.in_ok-key.ensures.entry) c.of_group.ensures)
