use Rattle.std.proofs.Common.{◌≡◌, ap, map}
use Rattle.iv_blocks.specs.Inside.StoredBlocks.{StoredBlocks, plain_entry}
use Rattle.iv_blocks.proofs.StoredLemmas.{of-plain, with_stored}
use Rattle.iv_blocks.proofs.block_ledger.BlockLedger.walk_all.Goals as goal

pub returns-in-Plain-clause-entries : goal.returns-in-Plain-clause-entries
returns-in-Plain-clause-entries g c =
    of-plain (λ (b : StoredBlocks). map plain_entry c.walk_all.result ≡ b.entries) _ _ c.in-Plain.ledger c.self.view_is c.in-Plain.is
    (ap (map plain_entry) c.walk_all.ensures.entries)

pub returns-in-WithResults-clause-entries : goal.returns-in-WithResults-clause-entries
returns-in-WithResults-clause-entries g c =
    with_stored (λ (b : StoredBlocks). c.walk_all-in-WithResults.result ≡ b.entries) _ _ c.in-WithResults.ledger c.self.view_is c.in-WithResults.is
    c.walk_all-in-WithResults.ensures.entries
