use Rattle.std.proofs.Common.{◌≡◌, ◌∙◌, ap, filter, map, sym}
use Rattle.std.specs.Ordering.{is_le}
use Rattle.iv_ledger.specs.Entries.{IsLedger}
use Rattle.iv_blocks.specs.KeptBlocks.{key_cmp}
use Rattle.iv_blocks.specs.Inside.StoredBlocks.{StoredBlocks, plain_entry}
use Rattle.iv_blocks.proofs.StoredLemmas.{of-plain, with_stored, plain-ordered, plain-from}
use Rattle.iv_blocks.proofs.block_ledger.BlockLedger.walk.Goals as goal

pub returns-in-Plain-clause-entries : goal.returns-in-Plain-clause-entries
returns-in-Plain-clause-entries g c =
    let ledger = c.in-Plain.ledger in
    of-plain (λ (b : StoredBlocks). map plain_entry c.walk.result ≡ filter (λ e. is_le (key_cmp c.args.key.now e.0)) b.entries) _ _ ledger c.self.view_is c.in-Plain.is
    (ap (map plain_entry) c.walk.ensures.entries ∙ sym (plain-from ledger c.args.key.now))

pub returns-in-Plain-clause-ordered : goal.returns-in-Plain-clause-ordered
returns-in-Plain-clause-ordered g c =
    of-plain (λ (b : StoredBlocks). IsLedger key_cmp b.entries) _ _ c.in-Plain.ledger c.self.view_is c.in-Plain.is (plain-ordered c.in-Plain.ledger c.walk.ensures.ordered)

pub returns-in-WithResults-clause-entries : goal.returns-in-WithResults-clause-entries
returns-in-WithResults-clause-entries g c =
    with_stored (λ (b : StoredBlocks). c.walk-in-WithResults.result ≡ filter (λ e. is_le (key_cmp c.args.key.now e.0)) b.entries) _ _ c.in-WithResults.ledger c.self.view_is c.in-WithResults.is
    c.walk-in-WithResults.ensures.entries

pub returns-in-WithResults-clause-ordered : goal.returns-in-WithResults-clause-ordered
returns-in-WithResults-clause-ordered g c =
    with_stored (λ (b : StoredBlocks). IsLedger key_cmp b.entries) _ _ c.in-WithResults.ledger c.self.view_is c.in-WithResults.is c.walk-in-WithResults.ensures.ordered
