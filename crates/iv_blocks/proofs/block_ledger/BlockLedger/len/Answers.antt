use Rattle.std.proofs.Common.{◌≡◌, ◌∙◌, length, sym}
use Rattle.std.proofs.lemmas.List.{length-map}
use Rattle.iv_ledger.specs.Entries.{IsLedger}
use Rattle.iv_blocks.specs.KeptBlocks.{key_cmp}
use Rattle.iv_blocks.specs.Inside.StoredBlocks.{StoredBlocks, plain_entry}
use Rattle.iv_blocks.proofs.StoredLemmas.{of-plain, plain-ordered}
use Rattle.iv_blocks.proofs.block_ledger.BlockLedger.len.Goals as goal

pub returns-in-Plain-clause-len : goal.returns-in-Plain-clause-len
returns-in-Plain-clause-len g c =
    let ledger = c.in-Plain.ledger in
    of-plain (λ (b : StoredBlocks). c.len.result ≡ length b.entries) _ _ ledger c.self.view_is c.in-Plain.is (c.len.ensures.len ∙ sym (length-map ledger plain_entry))

pub returns-in-Plain-clause-ordered : goal.returns-in-Plain-clause-ordered
returns-in-Plain-clause-ordered g c =
    of-plain (λ (b : StoredBlocks). IsLedger key_cmp b.entries) _ _ c.in-Plain.ledger c.self.view_is c.in-Plain.is (plain-ordered c.in-Plain.ledger c.len.ensures.ordered)
