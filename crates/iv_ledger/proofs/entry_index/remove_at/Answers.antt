use Rattle.std.proofs.Common.{arith, subst, sym, ◌<◌, vec_len}
use Rattle.iv_ledger.proofs.ChunkLemmas.{concatenated-set_removed}
use Rattle.iv_ledger.proofs.ReplacedLemmas.{replaced_written}
use Rattle.iv_ledger.proofs.entry_index.remove_at.Goals as goal

pub returns-else-is_empty-clause-rest : goal.returns-else-is_empty-clause-rest
returns-else-is_empty-clause-rest g c =
    let x = c.index_mut-chunk.result.now in
    let i = c.args.at.index in
    let inside = subst (λ y. i < vec_len y) (sym c.index_mut-chunk.ensures.value) (c.requires.inside.index_in_range x) in
    concatenated-set_removed c.args.chunks.now.items c.args.at.chunk x c.requires.inside.chunk_in_range c.index_mut-chunk.ensures.value c.remove-entry.new.self i (omega (arith, x.ok.0, inside)) c.remove-entry.ensures.items

pub returns-else-is_empty-clause-others : goal.returns-else-is_empty-clause-others
returns-else-is_empty-clause-others g c = replaced_written c.args.chunks.now.items c.args.at.chunk c.remove-entry.new.self c.requires.inside.chunk_in_range
