use Rattle.iv_text.proofs.DigitLemmas.{word-byte}
use Rattle.iv_text.proofs.record_reader.word_at.Goals as goal

pub returns : goal.returns
returns c = word-byte c.args.text.now c.args.at c.from_le_bytes.result (λ k. (c.type_inv.text k).fits) c.from_le_bytes.ensures
