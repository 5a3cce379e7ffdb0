use Rattle.std.proofs.Common.{◌-◌, length, arith}
use Rattle.iv_text.proofs.DigitLemmas.{named-by-words, words-same}
use Rattle.iv_text.proofs.OnePassLemmas.{named-rest}
use Rattle.iv_text.proofs.record_reader.after_name.Goals as goal

pub returns-then-size-lt4 : goal.returns-then-size-lt4
returns-then-size-lt4 c = named-rest c.args.line.now c.args.name.now c.strip_prefix.result c.strip_prefix.ensures.cases

pub returns : goal.returns
returns c =
    let line = c.args.line.now in
    let name = c.args.name.now in
    named-by-words line name (omega arith) (omega arith) (omega arith)
    (words-same line name 0 c.word_at-begins.result c.word_at-begin.result c.word_at-begins.ensures c.word_at-begin.ensures (omega arith))
    (words-same line name (length name - 4) c.word_at-ends.result c.word_at-end.result c.word_at-ends.ensures c.word_at-end.ensures (omega arith))
