use Rattle.std.proofs.Common.{arith}
use Rattle.iv_text.proofs.OnePassLemmas.{place-begins}
use Rattle.iv_text.proofs.record_reader.RecordReader.split_interval.Goals as goal

pub returns : goal.returns
returns g c =
    let named = c.in_ok-named.named in
    place-begins c.args.self.now c.args.text.now named.name.now c.in_ok-named.from_start.now c.in_ok-start.after.now c.in_ok-from_stop.from_stop.now
    c.in_ok-stop.rest.now named.rank c.in_ok-start.start c.in_ok-stop.stop named.length
    c.in_ok-named.ensures c.in_ok-start.ensures c.in_ok-from_stop.ensures c.in_ok-stop.ensures (omega arith) (omega arith)
