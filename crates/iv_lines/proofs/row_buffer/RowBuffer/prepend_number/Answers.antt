use Rattle.std.proofs.Common.{◌≡◌, ◌-◌, ◌≤◌, length, decimal, ap, sym, ◌∙◌, rules, arith}
use Rattle.std.proofs.lemmas.Fmt.{length-decimal-le}
use Rattle.std.proofs.lemmas.List.{length-drop}
use Rattle.iv_lines.proofs.row_buffer.RowBuffer.prepend_number.Goals as goal

pub write_digits-self-inside-requires : goal.write_digits-self-inside-requires
write_digits-self-inside-requires c =
    let digits : length (decimal c.args.number) ≤ 20 = search (rules, length-decimal-le 20) in
    let len : length c.args.self.now ≡ length c.self.inside.bytes - c.self.inside.start =
    ap length (sym c.self.view_is) ∙ length-drop c.self.inside.start c.self.inside.bytes in
    let or_fault = c.self.told in
    (omega arith, omega arith)

pub returns-clause-short : goal.returns-clause-short
returns-clause-short c =
    let digits : length (decimal c.args.number) ≤ 20 = search (rules, length-decimal-le 20) in
    let len : length c.args.self.now ≡ length c.self.inside.bytes - c.self.inside.start =
    ap length (sym c.self.view_is) ∙ length-drop c.self.inside.start c.self.inside.bytes in
    let laid = length-drop c.write_digits-self-inside.result c.write_digits-self-inside.new.buf in
    let start = c.write_digits-self-inside.ensures.start in
    let or_fault = c.self.told in
    omega arith
