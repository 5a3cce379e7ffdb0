use Rattle.std.proofs.Common.{◌≡◌, ◌∙◌, ◌-◌, List, ℕ, length, take, drop, ap, arith, length-drop, sym, subst, ◌+◌}
use Rattle.iv_text.specs.BedReading.{AreSoundLines, LinesRead}
use Rattle.iv_text.specs.Inside.BedReading.{TakesLine}
use Rattle.iv_text.proofs.BedReadingLemmas.{takes-more}
use Rattle.iv_lines.proofs.PieceLemmas.{rest-whole}
use Rattle.iv_text.proofs.bed_reader.BedLines.take_lines.Goals as goal

pub lines-preserved : goal.lines-preserved
lines-preserved g c =
    let genome = c.args.genome.now in
    let limit = c.args.limit in
    let i = c.lines.invariant in
    let now = c.lines.self in
    let left = c.lines.left.now in
    let size = c.in-Ok.size in
    let read = c.take_line.new.self in
    let takes : TakesLine c.args.columns genome limit now read left size = rw i.same at c.in-Ok.ensures.ok.2 in
    let sound = rw i.same at c.in-Ok.ensures.sound in
    let dropped : length (drop size left) ≡ length left - size = length-drop size left in
    let rest_is : length (take (length left - size) (drop size left)) ≡ length (drop size left) = ap (λ (t : List ℕ). length t) (rest-whole left size) in
    let counted : LinesRead → LinesRead = λ l. record l { number = l.number + 1 } in
    let rest : List ℕ = take (length left - size) (drop size left) in
    record {
      same = c.in-Ok.ensures.same ∙ i.same;
      sound = subst (λ (l : LinesRead). AreSoundLines c.args.columns genome limit (counted l)) (sym c.self.view_is) (record { fit = sound.fit; few = sound.few });
      rest = takes-more c.args.columns genome limit c.args.self.now now read (counted _) c.args.text.now left rest size i.rest takes c.in-Ok.ensures.number (ap counted c.self.view_is) (rest-whole left size);
      number = omega (arith, i.number, c.in-Ok.ensures.ok.0, c.in-Ok.ensures.ok.1, c.in-Ok.ensures.number, ap (λ (l : LinesRead). l.number) c.self.view_is, dropped, rest_is);
    }
