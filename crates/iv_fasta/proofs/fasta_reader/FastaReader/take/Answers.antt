use Rattle.std.proofs.Common.{◌≡◌, ◌++◌, ℕ, List, [], ap, sym, ◌∙◌, inl, inr, ◌-◌, length, take, drop, arith, length-drop}
use Rattle.iv_lines.proofs.PieceLemmas.{handed-on, rest-whole}
use Rattle.iv_fasta.specs.FastaReading.{Reading, read_on, size_of}
use Rattle.iv_fasta.proofs.ReadingLemmas.{taken-so, refused-so}
use Rattle.iv_fasta.proofs.fasta_reader.FastaReader.take.Goals as goal

pub take_text-requires : goal.take_text-requires
take_text-requires g c =
    let size = ap (λ (r : Reading). size_of r) c.self.view_is in
    record { few = omega (arith, c.requires.few, size) }

pub returns-in_err-taken-clause-err : goal.returns-in_err-taken-clause-err
returns-in_err-taken-clause-err g c =
    let old : Reading = record { read = c.self.inside.draft; tail = c.self.inside.tail.items } in
    let none : old.tail ≡ [] = ap (λ (r : Reading). r.tail) c.self.view_is ∙ c.requires.none in
    handed-on c.from_residual.result _ _ c.from_residual.ensures.1
    (elim c.in_err-taken.ensures.err [
      | inl memory ↦ inl memory
      | inr refused ↦ inr (λ more.
          ap (λ (r : Reading). read_on c.args.genome.now r (c.args.bytes.now ++ more)) (sym c.self.view_is)
          ∙ refused-so c.args.genome.now old c.args.bytes.now _ none refused more)
    ])

pub returns-clause-few : goal.returns-clause-few
returns-clause-few g c =
    let bytes = c.args.bytes.now in
    let taken = c.in_ok-taken.taken in
    let size = ap (λ (r : Reading). size_of r) c.self.view_is in
    let none : c.self.inside.tail.items ≡ [] = ap (λ (r : Reading). r.tail) c.self.view_is ∙ c.requires.none in
    let tail : c.keep.new.tail.items ≡ drop taken bytes = c.in_ok-keep.ensures.ok ∙ ap (λ (t : List ℕ). t ++ take (length bytes - taken) (drop taken bytes)) none ∙ rest-whole bytes taken in
    omega (arith, c.in_ok-taken.ensures.taken.0.1, c.in_ok-taken.ensures.taken.0.0, ap (λ (t : List ℕ). length t) tail, length-drop taken bytes, size, ap (λ (t : List ℕ). length t) none)

pub returns-clause-ok : goal.returns-clause-ok
returns-clause-ok g c = λ more.
    let bytes = c.args.bytes.now in
    let taken = c.in_ok-taken.taken in
    let old : Reading = record { read = c.self.inside.draft; tail = c.self.inside.tail.items } in
    let none : old.tail ≡ [] = ap (λ (r : Reading). r.tail) c.self.view_is ∙ c.requires.none in
    let tail : c.keep.new.tail.items ≡ drop taken bytes = c.in_ok-keep.ensures.ok ∙ ap (λ (t : List ℕ). t ++ take (length bytes - taken) (drop taken bytes)) none ∙ rest-whole bytes taken in
    ap (λ (r : Reading). read_on c.args.genome.now r (bytes ++ more)) (sym c.self.view_is)
    ∙ taken-so c.args.genome.now old c.take_text.new.self bytes c.keep.new.tail.items taken none c.take_text.ensures.taken.1 c.in_ok-taken.ensures.ok tail more
