use Rattle.std.proofs.Common.{◌≡◌, ◌≤◌, ◌+◌, ◌++◌, ℕ, List, false, ap, sym, ◌∙◌, inl, inr, take, drop, length, arith}
use Rattle.std.proofs.lemmas.Bool.{cond-true, cond-false}
use Rattle.std.specs.Option.{option_map}
use Rattle.std.specs.List.{list_any}
use Rattle.iv_lines.proofs.PieceLemmas.{rest-whole}
use Rattle.iv_fasta.specs.FastaReading.{Progress, Wanted, said}
use Rattle.iv_fasta.specs.Inside.Fasta.{is_no_base}
use Rattle.iv_fasta.specs.Inside.Drafts.{cut, with_bases_read}
use Rattle.iv_fasta.proofs.SaidLemmas.{lines-byte, line-refused, lacking, not-lacking, bases-read, more-bases, held-after}
use Rattle.iv_fasta.proofs.BlockLemmas.{all-bases, length-after}
use Rattle.iv_fasta.proofs.fasta_draft.FastaDraft.take_bases.Goals as goal

pub returns-then-lacks_header-clause-err : goal.returns-then-lacks_header-clause-err
returns-then-lacks_header-clause-err g c = inr (λ genome is_last.
    let p = c.args.self.now in
    let text = c.args.text.now in
    let lacks = sym c.lacks_header.ensures ∙ c.if-lacks_header.true in
    line-refused genome p text _ is_last _ (sym (cond-true _ _ _ lacks)) (λ more last. lines-byte text more c.requires.some.0 c.requires.some.1 c.requires.some.2) c.requires.open (inr (lacking genome p lacks)))

pub returns-then-is_bad-clause-err : goal.returns-then-is_bad-clause-err
returns-then-is_bad-clause-err g c = inr (λ genome is_last.
    let p = c.args.self.now in
    let text = c.args.text.now in
    let lacks = sym c.lacks_header.ensures ∙ c.if-lacks_header.false in
    line-refused genome p text _ is_last _ (sym (cond-false _ _ _ lacks)) (λ more last. lines-byte text more c.requires.some.0 c.requires.some.1 c.requires.some.2) c.requires.open (inl (sym c.is_bad.ensures ∙ c.if-is_bad.true)))

pub returns-clause-ok : goal.returns-clause-ok
returns-clause-ok g c = λ genome is_last more last.
    let p = c.args.self.now in
    let text = c.args.text.now in
    let in_self = c.self.inside in
    let wanted : Wanted = option_map (λ ranks. ranks.items) in_self.wanted in
    let n : ℕ = c.count_bases-count.result in
    let lacks = sym c.lacks_header.ensures ∙ c.if-lacks_header.false in
    let within : 1 + n ≤ length text = omega (arith, c.count_bases-count.ensures.within, c.requires.some.0, length-after text 1) in
    let rest : list_any is_no_base (take n (drop 1 text)) ≡ false =
    ap (λ (l : List ℕ). list_any is_no_base (take n l)) (sym (rest-whole text 1)) ∙ all-bases _ n c.count_bases-count.ensures.within c.count_bases-count.ensures.bases in
    bases-read genome p text (1 + n) is_last (omega arith) within (more-bases text n c.requires.some.0 (sym c.is_bad.ensures ∙ c.if-is_bad.false) rest)
    (λ closed. (c.requires.open closed, not-lacking genome p lacks closed)) more last
    ∙ ap (λ (q : Progress). said genome q (drop (1 + n) text ++ more))
    (ap (λ (q : Progress). with_bases_read q (take (1 + n) text)) (sym c.self.view_is)
    ∙ held-after in_self.number in_self.held.count c.extend.new.self.count in_self.is_open in_self.holds wanted
    (cut in_self.held.headers in_self.held.bases.items in_self.held.count) (cut c.extend.new.self.headers c.extend.new.self.bases.items c.extend.new.self.count)
    (take (1 + n) text) c.in_ok-extend.ensures.ok c.in_ok-extend.ensures.count)
