use Rattle.std.proofs.Common.{◌≡◌, ◌∙◌, ℕ, List, [], ap, sym}
use Rattle.iv_blocks.specs.Inside.MembersLeft.{MembersLeft}
use Rattle.iv_blocks.specs.KeptBlocks.{KeptBlocks}
use Rattle.iv_blocks.specs.Groups.{listed}
use Rattle.iv_blocks.specs.Inside.Groups.{members_between}
use Rattle.iv_blocks.proofs.blocks.Blocks.kept_block.Goals as goal

pub returns-then-not-has_results-clause-value : goal.returns-then-not-has_results-clause-value
returns-then-not-has_results-clause-value g c =
    let a = c.args in
    let options : listed c.self.inside.options.summaries ≡ listed a.self.now.options.summaries = ap (λ (k : KeptBlocks). listed k.options.summaries) c.self.view_is in
    let none : listed a.self.now.options.summaries ≡ [] = sym options ∙ c.self.invariant (sym c.if-not-has_results.ensures) in
    rw none c.plain.ensures

pub returns-clause-value : goal.returns-clause-value
returns-clause-value g c =
    let summaries : c.as_slice-summaries.result.now ≡ listed c.args.self.now.options.summaries =
    c.as_slice-summaries.ensures ∙ ap (λ (k : KeptBlocks). listed k.options.summaries) c.self.view_is in
    let records : c.of-members.result.members ≡ members_between c.args.group c.args.start c.args.stop c.args.track.now.records = ap (λ (m : MembersLeft). m.members) c.of-members.ensures.members in
    c.in_ok-copy_of.ensures
    ∙ ap (λ (t : List ℕ). record { stop = c.args.stop; results = t })
    (c.as_slice-2.ensures.value ∙ (rw (c.name_or_empty-name.ensures, summaries, c.as_slice.ensures.value, c.in_ok-records.ensures.records, records) at c.in_ok-results.ensures))
