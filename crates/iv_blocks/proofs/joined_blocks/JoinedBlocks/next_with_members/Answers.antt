use Rattle.std.proofs.Common.{◌≡◌, ◌∙◌, ◌∷◌, ℕ, List, take, length, sym, ap, arith, length-append}
use Rattle.std.proofs.Math.Seq.{take-append_seam}
use Rattle.std.specs.Option.{option_map}
use Rattle.iv_lines.specs.RecordValue.{RecordValue}
use Rattle.iv_cover.specs.RecordWalks.{ahead_of}
use Rattle.iv_cover.specs.Inside.TrackBlocks.{with_members}
use Rattle.iv_cover.proofs.RemainingLemmas.{members_of}
use Rattle.iv_blocks.proofs.JoinedBlocksLemmas.{again-members}
use Rattle.iv_blocks.proofs.joined_blocks.JoinedBlocks.next_with_members.Goals as goal

pub of-requires : goal.of-requires
of-requires g c =
    let i = c.self.inside in
    let first = c.in_ok-block.ensures in
    let more = c.next_counted.new.self in
    let again = again-members i.distance (option_map g.W.Record.BedRecord.as_record c.ahead_again-first.result) (option_map g.W.Record.BedRecord.as_record i.ahead) (g.W.RecordWalk.left c.again-records.result) (g.W.RecordWalk.left i.records) c.ahead_again-first.ensures c.again-records.ensures (with_members c.in_ok-block.block first.0) more (c.self.view_is ∙ first.1) in
    omega (arith, first.2, ap (λ (l : List RecordValue). length l) again, length-append first.0 (members_of more))

pub returns : goal.returns
returns g c =
    let i = c.self.inside in
    let first = c.in_ok-block.ensures in
    let more = c.next_counted.new.self in
    let again = again-members i.distance (option_map g.W.Record.BedRecord.as_record c.ahead_again-first.result) (option_map g.W.Record.BedRecord.as_record i.ahead) (g.W.RecordWalk.left c.again-records.result) (g.W.RecordWalk.left i.records) c.ahead_again-first.ensures c.again-records.ensures (with_members c.in_ok-block.block first.0) more (c.self.view_is ∙ first.1) in
    let taken : c.of.result ≡ first.0 =
    c.of.ensures
    ∙ ap (λ (n : ℕ). take n (ahead_of (option_map g.W.Record.BedRecord.as_record c.ahead_again-first.result) (g.W.RecordWalk.left c.again-records.result))) first.2
    ∙ ap (take (length first.0)) again
    ∙ take-append_seam first.0 (members_of more) in
    first.1 ∙ ap (λ (ms : List RecordValue). with_members c.in_ok-block.block ms ∷ more) (sym taken)
