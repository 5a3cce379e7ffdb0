use Rattle.std.proofs.Common.{ℕ, drop}
use Rattle.std.specs.List.{flat_map}
use Rattle.iv_bytes.proofs.PutLemmas.{Underway}
use Rattle.iv_workspace.specs.Prints.{AllPrintWithin}
use Rattle.iv_workspace.specs.Views.{all_text}
use Rattle.iv_workspace.proofs.PrintLemmas.{headed_text}
use Rattle.iv_workspace.proofs.session.Session.put_views.Given as goal

abbrev pub invariant-loop-index : goal.invariant-loop-index
invariant-loop-index g l =
    Underway (g.S.Sink.state l.fn.sink) (g.S.Sink.state l.sink) (flat_map (headed_text l.part l.self) (drop l.index l.self.views)) (all_text l.part l.self)
    × ((m : ℕ) → AllPrintWithin l.part (drop l.index l.self.views) l.self.genome l.self.track.records l.meter m → AllPrintWithin l.part l.self.views l.self.genome l.self.track.records l.fn.meter m)
