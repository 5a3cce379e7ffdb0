use Rattle.std.proofs.Common.{◌≡◌, ◌&&◌, nat_le, drop}
use Rattle.std.specs.List.{list_all}
use Rattle.iv_workspace.proofs.session.open_views.is_view_name.Given as goal

abbrev pub invariant-loop-b : goal.invariant-loop-b
invariant-loop-b l = list_all (λ b. nat_le 33 b && nat_le b 126) (drop l.b-index l.name) ≡ list_all (λ b. nat_le 33 b && nat_le b 126) l.name
