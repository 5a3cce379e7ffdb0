use Rattle.std.proofs.Common.{◌∙◌, ap, map}
use Rattle.iv_lines.proofs.NamedLemmas.{put-all}
use Rattle.iv_lines.proofs.name_map.NameMap.rehash.Goals as goal

pub returns-clause-ok : goal.returns-clause-ok
returns-clause-ok g c =
    ap (map _) (c.in_ok-append.ensures.entries ∙ put-all (λ v. v.items) _ _ c.in_ok-again.ensures.empty c.len.ensures.unique) ∙ c.self.view_is
