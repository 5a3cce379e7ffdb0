use Rattle.std.proofs.Common.{Bool, List, sym, ap, subst, ◌≡◌, ◌∙◌}
use Rattle.std.specs.Prelude.{All, filter}
use Rattle.std.specs.declared.vec.Vec.{Vec}
use Rattle.iv_ledger.specs.Inside.Chunks.{concatenated, from}
use Rattle.iv_ledger.specs.Inside.Seen.{seen_chunks}
use Rattle.iv_ledger.specs.declared.entry_index.EntryIndex.{EntryIndex}
use Rattle.iv_ledger.proofs.ledger.Ledger.walk.Goals as goal

-- what a walk from an index has, if a search among the same chunks gave the index
from_found : {K S V Z : Type 0} (read : K → S) {cs ds fs : List (Vec (K × V) Z)} {es w : List (S × V)} (t : S × V → Bool) (p : EntryIndex) → ds ≡ cs → fs ≡ cs → concatenated (seen_chunks read cs) ≡ es
    → w ≡ from (seen_chunks read ds) p → from (seen_chunks read fs) p ≡ filter t (concatenated (seen_chunks read fs)) → w ≡ filter t es
from_found {K = K} {V = V} {Z = Z} read t p same again all walked found =
    walked
    ∙ ap (λ (cs : List (Vec (K × V) Z)). from (seen_chunks read cs) p) (same ∙ sym again)
    ∙ found
    ∙ ap (λ (cs : List (Vec (K × V) Z)). filter t (concatenated (seen_chunks read cs))) again
    ∙ ap (filter t) all

pub from_index-requires-clause-keys : goal.from_index-requires-clause-keys
from_index-requires-clause-keys g c = subst (λ cs. All (λ e. g.O.Order.IsKey c.self.inside.order e.0) (concatenated cs)) (sym c.deref-2.ensures.value) c.self.invariant.keys

pub returns-clause-entries : goal.returns-clause-entries
returns-clause-entries g c =
    from_found (g.O.Order.read c.self.inside.order) _ c.index_from-at.result c.deref-2.ensures.value c.deref.ensures.value c.self.view_is c.from_index.ensures c.index_from-at.ensures.entries
