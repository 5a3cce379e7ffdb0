-- A first piece of a text, and what remains after it.
use Rattle.std.proofs.Common.{◌≡◌, ℕ, List, ◌++◌, sym, subst}
use Rattle.iv_bytes.specs.Sinks.{SinkState, Takes, FailsIn}
use Rattle.iv_bytes.proofs.PutLemmas.{Underway, FailsIn-front, Underway-more, Underway-fails}

pub Underway-first : (start now : SinkState) (piece to_come whole : List ℕ) → whole ≡ piece ++ to_come → Takes start now piece → Underway start now to_come whole
Underway-first start now piece to_come whole is took = record { done = piece; took = took; all = is }

pub FailsIn-first : (start now : SinkState) (piece to_come whole : List ℕ) → whole ≡ piece ++ to_come → FailsIn start now piece → FailsIn start now whole
FailsIn-first start now piece to_come whole is fails = subst (FailsIn start now) (sym is) (FailsIn-front start now piece to_come fails)

-- the next piece of what remains
pub Underway-step : (start mid now : SinkState) (left piece to_come whole : List ℕ) → left ≡ piece ++ to_come → Underway start mid left whole → Takes mid now piece → Underway start now to_come whole
Underway-step start mid now left piece to_come whole is u took =
    Underway-more start mid now piece to_come whole (subst (λ (l : List ℕ). Underway start mid l whole) is u) took

pub Underway-failed : (start mid now : SinkState) (left piece to_come whole : List ℕ) → left ≡ piece ++ to_come → Underway start mid left whole → FailsIn mid now piece → FailsIn start now whole
Underway-failed start mid now left piece to_come whole is u fails =
    Underway-fails start mid now piece to_come whole (subst (λ (l : List ℕ). Underway start mid l whole) is u) fails
