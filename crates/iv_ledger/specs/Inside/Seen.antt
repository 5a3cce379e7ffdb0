-- Entries, and chunks of them, with what their keys mean.
use Rattle.std.specs.Prelude.{ℕ, All, List, map}
use mathlib.Core.Path.{sym, ◌∙◌}
use Rattle.std.proofs.lemmas.List.{length-map}
use Rattle.std.specs.declared.cmp.Ordering.{Ordering}
use Rattle.std.specs.declared.vec.Vec.{Vec}
use Rattle.iv_ledger.specs.Inside.Chunks.{AreFilled, IsWhole, concatenated}

-- an entry with what its key means
abbrev pub seen : {K S : Type 0} → (K → S) → {V : Type 0} → K × V → S × V
seen read e = (read e.0, e.1)

module _ {K S : Type 0} (read : K → S) where
  -- a chunk with what its keys mean
  abbrev pub seen_chunk : {V Z : Type 0} → Vec (K × V) Z → Vec (S × V) Z
  seen_chunk v = record { ptr = v.ptr; len = v.len; cap = v.cap; alloc = v.alloc; items = map (seen read) v.items; ok = (v.ok.0 ∙ sym (length-map v.items (seen read)), v.ok.1); small = v.small }

  abbrev pub seen_chunks : {V Z : Type 0} → List (Vec (K × V) Z) → List (Vec (S × V) Z)
  seen_chunks cs = map seen_chunk cs

-- the chunks are a map of the keys that they have, with so many entries, and each is a key
pub record IsStored {K S V Z : Type 0} (cmp : S → S → Ordering) (read : K → S) (IsKey : K → Type 0) (chunks : List (Vec (K × V) Z)) (len : ℕ) : Type 0 where
  pub whole : IsWhole cmp (seen_chunks read chunks) len
  pub filled : AreFilled chunks
  pub keys : All (λ e. IsKey e.0) (concatenated chunks)
