-- The texts of views of which a state is kept.
use Rattle.std.proofs.Common.{◌≡◌, ◌∙◌, ℕ, List, Result, sym, ap, subst}
use Rattle.iv_bytes.specs.Sinks.{SinkState, Puts}
use Rattle.iv_blocks.specs.declared.options.BlockOptions.{BlockOptions}
use Rattle.iv_view.specs.KeptStates.{state_key}
use Rattle.iv_view.specs.declared.kept_state.StateKey.TheVariants as keep
use Rattle.iv_view.specs.declared.view.KeptView.{KeptView}
use Rattle.iv_view.specs.declared.view.KeptView.TheVariants as kept

-- the text of a merge is that of the blocks that are kept for it
pub merge-shown : {T E : Type 0} (text : KeptView → List ℕ) (v : KeptView) (options own : BlockOptions) → v ≡ kept.Merge options → keep.Blocks own ≡ state_key v
    → (old new : SinkState) (result : Result T E) → Puts old new result (text (kept.Merge own)) → Puts old new result (text v)
merge-shown text v options own is key old new result put =
    let keys : keep.Blocks own ≡ keep.Blocks options = key ∙ ap state_key is in
    let same : own ≡ options = cc (keys) in
    subst (λ (x : KeptView). Puts old new result (text x)) (ap kept.Merge same ∙ sym is) put
