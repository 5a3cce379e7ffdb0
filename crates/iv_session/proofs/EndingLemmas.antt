-- What follows from the end of a run about the limits.
use Rattle.std.proofs.Common.{◌≡◌, ◌≢◌, ℕ, ◌+◌, ◌≤◌, ◌<◌, ◌++◌, ◌⊎◌, inl, inr, List, length, Option, Some, None, Result, Ok, Err, IfSome, ◌↔◌, refl, sym, ap, ◌∙◌, subst, arith, true≢false}
use Rattle.std.proofs.lemmas.Option.{same_Some}
use Rattle.iv_bytes.specs.Sources.{SourceState, IsInput}
use Rattle.iv_lines.specs.Lines.{lines}
use Rattle.iv_session.specs.Endings.{Ran, AreSoundStreams, HadMemory, IsTooLongAt}
use Rattle.iv_session.specs.Limits.{line_sizes, Keeps, first_over}
use Rattle.iv_session.specs.Stops.{Stopped}
use Rattle.iv_session.specs.Streams.{Streams}
use Rattle.iv_session.specs.declared.script.RunCause.{RunCause}
use Rattle.iv_session.specs.declared.script.RunCause.TheVariants.{Input, TooLong, Output, Messages, Memory}
use Rattle.iv_session.specs.declared.script.RunFault.{RunFault}
use Rattle.iv_session.specs.declared.script.Summary.{Summary}
use Rattle.iv_workspace.specs.States.{State}
use Rattle.iv_session.proofs.SizeLemmas.{length-sizes, whole-sizes, over-after, over-none, over-first, over-low, over-past, passes-more}

-- the input that is known is the text
known_text : (s : SourceState) (text whole : List ℕ) → s.remaining ≡ Some text → IsInput s whole → text ≡ whole
known_text s text whole known input = subst (λ (o : Option (List ℕ)). IfSome o (λ bytes. bytes ≡ whole)) known input

pub done-none : (old new : State) (before after : Streams) (most_lines most : ℕ) (text : List ℕ) (summary : Summary)
    → before.input.remaining ≡ Some text → Ran old new before after most_lines most (Ok summary)
    → first_over most_lines most 1 (line_sizes text) ≡ None
done-none old new before after most_lines most text summary known ran =
    let is : text ≡ ran.whole = known_text before.input text ran.whole known ran.input in
    ap (λ (l : List ℕ). first_over most_lines most 1 (line_sizes l)) is
    ∙ over-none most_lines most (line_sizes ran.whole) ran.within

-- the first line that passes a limit is not before the one that the run ended at
from-line : (old new : State) (before after : Streams) (most_lines most n : ℕ) (cause : RunCause) (text : List ℕ)
    → before.input.remaining ≡ Some text → (u : Stopped old new before after most_lines most n cause)
    → first_over most_lines most 1 (line_sizes text) ≡ first_over most_lines most n (line_sizes (u.at.given ++ u.at.more))
from-line old new before after most_lines most n cause text known u =
    let rest : List ℕ = u.at.given ++ u.at.more in
    let is : text ≡ u.front ++ rest = known_text before.input text (u.front ++ rest) known u.input in
    let count : length (line_sizes u.front) ≡ length (lines u.front) = length-sizes u.front in
    let number : 1 + length (line_sizes u.front) ≡ n = omega (arith, count, u.number) in
    let few : 1 + length (line_sizes u.front) ≤ most_lines + 1 = omega (arith, u.within.0) in
    ap (λ (l : List ℕ). first_over most_lines most 1 (line_sizes l)) is
    ∙ ap (λ (l : List ℕ). first_over most_lines most 1 l) (whole-sizes u.front rest u.ended)
    ∙ over-after most_lines most 1 (line_sizes u.front) (line_sizes rest) u.within.1 few
    ∙ ap (λ (k : ℕ). first_over most_lines most k (line_sizes rest)) number

pub stopped-noticed : (old new : State) (before after : Streams) (most_lines most n : ℕ) (text : List ℕ) (fault : RunFault)
    → before.input.remaining ≡ Some text → Ran old new before after most_lines most (Err fault)
    → first_over most_lines most 1 (line_sizes text) ≡ Some n → fault.line ≤ n
stopped-noticed old new before after most_lines most n text fault known ran is =
    let rest : List ℕ = ran.at.given ++ ran.at.more in
    over-low most_lines most fault.line n (line_sizes rest)
    (sym (from-line old new before after most_lines most fault.line fault.cause text known ran) ∙ is)

-- a line that was run passes no limit
pub stopped-ran : (old new : State) (before after : Streams) (most_lines most n : ℕ) (text : List ℕ) (fault : RunFault)
    → before.input.remaining ≡ Some text → Ran old new before after most_lines most (Err fault)
    → (fault.cause ≡ Output) ⊎ (fault.cause ≡ Messages)
    → first_over most_lines most 1 (line_sizes text) ≡ Some n → fault.line < n
stopped-ran old new before after most_lines most n text fault known ran sink is = go fault.cause ran sink
  where
    past : (cause : RunCause) (u : Stopped old new before after most_lines most fault.line cause)
        → Keeps most_lines most fault.line (line_sizes (u.at.given ++ u.at.more)) → fault.line < n
    past cause u keeps =
        over-past most_lines most fault.line n (line_sizes (u.at.given ++ u.at.more)) keeps
        (sym (from-line old new before after most_lines most fault.line cause text known u) ∙ is)

    go : (cause : RunCause) → Stopped old new before after most_lines most fault.line cause
        → (cause ≡ Output) ⊎ (cause ≡ Messages) → fault.line < n
    go Output u sink = past Output u u.why
    go Messages u sink = past Messages u u.why
    go cause u (inl other) = absurd (cc other)
    go cause u (inr other) = absurd (cc other)

-- a run that ended neither by a stream nor out of memory
pub too_long-exact : (old new : State) (before after : Streams) (most_lines most n : ℕ) (text : List ℕ) (ended : Result Summary RunFault)
    → before.input.remaining ≡ Some text → Ran old new before after most_lines most ended → AreSoundStreams after → HadMemory ended
    → IsTooLongAt n ended ↔ (first_over most_lines most 1 (line_sizes text) ≡ Some n)
too_long-exact old new before after most_lines most n text (Ok summary) known ran sound memory = (
  λ never. absurd never,
  λ is. absurd (cc (sym (done-none old new before after most_lines most text summary known ran) ∙ is)),
)
too_long-exact old new before after most_lines most n text (Err fault) known ran sound memory = go fault.cause ran memory
  where
    go : (cause : RunCause) → Stopped old new before after most_lines most fault.line cause → cause ≢ Memory
        → ((fault.line ≡ n) × (cause ≡ TooLong)) ↔ (first_over most_lines most 1 (line_sizes text) ≡ Some n)
    go TooLong u memory =
        let first : first_over most_lines most 1 (line_sizes text) ≡ Some fault.line =
        from-line old new before after most_lines most fault.line TooLong text known u
        ∙ over-first most_lines most fault.line (line_sizes (u.at.given ++ u.at.more))
        (passes-more most_lines most fault.line u.at.given u.at.more u.why) in
        (λ at. first ∙ ap (λ (k : ℕ). Some k) at.0, λ is. (same_Some fault.line n (sym first ∙ is), refl))
    go Input u memory = absurd (true≢false (sym u.source.failed ∙ sound.0))
    go Output u memory = absurd (true≢false (sym u.last.texts.0.failed ∙ sound.1))
    go Messages u memory = absurd (true≢false (sym u.last.texts.1.failed ∙ sound.2))
    go Memory u memory = absurd (memory refl)
