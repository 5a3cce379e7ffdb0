-- Reading a source to its end.
use Rattle.std.proofs.Common.{◌≡◌, ℕ, ◌+◌, ◌≤◌, ◌<◌, List, [], ◌++◌, length, refl, sym, ap, ◌∙◌, subst, append-nil, length-append, arith, false, true≢false, ◌≢◌, ◌↔◌, Option, Some, None, IfSome, Result, Ok, Err}
use Rattle.std.specs.Io.KnownBytes.{Consumes, IsAtEnd}
use Rattle.std.proofs.KnownBytes.{Consumes-nil, Consumes-trans, Consumes-whole}
use Rattle.iv_bytes.specs.Sources.{SourceState, Gives, answered}
use Rattle.iv_run.specs.Files.{ReadsWhole, StopsReading, IsFaultOf}
use Rattle.iv_run.specs.Inside.Files.{EndsReading, HadMemory, IsTooLong, IsPieceFault}
use Rattle.iv_run.specs.declared.exit_reason.FileFault.{FileFault}
use Rattle.iv_run.specs.declared.exit_reason.FileFault.TheVariants.{Input, TooLong, Memory}

-- the source has given these bytes, and is no more failed than before
pub record HasGiven (old new : SourceState) (bytes : List ℕ) : Type 0 where
  pub from : Consumes old.remaining new.remaining bytes
  pub failed : new.failed ≡ old.failed

pub HasGiven-begin : (s : SourceState) → HasGiven s s []
HasGiven-begin s = record { from = Consumes-nil s.remaining; failed = refl }

pub HasGiven-more : (a b c : SourceState) (front piece : List ℕ) (n : ℕ) → HasGiven a b front → Gives (answered n b) c piece → HasGiven a c (front ++ piece)
HasGiven-more a b c front piece n before after = record {
  from = Consumes-trans a.remaining b.remaining c.remaining front piece before.from after.from;
  failed = after.failed ∙ before.failed;
}

-- the last pull gave nothing
pub ReadsWhole-end : (a b c : SourceState) (limit : ℕ) (front piece : List ℕ) (n : ℕ) → HasGiven a b front → length front ≤ limit
    → Gives (answered n b) c piece → piece ≡ [] → IsAtEnd c.remaining → ReadsWhole a c limit front
ReadsWhole-end a b c limit front piece n before few last none ended =
    let empty = subst (λ (l : List ℕ). Gives (answered n b) c l) none last in
    let all = subst (λ (l : List ℕ). HasGiven a c l) (append-nil front) (HasGiven-more a b c front [] n before empty) in
    record {
      input = Consumes-whole a.remaining c.remaining front (λ xs. xs ≡ front) all.from ended refl;
      few = few;
      ended = ended;
      failed = all.failed;
    }

-- a piece was not taken
pub StopsReading-piece : (a b c : SourceState) (limit : ℕ) (front piece : List ℕ) (n : ℕ) (fault : FileFault) → HasGiven a b front
    → Gives (answered n b) c piece → IsPieceFault fault limit (length front + length piece) → StopsReading a c limit fault
StopsReading-piece a b c limit front piece n fault before after why =
    let all = HasGiven-more a b c front piece n before after in
    record {
      front = front ++ piece;
      given = all.from;
      cause = cause_of fault a c limit _ _ all.failed (length-append front piece) why;
    }
  where
    cause_of : (f : FileFault) (old new : SourceState) (most count sum : ℕ) → new.failed ≡ old.failed → count ≡ sum
        → IsPieceFault f most sum → IsFaultOf f old new most count
    cause_of Input old new most count sum projected same why = absurd why
    cause_of TooLong old new most count sum projected same why = (projected, subst (λ (n : ℕ). most < n) (sym same) why)
    cause_of Memory old new most count sum projected same why = (projected, subst (λ (n : ℕ). n ≤ most) (sym same) why)

-- an allocation failed before the first pull
pub StopsReading-at_once : (s : SourceState) (limit : ℕ) → StopsReading s s limit Memory
StopsReading-at_once s limit = record { front = []; given = Consumes-nil s.remaining; cause = (refl, omega arith) }

-- a front of the text has no more bytes than the text
front-few : (old new : Option (List ℕ)) (front text : List ℕ) → old ≡ Some text → Consumes old new front → length front ≤ length text
front-few old new front text known given = by new (subst (λ (o : Option (List ℕ)). Consumes o new front) known given)
  where
    by : (new : Option (List ℕ)) → Consumes (Some text) new front → length front ≤ length text
    by None is = absurd is
    by (Some back) is =
        let size : length text ≡ length front + length back = ap length is ∙ length-append front back in
        omega (arith, size)

-- a file whose bytes are known is too long exactly if it has more bytes than the limit, if nothing else ended it
pub too_long-exact : (old new : SourceState) (limit : ℕ) (text : List ℕ) (ended : Result (List ℕ) FileFault) → old.remaining ≡ Some text
    → EndsReading old new limit ended → new.failed ≡ false → HadMemory ended → IsTooLong ended ↔ (limit < length text)
too_long-exact old new limit text (Ok bytes) known came sound memory =
    let same : text ≡ bytes = subst (λ (o : Option (List ℕ)). IfSome o (λ whole. whole ≡ bytes)) known came.input in
    let size : length text ≡ length bytes = ap length same in
    (λ never. absurd never, λ over. absurd (omega (arith, size, came.few, over)))
too_long-exact old new limit text (Err fault) known came sound memory = go fault came memory
  where
    go : (fault : FileFault) → StopsReading old new limit fault → fault ≢ Memory → (fault ≡ TooLong) ↔ (limit < length text)
    go TooLong u memory =
        let few : length u.front ≤ length text = front-few old.remaining new.remaining u.front text known u.given in
        (λ _. omega (arith, u.cause.1, few), λ _. refl)
    go Input u memory = absurd (true≢false (sym u.cause.0 ∙ sound))
    go Memory u memory = absurd (memory refl)
