-- Where a search from a position begins.
use Rattle.std.proofs.Common.{◌≡◌, ℕ, ◌+◌, ◌<◌, Bool, true, false, cond, nat_eq, List, [], ◌∷◌, Option, Some, None, refl, ap, ◌∙◌, arith, zero, suc}
use borrow.Author.Tests.{lt-ltb}
use Rattle.std.proofs.lemmas.List.Elements.{All-nil, All-cons, All-head, All-tail}
use Rattle.std.proofs.lemmas.Map.Lookups.{exact_unsigned}
use Rattle.std.specs.Prelude.{filter, find, All, ◌≤◌}
use Rattle.std.specs.Map.{keys_of}
use Rattle.std.specs.declared.cmp.Ordering.{Ordering}
use Rattle.std.specs.declared.cmp.Ordering.TheVariants.{Less, Equal, Greater}
use Rattle.std.specs.Ordering.{is_le, ordering_then, nat_cmp}
use Rattle.std.specs.Option.{option_cmp}
use Rattle.std.specs.Cmp.Lexicographic.{slice_cmp}
use Rattle.iv_lines.specs.declared.record_ref.Strand.{Strand}
use Rattle.iv_lines.specs.RecordValue.{RecordValue, IsPlaced, record_cmp}
use Rattle.iv_lines.specs.Inside.RecordValue.{strand_cmp}
use Rattle.iv_track.specs.Tracked.{is_from}
use Rattle.iv_track.specs.Inside.Tracked.{BeginsFrom, HasColumns}
use Rattle.iv_track.proofs.NumberOrder.{le-cmp}

from_least : (a b r : Ordering) → (b ≡ Equal → is_le r ≡ true) → is_le (ordering_then a (ordering_then b r)) ≡ is_le (ordering_then a b)
from_least Equal Equal r h = h refl
from_least a b r h = refl

pub le_then : (a b : Ordering) → is_le a ≡ true → is_le b ≡ true → is_le (ordering_then a b) ≡ true
le_then Less b g h = refl
le_then Equal b g h = h
le_then Greater b g h = g

pub zero_le : (n : ℕ) → is_le (nat_cmp 0 n) ≡ true
zero_le zero = refl
zero_le (suc n) = ap (λ b. is_le (cond b Less (cond (nat_eq 0 (suc n)) Equal Greater))) (lt-ltb 0 (suc n) (omega arith))

empty_le : (bs : List ℕ) → is_le (slice_cmp nat_cmp [] bs) ≡ true
empty_le [] = refl
empty_le (b ∷ bs) = refl

none_le : (s : Option Strand) → is_le (option_cmp strand_cmp None s) ≡ true
none_le None = refl
none_le (Some s) = refl

-- columns that are empty come before others, if their width isn't greater
pub empty-before : (w : ℕ) (q : RecordValue) → w ≤ q.width → is_le (ordering_then (slice_cmp nat_cmp [] q.name) (ordering_then (slice_cmp nat_cmp [] q.score) (ordering_then (option_cmp strand_cmp None q.strand) (nat_cmp w q.width)))) ≡ true
empty-before w q narrow =
    le_then (slice_cmp nat_cmp [] q.name) _ (empty_le q.name)
    (le_then (slice_cmp nat_cmp [] q.score) _ (empty_le q.score)
    (le_then (option_cmp strand_cmp None q.strand) _ (none_le q.strand) (le-cmp w q.width narrow)))

-- the least record of a width at a position is before exactly the records from there on that have a base, if none is narrower
pub least-is_from : (w seq start : ℕ) (q : RecordValue) → q.start < q.stop → w ≤ q.width → is_le (record_cmp (record { seq = seq; start = start; stop = start + 1; name = []; score = []; strand = None; width = w }) q) ≡ is_from seq start q
least-is_from w seq start q some narrow =
    from_least (nat_cmp seq q.seq) (nat_cmp start q.start) _ (λ tied.
    (le_then (nat_cmp (start + 1) q.stop) _ (le-cmp (start + 1) q.stop (omega (arith, some, exact_unsigned start q.start tied))) (empty-before w q narrow)))

-- what is known of both
both : (es : List (RecordValue × ℕ)) → All IsPlaced (keys_of es) → All HasColumns (keys_of es) → All (λ (q : RecordValue). IsPlaced q × HasColumns q) (keys_of es)
both [] placed wide = All-nil _
both (e ∷ es) placed wide =
    All-cons (λ (q : RecordValue). IsPlaced q × HasColumns q) e.0 (keys_of es)
    (All-head IsPlaced e.0 (keys_of es) placed, All-head HasColumns e.0 (keys_of es) wide)
    (both es (All-tail IsPlaced e.0 (keys_of es) placed) (All-tail HasColumns e.0 (keys_of es) wide))

-- the least record at a position
abbrev pub least : ℕ → ℕ → RecordValue
least seq start = record { seq = seq; start = start; stop = start + 1; name = []; score = []; strand = None; width = 3 }

-- it is where a search from there begins
begins-least : (seq start : ℕ) (q : RecordValue) → IsPlaced q × HasColumns q → is_le (record_cmp (least seq start) q) ≡ is_from seq start q
begins-least seq start q h = least-is_from 3 seq start q h.0.some h.1

-- tests that agree on some records find the same among them
pub find-alike : (P : RecordValue → Type 0) (p r : RecordValue → Bool) → ((q : RecordValue) → P q → p q ≡ r q) → (es : List (RecordValue × ℕ)) → All P (keys_of es) → find (λ e. p e.0) es ≡ find (λ e. r e.0) es
find-alike P p r same [] h = refl
find-alike P p r same (e ∷ es) h =
    (λ i. cond (same e.0 (All-head P e.0 (keys_of es) h) i) (Some e) (find-alike P p r same es (All-tail P e.0 (keys_of es) h) i))

-- a search from where it begins finds the first record from the position on
pub find-begun : (seq start : ℕ) (p : ℕ × ℕ) (es : List (RecordValue × ℕ)) → BeginsFrom seq start (Some p) → All IsPlaced (keys_of es) → find (λ e. is_from p.0 p.1 e.0) es ≡ find (λ e. is_from seq start e.0) es
find-begun seq start p es begins = find-alike IsPlaced (is_from p.0 p.1) (is_from seq start) begins.1 es

-- the first entry from the least record at a position on is that of the first record from there on
pub find-least : (seq start : ℕ) (es : List (RecordValue × ℕ)) → All IsPlaced (keys_of es) → All HasColumns (keys_of es)
    → find (λ e. is_le (record_cmp (least seq start) e.0)) es ≡ find (λ e. is_from seq start e.0) es
find-least seq start es placed wide =
    find-alike (λ (q : RecordValue). IsPlaced q × HasColumns q) (λ q. is_le (record_cmp (least seq start) q)) (is_from seq start) (begins-least seq start) es (both es placed wide)

find-nothing : (es : List (RecordValue × ℕ)) → find (λ (e : RecordValue × ℕ). false) es ≡ None
find-nothing [] = refl
find-nothing (e ∷ es) = find-nothing es

-- if it begins nowhere there is none
pub find-nowhere : (seq start : ℕ) (es : List (RecordValue × ℕ)) → BeginsFrom seq start None → All IsPlaced (keys_of es) → find (λ e. is_from seq start e.0) es ≡ None
find-nowhere seq start es begins h = find-alike IsPlaced (is_from seq start) (λ q. false) begins es h ∙ find-nothing es

-- tests that agree on some records keep the same of them
pub filter-alike : (P : RecordValue → Type 0) (p r : RecordValue → Bool) → ((q : RecordValue) → P q → p q ≡ r q) → (es : List (RecordValue × ℕ)) → All P (keys_of es) → filter (λ e. p e.0) es ≡ filter (λ e. r e.0) es
filter-alike P p r same [] h = refl
filter-alike P p r same (e ∷ es) h =
    let rest = filter-alike P p r same es (All-tail P e.0 (keys_of es) h) in
    (λ i. cond (same e.0 (All-head P e.0 (keys_of es) h) i) (e ∷ rest i) (rest i))

-- the entries from where a search begins on are those of the records from the position on
pub filter-begun : (seq start : ℕ) (p : ℕ × ℕ) (es : List (RecordValue × ℕ)) → BeginsFrom seq start (Some p) → All IsPlaced (keys_of es) → filter (λ e. is_from p.0 p.1 e.0) es ≡ filter (λ e. is_from seq start e.0) es
filter-begun seq start p es begins = filter-alike IsPlaced (is_from p.0 p.1) (is_from seq start) begins.1 es

-- if it begins nowhere there are none
pub filter-nowhere : (seq start : ℕ) (es : List (RecordValue × ℕ)) → BeginsFrom seq start None → All IsPlaced (keys_of es) → filter (λ e. is_from seq start e.0) es ≡ []
filter-nowhere seq start es begins h = filter-alike IsPlaced (is_from seq start) (λ q. false) begins es h ∙ filter-all_false es
  where
    filter-all_false : (es : List (RecordValue × ℕ)) → filter (λ (e : RecordValue × ℕ). false) es ≡ []
    filter-all_false [] = refl
    filter-all_false (e ∷ es) = filter-all_false es

-- the entries from the least record at a position on are those of the records from there on
pub filter-least : (seq start : ℕ) (es : List (RecordValue × ℕ)) → All IsPlaced (keys_of es) → All HasColumns (keys_of es)
    → filter (λ e. is_le (record_cmp (least seq start) e.0)) es ≡ filter (λ e. is_from seq start e.0) es
filter-least seq start es placed wide =
    filter-alike (λ (q : RecordValue). IsPlaced q × HasColumns q) (λ q. is_le (record_cmp (least seq start) q)) (is_from seq start) (begins-least seq start) es (both es placed wide)
