-- What is known of a FASTA file after each part of a line.
use Rattle.std.proofs.Common.{◌≡◌, ◌≢◌, ◌⊎◌, inl, inr, ℕ, zero, suc, ◌+◌, ◌<◌, ◌≤◌, ◌==◌, ◌&&◌, ◌||◌, ◌++◌, Bool, true, false, not, cond, List, [], ◌∷◌, Result, Ok, Err, length, take, drop, get_or, refl, sym, ◌∙◌, ap, arith, true≢false, subst, append_assoc, append-nil, length-append, take-append-drop}
use Rattle.std.proofs.lemmas.Bool.{cond-true, cond-false, ne_eqb, eq-eqb, or_parts, and_left}
use Rattle.std.proofs.lemmas.Bool.Decides.{nat_tests}
use Rattle.std.proofs.lemmas.List.{drop-drop, drop-append-le}
use Rattle.std.specs.List.{list_any, onto_first}
use Rattle.std.specs.Prelude.{IfOk, IfErr}
use Rattle.std.specs.Option.{is_some}
use Rattle.iv_lines.specs.Fault.{fault_at}
use Rattle.iv_lines.specs.GenomeFile.{bad_name}
use Rattle.iv_lines.specs.Named.{name_index}
use Rattle.iv_lines.specs.Genome.{Sequences}
use Rattle.iv_lines.specs.Lines.{lines, begins_with}
use Rattle.iv_lines.specs.Inside.Pieces.{EndsAtFeed}
use Rattle.iv_lines.proofs.PieceLemmas.{lines-fed, lines-ended, ended-rest}
use Rattle.iv_lines.specs.declared.fault.LoadCause.{LoadCause}
use Rattle.iv_lines.specs.declared.fault.LoadCause.TheVariants as cause
use Rattle.iv_lines.specs.declared.fault.LoadFault.{LoadFault}
use Rattle.iv_lines.proofs.ListLemmas.{some-cons}
use Rattle.iv_fasta.specs.Fasta.{header_name}
use Rattle.iv_fasta.specs.FastaReading.{Draft, Progress, Summaries, Wanted, is_held, with_part, with_rest, with_header, after_line, after_lines, after_rest, said}
use Rattle.iv_fasta.specs.Inside.Fasta.{is_no_base}
use Rattle.iv_fasta.specs.Inside.Drafts.{lacks_a_header, refusal_of, with_line_end, with_bases_read, Reads, Refuses}

-- ---- the first line of a text, by its first byte

-- a line feed ends an empty line
pub lines-feed : (text more : List ℕ) → 0 < length text → get_or text 0 0 ≡ 10 → lines (text ++ more) ≡ [] ∷ lines (drop 1 text ++ more)
lines-feed [] more some is = absurd (omega (arith, some))
lines-feed (b ∷ bs) more some is = cond-true _ _ _ (eq-eqb b 10 is)

-- and so does a carriage return before one
pub lines-return : (text more : List ℕ) → 1 < length text → get_or text 0 0 ≡ 13 → get_or text 1 0 ≡ 10 → lines (text ++ more) ≡ [] ∷ lines (drop 2 text ++ more)
lines-return [] more some is next = absurd (omega (arith, some))
lines-return (b ∷ []) more some is next = absurd (omega (arith, some))
lines-return (b ∷ c ∷ bs) more some is next =
    cond-false _ _ _ (ap (λ (x : ℕ). x == 10) is)
    ∙ cond-true _ _ _ (ap (λ (x : ℕ). (x == 13) && (c == 10)) is ∙ eq-eqb c 10 next)
    ∙ cond-true _ _ _ (eq-eqb c 10 next)

-- the first of these lines begins with this byte
abbrev pub HasFirst : ℕ → List (List ℕ) → Type 0
HasFirst b ls = (line : List ℕ) × (others : List (List ℕ)) × (ls ≡ (b ∷ line) ∷ others)

has-first : (b : ℕ) (ls : List (List ℕ)) → HasFirst b (onto_first b ls)
has-first b [] = ([], [], refl)
has-first b (line ∷ others) = (line, others, refl)

first-in : (b : ℕ) (bs : List ℕ) → (b == 10) ≡ false → ((b == 13) && begins_with 10 bs) ≡ false → HasFirst b (lines (b ∷ bs))
first-in b bs feed return =
    let first = has-first b (lines bs) in
    (first.0, first.1, cond-false _ _ _ feed ∙ cond-false _ _ _ return ∙ first.2)

-- another byte than both is the first of its line
pub lines-byte : (text more : List ℕ) → 0 < length text → get_or text 0 0 ≢ 10 → get_or text 0 0 ≢ 13 → HasFirst (get_or text 0 0) (lines (text ++ more))
lines-byte [] more some feed return = absurd (omega (arith, some))
lines-byte (b ∷ bs) more some feed return = first-in b (bs ++ more) (ne_eqb b 10 feed) (and_left (b == 13) (begins_with 10 (bs ++ more)) (ne_eqb b 13 return))

-- and so is a carriage return with no line feed after it
pub lines-alone : (text more : List ℕ) → 1 < length text → get_or text 0 0 ≡ 13 → get_or text 1 0 ≢ 10 → HasFirst 13 (lines (text ++ more))
lines-alone [] more some is next = absurd (omega (arith, some))
lines-alone (b ∷ []) more some is next = absurd (omega (arith, some))
lines-alone (b ∷ c ∷ bs) more some is next =
    let first = first-in b (c ∷ bs ++ more) (ap (λ (x : ℕ). x == 10) is) (ap (λ (x : ℕ). (x == 13) && (c == 10)) is ∙ ne_eqb c 10 next) in
    (first.0, first.1, first.2 ∙ ap {B = List (List ℕ)} (λ (x : ℕ). (x ∷ first.0) ∷ first.1) is)

pub lines-last : (text more : List ℕ) → length text ≡ 1 → get_or text 0 0 ≡ 13 → more ≡ [] → HasFirst 13 (lines (text ++ more))
lines-last [] more one is none = absurd (omega (arith, one))
lines-last (b ∷ []) more one is none = ([], [], ap (λ (l : List ℕ). lines (b ∷ l)) none ∙ ap (λ (x : ℕ). lines (x ∷ [])) is)
lines-last (b ∷ c ∷ bs) more one is none = absurd (omega (arith, one))

-- the first line of bytes that end at a line feed is the first line of a text that begins with them
pub line-in-front : (text more line : List ℕ) (n next : ℕ) → EndsAtFeed (take n text) → lines (take n text) ≡ line ∷ lines (drop next (take n text)) → next ≤ length (take n text)
    → lines (text ++ more) ≡ line ∷ lines (drop next text ++ more)
line-in-front text more line n next ends first within =
    let front : List ℕ = take n text in
    let back : List ℕ = drop n text ++ more in
    ap lines (ap (λ (l : List ℕ). l ++ more) (sym (take-append-drop n text)) ∙ append_assoc front (drop n text) more)
    ∙ lines-fed front back ends
    ∙ ap (λ (ls : List (List ℕ)). ls ++ lines back) first
    ∙ ap {B = List (List ℕ)} (λ (ls : List (List ℕ)). line ∷ ls) (sym (lines-ended (drop next front) back (ended-rest next front ends)))
    ∙ ap (λ (l : List ℕ). line ∷ lines l)
    (sym (append_assoc (drop next front) (drop n text) more)
    ∙ ap (λ (l : List ℕ). l ++ more) (sym (drop-append-le next front (drop n text) within) ∙ ap (drop next) (take-append-drop n text)))

-- bases before a text are in front of its first line
abbrev joined_to : List ℕ → List (List ℕ) → List (List ℕ)
joined_to [] ls = ls
joined_to (b ∷ bases) ls = onto_first b (joined_to bases ls)

base-apart : (b : ℕ) → is_no_base b ≡ false → ((b == 10) ≡ false) × ((b == 13) ≡ false)
base-apart b is = (grind (arith, nat_tests), grind (arith, nat_tests))

lines-joined : (bases rest : List ℕ) → list_any is_no_base bases ≡ false → lines (bases ++ rest) ≡ joined_to bases (lines rest)
lines-joined [] rest plain = refl
lines-joined (b ∷ bases) rest plain =
    let each = or_parts (is_no_base b) (list_any is_no_base bases) plain in
    let apart = base-apart b each.0 in
    cond-false _ _ _ apart.0
    ∙ cond-false _ _ _ (and_left (b == 13) (begins_with 10 (bases ++ rest)) apart.1)
    ∙ ap (onto_first b) (lines-joined bases rest each.1)

joined-none : (b : ℕ) (bases : List ℕ) → joined_to (b ∷ bases) [] ≡ (b ∷ bases) ∷ []
joined-none b [] = refl
joined-none b (c ∷ bases) = ap (onto_first b) (joined-none c bases)

joined-some : (bases line : List ℕ) (others : List (List ℕ)) → joined_to bases (line ∷ others) ≡ (bases ++ line) ∷ others
joined-some [] line others = refl
joined-some (b ∷ bases) line others = ap (onto_first b) (joined-some bases line others)

-- ---- a part of a line of bases, and then the rest

any-apart : (bases line : List ℕ) → list_any is_no_base bases ≡ false → list_any is_no_base (bases ++ line) ≡ list_any is_no_base line
any-apart [] line plain = refl
any-apart (b ∷ bases) line plain =
    let each = or_parts (is_no_base b) (list_any is_no_base bases) plain in
    ap (λ (t : Bool). t || list_any is_no_base (bases ++ line)) each.0 ∙ any-apart bases line each.1

held-apart : (holds : Bool) (old part line : List ℕ) → old ++ cond holds (part ++ line) [] ≡ (old ++ cond holds part []) ++ cond holds line []
held-apart true old part line = sym (append_assoc old part line)
held-apart false old part line = sym (append-nil (old ++ []))

part-apart : (holds : Bool) (found : Summaries) (part line : List ℕ) → with_part holds found (part ++ line) ≡ with_part holds (with_part holds found part) line
part-apart holds [] part line = refl
part-apart holds (s ∷ []) part line =
    let long : s.1.count + length (part ++ line) ≡ s.1.count + length part + length line = omega (arith, length-append part line) in
    ap {B = Summaries} (λ (n : ℕ). (s.0, record { line = s.1.line; count = n; bases = s.1.bases ++ cond holds (part ++ line) [] }) ∷ []) long
    ∙ ap {B = Summaries} (λ (l : List ℕ). (s.0, record { line = s.1.line; count = s.1.count + length part + length line; bases = l }) ∷ []) (held-apart holds s.1.bases part line)
part-apart holds (s ∷ t ∷ []) part line = ap {B = Summaries} (λ (l : Summaries). s ∷ l) (part-apart holds (t ∷ []) part line)
part-apart holds (s ∷ t ∷ u ∷ rest) part line = ap {B = Summaries} (λ (l : Summaries). s ∷ l) (part-apart holds (t ∷ u ∷ rest) part line)

held-none : (holds : Bool) (old : List ℕ) → old ++ cond holds [] [] ≡ old
held-none true old = append-nil old
held-none false old = append-nil old

part-none : (holds : Bool) (found : Summaries) → with_part holds found [] ≡ found
part-none holds [] = refl
part-none holds (s ∷ []) =
    let long : s.1.count + 0 ≡ s.1.count = omega arith in
    ap {B = Summaries} (λ (n : ℕ). (s.0, record { line = s.1.line; count = n; bases = s.1.bases ++ cond holds [] [] }) ∷ []) long
    ∙ ap {B = Summaries} (λ (l : List ℕ). (s.0, record { line = s.1.line; count = s.1.count; bases = l }) ∷ []) (held-none holds s.1.bases)
part-none holds (s ∷ t ∷ rest) = ap {B = Summaries} (λ (l : Summaries). s ∷ l) (part-none holds (t ∷ rest))

abbrev with_bases_held : Draft → List ℕ → Draft
with_bases_held d bases = record { sequences = with_part d.holds d.sequences bases; holds = d.holds }

rest-apart : (d : Draft) (bases line : List ℕ) → list_any is_no_base bases ≡ false → with_rest d (bases ++ line) ≡ with_rest (with_bases_held d bases) line
rest-apart d bases line plain =
    ap (λ (t : Bool). cond {A = Result Draft LoadCause} t (Err cause.Base) (Ok (with_bases_held d (bases ++ line)))) (any-apart bases line plain)
    ∙ ap (λ (f : Summaries). cond {A = Result Draft LoadCause} (list_any is_no_base line) (Err cause.Base) (Ok (record { sequences = f; holds = d.holds }))) (part-apart d.holds d.sequences bases line)

module _ (g : Sequences) (wanted : Wanted) where
  -- what is known after the lines after one of this number, or its fault
  abbrev later : ℕ → List (List ℕ) → Result Draft LoadCause → Result Draft LoadFault
  later n others (Ok more) = after_lines g wanted (n + 1) more others
  later n others (Err c) = Err (record { line = n; cause = c })

  next-later : (n : ℕ) (others : List (List ℕ)) (r : Result Draft LoadCause)
      → elim r as (λ _. Result Draft LoadFault) [ Ok more ↦ after_lines g wanted (n + 1) more others | Err c ↦ Err (record { line = n; cause = c }) ] ≡ later n others r
  next-later n others (Ok more) = refl
  next-later n others (Err c) = refl

  line-later : (n : ℕ) (d : Draft) (line : List ℕ) (others : List (List ℕ)) → after_lines g wanted n d (line ∷ others) ≡ later n others (after_line g wanted n d line)
  line-later n d line others = next-later n others (after_line g wanted n d line)

  rest-later : (n : ℕ) (d : Draft) (line : List ℕ) (others : List (List ℕ)) → after_rest g wanted n d (line ∷ others) ≡ later n others (with_rest d line)
  rest-later n d line others = next-later n others (with_rest d line)

  line-empty : (n : ℕ) (d : Draft) → after_line g wanted n d [] ≡ Ok d
  unfolding after_line
  line-empty n d = refl

  line-header : (n : ℕ) (d : Draft) (line : List ℕ) → after_line g wanted n d (62 ∷ line) ≡ with_header g wanted n d (header_name (62 ∷ line))
  unfolding after_line
  line-header n d line = cond-false _ _ _ (some-cons 62 line)

  line-first : (n : ℕ) (d : Draft) (b : ℕ) (line : List ℕ) → (b == 62) ≡ false → (length d.sequences == 0) ≡ true → after_line g wanted n d (b ∷ line) ≡ Err cause.BasesFirst
  unfolding after_line
  line-first n d b line is none = cond-false _ _ _ (some-cons b line) ∙ cond-false _ _ _ is ∙ cond-true _ _ _ none

  line-bases : (n : ℕ) (d : Draft) (b : ℕ) (line : List ℕ) → (b == 62) ≡ false → (length d.sequences == 0) ≡ false → after_line g wanted n d (b ∷ line) ≡ with_rest d (b ∷ line)
  unfolding after_line
  line-bases n d b line is some = cond-false _ _ _ (some-cons b line) ∙ cond-false _ _ _ is ∙ cond-false _ _ _ some

  -- a line of bases is the rest of one
  closed-rest : (n : ℕ) (d : Draft) (b : ℕ) (line : List ℕ) (others : List (List ℕ)) → (b == 62) ≡ false → (length d.sequences == 0) ≡ false
      → after_lines g wanted n d ((b ∷ line) ∷ others) ≡ after_rest g wanted n d ((b ∷ line) ∷ others)
  closed-rest n d b line others is some = line-later n d (b ∷ line) others ∙ ap (later n others) (line-bases n d b line is some) ∙ sym (rest-later n d (b ∷ line) others)

  -- bases that are read of a line
  rest-bases : (n : ℕ) (d : Draft) (b : ℕ) (bases : List ℕ) (ls : List (List ℕ)) → list_any is_no_base (b ∷ bases) ≡ false
      → after_rest g wanted n d (joined_to (b ∷ bases) ls) ≡ after_rest g wanted n (with_bases_held d (b ∷ bases)) ls
  rest-bases n d b bases [] plain =
      ap (after_rest g wanted n d) (joined-none b bases)
      ∙ rest-later n d (b ∷ bases) []
      ∙ ap (later n []) (cond-false _ _ _ plain)
  rest-bases n d b bases (line ∷ others) plain =
      ap (after_rest g wanted n d) (joined-some (b ∷ bases) line others)
      ∙ rest-later n d ((b ∷ bases) ++ line) others
      ∙ ap (later n others) (rest-apart d (b ∷ bases) line plain)
      ∙ sym (rest-later n (with_bases_held d (b ∷ bases)) line others)

  joined-closed : (n : ℕ) (d : Draft) (b : ℕ) (bases : List ℕ) (ls : List (List ℕ)) → (b == 62) ≡ false → (length d.sequences == 0) ≡ false
      → after_lines g wanted n d (joined_to (b ∷ bases) ls) ≡ after_rest g wanted n d (joined_to (b ∷ bases) ls)
  joined-closed n d b bases ls is some =
      let first = has-first b (joined_to bases ls) in
      ap (after_lines g wanted n d) first.2 ∙ closed-rest n d b first.0 first.1 is some ∙ sym (ap (after_rest g wanted n d) first.2)

  -- what is known of these lines, of which the first may be the rest of a line of bases
  abbrev known : Bool → ℕ → Draft → List (List ℕ) → Result Draft LoadFault
  known is_open n d ls = cond is_open (after_rest g wanted n d ls) (after_lines g wanted n d ls)

  known-bases : (is_open : Bool) (n : ℕ) (d : Draft) (b : ℕ) (bases : List ℕ) (ls : List (List ℕ)) → list_any is_no_base (b ∷ bases) ≡ false
      → (is_open ≡ false → ((b == 62) ≡ false) × ((length d.sequences == 0) ≡ false))
      → known is_open n d (joined_to (b ∷ bases) ls) ≡ after_rest g wanted n (with_bases_held d (b ∷ bases)) ls
  known-bases true n d b bases ls plain closed = rest-bases n d b bases ls plain
  known-bases false n d b bases ls plain closed =
      joined-closed n d b bases ls (closed refl).0 (closed refl).1 ∙ rest-bases n d b bases ls plain

  known-end : (is_open : Bool) (n : ℕ) (d : Draft) (ls : List (List ℕ)) → known is_open n d ([] ∷ ls) ≡ after_lines g wanted (n + 1) d ls
  known-end true n d ls = rest-later n d [] ls ∙ ap (λ (f : Summaries). after_lines g wanted (n + 1) (record { sequences = f; holds = d.holds }) ls) (part-none d.holds d.sequences)
  known-end false n d ls = line-later n d [] ls ∙ ap (later n ls) (line-empty n d)

  abbrev why_refused : Bool → Draft → LoadCause
  why_refused is_open d = cond (not is_open && (length d.sequences == 0)) cause.BasesFirst cause.Base

  rest-refused : (n : ℕ) (d : Draft) (b : ℕ) (line : List ℕ) (others : List (List ℕ)) → is_no_base b ≡ true → after_rest g wanted n d ((b ∷ line) ∷ others) ≡ Err (record { line = n; cause = cause.Base })
  rest-refused n d b line others bad =
      rest-later n d (b ∷ line) others ∙ ap (later n others) (cond-true _ _ _ (ap (λ (t : Bool). t || list_any is_no_base line) bad))

  known-refused : (is_open : Bool) (n : ℕ) (d : Draft) (b : ℕ) (ls : List (List ℕ)) → HasFirst b ls → (is_open ≡ false → (b == 62) ≡ false)
      → (is_no_base b ≡ true) ⊎ ((is_open ≡ false) × ((length d.sequences == 0) ≡ true)) → known is_open n d ls ≡ Err (record { line = n; cause = why_refused is_open d })
  known-refused true n d b ls first plain (inl bad) = ap (after_rest g wanted n d) first.2 ∙ rest-refused n d b first.0 first.1 bad
  known-refused true n d b ls first plain (inr closed) = absurd (true≢false closed.0)
  known-refused false n d b ls first plain why = by (length d.sequences == 0) refl why
    where
      fault : LoadCause → Result Draft LoadFault
      fault c = Err (record { line = n; cause = c })

      by : (none : Bool) → (length d.sequences == 0) ≡ none → (is_no_base b ≡ true) ⊎ ((false ≡ false) × ((length d.sequences == 0) ≡ true)) → after_lines g wanted n d ls ≡ fault (why_refused false d)
      by true none why =
          ap (after_lines g wanted n d) first.2 ∙ line-later n d (b ∷ first.0) first.1 ∙ ap (later n first.1) (line-first n d b first.0 (plain refl) none)
          ∙ sym (ap (λ (t : Bool). fault (cond t cause.BasesFirst cause.Base)) none)
      by false some (inl bad) =
          ap (after_lines g wanted n d) first.2 ∙ closed-rest n d b first.0 first.1 (plain refl) some ∙ rest-refused n d b first.0 first.1 bad
          ∙ sym (ap (λ (t : Bool). fault (cond t cause.BasesFirst cause.Base)) some)
      by false some (inr closed) = absurd (true≢false (sym closed.1 ∙ some))

-- ---- what is read of a text

module _ (g : Sequences) where
  front-more : (n : ℕ) (text more : List ℕ) → text ++ more ≡ take n text ++ (drop n text ++ more)
  front-more n text more = ap (λ (l : List ℕ). l ++ more) (sym (take-append-drop n text)) ∙ append_assoc (take n text) (drop n text) more

  -- the end of a line, which the text begins with
  pub feed-reads : (p : Progress) (text : List ℕ) (is_last : Bool) → 0 < length text → get_or text 0 0 ≡ 10 → Reads g p (with_line_end p) text 1 is_last
  feed-reads p text is_last some is more last =
      ap (λ (ls : List (List ℕ)). known g p.wanted p.is_open p.number p.draft ls) (lines-feed text more some is)
      ∙ known-end g p.wanted p.is_open p.number p.draft (lines (drop 1 text ++ more))

  pub return-reads : (p : Progress) (text : List ℕ) (is_last : Bool) → 1 < length text → get_or text 0 0 ≡ 13 → get_or text 1 0 ≡ 10 → Reads g p (with_line_end p) text 2 is_last
  return-reads p text is_last some is next more last =
      ap (λ (ls : List (List ℕ)). known g p.wanted p.is_open p.number p.draft ls) (lines-return text more some is next)
      ∙ known-end g p.wanted p.is_open p.number p.draft (lines (drop 2 text ++ more))

  -- bases of a line, with which the text begins
  pub bases-read : (p : Progress) (text : List ℕ) (n : ℕ) (is_last : Bool) → 0 < n → n ≤ length text → list_any is_no_base (take n text) ≡ false
      → (p.is_open ≡ false → (get_or text 0 0 ≢ 62) × ((length p.draft.sequences == 0) ≡ false)) → Reads g p (with_bases_read p (take n text)) text n is_last
  bases-read p [] n is_last some within plain closed more last = absurd (omega (arith, some, within))
  bases-read p (b ∷ bs) zero is_last some within plain closed more last = absurd (omega (arith, some))
  bases-read p (b ∷ bs) (suc n) is_last some within plain closed more last =
      ap (λ (l : List ℕ). said g p l) (front-more (suc n) (b ∷ bs) more)
      ∙ ap (λ (ls : List (List ℕ)). known g p.wanted p.is_open p.number p.draft ls) (lines-joined (b ∷ take n bs) (drop n bs ++ more) plain)
      ∙ known-bases g p.wanted p.is_open p.number p.draft b (take n bs) (lines (drop n bs ++ more)) plain (λ is. (ne_eqb b 62 (closed is).0, (closed is).1))

  -- a line that is refused
  pub line-refused : (p : Progress) (text : List ℕ) (b : ℕ) (is_last : Bool) (c : LoadCause) → c ≡ refusal_of p → ((more : List ℕ) → (is_last ≡ true → more ≡ []) → HasFirst b (lines (text ++ more)))
      → (p.is_open ≡ false → b ≢ 62) → (is_no_base b ≡ true) ⊎ ((p.is_open ≡ false) × ((length p.draft.sequences == 0) ≡ true))
      → Refuses g p text c is_last
  line-refused p text b is_last c cause_is first plain why more last =
      known-refused g p.wanted p.is_open p.number p.draft b (lines (text ++ more)) (first more last) (λ is. ne_eqb b 62 (plain is)) why
      ∙ ap {B = Result Draft LoadFault} (λ (w : LoadCause). Err (record { line = p.number; cause = w })) (sym cause_is)

  -- a header's line
  header-line : (text more line : List ℕ) (next : ℕ) → 0 < length text → get_or text 0 0 ≡ 62 → lines (text ++ more) ≡ line ∷ lines (drop next text ++ more) → (rest : List ℕ) × (line ≡ 62 ∷ rest)
  header-line text more line next some is first =
      let begins = lines-byte text more some (λ e. absurd (omega (arith, is, e))) (λ e. absurd (omega (arith, is, e))) in
      (begins.0, first-same line (get_or text 0 0 ∷ begins.0) (lines (drop next text ++ more)) begins.1 (sym first ∙ begins.2) ∙ ap (λ (x : ℕ). x ∷ begins.0) is)
    where
      first-same : (a b : List ℕ) (more rest : List (List ℕ)) → a ∷ more ≡ b ∷ rest → a ≡ b
      first-same a b more rest e = cc

  pub header-said : (p : Progress) (r : Result Draft LoadCause) (text line more : List ℕ) (next : ℕ) → p.is_open ≡ false → 0 < length text → get_or text 0 0 ≡ 62 → lines (text ++ more) ≡ line ∷ lines (drop next text ++ more)
      → with_header g p.wanted p.number p.draft (header_name line) ≡ r → said g p (text ++ more) ≡ later g p.wanted p.number (lines (drop next text ++ more)) r
  header-said p r text line more next closed some is first gives =
      let begins = header-line text more line next some is first in
      ap (λ (is_open : Bool). known g p.wanted is_open p.number p.draft (lines (text ++ more))) closed
      ∙ ap (after_lines g p.wanted p.number p.draft) first
      ∙ line-later g p.wanted p.number p.draft line (lines (drop next text ++ more))
      ∙ ap (later g p.wanted p.number (lines (drop next text ++ more)))
      (ap (after_line g p.wanted p.number p.draft) begins.1 ∙ line-header g p.wanted p.number p.draft begins.0 ∙ sym (ap (λ (l : List ℕ). with_header g p.wanted p.number p.draft (header_name l)) begins.1) ∙ gives)

  -- nothing is read
  pub none-read : (p : Progress) (text : List ℕ) (is_last : Bool) → Reads g p p text 0 is_last
  none-read p text is_last more last = refl

  -- one part after another
  pub reads-on : (p q r : Progress) (text rest : List ℕ) (taken size : ℕ) (is_last : Bool) → Reads g p q text taken is_last → rest ≡ drop taken text → Reads g q r rest size is_last → Reads g p r text (taken + size) is_last
  reads-on p q r text rest taken size is_last front is back more last =
      front more last
      ∙ ap (λ (l : List ℕ). said g q (l ++ more)) (sym is)
      ∙ back more last
      ∙ ap (λ (l : List ℕ). said g r (l ++ more)) (ap (drop size) is ∙ drop-drop size taken text)

  -- a header is lacking
  parts-lacking : (is_open none : Bool) → (not is_open && none) ≡ true → (is_open ≡ false) × (none ≡ true)
  parts-lacking true none is = absurd (true≢false (sym is))
  parts-lacking false none is = (refl, is)

  pub lacking : (p : Progress) → lacks_a_header p ≡ true → (p.is_open ≡ false) × ((length p.draft.sequences == 0) ≡ true)
  lacking p is = parts-lacking p.is_open (length p.draft.sequences == 0) is

  pub not-lacking : (p : Progress) → lacks_a_header p ≡ false → p.is_open ≡ false → (length p.draft.sequences == 0) ≡ false
  not-lacking p is closed = sym (ap (λ (is_open : Bool). not is_open && (length p.draft.sequences == 0)) closed) ∙ is

-- a carriage return is no `>`
pub return-plain : ◌≢◌ {A = ℕ} 13 62
return-plain e = omega (arith, e)

-- a base and those after it
pub more-bases : (text : List ℕ) (n : ℕ) → 0 < length text → is_no_base (get_or text 0 0) ≡ false → list_any is_no_base (take n (drop 1 text)) ≡ false → list_any is_no_base (take (1 + n) text) ≡ false
more-bases [] n some first rest = absurd (omega (arith, some))
more-bases (b ∷ bs) n some first rest =
    ap (λ (k : ℕ). list_any is_no_base (take k (b ∷ bs))) (one-more n) ∙ ap (λ (t : Bool). t || list_any is_no_base (take n bs)) first ∙ rest
  where
    one-more : (n : ℕ) → 1 + n ≡ suc n
    one-more n = omega arith

-- the fault of a line is that of its number and cause, unless memory ran out
pub fault-is : (n : ℕ) (c : LoadCause) → (fault_at n c ≡ record { line = 0; cause = cause.Memory }) ⊎ (fault_at n c ≡ record { line = n; cause = c })
fault-is n cause.Memory = inl refl
fault-is n c = inr refl

pub line-fault : (n : ℕ) (c : LoadCause) (f : LoadFault) (P : LoadFault → Type 0) → f ≡ fault_at n c → (c ≡ cause.Memory) ⊎ P (record { line = n; cause = c }) → (f ≡ record { line = 0; cause = cause.Memory }) ⊎ P f
line-fault n c f P is (inl memory) = inl (is ∙ ap (fault_at n) memory)
line-fault n c f P is (inr refused) = by (fault-is n c)
  where
    by : (fault_at n c ≡ record { line = 0; cause = cause.Memory }) ⊎ (fault_at n c ≡ record { line = n; cause = c }) → (f ≡ record { line = 0; cause = cause.Memory }) ⊎ P f
    by (inl memory) = inl (is ∙ memory)
    by (inr other) = inr (subst P (sym (is ∙ other)) refused)

-- what is so of each genome is so of one
pub ok-at : {X : Type 0} (r : Result ℕ LoadCause) (P : X → ℕ → Type 0) (x : X) → IfOk r (λ size. (y : X) → P y size) → IfOk r (P x)
ok-at (Ok size) P x all = all x
ok-at (Err c) P x all = tt

pub err-at : {X : Type 0} (r : Result ℕ LoadCause) (P : X → LoadCause → Type 0) (x : X) → IfErr r (λ c. (y : X) → P y c) → IfErr r (λ c. (c ≡ cause.Memory) ⊎ P x c)
err-at (Ok size) P x all = tt
err-at (Err c) P x all = inr (all x)

pub err-or-at : {X : Type 0} (r : Result ℕ LoadCause) (P : X → LoadCause → Type 0) (x : X) → IfErr r (λ c. (c ≡ cause.Memory) ⊎ ((y : X) → P y c)) → IfErr r (λ c. (c ≡ cause.Memory) ⊎ P x c)
err-or-at (Ok size) P x all = tt
err-or-at (Err c) P x (inl memory) = inl memory
err-or-at (Err c) P x (inr all) = inr (all x)

-- what is held after bases or a header
pub held-after : (n count more : ℕ) (is_open holds : Bool) (wanted : Wanted) (old new : Summaries) (bases : List ℕ) → new ≡ with_part holds old bases → more ≡ count + length bases
    → with_bases_read (record { number = n; is_open = is_open; wanted = wanted; draft = record { sequences = old; holds = holds }; count = count }) bases
    ≡ record { number = n; is_open = true; wanted = wanted; draft = record { sequences = new; holds = holds }; count = more }
held-after n count more is_open holds wanted old new bases is long =
    ap {B = Progress} (λ (f : Summaries). record { number = n; is_open = true; wanted = wanted; draft = record { sequences = f; holds = holds }; count = count + length bases }) (sym is)
    ∙ ap {B = Progress} (λ (k : ℕ). record { number = n; is_open = true; wanted = wanted; draft = record { sequences = new; holds = holds }; count = k }) (sym long)

module _ (g : Sequences) (wanted : Wanted) (n : ℕ) (d : Draft) (name : List ℕ) where
  pub header-repeated : bad_name name ≡ false → is_some (name_index d.sequences name) ≡ true → with_header g wanted n d name ≡ Err cause.Repeated
  header-repeated good there = cond-false _ _ _ good ∙ cond-true _ _ _ there

  pub header-taken : (new : Summaries) (holds : Bool) → bad_name name ≡ false → is_some (name_index d.sequences name) ≡ false
      → new ≡ d.sequences ++ (name, record { line = n; count = 0; bases = [] }) ∷ [] → holds ≡ is_held g wanted name → with_header g wanted n d name ≡ Ok (record { sequences = new; holds = holds })
  header-taken new holds good fresh is held =
      cond-false _ _ _ good ∙ cond-false _ _ _ fresh
      ∙ ap {B = Result Draft LoadCause} (λ (f : Summaries). Ok (record { sequences = f; holds = is_held g wanted name })) (sym is)
      ∙ ap {B = Result Draft LoadCause} (λ (b : Bool). Ok (record { sequences = new; holds = b })) (sym held)

-- what is held after the line of a header
pub headed-is : (p q r : Progress) → q.number ≡ p.number → q.wanted ≡ p.wanted → q.count ≡ p.count → r ≡ with_line_end q → record { number = p.number + 1; is_open = false; wanted = p.wanted; draft = q.draft; count = p.count } ≡ r
headed-is p q r number wanted count is =
    ap {B = Progress} (λ (k : ℕ). record { number = k + 1; is_open = false; wanted = p.wanted; draft = q.draft; count = p.count }) (sym number)
    ∙ ap {B = Progress} (λ (w : Wanted). record { number = q.number + 1; is_open = false; wanted = w; draft = q.draft; count = p.count }) (sym wanted)
    ∙ ap {B = Progress} (λ (k : ℕ). record { number = q.number + 1; is_open = false; wanted = q.wanted; draft = q.draft; count = k }) (sym count)
    ∙ sym is

-- a fault after what was read of a text
pub refused-on : (g : Sequences) (p q : Progress) (text rest : List ℕ) (taken : ℕ) (is_last : Bool) (c : LoadCause) → Reads g p q text taken is_last → rest ≡ drop taken text
    → (c ≡ cause.Memory) ⊎ Refuses g q rest c is_last → (c ≡ cause.Memory) ⊎ ((more : List ℕ) → (is_last ≡ true → more ≡ []) → said g p (text ++ more) ≡ Err (record { line = q.number; cause = c }))
refused-on g p q text rest taken is_last c front is (inl memory) = inl memory
refused-on g p q text rest taken is_last c front is (inr refused) = inr (λ more last. front more last ∙ ap (λ (l : List ℕ). said g q (l ++ more)) (sym is) ∙ refused more last)
