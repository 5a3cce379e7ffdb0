-- Lemmas on the order of a track.
use Rattle.std.proofs.Common.{ℕ, List, Option, Some, None, refl, ap}
use Rattle.std.specs.Option.{option_cmp}
use Rattle.std.specs.Ordering.{nat_cmp}
use Rattle.std.specs.Cmp.Lexicographic.{slice_cmp}
use Rattle.std.proofs.lemmas.Map.Lookups.{CmpEqualImpliesEq, exact_pairs, exact_unsigned, exact_bytes}
use Rattle.iv_lines.specs.declared.record_ref.Strand.{Strand}
use Rattle.iv_lines.specs.declared.record_ref.Strand.TheVariants.{Plus, Minus, Dot}
use Rattle.iv_lines.specs.RecordValue.{RecordValue, record_cmp}
use Rattle.iv_lines.specs.Inside.RecordValue.{strand_cmp}

exact_strands : CmpEqualImpliesEq strand_cmp
exact_strands Plus Plus h = refl
exact_strands Minus Minus h = refl
exact_strands Dot Dot h = refl
exact_strands a b h = cc

exact_options : CmpEqualImpliesEq (option_cmp strand_cmp)
exact_options None None h = refl
exact_options None (Some b) h = cc
exact_options (Some a) None h = cc
exact_options (Some a) (Some b) h = ap Some (exact_strands a b h)

abbrev Fields : Type 0
Fields = ℕ × (ℕ × (ℕ × (List ℕ × (List ℕ × (Option Strand × ℕ)))))

fields : RecordValue → Fields
fields r = (r.seq, (r.start, (r.stop, (r.name, (r.score, (r.strand, r.width))))))

-- records that compare alike are one
pub rows_exact : CmpEqualImpliesEq record_cmp
unfolding fields
rows_exact a b h =
    ap (λ (p : Fields). record { seq = p.0; start = p.1.0; stop = p.1.1.0; name = p.1.1.1.0; score = p.1.1.1.1.0; strand = p.1.1.1.1.1.0; width = p.1.1.1.1.1.1 })
    (exact_pairs nat_cmp _ exact_unsigned
    (exact_pairs nat_cmp _ exact_unsigned
    (exact_pairs nat_cmp _ exact_unsigned
    (exact_pairs (slice_cmp nat_cmp) _ exact_bytes
    (exact_pairs (slice_cmp nat_cmp) _ exact_bytes
    (exact_pairs (option_cmp strand_cmp) nat_cmp exact_options exact_unsigned))))) (fields a) (fields b) h)
