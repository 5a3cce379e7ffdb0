-- The rows of the members of numbered blocks are those of the cluster.
use Rattle.std.proofs.Common.{◌≡◌, ℕ, zero, suc, ◌+◌, ◌≤◌, ◌++◌, inl, inr, List, [], ◌∷◌, map, length, Option, Some, None, refl, sym, ◌∙◌, ap, ap₂, subst, arith, All, append_assoc, length-append}
use Rattle.std.specs.Option.{option_map}
use Rattle.std.specs.Prelude.{sum}
use Rattle.std.specs.List.{flat_map, range_with_len, sum_by}
use Rattle.std.proofs.lemmas.Bool.{cases_Bool, cond-true, cond-false}
use Rattle.std.proofs.lemmas.List.{map-append, length-map}
use Rattle.std.proofs.lemmas.List.Concat.{flat_map-append, length-flat_map}
use Rattle.std.proofs.lemmas.List.Sums.{sum-map}
use Rattle.iv_lines.specs.Genome.{Sequences, sequence_length, seq_count}
use Rattle.iv_lines.specs.Ordered.{AreInOrder}
use Rattle.iv_lines.specs.Read.{IsOnGenome}
use Rattle.iv_lines.specs.RecordValue.{RecordValue}
use Rattle.iv_cover.specs.Blocks.{blocks_below, is_block_start, block_stop, members, start_of, stop_of}
use Rattle.iv_cover.specs.Inside.RemainingBlocks.{is_joined, block_of, block_with, still_open, remaining_blocks}
use Rattle.iv_cover.specs.Inside.TrackBlocks.{BlockWithMembers, block_on, blocks_on, blocks_of}
use Rattle.iv_lines.specs.CoveredPositions.{on}
use Rattle.iv_cover.proofs.RemainingLemmas.{members_of, remaining-joined, remaining-members, remaining-split_up}
use Rattle.iv_cover.proofs.Cover.{home}
use Rattle.iv_cover.proofs.WalkLemmas.{gathered, gathered-more, merge-all, on-in}
use Rattle.iv_cover.proofs.Positions.{values, values-none, values-some}
use Rattle.iv_lines.proofs.ListLemmas.{Mem, mem-filter, mem-contains}
use Rattle.iv_blocks.specs.ClusterRows.{blocks_before, cluster_row, cluster_text}
use Rattle.iv_blocks.specs.Inside.Texts.{block_number}
use Rattle.iv_blocks.proofs.KeptLemmas.{flat_map-flat_map}
use Rattle.iv_blocks.proofs.NumberLemmas.{at, own, own-number, same-home}
use Rattle.iv_blocks.specs.Inside.BlockSweeps.{numbered_row, numbered_rows}

-- ---- the blocks that remain

-- there are no more blocks than records, beside one that is open
remaining-count : (d : ℕ) (records : List RecordValue) (current : Option BlockWithMembers) → length (remaining_blocks d current records) ≤ length records + length (still_open current)
remaining-count d [] None = omega arith
remaining-count d [] (Some b) = omega arith
remaining-count d (r ∷ records) None = omega (arith, remaining-count d records (Some (block_of r)))
remaining-count d (r ∷ records) (Some b) = elim (cases_Bool (is_joined d b r)) [
  | inl e ↦ omega (arith, ap (λ (l : List BlockWithMembers). length l) (remaining-joined d b r records e), remaining-count d records (Some (block_with b r)))
  | inr e ↦ omega (arith, ap (λ (l : List BlockWithMembers). length l) (remaining-split_up d b r records e), remaining-count d records (Some (block_of r)))
]

pub remaining-few : (d : ℕ) (records : List RecordValue) → length (remaining_blocks d None records) ≤ length records
remaining-few d records = omega (arith, remaining-count d records None)

-- ---- numbers

pub numbered-append : (g : Sequences) (n : ℕ) (xs ys : List BlockWithMembers) → numbered_rows g n (xs ++ ys) ≡ numbered_rows g n xs ++ numbered_rows g (n + length xs) ys
numbered-append g n [] ys = let same : n + 0 ≡ n = omega arith in ap (λ k. numbered_rows g k ys) (sym same)
numbered-append g n (x ∷ xs) ys =
    let same : (n + 1) + length xs ≡ n + length (x ∷ xs) = omega arith in
    ap (λ (l : List ℕ). flat_map (numbered_row g (n + 1)) x.members ++ l) (numbered-append g (n + 1) xs ys ∙ ap (λ k. numbered_rows g (n + 1) xs ++ numbered_rows g k ys) same)
    ∙ sym (append_assoc (flat_map (numbered_row g (n + 1)) x.members) (numbered_rows g (n + 1) xs) (numbered_rows g (n + length (x ∷ xs)) ys))

-- two functions that agree on the elements give the same
flat_map-agree_on : {X : Type 0} (f h : X → List ℕ) (xs : List X) → ((x : X) → Mem x xs → f x ≡ h x) → flat_map f xs ≡ flat_map h xs
flat_map-agree_on f h [] same = refl
flat_map-agree_on f h (x ∷ xs) same = ap₂ (λ (a b : List ℕ). a ++ b) (same x (inl refl)) (flat_map-agree_on f h xs (λ y m. same y (inr m)))

module _ (d : ℕ) (g : Sequences) (records : List RecordValue) (lie : All (IsOnGenome g) records) where
  -- how many blocks there are on the sequences below a rank
  abbrev total : ℕ → ℕ
  total s = length (gathered (blocks_on d g records) s)

  total-is : (s : ℕ) → total s ≡ sum (map (λ seq. blocks_before d records seq (sequence_length g seq)) (range_with_len 0 s))
  total-is s =
      length-flat_map (blocks_on d g records) (range_with_len 0 s)
      ∙ ap (λ (f : ℕ → ℕ). sum_by f (range_with_len 0 s)) (λ i seq. length-map (blocks_below start_of stop_of d (on seq records) (sequence_length g seq)) (block_on seq) i)
      ∙ sym (sum-map (λ seq. blocks_before d records seq (sequence_length g seq)) (range_with_len 0 s))

  -- the rows of the members of a block
  abbrev block_rows : BlockWithMembers → List ℕ
  block_rows b = flat_map (cluster_row d g records) b.members

  -- the number of a member of the block that starts at x
  member-number : (s x : ℕ) (r : RecordValue) → Mem r (members start_of stop_of d (on s records) x)
      → (y : ℕ × (ℕ × List RecordValue)) → at d g records lie s x ≡ Some y → block_number d g records r ≡ total s + length (values (at d g records lie s) x) + 1
  member-number s x r m y there =
      let is_placed = on-in s records r (mem-filter _ (on s records) r m).0 in
      let start : own d g records lie r ≡ x
      = ap (λ k. home start_of stop_of d (on k records) r) is_placed.1 ∙ same-home d g records lie s x r (mem-contains _ r m) in
      let count : blocks_before d records r.seq (r.start + 1) ≡ length (values (at d g records lie s) (suc x))
      = own-number d g records lie r ∙ ap₂ (λ (k z : ℕ). length (values (at d g records lie k) (suc z))) is_placed.1 start in
      let lower : sum (map (λ seq. blocks_before d records seq (sequence_length g seq)) (range_with_len 0 r.seq)) ≡ total s
      = ap (λ (k : ℕ). sum (map (λ seq. blocks_before d records seq (sequence_length g seq)) (range_with_len 0 k))) is_placed.1 ∙ sym (total-is s) in
      let more : length (values (at d g records lie s) (suc x)) ≡ length (values (at d g records lie s) x) + 1
      = ap (λ (l : List (ℕ × (ℕ × List RecordValue))). length l) (values-some (at d g records lie s) x y there) ∙ length-append (values (at d g records lie s) x) (y ∷ []) in
      omega (arith, lower, count, more)

  -- the block that starts at a position has the members of the definition
  members-are : (s x : ℕ) (y : ℕ × (ℕ × List RecordValue)) → at d g records lie s x ≡ Some y → y.1.1 ≡ members start_of stop_of d (on s records) x
  members-are s x y there = elim (cases_Bool (is_block_start start_of stop_of d (on s records) x)) [
    | inl e ↦
        let same : Some (x, (block_stop start_of stop_of d (on s records) x, members start_of stop_of d (on s records) x)) ≡ Some y
        = sym (ap (option_map (λ (b : ℕ × List RecordValue). (x, b))) (cond-true (is_block_start start_of stop_of d (on s records) x) _ _ e)) ∙ there in
        some-is _ y same
    | inr e ↦
        let never : None ≡ Some y = sym (ap (option_map (λ (b : ℕ × List RecordValue). (x, b))) (cond-false (is_block_start start_of stop_of d (on s records) x) _ _ e)) ∙ there in
        cc
  ]
    where
      some-is : (z w : ℕ × (ℕ × List RecordValue)) → Some z ≡ Some w → w.1.1 ≡ z.1.1
      some-is z w is = cc

  -- one more block of a sequence
  block-more : (s x : ℕ) (y : ℕ × (ℕ × List RecordValue)) → at d g records lie s x ≡ Some y
      → numbered_rows g (total s + length (map (block_on s) (values (at d g records lie s) x))) (block_on s y ∷ []) ≡ flat_map block_rows (block_on s y ∷ [])
  block-more s x y there =
      let k : ℕ = total s + length (map (block_on s) (values (at d g records lie s) x)) + 1 in
      ap (λ (l : List ℕ). l ++ []) (flat_map-agree_on (numbered_row g k) (cluster_row d g records) y.1.1 (λ r m.
      let number = member-number s x r (subst (λ (l : List RecordValue). Mem r l) (members-are s x y there) m) y there in
      let same : k ≡ block_number d g records r = omega (arith, number, length-map (values (at d g records lie s) x) (block_on s)) in
      ap (λ n. numbered_row g n r) same))

  -- the blocks on a sequence, from the first on, have the numbers of their members
  abbrev AreNumbered : ℕ → List (ℕ × (ℕ × List RecordValue)) → Type 0
  AreNumbered s l = numbered_rows g (total s) (map (block_on s) l) ≡ flat_map block_rows (map (block_on s) l)

  -- the blocks of a sequence that start below n
  sequence-rows : (s n : ℕ) → numbered_rows g (total s) (map (block_on s) (values (at d g records lie s) n)) ≡ flat_map block_rows (map (block_on s) (values (at d g records lie s) n))
  sequence-rows s zero = refl
  sequence-rows s (suc n) = go (sequence-rows s n) (at d g records lie s n) refl
    where
      go : AreNumbered s (values (at d g records lie s) n) → (o : Option (ℕ × (ℕ × List RecordValue))) → at d g records lie s n ≡ o → AreNumbered s (values (at d g records lie s) (suc n))
      go rest None is = subst (AreNumbered s) (sym (values-none (at d g records lie s) n is)) rest
      go rest (Some y) is =
          let vs = values (at d g records lie s) n in
          let split : map (block_on s) (vs ++ y ∷ []) ≡ map (block_on s) vs ++ block_on s y ∷ [] = map-append (block_on s) vs (y ∷ []) in
          let all : AreNumbered s (vs ++ y ∷ []) =
          ap (numbered_rows g (total s)) split
          ∙ numbered-append g (total s) (map (block_on s) vs) (block_on s y ∷ [])
          ∙ ap₂ (λ (a b : List ℕ). a ++ b) rest (block-more s n y is)
          ∙ sym (flat_map-append block_rows (map (block_on s) vs) (block_on s y ∷ []))
          ∙ ap (flat_map block_rows) (sym split) in
          subst (AreNumbered s) (sym (values-some (at d g records lie s) n y is)) all

  -- the blocks of the sequences below n
  ranks-rows : (n : ℕ) → numbered_rows g 0 (gathered (blocks_on d g records) n) ≡ flat_map block_rows (gathered (blocks_on d g records) n)
  ranks-rows zero = refl
  ranks-rows (suc n) =
      let first : 0 + total n ≡ total n = omega arith in
      ap (numbered_rows g 0) (gathered-more (blocks_on d g records) n)
      ∙ numbered-append g 0 (gathered (blocks_on d g records) n) (blocks_on d g records n)
      ∙ ap₂ (λ (a b : List ℕ). a ++ b) (ranks-rows n) (ap (λ k. numbered_rows g k (blocks_on d g records n)) first ∙ sequence-rows n (sequence_length g n))
      ∙ sym (flat_map-append block_rows (gathered (blocks_on d g records) n) (blocks_on d g records n))
      ∙ ap (flat_map block_rows) (sym (gathered-more (blocks_on d g records) n))

  pub cluster-rows : AreInOrder records → numbered_rows g 0 (blocks_of d g records) ≡ cluster_text d g records
  cluster-rows order =
      ranks-rows (seq_count g)
      ∙ sym (flat_map-flat_map (cluster_row d g records) (λ (b : BlockWithMembers). b.members) (blocks_of d g records))
      ∙ ap (flat_map (cluster_row d g records)) (ap members_of (sym (merge-all d g records order lie)) ∙ remaining-members d records None)
