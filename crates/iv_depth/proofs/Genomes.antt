-- The text of the definition, sequence by sequence.
use Rattle.std.proofs.Common.{◌≡◌, ℕ, suc, ◌+◌, ◌-◌, ◌<◌, ◌++◌, List, refl, arith}
use Rattle.std.specs.List.{flat_map, range_with_len}
use Rattle.iv_lines.specs.Genome.{Sequences, seq_count}
use Rattle.iv_depth.specs.Inside.Texts.{sequence_text, text_by}
use Rattle.iv_depth.specs.declared.depth_rows.DepthOutput.{DepthOutput}

module _ (output : DepthOutput) (g : Sequences) (f : ℕ → ℕ → ℕ) where
  -- the rows of the sequences from this rank on
  abbrev pub texts_from : ℕ → List ℕ
  texts_from seq = flat_map (sequence_text output g f) (range_with_len seq (seq_count g - seq))

  pub texts-next : (seq : ℕ) → seq < seq_count g → texts_from seq ≡ sequence_text output g f seq ++ texts_from (seq + 1)
  texts-next seq low = let e : seq_count g - seq ≡ suc (seq_count g - (seq + 1)) = omega arith in rw e refl

  pub texts-all : texts_from 0 ≡ text_by output g f
  texts-all = let e : seq_count g - 0 ≡ seq_count g = omega arith in rw e refl
