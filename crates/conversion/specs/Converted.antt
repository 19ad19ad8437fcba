-- The theorems on class sheets made of one form of the other. `converted` of proofs/Theorem.antt proves them. Assumes nothing.
use Rattle.std.specs.Prelude.{ℕ, ◌+◌, ◌*◌, ◌-◌, ◌≤◌, ◌<◌, ◌≡◌, ◌↔◌, ◌≢◌, true, false, List, ◌++◌, length, get_or, take, drop}
use Rattle.words.specs.Words.{AreBytes}
use Rattle.block.specs.Block.{block_count, sheet_words, blocks_for}
use Rattle.class_sheet.specs.ClassSheet.{counts_width, class_width, block_limit, class_count, content_end, class_word, class_static_words}
use Rattle.sheet.specs.Sheet.{read_class_sheet}
use Rattle.writer.specs.Writer.{Outcome, content_of, write_class_sheet}
use Rattle.convert.specs.Convert.{old_width, old_end, old_sheet_refusal, widened, forward, widen_sheet, drops_statics, narrowed, new_sheet_refusal, narrow_sheet}

-- the blocks that a call answers
abbrev pub sheet_made : Outcome → List ℕ
sheet_made o = take (512 * o.blocks) o.memory

pub record Converted : Type 0 where
  -- 1. "Forward then back gives the first sheet's bytes": back is handed the blocks that forward answered, and enough bytes.
  pub forward_back : (bs out lent : List ℕ) → AreBytes bs → (widen_sheet bs out).refusal ≡ 0 → length bs ≤ length lent
      → narrow_sheet (sheet_made (widen_sheet bs out)) lent ≡ record { refusal = 0; blocks = block_count bs; memory = bs ++ drop (length bs) lent }
  -- 2. Back, then forward.
  pub back_forward : (bs out lent : List ℕ) → AreBytes bs → (narrow_sheet bs out).refusal ≡ 0 → length bs ≤ length lent
      → widen_sheet (sheet_made (narrow_sheet bs out)) lent ≡ record { refusal = 0; blocks = block_count bs; memory = bs ++ drop (length bs) lent }
  -- 3. "as the writer makes them": what forward answers and leaves is the writing of the new content, so that the new reader reads these words again.
  pub written : (bs out : List ℕ) → AreBytes bs → (widen_sheet bs out).refusal ≡ 0 → widen_sheet bs out ≡ write_class_sheet (forward (sheet_words bs)) out
  pub read_again : (bs out set : List ℕ) → AreBytes bs → (widen_sheet bs out).refusal ≡ 0 → 127 * (widen_sheet bs out).blocks ≤ length set
      → ((read_class_sheet (sheet_made (widen_sheet bs out)) set).refusal ≡ 0)
      × (content_of (read_class_sheet (sheet_made (widen_sheet bs out)) set).memory ≡ forward (sheet_words bs))
  -- 4. Of words that hold an old content: the counts stay, the words of a class record but its last are those at the old places, its last is f's, what
  -- follows the records is what followed them, and that is all.
  pub counts : (ws : List ℕ) (f : ℕ → ℕ) → old_end ws ≤ length ws → (k : ℕ) → k < counts_width → get_or (widened ws f) k 0 ≡ get_or ws k 0
  pub all_words : (ws : List ℕ) (f : ℕ → ℕ) → old_end ws ≤ length ws → length (widened ws f) ≡ content_end ws
  pub class_words : (ws : List ℕ) (f : ℕ → ℕ) → old_end ws ≤ length ws → (c k : ℕ) → 1 ≤ c → c ≤ class_count ws → k < old_width
      → class_word (widened ws f) c k ≡ get_or ws (counts_width + old_width * (c - 1) + k) 0
  pub words_of_statics : (ws : List ℕ) (f : ℕ → ℕ) → old_end ws ≤ length ws → (c : ℕ) → 1 ≤ c → c ≤ class_count ws → class_static_words (widened ws f) c ≡ f c
  pub other_words : (ws : List ℕ) (f : ℕ → ℕ) → old_end ws ≤ length ws → (t : ℕ) → counts_width + class_width * class_count ws + t < content_end ws
      → get_or (widened ws f) (counts_width + class_width * class_count ws + t) 0 ≡ get_or ws (counts_width + old_width * class_count ws + t) 0
  -- 5. At most one block more, and 92 at the most.
  pub few : (bs out : List ℕ) → (widen_sheet bs out).refusal ≡ 0
      → (block_count bs ≤ (widen_sheet bs out).blocks) × ((widen_sheet bs out).blocks ≤ block_count bs + 1) × ((widen_sheet bs out).blocks ≤ block_limit)
  -- An accepted call has made a block, so that an accepted and a refused call never have one outcome.
  pub widened_some : (bs out : List ℕ) → (widen_sheet bs out).refusal ≡ 0 → (widen_sheet bs out).blocks ≢ 0
  pub narrowed_some : (bs out : List ℕ) → (narrow_sheet bs out).refusal ≡ 0 → (narrow_sheet bs out).blocks ≢ 0
  -- 6. Forward refuses by 1 to 5 and 18 alone, and by 18 exactly where only the room is missing, which 92 blocks never are.
  pub rows : (bs : List ℕ) → old_sheet_refusal bs ≤ 5
  pub early : (bs out : List ℕ) → 1 ≤ old_sheet_refusal bs → (widen_sheet bs out).refusal ≡ old_sheet_refusal bs
  pub room : (bs out : List ℕ) → ((widen_sheet bs out).refusal ≡ 18)
      ↔ ((old_sheet_refusal bs ≡ 0) × (length out < 512 * blocks_for (length (forward (sheet_words bs)))))
  pub enough : (bs out : List ℕ) → old_sheet_refusal bs ≡ 0 → 512 * blocks_for (length (forward (sheet_words bs))) ≤ length out
      → (widen_sheet bs out).refusal ≡ 0
  pub most : (bs : List ℕ) → old_sheet_refusal bs ≡ 0 → blocks_for (length (forward (sheet_words bs))) ≤ block_limit
  -- 7. Back refuses by 1 to 5, 23 and 18 alone: by 23 exactly where a reading accepts the sheet and it has a generated class whose word is not its sum, by 18
  -- exactly where only the room is missing; and it takes no more blocks than the new sheet has.
  pub back_rows : (bs : List ℕ) → new_sheet_refusal bs ≤ 5
  pub back_early : (bs out : List ℕ) → 1 ≤ new_sheet_refusal bs → (narrow_sheet bs out).refusal ≡ new_sheet_refusal bs
  pub back_statics : (bs out : List ℕ) → ((narrow_sheet bs out).refusal ≡ 23)
      ↔ ((new_sheet_refusal bs ≡ 0) × (drops_statics (sheet_words bs) ≡ true))
  pub back_room : (bs out : List ℕ) → ((narrow_sheet bs out).refusal ≡ 18)
      ↔ ((new_sheet_refusal bs ≡ 0) × (drops_statics (sheet_words bs) ≡ false) × (length out < 512 * blocks_for (length (narrowed (sheet_words bs)))))
  pub back_enough : (bs out : List ℕ) → new_sheet_refusal bs ≡ 0 → drops_statics (sheet_words bs) ≡ false
      → 512 * blocks_for (length (narrowed (sheet_words bs))) ≤ length out → (narrow_sheet bs out).refusal ≡ 0
  pub back_few : (bs out : List ℕ) → (narrow_sheet bs out).refusal ≡ 0
      → ((narrow_sheet bs out).blocks ≤ block_count bs) × (block_count bs ≤ (narrow_sheet bs out).blocks + 1)
