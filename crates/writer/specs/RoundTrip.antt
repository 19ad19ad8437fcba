-- What is written is read again, and what was read is written again: the four theorems of writing. Assumes nothing.
use Rattle.std.specs.Prelude.{◌≡◌, ◌↔◌, true, List, ◌++◌, ℕ, ◌*◌, ◌-◌, ◌≤◌, length, get_or, take, drop, replicate}
use Rattle.words.specs.Words.{AreWords, AreBytes}
use Rattle.block.specs.Block.{block_count, least_fit, sheet_bytes}
use Rattle.class_sheet.specs.ClassSheet.{block_limit, content_end}
use Rattle.class_rules.specs.ClassRules.{class_fits}
use Rattle.set_rules.specs.SetRules.{set_refusal}
use Rattle.set_rules.specs.Valid.{ValidAbi}
use Rattle.sheet.specs.Sheet.{class_rows, class_sheet_refusal, read_class_sheet}
use Rattle.writer.specs.Writer.{content_of, blocks_of, link_rows, write_refusal, write_class_sheet}

-- the content, then zeros to the end of its last block
abbrev pub padded_content : List ℕ → List ℕ
padded_content ws = content_of ws ++ replicate (127 * blocks_of ws - content_end ws) 0

-- of a writing: the number of blocks that it answers, and these blocks
abbrev pub blocks_written : List ℕ → List ℕ → ℕ
blocks_written ws bs = (write_class_sheet ws bs).blocks

abbrev pub sheet_written : List ℕ → List ℕ → List ℕ
sheet_written ws bs = take (512 * blocks_written ws bs) (write_class_sheet ws bs).memory

pub record RoundTrip : Type 0 where
  -- "reading those gives the same content words": the blocks answered, read where 127 words a block are lent, are accepted and give the content,
  -- then zeros to the end of the last block, then the lent words as they were
  pub write_read : (ws bs out : List ℕ) → AreWords ws → (write_class_sheet ws bs).refusal ≡ 0 → 127 * blocks_written ws bs ≤ length out
      → read_class_sheet (sheet_written ws bs) out
      ≡ record { refusal = 0; words = 127 * blocks_written ws bs; memory = padded_content ws ++ drop (127 * blocks_written ws bs) out }
  pub same_content : (ws bs out : List ℕ) → AreWords ws → (write_class_sheet ws bs).refusal ≡ 0 → 127 * blocks_written ws bs ≤ length out
      → content_of (read_class_sheet (sheet_written ws bs) out).memory ≡ content_of ws
  -- "For bytes the reader accepted, writing what was read gives the same bytes": what was read is the slice that the reading left, and at least as
  -- many bytes are lent
  pub read_write : (bs out lent : List ℕ) → AreBytes bs → (read_class_sheet bs out).refusal ≡ 0 → length bs ≤ length lent
      → write_class_sheet (read_class_sheet bs out).memory lent
      ≡ record { refusal = 0; blocks = block_count bs; memory = bs ++ drop (length bs) lent }
  -- "the writer for what the reader accepts", both ways: where the content is there and the bytes have room, no row refuses the writing exactly if
  -- none of 3 to 5 refuses the reading of the padded content, and exactly if a reading accepts its blocks
  pub domain : (ws : List ℕ) (room : ℕ) → class_fits ws ≡ true → 512 * blocks_of ws ≤ room
      → (write_refusal ws room ≡ 0) ↔ (class_rows (padded_content ws) ≡ 0)
  pub domain_blocks : (ws : List ℕ) (room lent : ℕ) → AreWords ws → class_fits ws ≡ true → 512 * blocks_of ws ≤ room → 127 * blocks_of ws ≤ lent
      → (write_refusal ws room ≡ 0) ↔ (class_sheet_refusal (sheet_bytes (content_of ws) (blocks_of ws)) lent ≡ 0)
  -- "3 to 5 as for a link": beside any ABI words that rows 3 to 5 accept, they refuse a link by the same number
  pub as_for_a_link : (ws abi : List ℕ) → ValidAbi abi → link_rows ws ≡ set_refusal ws abi
  -- "The writer touches only the blocks it needs": the least number of blocks that holds the content, 92 at the most, and every byte after them stays
  pub few : (ws bs : List ℕ) → (write_class_sheet ws bs).refusal ≡ 0
      → (1 ≤ blocks_written ws bs) × (blocks_written ws bs ≤ block_limit) × (least_fit (content_end ws) (127 * blocks_written ws bs) ≡ true)
  pub rest_stays : (ws bs : List ℕ) → (write_class_sheet ws bs).refusal ≡ 0
      → (length (write_class_sheet ws bs).memory ≡ length bs)
      × ((i : ℕ) → 512 * blocks_written ws bs ≤ i → get_or (write_class_sheet ws bs).memory i 0 ≡ get_or bs i 0)
