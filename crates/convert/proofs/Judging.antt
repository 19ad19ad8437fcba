-- Rows 3 and 18 as the code tests them, and the blocks that it writes. Assumes nothing.
use mathlib.Core.Path.{◌≡◌, ◌∙◌}
use mathlib.Core.List.{List, ◌++◌}
use Prim.Native.Nat.{ℕ, ◌+◌, ◌*◌, ◌%◌, ◌^◌, ◌≤◌}
use native.Mathlib.Omega.{arith}
use lib.ListN.{length, drop}
use borrow.Author.Tests.{le-ltb}
use Rattle.block.specs.Block.{blocks_for, sheet_bytes, packed_blocks}
use Rattle.block.proofs.PackLaws.{packed-is}
use Rattle.class_sheet.specs.ClassSheet.{class_count, methods_at, fields_at, interfaces_at, compilers_at, text_at, content_end}
use Rattle.class_sheet.specs.Sections.{end_by}
use Rattle.writer.specs.Writer.{Outcome}
use Rattle.convert.specs.Convert.{old_end, old_text_at, blocks_or_row, room_refusal}

-- ---- the old form ends a word a class before the new one

pub old-end : (ws : List ℕ) → old_end ws + class_count ws ≡ content_end ws
unfolding end_by content_end text_at compilers_at interfaces_at fields_at methods_at
old-end ws = omega arith

pub old-text : (ws : List ℕ) → old_text_at ws + class_count ws ≡ text_at ws
unfolding end_by text_at compilers_at interfaces_at fields_at methods_at
old-text ws = omega arith

-- ---- row 18, and the blocks

module _ (ws out : List ℕ) (few : length ws ≤ 11684) {n : ℕ} (blocks : n ≡ blocks_for (length ws) % 2 ^ 32) where
  pub counted : n ≡ blocks_for (length ws)
  unfolding blocks_for
  counted = omega arith

  pub room : 512 * n ≤ length out → {o : List ℕ} → o ≡ packed_blocks ws n out
      → ◌≡◌ {A = Outcome} (record { refusal = 0; blocks = n; memory = o }) (blocks_or_row (room_refusal ws (length out)) ws out)
  unfolding blocks_or_row room_refusal
  room h {o} stored =
      let s : o ≡ sheet_bytes ws n ++ drop (512 * n) out = stored ∙ packed-is ws n out (omega arith) in
      rw (← counted, s) (simp (le-ltb (length out) (512 * n) (omega arith)))
