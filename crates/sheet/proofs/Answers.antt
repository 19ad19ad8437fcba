-- An accepted and a refused reading never have one outcome, so the contracts determine what a reading answers: an accepted one has filled a
-- word at least, and a refusal has a number. Assumes nothing.
use mathlib.Core.Path.{◌≡◌, sym, ap, ◌∙◌}
use mathlib.Core.Logic.{◌≢◌}
use mathlib.Core.Bool.{not}
use mathlib.Core.List.{List}
use Prim.Native.Nat.{ℕ, ◌*◌, ◌/◌, ◌%◌, ◌<◌}
use native.Mathlib.Omega.{arith}
use lib.ListN.{length}
use lib.Dec.{eqb, leb}
use borrow.Author.Tests.{not-true, not-false, eqb-true, eqb-false}
use Rattle.words.proofs.Bools.{by, and_4, passed}
use Rattle.std.proofs.Common.{Result, Ok, Err}
use Rattle.refusal.specs.declared.Refusal.{Refusal}
use Rattle.refusal.proofs.Rows.{row_unique}
use Rattle.class_sheet.specs.ClassSheet.{block_limit}
use Rattle.abi_sheet.specs.AbiSheet.{abi_block_limit}
use Rattle.block.specs.Block.{block_count, sheet_words, shape_ok}
use Rattle.sheet.specs.Sheet.{Outcome, outcome, block_refusal, sheet_refusal, read_sheet, class_rows, class_sheet_refusal, read_class_sheet, loose_rows, unordered_sheet_refusal, read_unordered_sheet, abi_rows, abi_sheet_refusal, read_abi_sheet}

-- an outcome that tells its answer
abbrev pub Tells : Outcome → Type 0
Tells o = o.refusal ≡ 0 → o.words ≢ 0

pub answer_unique : (a b : Result ℕ Refusal) (m n : List ℕ) {o : Outcome} → Tells o → outcome a m ≡ o → outcome b n ≡ o → a ≡ b
answer_unique (Ok i) (Ok j) m n t e f = ap Ok (ap (λ (x : Outcome). x.words) (e ∙ sym f))
answer_unique (Ok i) (Err k) m n t e f =
    absurd (t (sym (ap (λ (x : Outcome). x.refusal) e)) (sym (ap (λ (x : Outcome). x.words) f)))
answer_unique (Err k) (Ok j) m n t e f =
    absurd (t (sym (ap (λ (x : Outcome). x.refusal) f)) (sym (ap (λ (x : Outcome). x.words) e)))
answer_unique (Err j) (Err k) m n t e f = ap Err (row_unique j k (ap (λ (x : Outcome). x.refusal) (e ∙ sym f)))

-- a sheet that rows 1 and 2 let pass has a block
some_block : (bs : List ℕ) (room limit : ℕ) → block_refusal bs room limit ≡ 0 → 0 < block_count bs
unfolding block_refusal shape_ok block_count
some_block bs room limit e =
    let p = passed (not (shape_ok (length bs) room limit)) 1 _ (omega arith) e in
    let q = and_4 (not (eqb (length bs) 0)) (eqb (length bs % 512) 0) (leb (length bs / 512) limit) (leb (127 * (length bs / 512)) room)
    (not-false _ p.0) in
    let n = eqb-false (length bs) 0 (not-true _ q.0) in
    let z = eqb-true (length bs % 512) 0 q.1 in
    omega arith

sheet_tells : (limit : ℕ) (rows : List ℕ → ℕ) (bs ws : List ℕ) → Tells (read_sheet (sheet_refusal limit rows) bs ws)
unfolding read_sheet sheet_refusal
sheet_tells limit rows bs ws =
    by (eqb (block_refusal bs (length ws) limit) 0)
    (λ t.
    let s = some_block bs (length ws) limit (eqb-true _ _ t) in
    rw t (by (eqb (rows (sheet_words bs)) 0) (λ u. rw u (λ e z. omega arith)) (λ u. rw u (λ e. absurd (eqb-false _ _ u e)))))
    (λ t. rw (t, t) (λ e. absurd (eqb-false _ _ t e)))

pub class-sheet_tells : (bs ws : List ℕ) → Tells (read_class_sheet bs ws)
unfolding read_class_sheet class_sheet_refusal
class-sheet_tells bs ws = sheet_tells block_limit class_rows bs ws

pub unordered_sheet_tells : (bs ws : List ℕ) → Tells (read_unordered_sheet bs ws)
unfolding read_unordered_sheet unordered_sheet_refusal
unordered_sheet_tells bs ws = sheet_tells block_limit loose_rows bs ws

pub abi-sheet_tells : (bs ws : List ℕ) → Tells (read_abi_sheet bs ws)
unfolding read_abi_sheet abi_sheet_refusal
abi-sheet_tells bs ws = sheet_tells abi_block_limit abi_rows bs ws
