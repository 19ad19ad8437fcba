-- Laws of writing: the rows as the code tests them, and the blocks that it writes. Assumes nothing.
use mathlib.Core.Path.{◌≡◌, sym, ◌∙◌}
use mathlib.Core.Bool.{true, not}
use mathlib.Core.List.{List, ◌++◌}
use Prim.Native.Nat.{ℕ, ◌*◌, ◌%◌, ◌^◌, ◌≤◌}
use native.Mathlib.Omega.{arith}
use lib.ListN.{length, take, drop}
use lib.Dec.{eqb, ltb}
use borrow.Author.Tests.{eqb-true, eqb-false, le-ltb, ltb-false, not-false}
use Rattle.words.proofs.Bools.{by, passed}
use Rattle.block.specs.Block.{blocks_for, sheet_bytes, packed_blocks}
use Rattle.block.proofs.PackLaws.{packed-is}
use Rattle.class_sheet.specs.ClassSheet.{methods_at, fields_at, interfaces_at, compilers_at, text_at, content_end, text_of}
use Rattle.class_sheet.proofs.Laws.{content-within}
use Rattle.class_rules.specs.ClassRules.{class_fits}
use Rattle.class_rules.proofs.Laws as class
use Rattle.set_rules.specs.SetRules.{class_refusal}
use Rattle.writer.specs.Writer.{Outcome, content_of, blocks_of, link_rows, storable, write_refusal, write_class_sheet}

-- ---- rows 3 to 5

pub link-passed : (ws : List ℕ) → link_rows ws ≡ 0 → (class_fits ws ≡ true) × (class_refusal ws (text_of ws) ≡ 0)
unfolding link_rows
link-passed ws e = let p = passed (not (class_fits ws)) 3 _ (omega arith) e in (not-false _ p.0, p.1)

-- ---- the blocks that the content takes: 6 to 11,654 words

pub content-some : (ws : List ℕ) → 6 ≤ content_end ws
unfolding content_end text_at compilers_at interfaces_at fields_at methods_at
content-some ws = omega arith

pub few-blocks : (ws : List ℕ) → class_fits ws ≡ true → (1 ≤ blocks_of ws) × (blocks_of ws ≤ 92)
unfolding blocks_for
few-blocks ws h = let l = content-within ws (class.fits ws h).0 in (omega (arith, content-some ws), omega arith)

-- and their number as the code counts it
pub counted : (ws : List ℕ) {e n : ℕ} → class_fits ws ≡ true → e ≡ content_end ws → n ≡ blocks_for e % 2 ^ 32 → n ≡ blocks_of ws
counted ws {n = n} h f g = let q : n ≡ blocks_of ws % 2 ^ 32 = rw f at g in omega (arith, (few-blocks ws h).1)

-- ---- all rows

-- what a set that no row refuses has passed, and that this is all
pub record Passed (ws : List ℕ) (room : ℕ) : Type 0 where
  pub fits : class_fits ws ≡ true
  pub rows : class_refusal ws (text_of ws) ≡ 0
  pub store : storable ws ≡ true
  pub space : 512 * blocks_of ws ≤ room

pub write-passed : (ws : List ℕ) (room : ℕ) → write_refusal ws room ≡ 0 → Passed ws room
unfolding write_refusal
write-passed ws room e =
    by (eqb (link_rows ws) 0)
    (λ q.
    let l = link-passed ws (eqb-true _ _ q) in
    let p = passed (not (storable ws)) 17 _ (omega arith) (rw q at e) in
    let r = passed (ltb room (512 * blocks_of ws)) 18 0 (omega arith) p.1 in
    record { fits = l.0; rows = l.1; store = not-false _ p.0; space = ltb-false _ _ r.0 })
    (λ q. absurd (eqb-false _ _ q (rw q at e)))

pub write-accepts : (ws : List ℕ) (room : ℕ) → Passed ws room → write_refusal ws room ≡ 0
unfolding write_refusal link_rows
write-accepts ws room p = rw (p.fits, p.rows, p.store, le-ltb room (512 * blocks_of ws) p.space)

-- ---- what is written

pub write-done : (ws bs : List ℕ) → 0 ≡ write_refusal ws (length bs) → {e n : ℕ} {p o : List ℕ} → e ≡ content_end ws → n ≡ blocks_for e % 2 ^ 32
    → p ≡ take e (drop 0 ws) → o ≡ packed_blocks p n bs
    → ◌≡◌ {A = Outcome} (record { refusal = 0; blocks = n; memory = o }) (write_class_sheet ws bs)
unfolding write_class_sheet
write-done ws bs rows {n = n} {p = p} {o = o} end blocks part stored =
    let w = write-passed ws (length bs) (sym rows) in
    let m : n ≡ blocks_of ws = counted ws w.fits end blocks in
    let c : p ≡ content_of ws = part ∙ rw end in
    let s : o ≡ sheet_bytes p n ++ drop (512 * n) bs = stored ∙ packed-is p n bs (rw m w.space) in
    rw (← rows, s, m, c)
