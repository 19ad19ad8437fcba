-- The blocks that were written are the content packed, so reading them gives it back padded with zeros; what a reading accepted is its own content
-- padded, so writing it gives the blocks back. Assumes nothing.
use mathlib.Core.Path.{◌≡◌, refl, ap, ◌∙◌}
use mathlib.Core.Bool.{Bool, true, false, ◌&&◌}
use mathlib.Core.List.{List, ◌++◌, append_assoc}
use mathlib.Core.Logic.{◌↔◌}
use Prim.Native.Nat.{ℕ, ◌+◌, ◌*◌, ◌-◌, ◌≤◌}
use native.Mathlib.Omega.{arith}
use lib.ListN.{length, get_or, take, drop, length-append, length-drop, get_or-eq_default}
use lib.Seq.{take_at, take-append-le, get_or-take, get_or-drop}
use lib.Dec.{eqb, ltb}
use borrow.Author.Tests.{eqb-true, eqb-false, ltb-true, ltb-false, le-leb}
use Rattle.words.proofs.Bools.{by}
use Rattle.words.proofs.Lists.{skip}
use Rattle.words.specs.Words.{AreWords, AreBytes}
use Rattle.block.specs.Block.{block_count, sheet_words, least_fit, blocks_for, sheet_bytes}
use Rattle.block.proofs.Laws.{blocks-least}
use Rattle.block.proofs.PackLaws.{length-bytes}
use Rattle.class_sheet.specs.ClassSheet.{block_limit, text_length, text_at, content_end, text_of}
use Rattle.class_rules.specs.ClassRules.{class_fits, class_records}
use Rattle.set_rules.specs.SetRules.{class_descriptors, class_refusal, set_fits, records_refusal, set_refusal}
use Rattle.set_rules.specs.Valid.{ValidAbi}
use Rattle.set_rules.proofs.Kept.{class-fits-kept}
use Rattle.set_rules.proofs.Valid.{abi-tests}
use Rattle.sheet.specs.Sheet.{block_refusal, read_sheet, class_rows, class_sheet_refusal, read_class_sheet}
use Rattle.sheet.proofs.Valid.{class-passed, formed}
use Rattle.writer.specs.Writer as writer
use Rattle.writer.specs.Writer.{content_of, blocks_of, link_rows, storable, write_refusal, write_class_sheet}
use Rattle.writer.specs.RoundTrip.{padded_content, blocks_written, sheet_written, RoundTrip}
use Rattle.writer.proofs.Laws.{Passed, few-blocks, write-passed, write-accepts}
use Rattle.writer.proofs.Blocks.{sheet-passed, blocks-count, blocks-words, blocks-rows, whole, words-length, again-blocks, again-same, again}
use Rattle.writer.proofs.Zeros.{zero_same}
use Rattle.writer.proofs.Content.{content-length, content-longer, padded-rows, rows-padded, refusal-longer, fresh-longer, end-longer, text-end-longer}

-- ---- writings and readings that are not refused

abbrev written : List ℕ → List ℕ → writer.Outcome
written ws bs =
    record { refusal = 0; blocks = blocks_of ws; memory = sheet_bytes (content_of ws) (blocks_of ws) ++ drop (512 * blocks_of ws) bs }

write-is : (ws bs : List ℕ) → write_refusal ws (length bs) ≡ 0 → write_class_sheet ws bs ≡ written ws bs
unfolding write_class_sheet
write-is ws bs e = rw e

blocks_are : (ws bs : List ℕ) → write_refusal ws (length bs) ≡ 0 → blocks_written ws bs ≡ blocks_of ws
blocks_are ws bs e = ap (λ (o : writer.Outcome). o.blocks) (write-is ws bs e)

sheet-is : (ws bs : List ℕ) → write_refusal ws (length bs) ≡ 0 → sheet_written ws bs ≡ sheet_bytes (content_of ws) (blocks_of ws)
sheet-is ws bs e =
    ap (λ (o : writer.Outcome). take (512 * o.blocks) o.memory) (write-is ws bs e)
    ∙ take_at (sheet_bytes (content_of ws) (blocks_of ws)) (drop (512 * blocks_of ws) bs) (512 * blocks_of ws) (length-bytes (content_of ws) (blocks_of ws))

write-accepted : (ws bs : List ℕ) → (write_class_sheet ws bs).refusal ≡ 0 → write_refusal ws (length bs) ≡ 0
unfolding write_class_sheet
write-accepted ws bs e =
    by (eqb (write_refusal ws (length bs)) 0) (λ q. eqb-true _ _ q) (λ q. absurd (eqb-false _ _ q (rw q at e)))

pub read_is : (bs out : List ℕ) → class_sheet_refusal bs (length out) ≡ 0
    → read_class_sheet bs out ≡ record { refusal = 0; words = 127 * block_count bs; memory = sheet_words bs ++ drop (127 * block_count bs) out }
unfolding read_class_sheet read_sheet
read_is bs out e = rw e

pub read-accepted : (bs out : List ℕ) → (read_class_sheet bs out).refusal ≡ 0 → class_sheet_refusal bs (length out) ≡ 0
unfolding read_class_sheet read_sheet
read-accepted bs out e =
    by (eqb (class_sheet_refusal bs (length out)) 0) (λ q. eqb-true _ _ q) (λ q. absurd (eqb-false _ _ q (rw q at e)))

-- ---- the blocks of the content, read

module _ (ws : List ℕ) (small : AreWords ws) (fits : class_fits ws ≡ true) where
  abbrev bytes : List ℕ
  bytes = sheet_bytes (content_of ws) (blocks_of ws)

  content-words : AreWords (content_of ws)
  content-words i =
      by (ltb i (content_end ws))
      (λ t. rw (get_or-take (content_end ws) ws i 0 (ltb-true i (content_end ws) t)) (small i))
      (λ t.
      let past : length (content_of ws) ≤ i = omega (arith, content-length ws fits, ltb-false i (content_end ws) t) in
      rw (get_or-eq_default (content_of ws) 0 past) (omega arith))

  -- the blocks of its content are as many as its end asks for
  same_blocks : blocks_for (length (content_of ws)) ≡ blocks_of ws
  same_blocks = ap blocks_for (content-length ws fits)

  bytes_count : block_count bytes ≡ blocks_of ws
  bytes_count = rw same_blocks at (blocks-count (content_of ws) content-words)

  bytes-words : sheet_words bytes ≡ padded_content ws
  bytes-words = rw (same_blocks, content-length ws fits) at (blocks-words (content_of ws) content-words)

  pub bytes-rows : (room : ℕ) → 127 * blocks_of ws ≤ room → class_sheet_refusal bytes room ≡ class_rows (padded_content ws)
  unfolding class_sheet_refusal
  bytes-rows room l =
      let f = few-blocks ws fits in
      rw (same_blocks, content-length ws fits) at
      (blocks-rows (content_of ws) content-words class_rows room
      (omega (arith, same_blocks, f.0)) (omega (arith, same_blocks, f.1)) (omega (arith, same_blocks)))

-- ---- what a reading left, written

pub text-inside : (ws : List ℕ) → 4 * text_at ws + text_length ws ≤ 4 * content_end ws
unfolding content_end
text-inside ws = omega arith

module _ (bs out : List ℕ) (small : AreBytes bs) (e : class_sheet_refusal bs (length out) ≡ 0) where
  abbrev ws : List ℕ
  ws = sheet_words bs

  abbrev rest : List ℕ
  rest = drop (127 * block_count bs) out

  rows-passed : (block_refusal bs (length out) block_limit ≡ 0) × (class_rows ws ≡ 0)
  unfolding class_sheet_refusal
  rows-passed = sheet-passed class_rows bs (length out) e

  abbrev start : ℕ
  start = 4 * text_at ws + text_length ws

  least : (content_end ws ≤ 127 * block_count bs) × (blocks_of ws ≡ block_count bs)
  least = again-blocks bs (length out) small rows-passed.0 (content_end ws) start (formed bs (length out) e).1 (text-inside ws) (formed bs (length out) e).2

  fits : class_fits ws ≡ true
  unfolding class_fits
  fits = rw (formed bs (length out) e).0 (le-leb (content_end ws) (length ws) (omega (arith, words-length bs (length out) small rows-passed.0, least.0)))

  same : (i : ℕ) → get_or ws i 0 ≡ get_or (content_of ws) i 0
  same = again-same bs (length out) small rows-passed.0 (content_end ws) start (formed bs (length out) e).1 (text-inside ws) (formed bs (length out) e).2

  -- the lent words that the reading left, of which the sheet's words are the front
  abbrev left : List ℕ
  left = ws ++ rest

  left_end : content_end left ≡ content_end ws
  left_end = end-longer ws rest fits

  left-content : content_of left ≡ content_of ws
  left-content = rw left_end (take-append-le (content_end ws) ws rest (omega (arith, words-length bs (length out) small rows-passed.0, least.0)))

  left-storable : storable left ≡ true
  unfolding storable
  left-storable =
      rw (
        fresh-longer ws rest fits,
        left-content,
        text-end-longer ws rest fits,
        (formed bs (length out) e).3,
        zero_same ws (content_of ws) (4 * text_at ws + text_length ws) same (formed bs (length out) e).2,
      )

  left-blocks : blocks_of left ≡ block_count bs
  left-blocks = rw left_end least.1

  left_passed : (room : ℕ) → length bs ≤ room → Passed left room
  left_passed room l =
      record {
        fits = class-fits-kept ws rest fits;
        rows = refusal-longer ws rest fits ∙ (class-passed bs (length out) e).1;
        store = left-storable;
        space = omega (arith, left-blocks, whole bs (length out) small rows-passed.0);
      }

  left-bytes : sheet_bytes (content_of left) (blocks_of left) ≡ bs
  left-bytes =
      rw (left-content, left_end)
      (again bs (length out) small rows-passed.0 (content_end ws) start (formed bs (length out) e).1 (text-inside ws) (formed bs (length out) e).2)

  left-written : (lent : List ℕ) → length bs ≤ length lent
      → write_class_sheet left lent ≡ record { refusal = 0; blocks = block_count bs; memory = bs ++ drop (length bs) lent }
  left-written lent l =
      write-is left lent (write-accepts left (length lent) (left_passed (length lent) l))
      ∙ rw (left-bytes, left-blocks, whole bs (length out) small rows-passed.0)

-- ---- the four theorems

module _ (ws bs out : List ℕ) (small : AreWords ws) (accepted : (write_class_sheet ws bs).refusal ≡ 0) (lent : 127 * blocks_written ws bs ≤ length out) where
  write_read : read_class_sheet (sheet_written ws bs) out
      ≡ record { refusal = 0; words = 127 * blocks_written ws bs; memory = padded_content ws ++ drop (127 * blocks_written ws bs) out }
  write_read =
      let e = write-accepted ws bs accepted in
      let p = write-passed ws (length bs) e in
      let room : 127 * blocks_of ws ≤ length out = rw (blocks_are ws bs e) at lent in
      let r = bytes-rows ws small p.fits (length out) room ∙ padded-rows ws p.fits p.store p.rows in
      rw (sheet-is ws bs e, blocks_are ws bs e)
      (read_is (sheet_bytes (content_of ws) (blocks_of ws)) out r ∙ rw (bytes_count ws small p.fits, bytes-words ws small p.fits))

  same_content : content_of (read_class_sheet (sheet_written ws bs) out).memory ≡ content_of ws
  same_content =
      let p = write-passed ws (length bs) (write-accepted ws bs accepted) in
      rw (write_read, append_assoc) (content-longer ws p.fits _)

read_write : (bs out lent : List ℕ) → AreBytes bs → (read_class_sheet bs out).refusal ≡ 0 → length bs ≤ length lent
    → write_class_sheet (read_class_sheet bs out).memory lent
    ≡ record { refusal = 0; blocks = block_count bs; memory = bs ++ drop (length bs) lent }
read_write bs out lent small a l =
    let e = read-accepted bs out a in rw (read_is bs out e) (left-written bs out small e lent l)

domain : (ws : List ℕ) (room : ℕ) → class_fits ws ≡ true → 512 * blocks_of ws ≤ room
    → (write_refusal ws room ≡ 0) ↔ (class_rows (padded_content ws) ≡ 0)
domain ws room fits l = (
  λ e. let p = write-passed ws room e in padded-rows ws fits p.store p.rows,
  λ e. let p = rows-padded ws fits e in write-accepts ws room (record { fits = fits; rows = p.1; store = p.0; space = l }),
)

module _ (ws bs : List ℕ) (accepted : (write_class_sheet ws bs).refusal ≡ 0) where
  none : write_refusal ws (length bs) ≡ 0
  none = write-accepted ws bs accepted

  few : (1 ≤ blocks_written ws bs) × (blocks_written ws bs ≤ block_limit) × (least_fit (content_end ws) (127 * blocks_written ws bs) ≡ true)
  few = let f = few-blocks ws (write-passed ws (length bs) none).fits in rw (blocks_are ws bs none) (f.0, f.1, blocks-least (content_end ws))

  same_length : length (write_class_sheet ws bs).memory ≡ length bs
  same_length =
      rw (write-is ws bs none)
      (length-append (sheet_bytes (content_of ws) (blocks_of ws)) (drop (512 * blocks_of ws) bs)
      ∙ omega (arith, length-bytes (content_of ws) (blocks_of ws), length-drop (512 * blocks_of ws) bs, (write-passed ws (length bs) none).space))

  rest_stays : (i : ℕ) → 512 * blocks_written ws bs ≤ i → get_or (write_class_sheet ws bs).memory i 0 ≡ get_or bs i 0
  rest_stays i l =
      let h : 512 * blocks_of ws ≤ i = rw (blocks_are ws bs none) at l in
      let q : 512 * blocks_of ws + (i - 512 * blocks_of ws) ≡ i = omega arith in
      rw (write-is ws bs none)
      (skip (sheet_bytes (content_of ws) (blocks_of ws)) (drop (512 * blocks_of ws) bs) i (i - 512 * blocks_of ws) 0
      (omega (arith, length-bytes (content_of ws) (blocks_of ws)))
      ∙ get_or-drop (512 * blocks_of ws) bs (i - 512 * blocks_of ws) 0 ∙ rw q)

-- ---- rows 3 to 5

and-true : (a : Bool) → (a && true) ≡ a
and-true true = refl
and-true false = refl

as_for_a_link : (ws abi : List ℕ) → ValidAbi abi → link_rows ws ≡ set_refusal ws abi
unfolding link_rows class_refusal set_refusal set_fits records_refusal
as_for_a_link ws abi v =
    let t = abi-tests abi v in
    rw (
      t.0,
      t.1,
      t.2,
      and-true (class_fits ws),
      and-true (class_records ws (text_of ws)),
      and-true (class_descriptors ws (text_of ws)),
    )

pub round_trip : RoundTrip
round_trip =
    record {
      write_read = write_read;
      same_content = same_content;
      read_write = read_write;
      domain = domain;
      domain_blocks = λ ws room lent small fits l h. rw (bytes-rows ws small fits lent h) (domain ws room fits l);
      as_for_a_link = as_for_a_link;
      few = few;
      rest_stays = λ ws bs a. (same_length ws bs a, rest_stays ws bs a);
    }
