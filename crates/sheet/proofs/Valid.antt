-- A sheet that is read holds a valid set, none of whose classes is linked or has static words that a link would write. Assumes nothing.
use mathlib.Core.Path.{◌≡◌, ◌∙◌}
use mathlib.Core.Bool.{Bool, true, not, ◌&&◌}
use mathlib.Core.List.{List, ◌++◌}
use Prim.Native.Nat.{ℕ, ◌+◌, ◌*◌, ◌-◌, ◌≤◌, ◌<◌}
use native.Mathlib.Omega.{arith}
use lib.ListN.{length, drop}
use lib.Dec.{eqb, leb, ltb}
use borrow.Author.Tests.{not-false, eqb-true, eqb-false}
use Rattle.words.proofs.Bools.{by, and_both, and_3, and_4, passed}
use Rattle.words.proofs.FoldLaws.{all-each}
use Rattle.block.specs.Block.{block_count, sheet_words, least_fit}
use Rattle.text.specs.Text.{zero_rest}
use Rattle.class_sheet.specs.ClassSheet.{block_limit, class_width, class_count_number, kind_word, table_place_word, slot_count_word, static_words_word, class_count, text_length, text_at, content_end, text_of, class_word}
use Rattle.abi_sheet.specs.AbiSheet.{abi_block_limit, abi_text_length, abi_text_at, abi_content_end, abi_text_of}
use Rattle.class_rules.specs.ClassRules.{class_limits, class_fits, fresh, all_fresh, class_form, class_records}
use Rattle.class_rules.proofs.Laws.{Fresh, fresh-says}
use Rattle.class_sheet.proofs.Sections.{count_kept, class-kept, text-kept}
use Rattle.abi_rules.specs.AbiRules.{abi_limits, abi_fits, abi_form, abi_records}
use Rattle.set_rules.specs.SetRules.{class_descriptors, class_refusal, abi_descriptors, abi_refusal, set_refusal}
use Rattle.set_rules.specs.Valid.{IsClass, Valid, ValidAbi}
use Rattle.set_rules.proofs.Kept.{class-fits-kept, class-records-kept, class-descriptors-kept, accepted-longer}
use Rattle.set_rules.proofs.Valid.{valid-class, valid-abi}
use Rattle.sheet.specs.Sheet.{block_refusal, sheet_refusal, read_sheet, class_rows, class_sheet_refusal, read_class_sheet, abi_rows, abi_sheet_refusal, read_abi_sheet}

-- rows 1 and 2 passed, the others remain
rows-passed : (limit : ℕ) (rows : List ℕ → ℕ) (bs : List ℕ) (room : ℕ) → sheet_refusal limit rows bs room ≡ 0 → rows (sheet_words bs) ≡ 0
unfolding sheet_refusal
rows-passed limit rows bs room e =
    by (eqb (block_refusal bs room limit) 0) (λ q. rw q at e) (λ q. absurd (eqb-false _ _ q (rw q at e)))

fitted : (l : Bool) (end n : ℕ) → l ≡ true → least_fit end n ≡ true → (l && leb end n) ≡ true
unfolding least_fit
fitted l end n h k = rw (h, (and_both (leb end n) (ltb n (end + 127)) k).0)

module _ (bs : List ℕ) (room : ℕ) (e : class_sheet_refusal bs room ≡ 0) where
  abbrev ws : List ℕ
  ws = sheet_words bs

  pub class-passed : (class_form ws ≡ true) × (class_refusal ws (text_of ws) ≡ 0)
  unfolding class_sheet_refusal class_rows
  class-passed =
      let p = passed (not (class_form ws)) 3 _ (omega arith) (rows-passed block_limit class_rows bs room e) in (not-false _ p.0, p.1)

  pub formed : (class_limits ws ≡ true) × (least_fit (content_end ws) (length ws) ≡ true) × (zero_rest ws (4 * text_at ws + text_length ws) ≡ true)
      × (all_fresh ws ≡ true)
  unfolding class_form
  formed =
      and_4 (class_limits ws) (least_fit (content_end ws) (length ws)) (zero_rest ws (4 * text_at ws + text_length ws)) (all_fresh ws) class-passed.0

  class-tests : (class_fits ws ≡ true) × (class_records ws (text_of ws) ≡ true) × (class_descriptors ws (text_of ws) ≡ true)
  unfolding class_refusal class_fits
  class-tests =
      let p = passed (not (class_records ws (text_of ws))) 4 _ (omega arith) class-passed.1 in
      let q = passed (not (class_descriptors ws (text_of ws))) 5 _ (omega arith) p.1 in
      (fitted (class_limits ws) (content_end ws) (length ws) formed.0 formed.1, not-false _ p.0, not-false _ q.0)

  pub class-sheet-valid : Valid ws
  class-sheet-valid = valid-class ws class-tests.0 class-tests.1 class-tests.2

  pub class-sheet-unlinked : (c : ℕ) → IsClass ws c → Fresh ws c
  class-sheet-unlinked c k =
      let g : c - 1 + 1 ≡ c = omega arith in
      fresh-says ws c (rw g at (all-each (class_count ws) (λ i. fresh ws (i + 1)) formed.3 (c - 1) (omega arith)))

module _ (bs : List ℕ) (room : ℕ) (e : abi_sheet_refusal bs room ≡ 0) where
  abbrev abi : List ℕ
  abi = sheet_words bs

  abi-passed : (abi_form abi ≡ true) × (abi_refusal abi (abi_text_of abi) ≡ 0)
  unfolding abi_sheet_refusal abi_rows
  abi-passed = let p = passed (not (abi_form abi)) 3 _ (omega arith) (rows-passed abi_block_limit abi_rows bs room e) in (not-false _ p.0, p.1)

  abi-tests : (abi_fits abi ≡ true) × (abi_records abi (abi_text_of abi) ≡ true) × (abi_descriptors abi (abi_text_of abi) ≡ true)
  unfolding abi_refusal abi_fits abi_form
  abi-tests =
      let f = and_3 (abi_limits abi) (least_fit (abi_content_end abi) (length abi)) (zero_rest abi (4 * abi_text_at abi + abi_text_length abi)) abi-passed.0 in
      let p = passed (not (abi_records abi (abi_text_of abi))) 4 _ (omega arith) abi-passed.1 in
      let q = passed (not (abi_descriptors abi (abi_text_of abi))) 5 _ (omega arith) p.1 in
      (fitted (abi_limits abi) (abi_content_end abi) (length abi) f.0 f.1, not-false _ p.0, not-false _ q.0)

  pub abi-sheet-valid : ValidAbi abi
  abi-sheet-valid = valid-abi abi abi-tests.0 abi-tests.1 abi-tests.2

-- ---- what a reading leaves is what a link takes

read-memory : (refusal : List ℕ → ℕ → ℕ) (bs out : List ℕ) → (read_sheet refusal bs out).refusal ≡ 0
    → (refusal bs (length out) ≡ 0) × ((read_sheet refusal bs out).memory ≡ sheet_words bs ++ drop (127 * block_count bs) out)
unfolding read_sheet
read-memory refusal bs out e =
    by (eqb (refusal bs (length out)) 0) (λ q. (eqb-true _ _ q, rw q)) (λ q. absurd (eqb-false _ _ q (rw q at e)))

-- the lent words that an accepted reading left are a valid set, no class of it linked or with static words that a link would write
module _ (bs out : List ℕ) (e : (read_class_sheet bs out).refusal ≡ 0) where
  abbrev sheet : List ℕ
  sheet = sheet_words bs

  abbrev rest : List ℕ
  rest = drop (127 * block_count bs) out

  accepted : class_sheet_refusal bs (length out) ≡ 0
  unfolding read_class_sheet
  accepted = (read-memory class_sheet_refusal bs out e).0

  memory-is : (read_class_sheet bs out).memory ≡ sheet ++ rest
  unfolding read_class_sheet
  memory-is = (read-memory class_sheet_refusal bs out e).1

  end : content_end sheet ≤ length sheet
  end = (class-sheet-valid bs (length out) accepted).fits

  longer-valid : Valid (sheet ++ rest)
  longer-valid =
      let t = class-tests bs (length out) accepted in
      valid-class (sheet ++ rest) (class-fits-kept sheet rest t.0)
      (rw (text-kept sheet rest end) (class-records-kept sheet rest t.0 (text_of sheet) ∙ t.1))
      (rw (text-kept sheet rest end) (class-descriptors-kept sheet rest t.0 (text_of sheet) ∙ t.2))

  pub read-valid : Valid (read_class_sheet bs out).memory
  read-valid = rw memory-is longer-valid

  longer-fresh : (c : ℕ) → IsClass (sheet ++ rest) c → Fresh (sheet ++ rest) c
  longer-fresh c k =
      let h : c ≤ class_count sheet = omega (arith, k.1, count_kept sheet rest end class_count_number (omega arith)) in
      let word : (i : ℕ) → i < class_width → class_word (sheet ++ rest) c i ≡ class_word sheet c i = λ i l. class-kept sheet rest end c i k.0 h l in
      let u = class-sheet-unlinked bs (length out) accepted c (k.0, h) in (
        word table_place_word (omega arith) ∙ u.0,
        word slot_count_word (omega arith) ∙ u.1,
        λ kind n. word static_words_word (omega arith) ∙ u.2 (rw (word kind_word (omega arith)) at kind) (λ e. n (word kind_word (omega arith) ∙ e)),
      )

  pub read-fresh : (c : ℕ) → IsClass (read_class_sheet bs out).memory c → Fresh (read_class_sheet bs out).memory c
  read-fresh = rw memory-is longer-fresh

-- rows 3 to 5 of a link accept the lent words that two accepted readings left, whatever follows the sheets in them
pub read-accepted : (bs out labels out' : List ℕ) → (read_class_sheet bs out).refusal ≡ 0 → (read_abi_sheet labels out').refusal ≡ 0
    → set_refusal (read_class_sheet bs out).memory (read_abi_sheet labels out').memory ≡ 0
unfolding read_class_sheet read_abi_sheet
read-accepted bs out labels out' e f =
    let m = read-memory class_sheet_refusal bs out e in
    let n = read-memory abi_sheet_refusal labels out' f in
    let t = class-tests bs (length out) m.0 in
    let u = abi-tests labels (length out') n.0 in
    rw (m.1, n.1)
    (accepted-longer (sheet_words bs) (sheet_words labels) (drop (127 * block_count bs) out) (drop (127 * block_count labels) out')
    t.0 u.0 t.1 u.1 t.2 u.2)
