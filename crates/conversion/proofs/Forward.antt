-- Forward, of a sheet that rows 1 to 5 of the old form accept: the new content is storable, so that forward is its writing. Assumes nothing.
use Rattle.std.proofs.Common.{◌≡◌, refl, sym, ap, ◌∙◌, true, not, ◌&&◌, List, [], ◌++◌, ℕ, ◌+◌, ◌*◌, ◌-◌, ◌/◌, ◌%◌, ◌≤◌, ◌<◌, arith, length, get_or, take_all, eqb, ltb, eqb-true, le-leb, ltb-true, ltb-false}
use mathlib.Core.Bool.{or-true}
use borrow.Author.Tests.{eqb-false, not-false}
use Rattle.words.specs.Rows.{row_word}
use Rattle.words.specs.Folds.{all_of}
use Rattle.words.proofs.Bools.{by, and_both, passed}
use Rattle.words.proofs.FoldLaws.{all-each, all-if}
use Rattle.block.specs.Block.{sheet_words, blocks_for}
use Rattle.text.specs.Text.{text_byte, zero_rest}
use Rattle.class_sheet.specs.ClassSheet.{counts_width, class_width, static_words_word, kind_word, table_place_word, slot_count_word, class_count_number, method_count_number, field_count_number, interface_count_number, compiler_count_number, text_length_number, count_at, class_count, text_length, methods_at, fields_at, interfaces_at, compilers_at, text_at, content_end, class_kind, is_built_kind, class_static_words, text_of}
use Rattle.class_sheet.specs.Sections.{sections_by}
use Rattle.class_sheet.proofs.Sections as S
use Rattle.class_rules.specs.ClassRules.{class_limits, class_fits, unlinked, statics_clean, fresh, all_fresh, class_records}
use Rattle.class_rules.proofs.CountLaws.{limits_same, text_at_same, content_same}
use Rattle.set_rules.specs.SetRules.{class_refusal, class_descriptors}
use Rattle.set_rules.specs.Valid.{IsClass, Valid}
use Rattle.set_rules.proofs.Valid.{valid-class}
use Rattle.set_rules.proofs.Alike.{Alike, refusal-alike}
use Rattle.writer.specs.Writer.{content_of, blocks_of, storable, write_class_sheet}
use Rattle.writer.proofs.Laws.{Passed, write-accepts}
use Rattle.writer.proofs.Zeros.{past-byte, zero-each, zero-all}
use Rattle.convert.specs.Convert.{old_width, old_end, old_text_at, widen, widened_sections, widened, judged, old_fits, old_form, old_rows, old_sheet_refusal, forward_statics, blocks_or_row, room_refusal, forward, widen_refusal, widen_sheet}
use Rattle.convert.proofs.Judging.{old-text}
use Rattle.convert.proofs.Forms.{length-widen, widen-word, old-formed, new-formed, widened-length, widened-count, widened-statics, widened-front, widened-after}
use Rattle.convert.proofs.Calls.{three, fits-end, rows_fit}
use Rattle.conversion.proofs.Same.{sections-alike, text_same}

-- the records stand before the text
records-before : (ws : List ℕ) → counts_width + class_width * class_count ws ≤ text_at ws
unfolding text_at compilers_at interfaces_at fields_at methods_at
records-before ws = omega arith

-- ---- words of the new form from old words that fit

module _ (ws : List ℕ) (fitted : old_fits ws ≡ true) (f : ℕ → ℕ) where
  fits : old_end ws ≤ length ws
  fits = fits-end ws fitted

  abbrev new : List ℕ
  new = widened ws f

  count_same : (k : ℕ) → k < counts_width → count_at new k ≡ count_at ws k
  unfolding count_at
  count_same k h = widened-front ws fits f k h

  pub limits-same : class_limits new ≡ true
  limits-same = limits_same new ws count_same ∙ (three ws fitted).0

  pub end_same : content_end new ≡ content_end ws
  end_same = content_same new ws count_same

  pub text-at-same : text_at new ≡ text_at ws
  text-at-same = text_at_same new ws count_same

  pub new-length : length new ≡ content_end new
  new-length = widened-length ws fits f ∙ sym end_same

  pub new-fits : class_fits new ≡ true
  unfolding class_fits
  new-fits = rw (limits-same, le-leb (content_end new) (length new) (omega (arith, new-length)))

  pub new-content : content_of new ≡ new
  new-content = take_all (content_end new) new (omega (arith, new-length))

  -- a byte after the text stands four a class further on than in the old words
  byte-after : (b : ℕ) → 4 * text_at ws ≤ b → b / 4 < content_end ws → text_byte new b ≡ text_byte ws (b - 4 * class_count ws)
  unfolding text_byte
  byte-after b h inside =
      let n : ℕ = class_count ws in
      let at : ℕ = counts_width + class_width * n in
      let here : at ≤ b / 4 = omega (arith, records-before ws) in
      let z : at + (b / 4 - at) ≡ b / 4 = omega arith in
      let y : counts_width + old_width * n + (b / 4 - at) ≡ (b - 4 * n) / 4 = omega arith in
      let m : b % 4 ≡ (b - 4 * n) % 4 = omega arith in
      let w : get_or new (b / 4) 0 ≡ get_or ws ((b - 4 * n) / 4) 0 = rw (z, y) at (widened-after ws fits f (b / 4 - at) (omega arith)) in
      rw (w, m)

  zero-byte : (b : ℕ) → 4 * text_at new + text_length new ≤ b → text_byte new b ≡ 0
  zero-byte b h =
      let l : 4 * text_at ws + text_length ws ≤ b = omega (arith, text-at-same, count_same text_length_number (omega arith)) in
      by (ltb (b / 4) (content_end ws))
      (λ q.
      byte-after b (omega arith) (ltb-true _ _ q)
      ∙ zero-each ws (4 * old_text_at ws + text_length ws) (three ws fitted).2 (b - 4 * class_count ws) (omega (arith, old-text ws)))
      (λ q. let out = ltb-false (b / 4) (content_end ws) q in past-byte new b (omega (arith, widened-length ws fits f)))

  pub new-zeros : zero_rest new (4 * text_at new + text_length new) ≡ true
  new-zeros = zero-all new (4 * text_at new + text_length new) zero-byte

-- ---- the words that forward writes

module _ (ws : List ℕ) (accepted : old_rows ws ≡ 0) where
  pub fitted : old_fits ws ≡ true
  fitted = rows_fit ws accepted

  old-fits : old_end ws ≤ length ws
  old-fits = fits-end ws fitted

  abbrev J : List ℕ
  J = judged ws

  abbrev F : ℕ → ℕ
  F = forward_statics J (text_of J)

  both : (all_of (class_count ws) (λ i. unlinked J (i + 1)) ≡ true) × (class_refusal J (text_of J) ≡ 0)
  unfolding old_rows old_form
  both =
      let p = passed (not (old_fits ws && all_of (class_count ws) (λ i. unlinked J (i + 1)))) 3 _ (omega arith) accepted in
      ((and_both (old_fits ws) _ (not-false _ p.0)).1, p.1)

  pub J-valid : Valid J
  unfolding class_refusal
  J-valid =
      let p = passed (not (class_records J (text_of J))) 4 _ (omega arith) both.1 in
      let q = passed (not (class_descriptors J (text_of J))) 5 0 (omega arith) p.1 in
      valid-class J (new-fits ws fitted (λ c. 0)) (not-false _ p.0) (not-false _ q.0)

  J-class : (c : ℕ) → 1 ≤ c → c ≤ class_count ws → IsClass J c
  J-class c l h = (l, omega (arith, widened-count ws old-fits (λ c. 0)))

  same_number : length (widen F 1 (sections_by old_width ws).classes) ≡ length (widened_sections ws (λ c. 0)).classes
  same_number = length-widen F 1 (sections_by old_width ws).classes ∙ sym (length-widen (λ c. 0) 1 (sections_by old_width ws).classes)

  same-words : (i k : ℕ) → i < length (widened_sections ws (λ c. 0)).classes → k < static_words_word
      → row_word (widen F 1 (sections_by old_width ws).classes) i k ≡ row_word (widened_sections ws (λ c. 0)).classes i k
  same-words i k h g =
      widen-word F 1 (old-formed ws old-fits).classes i k g ∙ sym (widen-word (λ c. 0) 1 (old-formed ws old-fits).classes i k g)

  -- also where words follow them
  pub followed_alike : (y : List ℕ) → Alike (forward ws ++ y) J
  unfolding forward widened
  followed_alike y =
      rw (S.laid_more (widened_sections ws F) y)
      (sections-alike (widened_sections ws (λ c. 0)) (widen F 1 (sections_by old_width ws).classes) y (new-formed ws old-fits (λ c. 0))
      (new-formed ws old-fits F).classes same_number same-words)

  pub followed_text : (y : List ℕ) → text_of (forward ws ++ y) ≡ text_of J
  unfolding forward widened
  followed_text y =
      rw (S.laid_more (widened_sections ws F) y)
      (text_same (widened_sections ws (λ c. 0)) (widen F 1 (sections_by old_width ws).classes) y (new-formed ws old-fits (λ c. 0))
      (new-formed ws old-fits F).classes same_number same-words)

  pub forward-alike : Alike (forward ws) J
  unfolding forward widened
  forward-alike =
      sections-alike (widened_sections ws (λ c. 0)) (widen F 1 (sections_by old_width ws).classes) [] (new-formed ws old-fits (λ c. 0))
      (new-formed ws old-fits F).classes same_number same-words

  pub forward-text : text_of (forward ws) ≡ text_of J
  unfolding forward widened
  forward-text =
      text_same (widened_sections ws (λ c. 0)) (widen F 1 (sections_by old_width ws).classes) [] (new-formed ws old-fits (λ c. 0))
      (new-formed ws old-fits F).classes same_number same-words

  pub forward-rows : class_refusal (forward ws) (text_of (forward ws)) ≡ 0
  forward-rows = rw forward-text (refusal-alike (forward ws) J forward-alike (text_of J) ∙ both.1)

  pub forward-statics : (c : ℕ) → 1 ≤ c → c ≤ class_count ws → class_static_words (forward ws) c ≡ F c
  unfolding forward
  forward-statics c l h = widened-statics ws old-fits F c l h

  pub forward-kind : (c : ℕ) → 1 ≤ c → c ≤ class_count ws → class_kind (forward ws) c ≡ class_kind J c
  forward-kind c l h = let k = J-class c l h in forward-alike.classes c k.0 k.1 kind_word refl

  class-unlinked : (c : ℕ) → 1 ≤ c → c ≤ class_count ws → unlinked (forward ws) c ≡ unlinked J c
  unfolding unlinked
  class-unlinked c l h =
      let k = J-class c l h in
      rw (forward-alike.classes c k.0 k.1 table_place_word refl, forward-alike.classes c k.0 k.1 slot_count_word refl)

  class-clean : (c : ℕ) → 1 ≤ c → c ≤ class_count ws → statics_clean (forward ws) c ≡ true
  unfolding is_built_kind statics_clean forward_statics
  class-clean c l h =
      by (eqb (class_kind J c) 1)
      (λ t.
      let one : class_kind (forward ws) c ≡ 1 = forward-kind c l h ∙ eqb-true _ _ t in
      rw one (or-true (eqb (class_static_words (forward ws) c) 0)))
      (λ t.
      let none : class_static_words (forward ws) c ≡ 0 = forward-statics c l h ∙ simp t in
      rw none)

  forward-fresh : all_fresh (forward ws) ≡ true
  unfolding fresh forward
  forward-fresh =
      rw (widened-count ws old-fits F)
      (all-if (class_count ws) (λ i. fresh (forward ws) (i + 1))
      (λ i h.
      let u = all-each (class_count ws) (λ i. unlinked J (i + 1)) both.0 i h in
      rw (class-unlinked (i + 1) (omega arith) (omega arith), u, class-clean (i + 1) (omega arith) (omega arith))))

  forward-storable : storable (forward ws) ≡ true
  unfolding storable forward
  forward-storable = rw (forward-fresh, new-content ws fitted F) (new-zeros ws fitted F)

  pub forward-passed : (room : ℕ) → 512 * blocks_of (forward ws) ≤ room → Passed (forward ws) room
  unfolding forward
  forward-passed room l = record { fits = new-fits ws fitted F; rows = forward-rows; store = forward-storable; space = l }

  pub forward-blocks : blocks_of (forward ws) ≡ blocks_for (length (forward ws))
  unfolding forward
  forward-blocks = ap blocks_for (sym (new-length ws fitted F))

  pub forward-fits : class_fits (forward ws) ≡ true
  unfolding forward
  forward-fits = new-fits ws fitted F

  pub forward-count : class_count (forward ws) ≡ class_count ws
  unfolding forward
  forward-count = widened-count ws old-fits F

  pub forward-length : length (forward ws) ≡ content_end ws
  unfolding forward
  forward-length = widened-length ws old-fits F

  pub forward-end : content_end (forward ws) ≤ length (forward ws)
  unfolding forward
  forward-end = omega (arith, new-length ws fitted F)

  pub forward-content : content_of (forward ws) ≡ forward ws
  unfolding forward
  forward-content = new-content ws fitted F

  -- forward is the writing of these words
  pub forward_writing : (out : List ℕ) → 512 * blocks_for (length (forward ws)) ≤ length out
      → blocks_or_row 0 (forward ws) out ≡ write_class_sheet (forward ws) out
  unfolding blocks_or_row write_class_sheet
  forward_writing out l =
      let w = write-accepts (forward ws) (length out) (forward-passed (length out) (omega (arith, forward-blocks))) in
      rw (w, forward-blocks, forward-content)

-- ---- what an accepted call has passed

pub roomed : (ws : List ℕ) (room : ℕ) → room_refusal ws room ≡ 0 → 512 * blocks_for (length ws) ≤ room
unfolding room_refusal
roomed ws room e = let p = passed (ltb room (512 * blocks_for (length ws))) 18 0 (omega arith) e in ltb-false _ _ p.0

pub no_row : (row : ℕ) (ws out : List ℕ) → (blocks_or_row row ws out).refusal ≡ 0 → row ≡ 0
unfolding blocks_or_row
no_row row ws out e = by (eqb row 0) (λ q. eqb-true _ _ q) (λ q. absurd (eqb-false _ _ q (rw q at e)))

pub widen-passed : (bs out : List ℕ) → (widen_sheet bs out).refusal ≡ 0
    → (old_sheet_refusal bs ≡ 0) × (512 * blocks_for (length (forward (sheet_words bs))) ≤ length out) × (widen_refusal bs (length out) ≡ 0)
unfolding widen_sheet widen_refusal
widen-passed bs out e =
    let r = no_row (widen_refusal bs (length out)) (forward (sheet_words bs)) out e in
    by (eqb (old_sheet_refusal bs) 0)
    (λ q. (eqb-true _ _ q, roomed (forward (sheet_words bs)) (length out) (rw q at r), r))
    (λ q. absurd (eqb-false _ _ q (rw q at r)))
