-- The content of a set, alone or with zeros after it, is judged as the set is: rows 4 and 5 and the test of links do not look past the content,
-- and zeros after it are what row 3 of a reading asks for. Assumes nothing.
use mathlib.Core.Path.{◌≡◌, sym, ap, ◌∙◌}
use mathlib.Core.Bool.{true, not}
use mathlib.Core.List.{List, ◌++◌}
use Prim.Native.Nat.{ℕ, ◌+◌, ◌*◌, ◌-◌, ◌≤◌, ◌<◌}
use native.Mathlib.Omega.{arith}
use lib.ListN.{length, take, drop, replicate, length-append, length-replicate, take-append-drop}
use lib.Seq.{take_at, get_or-take, length-take-le}
use lib.Dec.{leb}
use borrow.Author.Tests.{le-leb, not-false}
use Rattle.words.proofs.Bools.{and_both, and_4, passed}
use Rattle.words.proofs.FoldLaws.{all-ext}
use Rattle.block.specs.Block.{least_fit}
use Rattle.block.proofs.Laws.{blocks-least, least-blocks}
use Rattle.text.specs.Text.{zero_rest}
use Rattle.class_sheet.specs.ClassSheet.{class_count_number, compiler_count_number, field_count_number, interface_count_number, method_count_number, text_length_number, counts_width, kind_word, table_place_word, slot_count_word, static_words_word, class_count, text_length, count_at, methods_at, fields_at, interfaces_at, compilers_at, text_at, content_end, text_of}
use Rattle.class_sheet.proofs.Sections as kept
use Rattle.class_rules.specs.ClassRules.{class_limits, class_fits, fresh, all_fresh, class_form}
use Rattle.class_rules.proofs.CountLaws.{limits_same, content_same}
use Rattle.class_rules.proofs.Laws as class
use Rattle.set_rules.specs.SetRules.{class_refusal}
use Rattle.set_rules.proofs.Kept.{class-fits-kept, class-records-kept, class-descriptors-kept}
use Rattle.sheet.specs.Sheet.{class_rows}
use Rattle.writer.specs.Writer.{content_of, blocks_of, storable}
use Rattle.writer.specs.RoundTrip.{padded_content}
use Rattle.writer.proofs.Laws.{content-some}
use Rattle.writer.proofs.Zeros.{zero_same, padded-at}

-- ---- what follows the content

module _ (ws rest : List ℕ) (fits : class_fits ws ≡ true) where
  end : content_end ws ≤ length ws
  end = (class.fits ws fits).1

  pub refusal-longer : class_refusal (ws ++ rest) (text_of (ws ++ rest)) ≡ class_refusal ws (text_of ws)
  unfolding class_refusal
  refusal-longer =
      rw (kept.text-kept ws rest end, class-records-kept ws rest fits (text_of ws), class-descriptors-kept ws rest fits (text_of ws))

  fresh-longer-at : (c : ℕ) → 1 ≤ c → c ≤ class_count ws → fresh (ws ++ rest) c ≡ fresh ws c
  fresh-longer-at c l h =
      class.fresh-same (ws ++ rest) ws c c (kept.class-kept ws rest end c kind_word l h (omega arith))
      (kept.class-kept ws rest end c table_place_word l h (omega arith)) (kept.class-kept ws rest end c slot_count_word l h (omega arith))
      (kept.class-kept ws rest end c static_words_word l h (omega arith))

  pub fresh-longer : all_fresh (ws ++ rest) ≡ all_fresh ws
  fresh-longer =
      rw (kept.count_kept ws rest end class_count_number (omega arith))
      (all-ext (class_count ws) (λ i. fresh (ws ++ rest) (i + 1)) (λ i. fresh ws (i + 1))
      (λ i k. fresh-longer-at (i + 1) (omega arith) (omega arith)))

  pub end-longer : content_end (ws ++ rest) ≡ content_end ws
  end-longer = kept.end_kept ws rest end

  pub text-end-longer : 4 * text_at (ws ++ rest) + text_length (ws ++ rest) ≡ 4 * text_at ws + text_length ws
  unfolding text_at compilers_at interfaces_at fields_at methods_at
  text-end-longer =
      rw (
        kept.count_kept ws rest end class_count_number (omega arith),
        kept.count_kept ws rest end method_count_number (omega arith),
        kept.count_kept ws rest end field_count_number (omega arith),
        kept.count_kept ws rest end interface_count_number (omega arith),
        kept.count_kept ws rest end compiler_count_number (omega arith),
        kept.count_kept ws rest end text_length_number (omega arith),
      )

-- ---- the content alone

module _ (ws : List ℕ) (e : ℕ) (counts : counts_width ≤ e) where
  count_cut : (k : ℕ) → k < counts_width → count_at (take e ws) k ≡ count_at ws k
  unfolding count_at
  count_cut k h = get_or-take e ws k 0 (omega arith)

  end-cut : content_end (take e ws) ≡ content_end ws
  end-cut = content_same (take e ws) ws count_cut

  limits-cut : class_limits (take e ws) ≡ class_limits ws
  limits-cut = limits_same (take e ws) ws count_cut

module _ (ws : List ℕ) (fits : class_fits ws ≡ true) where
  here : content_end ws ≤ length ws
  here = (class.fits ws fits).1

  pub content-length : length (content_of ws) ≡ content_end ws
  content-length = length-take-le (content_end ws) ws here

  whole : content_of ws ++ drop (content_end ws) ws ≡ ws
  whole = take-append-drop (content_end ws) ws

  content-fits : class_fits (content_of ws) ≡ true
  unfolding class_fits
  content-fits =
      rw (
        limits-cut ws (content_end ws) (content-some ws),
        end-cut ws (content_end ws) (content-some ws),
        (and_both (class_limits ws) (leb (content_end ws) (length ws)) fits).0,
        le-leb (content_end ws) (length (content_of ws)) (omega (arith, content-length)),
      )

  -- ---- the content with zeros after it is judged as the set

  abbrev content : List ℕ
  content = content_of ws

  abbrev padding : List ℕ
  padding = replicate (127 * blocks_of ws - content_end ws) 0

  end-content : content_end content ≡ content_end ws
  end-content = end-cut ws (content_end ws) (content-some ws)

  pub content-longer : (rest : List ℕ) → content_of (content ++ rest) ≡ content
  content-longer rest =
      rw (end-longer content rest content-fits, end-content) (take_at content rest (content_end ws) content-length)

  padded-end : content_end (padded_content ws) ≡ content_end ws
  padded-end = end-longer content padding content-fits ∙ end-content

  pub length-padded : length (padded_content ws) ≡ 127 * blocks_of ws
  length-padded =
      let b = least-blocks (content_end ws) (blocks_of ws) (blocks-least (content_end ws)) in
      omega (arith, length-append content padding, content-length, length-replicate {A = ℕ} (127 * blocks_of ws - content_end ws) 0, b.0)

  padded-refusal : class_refusal (padded_content ws) (text_of (padded_content ws)) ≡ class_refusal ws (text_of ws)
  padded-refusal =
      refusal-longer content padding content-fits
      ∙ sym (refusal-longer content (drop (content_end ws) ws) content-fits)
      ∙ ap (λ (x : List ℕ). class_refusal x (text_of x)) whole

  padded-fresh : all_fresh (padded_content ws) ≡ all_fresh ws
  padded-fresh =
      fresh-longer content padding content-fits
      ∙ sym (fresh-longer content (drop (content_end ws) ws) content-fits)
      ∙ ap (λ (x : List ℕ). all_fresh x) whole

  padded-text-end : 4 * text_at (padded_content ws) + text_length (padded_content ws) ≡ 4 * text_at ws + text_length ws
  padded-text-end =
      text-end-longer content padding content-fits
      ∙ sym (text-end-longer content (drop (content_end ws) ws) content-fits)
      ∙ ap (λ (x : List ℕ). 4 * text_at x + text_length x) whole

  padded-limits : class_limits (padded_content ws) ≡ true
  unfolding class_fits
  padded-limits = (and_both (class_limits (padded_content ws)) _ (class-fits-kept content padding content-fits)).0

  padded-least : least_fit (content_end (padded_content ws)) (length (padded_content ws)) ≡ true
  padded-least = rw (padded-end, length-padded) (blocks-least (content_end ws))

  -- row 3 of a reading says what row 17 of a writing does
  pub padded-form : storable ws ≡ true → class_form (padded_content ws) ≡ true
  unfolding storable class_form
  padded-form h =
      let p = and_both (all_fresh ws) (zero_rest content (4 * text_at ws + text_length ws)) h in
      let z : zero_rest (padded_content ws) (4 * text_at ws + text_length ws) ≡ true =
      zero_same content (padded_content ws) _ (λ i. sym (padded-at content (127 * blocks_of ws - content_end ws) i)) p.1 in
      rw (padded-limits, padded-least, padded-text-end, z, padded-fresh) p.0

  pub form-padded : class_form (padded_content ws) ≡ true → storable ws ≡ true
  unfolding storable class_form
  form-padded h =
      let p = and_4 (class_limits (padded_content ws)) (least_fit (content_end (padded_content ws)) (length (padded_content ws)))
      (zero_rest (padded_content ws) (4 * text_at (padded_content ws) + text_length (padded_content ws))) (all_fresh (padded_content ws)) h in
      let z : zero_rest content (4 * text_at ws + text_length ws) ≡ true =
      zero_same (padded_content ws) content _ (λ i. padded-at content (127 * blocks_of ws - content_end ws) i) (rw padded-text-end at p.2) in
      rw (sym padded-fresh ∙ p.3, z)

  pub padded-rows : storable ws ≡ true → class_refusal ws (text_of ws) ≡ 0 → class_rows (padded_content ws) ≡ 0
  unfolding class_rows
  padded-rows s r = rw (padded-form s) (padded-refusal ∙ r)

  pub rows-padded : class_rows (padded_content ws) ≡ 0 → (storable ws ≡ true) × (class_refusal ws (text_of ws) ≡ 0)
  unfolding class_rows
  rows-padded e =
      let p = passed (not (class_form (padded_content ws))) 3 _ (omega arith) e in
      (form-padded (not-false _ p.0), sym padded-refusal ∙ p.1)
