-- Forward, then back: the blocks of the new content are read as that content and zeros; without the static words, which are the sums, it is the old
-- content again, whose blocks the first sheet was. Assumes nothing.
use Rattle.std.proofs.Common.{◌≡◌, refl, sym, ap, ◌∙◌, true, false, List, ◌++◌, ℕ, ◌+◌, ◌*◌, ◌-◌, ◌/◌, ◌%◌, ◌^◌, ◌≤◌, ◌<◌, arith, length, get_or, take, drop, replicate, take_at, length-take-le, eqb, ltb, eq-eqb, le-ltb, ltb-true, ltb-false}
use lib.ListN.{get_or-eq_default}
use Rattle.words.specs.Folds.{table}
use Rattle.words.proofs.Bools.{by}
use Rattle.words.proofs.FoldLaws.{all-if, length-table, get_d_table}
use Rattle.words.specs.Words.{AreWords, AreBytes}
use Rattle.block.specs.Block.{block_count, sheet_words, blocks_for, sheet_bytes}
use Rattle.block.proofs.PackLaws.{length-bytes}
use Rattle.class_sheet.specs.ClassSheet as layout
use Rattle.class_sheet.specs.ClassSheet.{counts_width, class_width, static_words_word, kind_word, class_count_number, block_limit, class_count, text_length, content_end, class_kind, class_static_words, text_of}
use Rattle.class_sheet.specs.Sections.{Sections, Formed, laid_out, sections_by, end_by, with_rest}
use Rattle.class_sheet.proofs.Sections as S
use Rattle.sheet.specs.Sheet.{block_refusal}
use Rattle.set_rules.specs.Valid.{IsClass}
use Rattle.set_rules.proofs.Alike.{Alike}
use Rattle.linking.specs.Fields.{static_words}
use Rattle.statics.proofs.Numbering.{most}
use Rattle.writer.specs.Writer.{blocks_of}
use Rattle.writer.proofs.Laws.{few-blocks, write-accepts}
use Rattle.writer.proofs.RoundTrip.{round_trip}
use Rattle.writer.proofs.Blocks.{sheet-passed, padded, blocks-words, words_small, whole, again-blocks, again}
use Rattle.convert.specs.Convert.{old_width, old_end, old_text_at, widened_sections, widened, judged, old_rows, old_sheet_refusal, forward_statics, keeps_statics, drops_statics, blocks_or_row, room_refusal, forward, narrowed, new_sheet_refusal, narrow_refusal, narrow_sheet}
use Rattle.convert.specs.Steps.{widened_word}
use Rattle.convert.proofs.Forms.{narrow-widen, old_sections, old-formed, old-words, old-length, new-formed, widened-length, widened-count, widened-at}
use Rattle.convert.proofs.Calls.{three, fits-end}
use Rattle.conversion.specs.Converted.{sheet_made}
use Rattle.conversion.proofs.Same.{sum_same}
use Rattle.conversion.proofs.Forward.{fitted, J-valid, followed_alike, followed_text, forward-statics, forward-count, forward-end, forward-fits, forward-content, forward-blocks, forward-passed}

old-inside : (ws : List ℕ) → 4 * old_text_at ws + text_length ws ≤ 4 * old_end ws
unfolding end_by
old-inside ws = omega arith

-- the blocks of a conversion that is not refused
pub made-is : (ws out : List ℕ) → 512 * blocks_for (length ws) ≤ length out → sheet_made (blocks_or_row 0 ws out) ≡ sheet_bytes ws (blocks_for (length ws))
unfolding blocks_or_row
made-is ws out l =
    take_at (sheet_bytes ws (blocks_for (length ws))) (drop (512 * blocks_for (length ws)) out) (512 * blocks_for (length ws))
    (length-bytes ws (blocks_for (length ws)))

-- words made wider are words
module _ (ws : List ℕ) (small : AreWords ws) (fits : old_end ws ≤ length ws) (f : ℕ → ℕ) (few : (c : ℕ) → f c < 2 ^ 32) where
  abbrev ss : List ℕ
  ss = table (class_count ws) (λ i. f (i + 1))

  ss-small : (i : ℕ) → get_or ss i 0 < 2 ^ 32
  ss-small i =
      by (ltb i (class_count ws))
      (λ t. rw (get_d_table (class_count ws) (λ i. f (i + 1)) i (ltb-true _ _ t)) (few (i + 1)))
      (λ t.
      let past : length ss ≤ i = omega (arith, length-table (class_count ws) (λ i. f (i + 1)), ltb-false i (class_count ws) t) in
      rw (get_or-eq_default ss 0 past) (omega arith))

  word_small : (j : ℕ) → widened_word ws ss j < 2 ^ 32
  unfolding widened_word
  word_small j =
      by (ltb j counts_width)
      (λ p. rw p (small j))
      (λ p.
      by (ltb j (counts_width + class_width * class_count ws))
      (λ q.
      by (eqb ((j - counts_width) % class_width) old_width) (λ e. rw (p, q, e) (ss-small ((j - counts_width) / class_width)))
      (λ e. rw (p, q, e) (small (counts_width + old_width * ((j - counts_width) / class_width) + (j - counts_width) % class_width))))
      (λ q. rw (p, q) (small (j - class_count ws))))

  pub widened_small : AreWords (widened ws f)
  widened_small j =
      by (ltb j (content_end ws))
      (λ t.
      let h = ltb-true j (content_end ws) t in
      rw (widened-at ws fits f ss (λ i l. sym (get_d_table (class_count ws) (λ i. f (i + 1)) i l)) j h) (word_small j))
      (λ t.
      let past : length (widened ws f) ≤ j = omega (arith, widened-length ws fits f, ltb-false j (content_end ws) t) in
      rw (get_or-eq_default (widened ws f) 0 past) (omega arith))

-- ---- a sheet that forward accepts

module _ (bs : List ℕ) (small : AreBytes bs) (accepted : old_sheet_refusal bs ≡ 0) where
  abbrev ws : List ℕ
  ws = sheet_words bs

  rows : (block_refusal bs layout.sheet_words block_limit ≡ 0) × (old_rows ws ≡ 0)
  unfolding old_sheet_refusal
  rows = sheet-passed old_rows bs layout.sheet_words accepted

  fits : old_end ws ≤ length ws
  fits = fits-end ws (fitted ws rows.1)

  abbrev J : List ℕ
  J = judged ws

  abbrev F : ℕ → ℕ
  F = forward_statics J (text_of J)

  sums_few : (c : ℕ) → F c < 2 ^ 32
  unfolding forward_statics
  sums_few c =
      by (eqb (class_kind J c) 1) (λ t. rw t (omega (arith, most J (text_of J) c))) (λ t. rw t (omega arith))

  pub forward-small : AreWords (forward ws)
  unfolding forward
  forward-small = widened_small ws (words_small bs layout.sheet_words small rows.0) fits F sums_few

  -- the old content, from what the new blocks are read as
  abbrev tail : List ℕ
  tail = replicate (127 * blocks_for (length (forward ws)) - length (forward ws)) 0

  back-content : narrowed (padded (forward ws)) ≡ take (old_end ws) ws
  unfolding narrowed forward widened
  back-content =
      let s : Sections = with_rest (widened_sections ws F) tail in
      let g : Formed class_width s =
      record {
        classes = (new-formed ws fits F).classes;
        methods = (new-formed ws fits F).methods;
        fields = (new-formed ws fits F).fields;
        text = (new-formed ws fits F).text;
      } in
      rw (S.laid_more (widened_sections ws F) tail, S.sections-laid class_width s g, narrow-widen F 1 (old-formed ws fits).classes)
      (sym (take_at (laid_out (old_sections ws fits)) (sections_by old_width ws).rest (old_end ws) (old-length ws fits))
      ∙ ap (λ (x : List ℕ). take (old_end ws) x) (old-words ws fits))

  -- its static words are the sums
  abbrev P : List ℕ
  P = padded (forward ws)

  P-alike : Alike P J
  P-alike = followed_alike ws rows.1 tail

  J-class : (c : ℕ) → 1 ≤ c → c ≤ class_count ws → IsClass J c
  J-class c l h = (l, omega (arith, widened-count ws fits (λ c. 0)))

  P-statics : (c : ℕ) → 1 ≤ c → c ≤ class_count ws → class_static_words P c ≡ F c
  P-statics c l h =
      let n : c ≤ class_count (forward ws) = omega (arith, forward-count ws rows.1) in
      S.class-kept (forward ws) tail (forward-end ws rows.1) c static_words_word l n (omega arith) ∙ forward-statics ws rows.1 c l h

  kept : (c : ℕ) → 1 ≤ c → c ≤ class_count ws → keeps_statics P (text_of P) c ≡ true
  unfolding keeps_statics forward_statics
  kept c l h =
      let k = J-class c l h in
      let kind : class_kind P c ≡ class_kind J c = P-alike.classes c k.0 k.1 kind_word refl in
      by (eqb (class_kind J c) 1)
      (λ t.
      let sum : class_static_words P c ≡ static_words P (text_of P) c =
      P-statics c l h ∙ rw t (rw (followed_text ws rows.1 tail) (sym (sum_same P J P-alike (J-valid ws rows.1) (text_of J) c k))) in
      rw (kind, t) (eq-eqb _ _ sum))
      (λ t. rw (kind, t))

  keeps : drops_statics P ≡ false
  unfolding drops_statics
  keeps =
      let n : class_count P ≡ class_count ws = P-alike.counts class_count_number refl ∙ widened-count ws fits (λ c. 0) in
      rw (n, all-if (class_count ws) (λ i. keeps_statics P (text_of P) (i + 1)) (λ i h. kept (i + 1) (omega arith) (omega arith)))

  -- ---- the blocks of the new content are a sheet of the new form

  abbrev B : List ℕ
  B = sheet_bytes (forward ws) (blocks_for (length (forward ws)))

  new-sheet : new_sheet_refusal B ≡ 0
  new-sheet =
      let f = few-blocks (forward ws) (forward-fits ws rows.1) in
      let p = forward-passed ws rows.1 (512 * blocks_of (forward ws)) (omega arith) in
      rw (forward-content ws rows.1, forward-blocks ws rows.1) at
      ((round_trip.domain_blocks (forward ws) (512 * blocks_of (forward ws)) layout.sheet_words forward-small (forward-fits ws rows.1) (omega arith)
      (omega arith)).0 (write-accepts (forward ws) (512 * blocks_of (forward ws)) p))

  again-old : (sheet_bytes (take (old_end ws) ws) (blocks_for (old_end ws)) ≡ bs) × (blocks_for (old_end ws) ≡ block_count bs)
  again-old =
      let t = three ws (fitted ws rows.1) in (
        again bs layout.sheet_words small rows.0 (old_end ws) (4 * old_text_at ws + text_length ws) t.1 (old-inside ws) t.2,
        (again-blocks bs layout.sheet_words small rows.0 (old_end ws) (4 * old_text_at ws + text_length ws) t.1 (old-inside ws) t.2).1,
      )

  pub back-again : (lent : List ℕ) → length bs ≤ length lent
      → narrow_sheet B lent ≡ record { refusal = 0; blocks = block_count bs; memory = bs ++ drop (length bs) lent }
  unfolding narrow_sheet narrow_refusal room_refusal blocks_or_row
  back-again lent l =
      let n : length (take (old_end ws) ws) ≡ old_end ws = length-take-le (old_end ws) ws fits in
      let w : length bs ≡ 512 * block_count bs = whole bs layout.sheet_words small rows.0 in
      let b : sheet_bytes (take (old_end ws) ws) (block_count bs) ≡ bs = rw again-old.1 at again-old.0 in
      rw (
        new-sheet,
        blocks-words (forward ws) forward-small,
        keeps,
        back-content,
        n,
        again-old.1,
        le-ltb (length lent) (512 * block_count bs) (omega arith),
        b,
        w,
      )
