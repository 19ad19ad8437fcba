-- Class sheets of the old form, with 17 words a class record, made ones of the new, with 18, and back; from blocks to blocks. Assumes nothing.
-- "Two terminals still hold sheets made before the eighteenth word. Add a converter to the new record and one back, from blocks to blocks as the
-- writer makes them, no word slice lent."
use Rattle.std.specs.Prelude.{ℕ, ◌+◌, ◌*◌, ◌-◌, Bool, cond, not, ◌&&◌, ◌||◌, List, [], ◌∷◌, ◌++◌, length, take, drop, eqb, ltb}
use Rattle.words.specs.Words.{words_for}
use Rattle.words.specs.Folds.{all_of}
use Rattle.block.specs.Block.{sheet_words, least_fit, blocks_for, sheet_bytes}
use Rattle.text.specs.Text.{zero_rest}
use Rattle.class_sheet.specs.ClassSheet as layout
use Rattle.class_sheet.specs.ClassSheet.{static_words_word, block_limit, class_count, text_length, is_generated, class_static_words, text_of}
use Rattle.class_sheet.specs.Sections.{Sections, laid_out, sections_by, sections_of, end_by, with_classes, with_rest}
use Rattle.class_rules.specs.ClassRules.{class_limits, unlinked}
use Rattle.set_rules.specs.SetRules.{class_refusal}
use Rattle.sheet.specs.Sheet.{sheet_refusal, class_sheet_refusal}
use Rattle.linking.specs.Fields.{static_words}
use Rattle.writer.specs.Writer.{Outcome}

-- ---- the two forms: the same counts and sections; a class record of the old form has the words before the static words

abbrev pub old_width : ℕ
old_width = static_words_word

-- records with f's word for the class's number after each, where the first one's number is c; and without that word
unfoldable pub widen : (ℕ → ℕ) → ℕ → List (List ℕ) → List (List ℕ)
widen f c [] = []
widen f c (r ∷ rs) = (r ++ (f c ∷ [])) ∷ widen f (c + 1) rs

unfoldable pub narrow : List (List ℕ) → List (List ℕ)
narrow [] = []
narrow (r ∷ rs) = take old_width r ∷ narrow rs

-- the content of the new form from words of the old one, with f's word for each class; and the content of the old form from words of the new one
abbrev pub widened_sections : List ℕ → (ℕ → ℕ) → Sections
widened_sections ws f = with_rest (with_classes (sections_by old_width ws) (widen f 1 (sections_by old_width ws).classes)) []

unfoldable pub widened : List ℕ → (ℕ → ℕ) → List ℕ
widened ws f = laid_out (widened_sections ws f)

abbrev pub narrowed_sections : List ℕ → Sections
narrowed_sections ws = with_rest (with_classes (sections_of ws) (narrow (sections_of ws).classes)) []

unfoldable pub narrowed : List ℕ → List ℕ
narrowed ws = laid_out (narrowed_sections ws)

-- ---- "Turned away: rows 1 to 5 of the input's form"

-- where the content of old words ends, and where its text begins
abbrev pub old_end : List ℕ → ℕ
old_end ws = end_by old_width ws

abbrev pub old_text_at : List ℕ → ℕ
old_text_at ws = old_end ws - words_for (text_length ws)

-- what is judged of an old sheet: its words in the new form, no class with static words
abbrev pub judged : List ℕ → List ℕ
judged ws = widened ws (λ c. 0)

-- row 3 does not refuse words of the old form: "a count above its limit, a block count not the least that fits, a nonzero word or byte after the
-- content, or a nonzero table place or slot count"
unfoldable pub old_fits : List ℕ → Bool
old_fits ws = class_limits ws && least_fit (old_end ws) (length ws) && zero_rest ws (4 * old_text_at ws + text_length ws)

unfoldable pub old_form : List ℕ → Bool
old_form ws = old_fits ws && all_of (class_count ws) (λ i. unlinked (judged ws) (i + 1))

-- rows 3 to 5
unfoldable pub old_rows : List ℕ → ℕ
old_rows ws = cond (not (old_form ws)) 3 (class_refusal (judged ws) (text_of (judged ws)))

-- rows 1 to 5 of a sheet of either form, row 1 without its clause on lent words: there is room for 92 blocks
unfoldable pub old_sheet_refusal : List ℕ → ℕ
old_sheet_refusal bs = sheet_refusal block_limit old_rows bs layout.sheet_words

abbrev pub new_sheet_refusal : List ℕ → ℕ
new_sheet_refusal bs = class_sheet_refusal bs layout.sheet_words

-- ---- the static words

-- "Going forward, a generated class gets the sum of its static field widths." A built or array class is not linked, and gets 0.
unfoldable pub forward_statics : List ℕ → List ℕ → ℕ → ℕ
forward_statics ws text c = cond (is_generated ws c) (static_words ws text c) 0

-- "23, after them, if going back drops a generated class's word that is not that sum": this does not hold of class c; and it does of some class
unfoldable pub keeps_statics : List ℕ → List ℕ → ℕ → Bool
keeps_statics ws text c = not (is_generated ws c) || eqb (class_static_words ws c) (static_words ws text c)

unfoldable pub drops_statics : List ℕ → Bool
drops_statics ws = not (all_of (class_count ws) (λ i. keeps_statics ws (text_of ws) (i + 1)))

-- ---- the conversions

-- "from blocks to blocks as the writer makes them": the least number of blocks, or the row that refuses them and no byte changed
unfoldable pub blocks_or_row : ℕ → List ℕ → List ℕ → Outcome
blocks_or_row row ws out =
    cond (eqb row 0)
    (record {
      refusal = 0;
      blocks = blocks_for (length ws);
      memory = sheet_bytes ws (blocks_for (length ws)) ++ drop (512 * blocks_for (length ws)) out;
    })
    (record { refusal = row; blocks = 0; memory = out })

-- "18, last, if the output is too short"
unfoldable pub room_refusal : List ℕ → ℕ → ℕ
room_refusal ws room = cond (ltb room (512 * blocks_for (length ws))) 18 0

-- forward: the content that is written for words of the old form
unfoldable pub forward : List ℕ → List ℕ
forward ws = widened ws (forward_statics (judged ws) (text_of (judged ws)))

unfoldable pub widen_refusal : List ℕ → ℕ → ℕ
widen_refusal bs room = cond (eqb (old_sheet_refusal bs) 0) (room_refusal (forward (sheet_words bs)) room) (old_sheet_refusal bs)

unfoldable pub widen_sheet : List ℕ → List ℕ → Outcome
widen_sheet bs out = blocks_or_row (widen_refusal bs (length out)) (forward (sheet_words bs)) out

-- back
unfoldable pub narrow_refusal : List ℕ → ℕ → ℕ
narrow_refusal bs room =
    cond (eqb (new_sheet_refusal bs) 0)
    (cond (drops_statics (sheet_words bs)) 23 (room_refusal (narrowed (sheet_words bs)) room))
    (new_sheet_refusal bs)

unfoldable pub narrow_sheet : List ℕ → List ℕ → Outcome
narrow_sheet bs out = blocks_or_row (narrow_refusal bs (length out)) (narrowed (sheet_words bs)) out
