-- Words of one form by their places in words of the other, as the code takes them; no public promise cites it. Assumes nothing.
use Rattle.std.specs.Prelude.{ℕ, ◌+◌, ◌*◌, ◌-◌, ◌/◌, ◌%◌, cond, not, List, length, get_or, eqb, ltb}
use Rattle.class_sheet.specs.ClassSheet.{counts_width, class_width, class_count, content_end, text_of}
use Rattle.words.specs.Folds.{table, stores}
use Rattle.class_rules.specs.ClassRules.{all_fresh}
use Rattle.set_rules.specs.SetRules.{class_refusal}
use Rattle.writer.specs.Writer.{Outcome}
use Rattle.convert.specs.Convert.{old_width, judged, old_rows, forward_statics, drops_statics, forward, narrowed, room_refusal, blocks_or_row}

-- word j of the new form: a class's word k, or its static words, which the list has; what follows the records stands a word a class further on
unfoldable pub widened_word : List ℕ → List ℕ → ℕ → ℕ
widened_word ws statics j =
    cond (ltb j counts_width)
    (get_or ws j 0)
    (cond (ltb j (counts_width + class_width * class_count ws))
    (cond (eqb ((j - counts_width) % class_width) old_width)
    (get_or statics ((j - counts_width) / class_width) 0)
    (get_or ws (counts_width + old_width * ((j - counts_width) / class_width) + (j - counts_width) % class_width) 0))
    (get_or ws (j - class_count ws) 0))

abbrev pub widened_words : List ℕ → List ℕ → List ℕ
widened_words ws statics = table (content_end ws) (widened_word ws statics)

-- word j of the old form
unfoldable pub narrowed_word : List ℕ → ℕ → ℕ
narrowed_word ws j =
    cond (ltb j counts_width)
    (get_or ws j 0)
    (cond (ltb j (counts_width + old_width * class_count ws))
    (get_or ws (counts_width + class_width * ((j - counts_width) / old_width) + (j - counts_width) % old_width) 0)
    (get_or ws (j + class_count ws) 0))

-- rows 3 to 5 of words in the new form that are known to fit
unfoldable pub fresh_rows : List ℕ → ℕ
fresh_rows ws = cond (not (all_fresh ws)) 3 (class_refusal ws (text_of ws))

-- the static words of the classes of an old sheet, in front of a list
abbrev pub forward_words : List ℕ → List ℕ → List ℕ
forward_words ws d = stores (class_count ws) (λ i. forward_statics (judged ws) (text_of (judged ws)) (i + 1)) d

-- the blocks of these words, or 18
abbrev pub put_words : List ℕ → List ℕ → Outcome
put_words ws out = blocks_or_row (room_refusal ws (length out)) ws out

-- rows 3 to 5 and 18, and the blocks, for the words of a sheet that rows 1 and 2 accept
unfoldable pub widen_words : List ℕ → List ℕ → Outcome
widen_words ws out = blocks_or_row (cond (eqb (old_rows ws) 0) (room_refusal (forward ws) (length out)) (old_rows ws)) (forward ws) out

-- rows 23 and 18, and the blocks, for the words of a sheet that rows 1 to 5 accept
unfoldable pub narrow_words : List ℕ → List ℕ → Outcome
narrow_words ws out = blocks_or_row (cond (drops_statics ws) 23 (room_refusal (narrowed ws) (length out))) (narrowed ws) out
