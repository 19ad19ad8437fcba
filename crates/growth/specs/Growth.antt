-- What the growth of a list leaves in the class words, where there is room for it, and else nothing. Assumes nothing.
use Rattle.std.specs.Prelude.{ℕ, ◌+◌, ◌*◌, ◌-◌, ◌≤◌, Bool, cond, not, ◌&&◌, Option, Some, None, List, ◌++◌, length, take, drop, leb}
use Rattle.words.specs.Words.{inside}
use Rattle.class_sheet.specs.ClassSheet.{member_width, method_limit, text_limit, sheet_words, text_length, text_at, text_of, methods_at, fields_at, interfaces_at, class_kind, is_built_kind, method_count, field_count, class_first_method, class_method_count, class_first_field, class_field_count, put_method_count, put_field_count, put_text_length, put_class_first_method, put_class_method_count, put_class_first_field, put_class_field_count}
use Rattle.linking.specs.Compiler.{New}
use Rattle.growth.specs.declared.news.Member.{Member}
use Rattle.growth.specs.News.{news_numbers}
use Rattle.growth.specs.declared.Section.{Section}
use Rattle.growth.specs.declared.Grown.{Grown}
use Rattle.linking.specs.Set.{write_at, new_records, new_text, packed, grown_methods, grown_fields, section_full, grown_end}

-- elements laid over a list from place k on, where there is room for them, and else nothing (the program's choice), and where they end
unfoldable pub laid : List ℕ → ℕ → List ℕ → List ℕ
laid l k xs = cond (leb (k + length xs) (length l)) (write_at l k xs) l

unfoldable pub laid_end : List ℕ → ℕ → List ℕ → ℕ
laid_end l k xs = cond (leb (k + length xs) (length l)) (k + length xs) k

-- the list of `own` from `first` on lies in its section of `count`; neither row 14 nor row 15 refuses; and the grown content has at most
-- as many words as a class sheet can have
unfoldable pub can_grow : List ℕ → ℕ → ℕ → ℕ → List New → Bool
can_grow ws count first own new =
    inside first own count
    && not (section_full ws count own new)
    && leb (grown_end ws own new) sheet_words
    && leb (grown_end ws own new) (length ws)

unfoldable pub methods_grown : List ℕ → ℕ → List New → List ℕ
methods_grown ws c new =
    cond (can_grow ws (method_count ws) (class_first_method ws c) (class_method_count ws c) new) (grown_methods ws c new ws) ws

unfoldable pub fields_grown : List ℕ → ℕ → List ℕ → List New → List ℕ
fields_grown ws c indices new =
    cond (can_grow ws (field_count ws) (class_first_field ws c) (class_field_count ws c) new) (grown_fields ws c indices new ws) ws

-- ---- what is written at the end of a section

-- the words from the section's end on: the list's records, which begin at `from`, the new ones, the sections after, and the text
unfoldable pub tail_of : List ℕ → ℕ → ℕ → ℕ → List New → List ℕ
tail_of ws end from own new =
    take (member_width * own) (drop from ws)
    ++ (new_records (text_length ws) new ++ (take (text_at ws - end) (drop end ws) ++ packed (text_of ws ++ new_text new)))

-- the counts of the section and of the text, and the class's first and count
unfoldable pub methods_counted : List ℕ → ℕ → ℕ → ℕ → ℕ → List ℕ
methods_counted ws c count members bytes =
    put_class_method_count (put_class_first_method (put_text_length (put_method_count ws (count + members)) bytes) c count) c members

unfoldable pub fields_counted : List ℕ → ℕ → ℕ → ℕ → ℕ → List ℕ
fields_counted ws c count members bytes =
    put_class_field_count (put_class_first_field (put_text_length (put_field_count ws (count + members)) bytes) c count) c members

-- the numbers of the methods of a list once it has grown: those of its own records, and those that the new ones take
unfoldable pub numbers_grown : List ℕ → Section → List Member → List ℕ
numbers_grown numbers list ms = take list.own (drop list.first numbers) ++ news_numbers numbers ms

-- the list lies in its section, its numbers lie below those of the ABI's slots, and the list of numbers has at least those of all methods
unfoldable pub numbers_fit : List ℕ → Section → List Member → Bool
numbers_fit numbers list ms =
    inside list.first list.own list.count && leb (list.count + (list.own + length ms)) method_limit && leb method_limit (length numbers)

-- they are put at the section's end, where there is room for them, and else nothing is (the program's choice)
unfoldable pub numbers_put : List ℕ → Section → List Member → List ℕ
numbers_put numbers list ms = cond (numbers_fit numbers list ms) (write_at numbers list.count (numbers_grown numbers list ms)) numbers

-- there is room for them: what `can_grow` shows
pub record Room (ws : List ℕ) (end from own : ℕ) (new : List New) : Type 0 where
  pub before : from + member_width * own ≤ end
  pub sections : end ≤ text_at ws
  pub bytes : text_length ws + length (new_text new) ≤ text_limit
  pub most : grown_end ws own new ≤ sheet_words
  pub fits : grown_end ws own new ≤ length ws

-- ---- a class's list as the code has it, and what it is once its records, and the new ones, stand at its section's end

abbrev pub methods_of : List ℕ → ℕ → Section
methods_of ws c =
    record {
      count = method_count ws;
      first = class_first_method ws c;
      own = class_method_count ws c;
      at = methods_at ws;
      end = fields_at ws;
    }

abbrev pub fields_of : List ℕ → ℕ → Section
fields_of ws c =
    record {
      count = field_count ws;
      first = class_first_field ws c;
      own = class_field_count ws c;
      at = fields_at ws;
      end = interfaces_at ws;
    }

-- the list that grows where members are added: fields of a built class, any other's methods
unfoldable pub growing : List ℕ → ℕ → Section
growing ws c = cond (is_built_kind (class_kind ws c)) (fields_of ws c) (methods_of ws c)

pub record Placed (ws : List ℕ) (list : Section) : Type 0 where
  pub before : list.at + member_width * list.count ≤ list.end
  pub sections : list.end ≤ text_at ws

abbrev pub grown_list : List ℕ → Section → List New → Grown
grown_list ws list new = record { members = list.own + length new; bytes = text_length ws + length (new_text new) }

unfoldable pub appended : List ℕ → Section → List New → Option Grown × List ℕ
appended ws list new =
    cond (can_grow ws list.count list.first list.own new)
    (Some (grown_list ws list new), write_at ws list.end (tail_of ws list.end (list.at + member_width * list.first) list.own new))
    (None, ws)
