-- Member records read from the part of the words that begins with the first of them. Assumes nothing.
use Rattle.std.specs.Prelude.{ℕ, ◌+◌, ◌*◌, Bool, ◌&&◌, List, get_or, drop, eqb, Option}
use Rattle.words.specs.Lists.{numbers, find}
use Rattle.text.specs.Text.{name_start_word, name_length_word, descriptor_start_word, descriptor_length_word, name_at, same_bytes}
use Rattle.class_sheet.specs.ClassSheet.{member_width, method_limit, target_word, methods_at}
use Rattle.linking.specs.Chain.{list_count}

-- the words from the first method record on
unfoldable pub method_records : List ℕ → List ℕ
method_records ws = drop (methods_at ws) ws

-- word k of record m, of records of this width
unfoldable pub record_word : List ℕ → ℕ → ℕ → ℕ → ℕ
record_word records width m k = get_or records (width * m + k) 0

-- record m, which begins with its name's start and length and its descriptor's, has this name and descriptor
unfoldable pub record_is : List ℕ → ℕ → List ℕ → ℕ → List ℕ → List ℕ → Bool
record_is records width text m name descriptor =
    same_bytes (name_at text (record_word records width m name_start_word) (record_word records width m name_length_word)) name
    && same_bytes (name_at text (record_word records width m descriptor_start_word) (record_word records width m descriptor_length_word)) descriptor

-- the first with this target of the method records that a list asks for
unfoldable pub first_target : List ℕ → ℕ → ℕ → ℕ → Option ℕ
first_target records first count t = find (λ m. eqb (record_word records member_width m target_word) t) (numbers first (list_count first count method_limit))
