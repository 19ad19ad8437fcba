-- The theorems on a renumbering, for all class words: what the order is, where 19 stops it, what moves and what stays, what a link and a reading make of
-- it. `order` of proofs/Theorem.antt proves them. Assumes nothing.
use Rattle.std.specs.Prelude.{ℕ, ◌+◌, ◌-◌, ◌≤◌, ◌<◌, ◌≡◌, ◌≢◌, ◌↔◌, Bool, true, ◌&&◌, List, ◌++◌, length, get_or, take, drop, leb}
use Rattle.words.specs.Folds.{all_of}
use Rattle.words.specs.Lists.{numbers}
use Rattle.class_sheet.specs.ClassSheet.{parent_word, counts_width, class_width, member_width, count_at, class_count, method_count, field_count, interface_count, compiler_count, content_end, class_word, method_word, field_word, interface_word, compiler_word, text_of, class_name_start, class_name_length, class_parent, class_name}
use Rattle.text.specs.Text.{part_ok}
use Rattle.block.specs.Block.{sheet_words}
use Rattle.apart.specs.Apart.{apart_before}
use Rattle.class_rules.specs.ClassRules.{class_fits, own_numbers, class_lists, method_record, field_record, interface_names, class_records}
use Rattle.set_rules.specs.SetRules.{class_descriptors, class_refusal, set_refusal}
use Rattle.set_rules.specs.Valid.{IsClass, ValidAbi}
use Rattle.sheet.specs.Sheet.{read_class_sheet, read_unordered_sheet}
use Rattle.renumber.specs.Places.{Named, Before, Settled, up, Returns}
use Rattle.renumber.specs.Renumber.{Outcome, order_of, new_number, renumbered, renumber_form, names_classes, returns, cyclic, renumber_refusal, renumber_def}

-- 3, 4 and 19 do not refuse: with room for the list nothing does
abbrev pub Orderable : List ℕ → Type 0
Orderable ws = renumber_refusal ws (class_count ws) ≡ 0

-- each parent is below its child
abbrev pub Falling : List ℕ → Type 0
Falling ws = (c : ℕ) → IsClass ws c → class_parent ws c < c

-- what an accepted call answers and leaves
abbrev pub accepted : ℕ → List ℕ → List ℕ → Outcome
accepted n ws list = record { refusal = 0; classes = n; set = ws; list = list }

-- c stands in the list at exactly one place
pub record Once (l : List ℕ) (c : ℕ) : Type 0 where
  pub stands : Before l (length l) c
  pub one : (i j : ℕ) → i < length l → j < length l → get_or l i 0 ≡ c → get_or l j 0 ≡ c → i ≡ j

-- ---- the order: "Parents come first, and among those ready the smallest old number goes next."

pub record Ordered (ws l : List ℕ) : Type 0 where
  -- each class once
  pub whole : length l ≡ class_count ws
  pub class : (i : ℕ) → i < class_count ws → IsClass ws (get_or l i 0)
  pub once : (c : ℕ) → IsClass ws c → Once l c
  -- "Parents come first"
  pub parents_first : (i : ℕ) → i < class_count ws → Settled ws l i (get_or l i 0)
  -- "among those ready the smallest old number goes next"
  pub smallest : (i c : ℕ) → i < class_count ws → IsClass ws c → (Before l i c → ⊥) → Settled ws l i c → get_or l i 0 ≤ c

-- ---- what is renumbered: "Parent and interface numbers follow"

-- the words `new` are those of ws with the classes in l's order: class c's record is that of old class `get_or l (c - 1) 0`
pub record Follows (ws l new : List ℕ) : Type 0 where
  -- the i-th of the list is class i + 1, and 0, which is no class, stays 0
  pub number : (i : ℕ) → i < class_count ws → new_number l (get_or l i 0) ≡ i + 1
  pub none : new_number l 0 ≡ 0
  -- records go whole, but for the parent's number; interface words stay where they are
  pub word : (c k : ℕ) → IsClass ws c → k < class_width → k ≢ parent_word → class_word new c k ≡ class_word ws (get_or l (c - 1) 0) k
  pub parent : (c : ℕ) → IsClass ws c → class_parent new c ≡ new_number l (class_parent ws (get_or l (c - 1) 0))
  pub interface : (i : ℕ) → i < interface_count ws → interface_word new i ≡ new_number l (interface_word ws i)
  -- all else reads the same
  pub count : (k : ℕ) → k < counts_width → count_at new k ≡ count_at ws k
  pub method : (m k : ℕ) → m < method_count ws → k < member_width → method_word new m k ≡ method_word ws m k
  pub field : (f k : ℕ) → f < field_count ws → k < member_width → field_word new f k ≡ field_word ws f k
  pub compiler : (i : ℕ) → i < compiler_count ws → compiler_word new i ≡ compiler_word ws i
  pub text : text_of new ≡ text_of ws
  pub rest : drop (content_end new) new ≡ drop (content_end ws) ws
  pub length_is : length new ≡ length ws
  -- so each class keeps its name, and the names of its parents in order and of its interfaces
  pub name : (c : ℕ) → IsClass ws c → class_name new (text_of new) (new_number l c) ≡ class_name ws (text_of ws) c
  pub ancestor : (i c : ℕ) → IsClass ws c → up new i (new_number l c) ≡ new_number l (up ws i c)
  pub ancestor_name : (i c : ℕ) → IsClass ws c → up ws i c ≢ 0
      → class_name new (text_of new) (up new i (new_number l c)) ≡ class_name ws (text_of ws) (up ws i c)
  pub interface_name : (i : ℕ) → i < interface_count ws
      → class_name new (text_of new) (interface_word new i) ≡ class_name ws (text_of ws) (interface_word ws i)

-- ---- what the step leaves is in order

-- row 4 but for "a parent's number is below the child's": it is at most the count
unfoldable pub loose_numbers : List ℕ → ℕ → Bool
loose_numbers ws c = own_numbers ws c && leb (class_parent ws c) (class_count ws)

unfoldable pub loose_record : List ℕ → List ℕ → ℕ → Bool
loose_record ws text c = part_ok text (class_name_start ws c) (class_name_length ws c) && loose_numbers ws c && class_lists ws c

unfoldable pub loose_records : List ℕ → List ℕ → Bool
loose_records ws text =
    all_of (class_count ws) (λ i. loose_record ws text (i + 1))
    && all_of (method_count ws) (method_record ws text)
    && all_of (field_count ws) (field_record ws text)
    && all_of (interface_count ws) (interface_names ws)
    && all_of (class_count ws) (λ i. apart_before ws text (i + 1))

-- the words `new`: parents below their children, interface words that name classes, and rows 3 to 5 of a link, beside any ABI words that they accept,
-- pass exactly if rows 4, but for the order of parents, and 5 pass of ws
pub record InOrder (ws new : List ℕ) : Type 0 where
  pub parent : (c : ℕ) → IsClass ws c → class_parent new c < c
  pub interface : (i : ℕ) → i < interface_count ws → IsClass new (interface_word new i)
  pub fits : class_fits new ≡ true
  pub records : class_records new (text_of new) ≡ loose_records ws (text_of ws)
  pub descriptors : class_descriptors new (text_of new) ≡ class_descriptors ws (text_of ws)
  pub link : (abi : List ℕ) → ValidAbi abi
      → (set_refusal new abi ≡ 0) ↔ ((loose_records ws (text_of ws) ≡ true) × (class_descriptors ws (text_of ws) ≡ true))

-- ---- the theorems, for all class words

pub record Order (ws : List ℕ) : Type 0 where
  -- 1 to 3. The order holds each class once, parents first, the smallest ready next; it is the only list that does, and it is the list that an
  -- accepted call hands back, with the words of which 5 and 6 speak.
  pub ordered : Orderable ws → Ordered ws (order_of ws)
  pub only : (l : List ℕ) → Orderable ws → Ordered ws l → l ≡ order_of ws
  pub handed_back : (list : List ℕ) → (renumber_def ws list).refusal ≡ 0
      → Orderable ws × (take (class_count ws) (renumber_def ws list).list ≡ order_of ws) × ((renumber_def ws list).set ≡ renumbered ws (order_of ws))
  -- 4. 19 is the stop, and `returns` means what it says.
  pub stop : Named ws → (cyclic ws ≡ true) ↔ (length (order_of ws) < class_count ws)
  pub returns_is : Named ws → (c : ℕ) → IsClass ws c → (returns ws c ≡ true) ↔ Returns ws c
  -- 5. Numbers follow.
  pub follows : Orderable ws → Follows ws (order_of ws) (renumbered ws (order_of ws))
  -- 6. What the step leaves is in order.
  pub leaves : Orderable ws → InOrder ws (renumbered ws (order_of ws))
  -- 7. Words whose parents are below their children are not refused by 19, stay as they are, and their list is 1, 2, .., n. So a second step moves
  -- nothing.
  pub in_order : renumber_form ws ≡ true → names_classes ws ≡ true → Falling ws
      → Orderable ws × (order_of ws ≡ numbers 1 (class_count ws)) × (renumbered ws (order_of ws) ≡ ws)
  pub again : (list : List ℕ) → Orderable ws → class_count ws ≤ length list
      → renumber_def (renumbered ws (order_of ws)) list
      ≡ accepted (class_count ws) (renumbered ws (order_of ws)) (numbers 1 (class_count ws) ++ drop (class_count ws) list)
  -- 8. With ws lent to a reading: the step's 3 does not refuse what a reading by rows 1 to 3 leaves, whatever follows it; and a sheet is read by
  -- rows 1 to 5 exactly if it is by rows 1 to 3 and its words pass rows 4 and 5, with the same answer and the same memory.
  pub after_reading : (bs : List ℕ) (room : ℕ) → (read_unordered_sheet bs ws).refusal ≡ 0 → renumber_refusal (read_unordered_sheet bs ws).memory room ≢ 3
  pub reading : (bs : List ℕ) → ((read_class_sheet bs ws).refusal ≡ 0)
      ↔ (((read_unordered_sheet bs ws).refusal ≡ 0) × (class_refusal (sheet_words bs) (text_of (sheet_words bs)) ≡ 0))
  pub same_reading : (bs : List ℕ) → (read_class_sheet bs ws).refusal ≡ 0 → read_class_sheet bs ws ≡ read_unordered_sheet bs ws
