-- `link`: rows 3 to 15 and 26 in the table's order, and what an accepted link leaves. Assumes nothing.
use Rattle.std.specs.Prelude.{ℕ, ◌+◌, ◌-◌, ◌≤◌, ◌≢◌, Bool, true, false, cond, not, ◌&&◌, ◌||◌, List, [], ◌∷◌, ◌++◌, length, get_or, set, eqb, leb, ltb, Option}
use Rattle.words.specs.Folds.{all_of}
use Rattle.text.specs.Text.{same_bytes}
use Rattle.class_sheet.specs.ClassSheet.{class_count, method_count, field_count, text_of, class_flags, class_kind, class_first_field, class_method_count, class_field_count, class_compiler_table, class_table_place, class_slot_count, is_built_kind, is_generated, is_array, is_packaged, class_name, fields_at, put_class_instance_words, put_class_table_place, put_class_slot_count, put_class_static_words}
use Rattle.abi_sheet.specs.AbiSheet.{abi_text_of, abi_field_name, abi_field_descriptor}
use Rattle.set_rules.specs.SetRules.{set_refusal}
use Rattle.linking.specs.Signature.{Same, by_sheets}
use Rattle.linking.specs.Chain.{parent_of, is_interface}
use Rattle.linking.specs.Abi.{class_abi, fixed_field_index}
use Rattle.linking.specs.Vtable.{Entry, Built, built, refused, parent_entries, build_methods, build_interface_methods, slot_words}
use Rattle.linking.specs.Packages.{build_packages, bad_packages}
use Rattle.linking.specs.Fields.{number_fields, added_fields, built_words, too_many_words, generated_refusal, generated_indices, static_words}
use Rattle.linking.specs.Compiler.{New, Taken, members, added_methods, compiler_table}
use Rattle.linking.specs.Counts.{counted_after, missing_short}
use Rattle.linking.specs.Set.{write_at, put_indices, grown_methods, grown_fields, section_full, grown_end}

-- ---- row 6

-- `java/lang/Object`
abbrev pub object_name : List ℕ
object_name = 106 ∷ 97 ∷ 118 ∷ 97 ∷ 47 ∷ 108 ∷ 97 ∷ 110 ∷ 103 ∷ 47 ∷ 79 ∷ 98 ∷ 106 ∷ 101 ∷ 99 ∷ 116 ∷ []

-- "number 0 or above the count"
unfoldable pub no_class : List ℕ → ℕ → Bool
no_class ws c = eqb c 0 || ltb (class_count ws) c

abbrev pub is_linked : List ℕ → ℕ → Bool
is_linked ws c = not (eqb (class_table_place ws c) 0)

-- c is a linked class of the words
pub record HasTable (ws : List ℕ) (c : ℕ) : Type 0 where
  pub some : 1 ≤ c
  pub among : c ≤ class_count ws
  pub has : class_table_place ws c ≢ 0

-- "an array class with members, no parent or a parent not named `java/lang/Object`"
unfoldable pub bad_array : List ℕ → List ℕ → ℕ → Bool
bad_array ws text c =
    is_array ws c
    && (not (eqb (class_method_count ws c) 0)
    || not (eqb (class_field_count ws c) 0)
    || eqb (parent_of ws c) 0
    || not (same_bytes (class_name ws text (parent_of ws c)) object_name))

-- "link: already linked, parent unlinked", or a bad array class
unfoldable pub bad_class : List ℕ → List ℕ → ℕ → Bool
bad_class ws text c =
    no_class ws c
    || is_linked ws c
    || (not (eqb (parent_of ws c) 0) && not (is_linked ws (parent_of ws c)))
    || bad_array ws text c

-- ---- row 7: "area empty or above 4,294,967,295 words; word 0 is 0 or above the area's length; a linked table's end lies above word 0"

abbrev pub next_free : List ℕ → ℕ
next_free area = get_or area 0 0

unfoldable pub ends_below : List ℕ → List ℕ → ℕ → Bool
ends_below ws area c = not (is_linked ws c) || leb (class_table_place ws c + class_slot_count ws c + 2) (next_free area)

unfoldable pub bad_area : List ℕ → List ℕ → Bool
bad_area ws area =
    eqb (length area) 0
    || ltb 4294967295 (length area)
    || eqb (next_free area) 0
    || ltb (length area) (next_free area)
    || not (all_of (class_count ws) (λ i. ends_below ws area (i + 1)))

-- ---- rows 8 to 13: what a link comes to before anything is written

-- the table, the class's new indices, and the members to add; of methods and fields at most one kind grows. (Its instance words: `new_words`; its static words:
-- `new_statics`.)
pub record Plan : Type 0 where
  pub table : List Entry
  pub indices : List ℕ
  pub added : List Taken
  pub new_fields : List New

pub data Planned : Type 0 where
  planned : Plan → Planned
  unplanned : ℕ → Planned

abbrev pub on_table : Built → (List Entry → Planned) → Planned
on_table (built T) f = f T
on_table (refused n) f = unplanned n

-- "more than 1,024 slots"
unfoldable pub within_slots : Plan → Planned
within_slots p = cond (ltb 1024 (length p.table)) (unplanned 13) (planned p)

-- "ABI fields that no declared instance field matches are added after the declared ones, flags 0x0002, and raise the running word."
unfoldable pub new_fields_of : List ℕ → List ℕ → List ℕ → List New
new_fields_of abi labels [] = []
new_fields_of abi labels (g ∷ gs) =
    record {
      name = abi_field_name abi labels g;
      descriptor = abi_field_descriptor abi labels g;
      flags = 2;
      last = fixed_field_index abi g;
    }
    ∷ new_fields_of abi labels gs

-- (the definitions `.._with` take the table that `build_methods` makes, so that a plan by another way of relaying is one line)
module _ (ws text abi labels : List ℕ) where
  -- over a built class's table
  abbrev pub plan_built_with : Built → ℕ → Planned
  plan_built_with B c =
      let own : Option ℕ = class_abi ws text abi labels c in
      cond (too_many_words ws text abi labels own c)
      (unplanned 10)
      (on_table B
      (λ T. within_slots
      (record {
        table = T;
        indices = (number_fields ws text abi labels own c).indices;
        added = [];
        new_fields = new_fields_of abi labels (added_fields ws text abi labels own c);
      })))

module _ (same : Same) (ws text abi labels area : List ℕ) where
  abbrev pub built_table_with : Built → ℕ → Built
  built_table_with B c =
      cond (is_packaged ws c)
      (built (build_packages same ws text abi labels area c))
      (cond (is_interface (class_flags ws c)) (built (build_interface_methods ws text c)) B)

  unfoldable pub built_table : ℕ → Built
  built_table c = built_table_with (build_methods same ws text abi labels area c) c

  unfoldable pub plan_built : ℕ → Planned
  plan_built c = plan_built_with ws text abi labels (built_table c) c

  -- "Generated without a compiler table: `build_methods`, interface or not."
  abbrev pub generated_table_with : Built → ℕ → Built
  generated_table_with B c = cond (eqb (class_compiler_table ws c) 0) B (built (compiler_table same ws text abi labels area c))

  unfoldable pub generated_table : ℕ → Built
  generated_table c = generated_table_with (build_methods same ws text abi labels area c) c

  unfoldable pub generated_methods : ℕ → List Taken
  generated_methods c = cond (eqb (class_compiler_table ws c) 0) [] (added_methods same ws text abi labels area c)

  abbrev pub plan_generated_with : Built → ℕ → Planned
  plan_generated_with B c =
      cond (eqb (generated_refusal ws text c) 0)
      (on_table B
      (λ T. within_slots
      (record { table = T; indices = generated_indices ws text c; added = generated_methods c; new_fields = [] })))
      (unplanned (generated_refusal ws text c))

  unfoldable pub plan_generated : ℕ → Planned
  plan_generated c = plan_generated_with (generated_table c) c

  -- "Array: the parent's entries."
  unfoldable pub plan_array : ℕ → Planned
  plan_array c = within_slots (record { table = parent_entries same ws text abi labels area c; indices = []; added = []; new_fields = [] })

  -- by the class's kind
  abbrev pub plan_by_kind : Planned → Planned → ℕ → Planned
  plan_by_kind b g c = cond (is_built_kind (class_kind ws c)) b (cond (is_generated ws c) g (plan_array c))

  unfoldable pub plan : ℕ → Planned
  plan c = plan_by_kind (plan_built c) (plan_generated c) c

  unfoldable pub plan_with : Built → ℕ → Planned
  plan_with B c = plan_by_kind (plan_built_with ws text abi labels (built_table_with B c) c) (plan_generated_with (generated_table_with B c) c) c

-- the instance words that linking sets, of a class that is not generated: "An array class has 0."
unfoldable pub new_words : List ℕ → List ℕ → List ℕ → List ℕ → ℕ → ℕ
new_words ws text abi labels c = cond (is_built_kind (class_kind ws c)) (built_words ws text abi labels (class_abi ws text abi labels c) c) 0

-- "linking puts there the sum of the static field widths for a built class, 0 for an array class; a generated class brings its own"
unfoldable pub new_statics : List ℕ → List ℕ → ℕ → ℕ
new_statics ws text c = cond (is_built_kind (class_kind ws c)) (static_words ws text c) 0

-- ---- rows 14 and 15

abbrev pub is_none : List New → Bool
is_none [] = true
is_none (x ∷ xs) = false

-- row 14, and row 15's "the set's slice too few for the grown sections"
unfoldable pub lists_full : List ℕ → ℕ → Plan → Bool
lists_full ws c p =
    (not (is_none (members p.added)) && section_full ws (method_count ws) (class_method_count ws c) (members p.added))
    || (not (is_none p.new_fields) && section_full ws (field_count ws) (class_field_count ws c) p.new_fields)

unfoldable pub set_short : List ℕ → ℕ → Plan → Bool
set_short ws c p =
    (not (is_none (members p.added)) && ltb (length ws) (grown_end ws (class_method_count ws c) (members p.added)))
    || (not (is_none p.new_fields) && ltb (length ws) (grown_end ws (class_field_count ws c) p.new_fields))

-- "the stub list is shorter than the table to write, the area has too few free words"
unfoldable pub no_room : List ℕ → List ℕ → ℕ → Bool
no_room area stubs n = ltb (length stubs) n || ltb (length area - next_free area) (n + 2)

-- ---- the effect: "Written: class number, slots, then a zero list head, into the part of the area from the next free word on. Word 0 is
-- that next place"

unfoldable pub linked_area : List ℕ → ℕ → List Entry → List ℕ → List ℕ
linked_area area c T stubs =
    set (write_at area (next_free area) (c ∷ (slot_words stubs 0 T ++ (0 ∷ [])))) 0 (next_free area + length T + 2)

-- "Linking sets table place and slot count, its answer, and, unless generated, instance words; never link state." Static words are as those.
unfoldable pub linked_record : List ℕ → ℕ → ℕ → ℕ → ℕ → ℕ → List ℕ
linked_record ws c place slots words statics =
    let placed : List ℕ = put_class_slot_count (put_class_table_place ws c place) c slots in
    cond (is_generated ws c) placed (put_class_static_words (put_class_instance_words placed c words) c statics)

unfoldable pub linked_words : List ℕ → ℕ → ℕ → ℕ → ℕ → Plan → List ℕ
linked_words ws c place words statics p =
    let recorded : List ℕ = linked_record ws c place (length p.table) words statics in
    cond (is_none p.new_fields)
    (let numbered : List ℕ = put_indices (fields_at ws) (class_first_field ws c) p.indices recorded in
    cond (is_none (members p.added)) numbered (grown_methods ws c (members p.added) numbered))
    (grown_fields ws c p.indices p.new_fields recorded)

-- ---- the call

-- "An accepted call gives 0 and its result; a refused one gives its number, zero in every other answer word, and unchanged lent memory."
pub record Outcome : Type 0 where
  pub refusal : ℕ
  pub first : ℕ
  pub second : ℕ
  pub set : List ℕ
  pub area : List ℕ

abbrev pub refused_call : ℕ → List ℕ → List ℕ → Outcome
refused_call n ws area = record { refusal = n; first = 0; second = 0; set = ws; area = area }

-- a link's, with the list of missing slots, which asks do not get
pub record LinkOutcome : Type 0 where
  pub outcome : Outcome
  pub missing : List ℕ

abbrev pub refused_link : ℕ → List ℕ → List ℕ → List ℕ → LinkOutcome
refused_link n ws area missing = record { outcome = refused_call n ws area; missing = missing }

-- rows 14 and 15, then the effect; the answer is the place and the slot count
unfoldable pub finish_link : List ℕ → List ℕ → ℕ → List ℕ → List ℕ → List ℕ → Plan → LinkOutcome
finish_link ws abi c area stubs missing p =
    cond (lists_full ws c p)
    (refused_link 14 ws area missing)
    (cond (no_room area stubs (length p.table) || set_short ws c p || missing_short ws missing)
    (refused_link 15 ws area missing)
    (record {
      outcome = record {
        refusal = 0;
        first = next_free area;
        second = length p.table;
        set = linked_words ws c (next_free area) (new_words ws (text_of ws) abi (abi_text_of abi) c) (new_statics ws (text_of ws) c) p;
        area = linked_area area c p.table stubs;
      };
      missing = counted_after ws missing c p.table;
    }))

abbrev pub on_plan : Planned → (Plan → LinkOutcome) → (ℕ → LinkOutcome) → LinkOutcome
on_plan (planned p) f g = f p
on_plan (unplanned n) f g = g n

-- a link that comes to the plan P
abbrev pub link_with : Planned → List ℕ → List ℕ → ℕ → List ℕ → List ℕ → List ℕ → LinkOutcome
link_with P ws abi c area stubs missing =
    cond (not (eqb (set_refusal ws abi) 0))
    (refused_link (set_refusal ws abi) ws area missing)
    (cond (bad_class ws (text_of ws) c)
    (refused_link 6 ws area missing)
    (cond (bad_area ws area)
    (refused_link 7 ws area missing)
    (cond (bad_packages ws (text_of ws) abi (abi_text_of abi) c)
    (refused_link 26 ws area missing)
    (on_plan P (finish_link ws abi c area stubs missing) (λ n. refused_link n ws area missing)))))

-- the call over a comparison
unfoldable pub link_by : Same → List ℕ → List ℕ → ℕ → List ℕ → List ℕ → List ℕ → LinkOutcome
link_by same ws abi c area stubs missing = link_with (plan same ws (text_of ws) abi (abi_text_of abi) area c) ws abi c area stubs missing

-- and by the bytes of the signatures
unfoldable pub link_def : List ℕ → List ℕ → ℕ → List ℕ → List ℕ → List ℕ → LinkOutcome
link_def ws abi c area stubs missing = link_by (by_sheets ws abi) ws abi c area stubs missing
