-- What a class's fields come to, as the code has it: their indices and the instance words, or the row that refuses them. Assumes nothing.
use Rattle.std.specs.Prelude.{◌≡◌, ℕ, ◌+◌, ◌-◌, ◌^◌, ◌<◌, Bool, true, false, cond, not, ◌&&◌, List, [], ◌∷◌, ◌==◌, Result, Ok, Err, Option, Some, None}
use Rattle.std.specs.Option.{option_and_then}
use Rattle.class_sheet.specs.ClassSheet.{class_first_field, class_field_count, field_name, field_descriptor, field_flags, field_index, field_limit}
use Rattle.linking.specs.Chain.{on_found, list_count, parent_of, is_static}
use Rattle.linking.specs.Abi.{fixed_field_index, fixed_field, given_words, class_abi, field_is}
use Rattle.linking.specs.Fields.{is_negative, magnitude, instance_words, runtime_words, Numbering, number_fields, declares_field, added_fields, built_words, too_many_words, add_static, add_width, generated_refusal, generated_indices}
use Rattle.growth.specs.declared.news.Member.{Member}
use Rattle.growth.specs.declared.news.Named.TheVariants.{Field}
use Rattle.refusal.specs.declared.Refusal.{Refusal}
use Rattle.refusal.specs.Rows.{row}
use Rattle.field.specs.declared.Counters.{Counters}
use Rattle.field.specs.declared.Numbered.{Numbered}

-- a u32 read as signed: its magnitude where it is below zero
abbrev pub below_of : ℕ → Option ℕ
below_of i = cond (is_negative i) (Some (magnitude i)) None

-- the indices given so far, with the counters that the next ones count from
abbrev pub counting : List ℕ → Counters → Numbering
counting indices k = record { indices = indices; statics = k.statics; runtime = k.runtime; running = k.running }

-- what a class's own fields count from: no static words, the runtime words of the parent's chain, and the parent's instance words
unfoldable pub first_numbering : List ℕ → List ℕ → ℕ → Numbering
first_numbering ws text c =
    record {
      indices = [];
      statics = 0;
      runtime = runtime_words ws text (parent_of ws c);
      running = cond (parent_of ws c == 0) 0 (instance_words ws (parent_of ws c));
    }

-- field f is an instance field of ABI field g's name and descriptor
unfoldable pub declared_by : List ℕ → List ℕ → List ℕ → List ℕ → ℕ → ℕ → Bool
declared_by ws text abi labels g f =
    not (is_static (field_flags ws f)) && field_is abi labels g (field_name ws text f) (field_descriptor ws text f)

-- how many own fields a class has
abbrev pub own_count : List ℕ → ℕ → ℕ
own_count ws c = list_count (class_first_field ws c) (class_field_count ws c) field_limit

-- the ABI field of a field's name and descriptor, by the class's ABI entry
abbrev pub fixed_by : List ℕ → List ℕ → List ℕ → List ℕ → Option ℕ → ℕ → Option ℕ
fixed_by ws text abi labels own f = option_and_then (fixed_field abi labels (field_name ws text f) (field_descriptor ws text f)) own

-- the index of a field, if it is an instance field, is a word after the base is added; and so those of a class's own fields
abbrev pub Fits : List ℕ → ℕ → ℕ → Type 0
Fits ws base f = is_static (field_flags ws f) ≡ false → base + field_index ws f < 2 ^ 32

abbrev pub Movable : List ℕ → ℕ → ℕ → Type 0
Movable ws c base = (i : ℕ) → i < own_count ws c → Fits ws base (class_first_field ws c + i)

-- words, with those of a field that is static, or that is not
abbrev pub add_words : List ℕ → List ℕ → Bool → ℕ → ℕ → ℕ
add_words ws text true = add_static ws text
add_words ws text false = add_width ws text

-- ---- the ABI fields that are added

-- those of class c, by its own ABI entry
abbrev pub added_to : List ℕ → List ℕ → List ℕ → List ℕ → ℕ → List ℕ
added_to ws text abi labels c = added_fields ws text abi labels (class_abi ws text abi labels c) c

-- ABI field g, unless an instance field of the class matches it
abbrev pub undeclared : List ℕ → List ℕ → List ℕ → List ℕ → ℕ → ℕ → List ℕ
undeclared ws text abi labels c g = cond (declares_field ws text abi labels c g) [] (g ∷ [])

-- ABI field g as a new member, which it names, with flags 2 and its fixed index; and so each of a list
abbrev pub field_member : List ℕ → ℕ → Member
field_member abi g = record { names = Field g; flags = 2; last = fixed_field_index abi g }

unfoldable pub members_of : List ℕ → List ℕ → List Member
members_of abi [] = []
members_of abi (g ∷ gs) = field_member abi g ∷ members_of abi gs

-- "Instance words are the ABI's if given, else that word": the running word after the declared fields, raised by those that are added
abbrev pub given_or : List ℕ → Option ℕ → ℕ → ℕ
given_or abi own word = cond (on_found own (given_words abi) 0 == 0) word (on_found own (given_words abi) 0 - 1)

-- ---- what the fields come to

-- the class's indices and its instance words
abbrev pub numbering_of : List ℕ → ℕ → Numbered
numbering_of is words = record { indices = is; words = words }

-- no fields, and no instance words
abbrev pub no_fields : Numbered
no_fields = numbering_of [] 0

-- an answer with the number of the row that refuses
abbrev pub by_row : {A : Type 0} → Result A Refusal → Result A ℕ
by_row (Ok x) = Ok x
by_row (Err refusal) = Err (row refusal)

-- the answer and the lent memory, which holds the value where the answer is no refusal
abbrev pub with_fields : Result (Unit {0}) Refusal → Numbered → Result Numbered Refusal
with_fields (Ok u) f = Ok f
with_fields (Err refusal) f = Err refusal

-- a built class whose ABI entry is `own`; row 10: "built: instance words, or chain runtime words, would exceed 65,535"
unfoldable pub fields_by : List ℕ → List ℕ → List ℕ → List ℕ → Option ℕ → ℕ → Result Numbered ℕ
fields_by ws text abi labels own c =
    cond (too_many_words ws text abi labels own c)
    (Err 10)
    (Ok (numbering_of (number_fields ws text abi labels own c).indices (built_words ws text abi labels own c)))

abbrev pub built_fields : List ℕ → List ℕ → List ℕ → List ℕ → ℕ → Result Numbered ℕ
built_fields ws text abi labels c = fields_by ws text abi labels (class_abi ws text abi labels c) c

-- rows 8 and 9; a generated class keeps its instance words, so none are written, and adds no fields
unfoldable pub generated_fields : List ℕ → List ℕ → ℕ → Result Numbered ℕ
generated_fields ws text c =
    cond (generated_refusal ws text c == 0) (Ok (numbering_of (generated_indices ws text c) 0)) (Err (generated_refusal ws text c))
