-- Field words (field.rs, `new`, `patch_declared_instance_field_word_indices`). Instance words above row 4's limit, which it refuses,
-- count as the limit. Assumes nothing.
use Rattle.std.specs.Prelude.{ℕ, ◌+◌, ◌-◌, max, min, Bool, true, cond, not, ◌&&◌, ◌||◌, List, [], ◌∷◌, ◌++◌, eqb, leb, ltb, Option}
use Rattle.words.specs.Lists.{fold, keep, some}
use Rattle.std.specs.Option.{option_and_then}
use Rattle.descriptor.specs.Words.{width}
use Rattle.class_sheet.specs.ClassSheet.{class_instance_words, field_name, field_descriptor, field_flags, field_index}
use Rattle.abi_sheet.specs.AbiSheet.{abi_field_descriptor}
use Rattle.linking.specs.Chain.{on_found, own_fields, parent_of, chain, is_static}
use Rattle.linking.specs.Abi.{abi_fields, fixed_field_index, field_is, fixed_field, given_words}

-- the u32 index read as signed: negative from 2^31 on, and then its magnitude
abbrev pub is_negative : ℕ → Bool
is_negative i = leb 2147483648 i

abbrev pub magnitude : ℕ → ℕ
magnitude i = 4294967296 - i

-- "the negative index that wraps below zero, minus (runtime words + 1)"
abbrev pub below_zero : ℕ → ℕ
below_zero runtime = 4294967296 - (runtime + 1)

-- "Descriptors J and D take 2 words, all others 1."
abbrev pub field_width : List ℕ → List ℕ → ℕ → ℕ
field_width ws text f = width (field_descriptor ws text f)

abbrev pub instance_words : List ℕ → ℕ → ℕ
instance_words ws c = min (class_instance_words ws c) 65535

module _ (ws text : List ℕ) where
  -- ---- "The runtime count starts as the largest, over the parent chain's instance fields with negative index, of the index's magnitude
  -- minus 1 plus the field's width (0 if there are none)."

  unfoldable pub runtime_end : ℕ → ℕ
  runtime_end f =
      cond (not (is_static (field_flags ws f)) && is_negative (field_index ws f)) (magnitude (field_index ws f) - 1 + field_width ws text f) 0

  unfoldable pub own_runtime : ℕ → ℕ → ℕ
  own_runtime n c = fold (λ k f. max k (runtime_end f)) n (own_fields ws c)

  unfoldable pub runtime_words : ℕ → ℕ
  runtime_words c = fold own_runtime 0 (chain ws c)

-- ---- a built class: "Static fields (0x0008) of a built class count from 0. An instance field takes, in this order: its fixed ABI index;
-- if the ABI class gives instance words, the negative index that wraps below zero, minus (runtime words + 1), then runtime words grow;
-- else the running word: the parent's instance words (0 without one), raised to each end so far of a nonnegative index."

-- the indices given so far, and what the next ones count from
pub record Numbering : Type 0 where
  pub indices : List ℕ
  pub statics : ℕ
  pub runtime : ℕ
  pub running : ℕ

abbrev pub as_static : ℕ → Numbering → Numbering
as_static w n = record { indices = n.indices ++ (n.statics ∷ []); statics = n.statics + w; runtime = n.runtime; running = n.running }

abbrev pub as_fixed : ℕ → ℕ → Numbering → Numbering
as_fixed i w n =
    record { indices = n.indices ++ (i ∷ []); statics = n.statics; runtime = n.runtime; running = max n.running (i + w) }

abbrev pub as_runtime : ℕ → Numbering → Numbering
as_runtime w n =
    record {
      indices = n.indices ++ (below_zero n.runtime ∷ []);
      statics = n.statics;
      runtime = n.runtime + w;
      running = n.running;
    }

abbrev pub as_running : ℕ → Numbering → Numbering
as_running w n = record { indices = n.indices ++ (n.running ∷ []); statics = n.statics; runtime = n.runtime; running = n.running + w }

-- `own` is the class's ABI entry; its instance words plus 1, or 0
abbrev pub own_given : List ℕ → Option ℕ → ℕ
own_given abi own = on_found own (given_words abi) 0

abbrev pub number_instance : List ℕ → Option ℕ → Option ℕ → ℕ → Numbering → Numbering
number_instance abi own fixed w n =
    on_found fixed (λ g. as_fixed (fixed_field_index abi g) w n) (cond (eqb (own_given abi own) 0) (as_running w n) (as_runtime w n))

module _ (ws text abi labels : List ℕ) (own : Option ℕ) where
  unfoldable pub number_field : Numbering → ℕ → Numbering
  number_field n f =
      cond (is_static (field_flags ws f)) (as_static (field_width ws text f) n)
      (number_instance abi own (option_and_then (fixed_field abi labels (field_name ws text f) (field_descriptor ws text f)) own) (field_width ws text f) n)

  unfoldable pub number_fields : ℕ → Numbering
  number_fields c =
      fold number_field
      (record {
        indices = [];
        statics = 0;
        runtime = runtime_words ws text (parent_of ws c);
        running = cond (eqb (parent_of ws c) 0) 0 (instance_words ws (parent_of ws c));
      })
      (own_fields ws c)

-- "ABI fields that no declared instance field matches are added after the declared ones, flags 0x0002, and raise the running word."
unfoldable pub declares_field : List ℕ → List ℕ → List ℕ → List ℕ → ℕ → ℕ → Bool
declares_field ws text abi labels c g =
    some (λ f. not (is_static (field_flags ws f)) && field_is abi labels g (field_name ws text f) (field_descriptor ws text f)) (own_fields ws c)

unfoldable pub raised : List ℕ → List ℕ → ℕ → List ℕ → ℕ
raised abi labels running gs = fold (λ n g. max n (fixed_field_index abi g + width (abi_field_descriptor abi labels g))) running gs

module _ (ws text abi labels : List ℕ) (own : Option ℕ) where
  unfoldable pub added_fields : ℕ → List ℕ
  added_fields c = on_found own (λ a. keep (λ g. not (declares_field ws text abi labels c g)) (abi_fields abi a)) []

  -- "Instance words are the ABI's if given, else that word."
  unfoldable pub built_words : ℕ → ℕ
  built_words c =
      cond (eqb (own_given abi own) 0)
      (raised abi labels (number_fields ws text abi labels own c).running (added_fields c))
      (own_given abi own - 1)

  -- row 10: "built: instance words, or chain runtime words, would exceed 65,535"
  unfoldable pub too_many_words : ℕ → Bool
  too_many_words c = ltb 65535 (built_words c) || ltb 65535 (number_fields ws text abi labels own c).runtime

-- ---- static words: "the sum of the static field widths", over the class's own fields

module _ (ws text : List ℕ) where
  unfoldable pub add_static : ℕ → ℕ → ℕ
  add_static n f = cond (is_static (field_flags ws f)) (n + field_width ws text f) n

  unfoldable pub static_words : ℕ → ℕ
  static_words c = fold add_static 0 (own_fields ws c)

-- ---- "Generated: base = total minus own words. All absolute: nothing written. All relative: base added."

module _ (ws text : List ℕ) where
  unfoldable pub add_width : ℕ → ℕ → ℕ
  add_width n f = cond (is_static (field_flags ws f)) n (n + field_width ws text f)

  unfoldable pub declared_words : ℕ → ℕ
  declared_words c = fold add_width 0 (own_fields ws c)

  -- the instance fields stand one after the other from `at` on
  unfoldable pub stand_from : ℕ → List ℕ → Bool
  stand_from at [] = true
  stand_from at (f ∷ fs) =
      (is_static (field_flags ws f) || eqb (field_index ws f) at) && stand_from (add_width at f) fs

  abbrev pub generated_base : ℕ → ℕ
  generated_base c = instance_words ws c - declared_words c

  -- row 8: "own instance words exceed the total"; row 9: "indices neither all relative nor all absolute"
  unfoldable pub generated_refusal : ℕ → ℕ
  generated_refusal c =
      cond (ltb (instance_words ws c) (declared_words c))
      8
      (cond (stand_from (generated_base c) (own_fields ws c) || stand_from 0 (own_fields ws c)) 0 9)

unfoldable pub moved_index : List ℕ → ℕ → ℕ → ℕ
moved_index ws base f = cond (is_static (field_flags ws f)) (field_index ws f) (base + field_index ws f)

unfoldable pub indices_plus : List ℕ → ℕ → List ℕ → List ℕ
indices_plus ws base [] = []
indices_plus ws base (f ∷ fs) = moved_index ws base f ∷ indices_plus ws base fs

-- the class's indices after the link
unfoldable pub generated_indices : List ℕ → List ℕ → ℕ → List ℕ
generated_indices ws text c =
    indices_plus ws (cond (stand_from ws text (generated_base ws text c) (own_fields ws c)) 0 (generated_base ws text c)) (own_fields ws c)
