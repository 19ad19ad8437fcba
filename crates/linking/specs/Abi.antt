-- The ABI sheet's lookups (abi.rs): "The first ABI class of a name, and in it the first match, counts." Indices and sizes above row 4's
-- limits, which it refuses, count as the limit, so that every definition is total. Assumes nothing.
use Rattle.std.specs.Prelude.{ℕ, ◌+◌, ◌-◌, max, min, Bool, ◌&&◌, List, take, eqb, Option, suc, [], ◌∷◌}
use Rattle.words.specs.Lists.{numbers, find, first_found, all_found, fold}
use Rattle.std.specs.Option.{option_map}
use Rattle.text.specs.Text.{same_bytes}
use Rattle.class_sheet.specs.ClassSheet.{class_name, class_limit}
use Rattle.abi_sheet.specs.AbiSheet.{abi_class_count, abi_class_name, abi_class_table_size_plus_one, abi_class_instance_words_plus_one, abi_class_first_slot, abi_class_slot_count, abi_class_first_field, abi_class_field_count, abi_slot_index, abi_field_name, abi_field_descriptor, abi_field_index, abi_field_limit, abi_slot_limit}
use Rattle.linking.specs.Signature.{Same, Place, of_abi_slot}
use Rattle.linking.specs.Chain.{on_found, list_count, chain}

-- the first ABI class of the name
unfoldable pub abi_named : List ℕ → List ℕ → List ℕ → Option ℕ
abi_named abi labels name = find (λ a. same_bytes (abi_class_name abi labels a) name) (numbers 0 (abi_class_count abi))

-- the numbers of an ABI class's slot records and field records, in order
unfoldable pub abi_slots : List ℕ → ℕ → List ℕ
abi_slots abi a = numbers (abi_class_first_slot abi a) (list_count (abi_class_first_slot abi a) (abi_class_slot_count abi a) abi_slot_limit)

unfoldable pub abi_fields : List ℕ → ℕ → List ℕ
abi_fields abi a = numbers (abi_class_first_field abi a) (list_count (abi_class_first_field abi a) (abi_class_field_count abi a) abi_field_limit)

unfoldable pub slot_index : List ℕ → ℕ → ℕ
slot_index abi s = min (abi_slot_index abi s) 1023

unfoldable pub fixed_field_index : List ℕ → ℕ → ℕ
fixed_field_index abi f = min (abi_field_index abi f) 4095

-- ---- of one ABI class

-- the index that the class fixes for the signature of place p
unfoldable pub vtable_index : Same → List ℕ → Place → ℕ → Option ℕ
vtable_index same abi p a = option_map (slot_index abi) (find (λ s. same (of_abi_slot s) p) (abi_slots abi a))

-- the first slot record with this index
unfoldable pub slot_at : List ℕ → ℕ → ℕ → Option ℕ
slot_at abi i a = find (λ s. eqb (slot_index abi s) i) (abi_slots abi a)

unfoldable pub field_is : List ℕ → List ℕ → ℕ → List ℕ → List ℕ → Bool
field_is abi labels f name descriptor = same_bytes (abi_field_name abi labels f) name && same_bytes (abi_field_descriptor abi labels f) descriptor

-- the first field record of the signature
unfoldable pub fixed_field : List ℕ → List ℕ → List ℕ → List ℕ → ℕ → Option ℕ
fixed_field abi labels name descriptor a = find (λ f. field_is abi labels f name descriptor) (abi_fields abi a)

-- "table size plus 1 (0 none)", and its largest fixed index + 1
unfoldable pub class_size : List ℕ → ℕ → ℕ
class_size abi a = fold (λ n s. max n (slot_index abi s + 1)) (min (abi_class_table_size_plus_one abi a) 1025 - 1) (abi_slots abi a)

-- "instance words plus 1 (0 none)"
unfoldable pub given_words : List ℕ → ℕ → ℕ
given_words abi a = min (abi_class_instance_words_plus_one abi a) 4097

-- ---- of the ABI classes that a chain names, nearest first

-- a class's ABI entry
unfoldable pub class_abi : List ℕ → List ℕ → List ℕ → List ℕ → ℕ → Option ℕ
class_abi ws text abi labels c = abi_named abi labels (class_name ws text c)

-- (a set has at most `class_limit` classes, so nothing is cut where row 3 does not refuse)
unfoldable pub chain_abi : List ℕ → List ℕ → List ℕ → List ℕ → ℕ → List ℕ
chain_abi ws text abi labels c = take class_limit (all_found (class_abi ws text abi labels) (chain ws c))

-- a signature's fixed index: the first match
unfoldable pub fixed_index : Same → List ℕ → List ℕ → Place → Option ℕ
fixed_index same abi abis p = first_found (vtable_index same abi p) abis

-- how far up the chain's ABI classes the one stands that it comes from: as many as are nearer and do not fix the signature
unfoldable pub fixer_distance : Same → List ℕ → List ℕ → Place → ℕ
fixer_distance same abi [] p = 0
fixer_distance same abi (a ∷ abis) p = on_found (vtable_index same abi p a) (λ i. 0) (suc (fixer_distance same abi abis p))

-- "the largest fixed index + 1 or table size among the chain's ABI classes"
unfoldable pub minimum_size : List ℕ → List ℕ → ℕ
minimum_size abi abis = fold (λ n a. max n (class_size abi a)) 0 abis
