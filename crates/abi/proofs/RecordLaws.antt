-- Laws of ABI records that are read from the part of the words that begins with the first of them. Assumes nothing.
use mathlib.Core.Path.{◌≡◌, ◌∙◌}
use mathlib.Core.List.{List}
use Prim.Native.Nat.{ℕ, ◌+◌, ◌*◌, min}
use native.Mathlib.Omega.{arith}
use lib.ListN.{length, take, drop}
use lib.Seq.{get_or-drop}
use lib.Dec.{eqb}
use Rattle.words.proofs.Laws.{part-rest}
use Rattle.text.specs.Text.{name_start_word, name_length_word, descriptor_start_word, descriptor_length_word, number_word}
use Rattle.abi_sheet.specs.AbiSheet.{abi_member_width, abi_slots_at, abi_fields_at, abi_slot_word, abi_field_word}
use Rattle.chain.specs.Records.{record_word, record_is}
use Rattle.linking.specs.Abi.{slot_index, field_is}
use Rattle.abi.specs.Abis.{slot_records, field_records}

-- ---- slots

module _ (abi : List ℕ) {r : List ℕ} where
  pub slots_are : {a n : ℕ} → a ≡ abi_slots_at abi → n ≡ length abi → r ≡ take n (drop a abi) → r ≡ slot_records abi
  unfolding slot_records
  slots_are e f g = g ∙ rw (f, e) (part-rest abi (abi_slots_at abi))

  pub fields_are : {a n : ℕ} → a ≡ abi_fields_at abi → n ≡ length abi → r ≡ take n (drop a abi) → r ≡ field_records abi
  unfolding field_records
  fields_are e f g = g ∙ rw (f, e) (part-rest abi (abi_fields_at abi))

slot-word : (abi : List ℕ) (s k : ℕ) → record_word (slot_records abi) abi_member_width s k ≡ abi_slot_word abi s k
unfolding record_word slot_records abi_slot_word
slot-word abi s k =
    let e : abi_slots_at abi + (abi_member_width * s + k) ≡ abi_slots_at abi + abi_member_width * s + k = omega arith in
    get_or-drop (abi_slots_at abi) abi (abi_member_width * s + k) 0 ∙ rw e

pub record_index : (abi : List ℕ) (s i : ℕ) {r : List ℕ} → r ≡ slot_records abi
    → eqb (min (record_word r abi_member_width s number_word) 1023) i ≡ eqb (slot_index abi s) i
unfolding slot_index
record_index abi s i e = rw (e, slot-word abi s number_word)

-- ---- fields

field-word : (abi : List ℕ) (f k : ℕ) → record_word (field_records abi) abi_member_width f k ≡ abi_field_word abi f k
unfolding record_word field_records abi_field_word
field-word abi f k =
    let e : abi_fields_at abi + (abi_member_width * f + k) ≡ abi_fields_at abi + abi_member_width * f + k = omega arith in
    get_or-drop (abi_fields_at abi) abi (abi_member_width * f + k) 0 ∙ rw e

pub record_field : (abi labels : List ℕ) (f : ℕ) (name descriptor : List ℕ) {r : List ℕ} → r ≡ field_records abi
    → record_is r abi_member_width labels f name descriptor ≡ field_is abi labels f name descriptor
unfolding record_is field_is
record_field abi labels f name descriptor e =
    rw (e, field-word abi f name_start_word, field-word abi f name_length_word, field-word abi f descriptor_start_word, field-word abi f descriptor_length_word)
