-- Laws of the layout. Assumes nothing.
use mathlib.Core.Path.{◌≡◌, refl, ◌∙◌}
use mathlib.Core.List.{List}
use Prim.Native.Nat.{ℕ, ◌≤◌}
use native.Mathlib.Omega.{arith}
use lib.ListN.{length, take, drop}
use Rattle.words.proofs.Laws.{part-rest}
use Rattle.text.specs.Text.{unpacked_text}
use Rattle.abi_sheet.specs.AbiSheet.{abi_class_limit, abi_slot_limit, abi_field_limit, abi_text_limit, abi_content_limit, abi_block_limit, abi_sheet_words, abi_class_count, abi_slot_count, abi_field_count, abi_text_length, abi_slots_at, abi_fields_at, abi_text_at, abi_content_end, abi_text_words}

-- the text unpacked from the part that begins at the text section
pub text_is : (abi d : List ℕ) {n m at : ℕ} {p t : List ℕ} → at ≡ abi_text_at abi → n ≡ length abi → p ≡ take n (drop at abi)
    → m ≡ abi_text_length abi → t ≡ unpacked_text p m d → t ≡ unpacked_text (abi_text_words abi) (abi_text_length abi) d
text_is abi d e f g k h = h ∙ rw (g, f, e, k, part-rest abi (abi_text_at abi))

-- ---- the most words that the content has, the blocks that hold them, and their words, as numbers

pub sizes : (abi_content_limit ≡ 6404) × (abi_block_limit ≡ 51) × (abi_sheet_words ≡ 6477)
sizes = (refl, refl, refl)

-- a sheet's counts are within their limits
pub record Within (abi : List ℕ) : Type 0 where
  pub classes : abi_class_count abi ≤ abi_class_limit
  pub slots : abi_slot_count abi ≤ abi_slot_limit
  pub fields : abi_field_count abi ≤ abi_field_limit
  pub text : abi_text_length abi ≤ abi_text_limit

pub content-within : (abi : List ℕ) → Within abi → abi_content_end abi ≤ abi_content_limit
unfolding abi_content_end abi_text_at abi_fields_at abi_slots_at
content-within abi w = omega arith
