-- What row 3's tests of an ABI sheet say, and row 4's records as the code reads them. Assumes nothing.
use mathlib.Core.Path.{◌≡◌, refl}
use mathlib.Core.Bool.{Bool, true}
use mathlib.Core.List.{List}
use Prim.Native.Nat.{ℕ, ◌+◌, ◌*◌, ◌≤◌}
use lib.ListN.{length, drop}
use lib.Dec.{leb}
use borrow.Author.Tests.{leb-true}
use Rattle.words.proofs.Bools.{and_both, and_3, and_4}
use Rattle.words.specs.Folds.{all_of}
use Rattle.words.proofs.FoldLaws.{all-ext}
use Rattle.block.specs.Block.{least_fit}
use Rattle.text.specs.Text.{zero_rest, printable, member_clean}
use Rattle.text.proofs.Laws.{member_is}
use Rattle.abi_sheet.specs.AbiSheet.{abi_member_width, abi_class_limit, abi_slot_limit, abi_field_limit, abi_text_limit, abi_class_count, abi_slot_count, abi_field_count, abi_text_length, abi_text_at, abi_content_end, abi_slots_at, abi_fields_at, abi_slot_word, abi_field_word}
use Rattle.abi_sheet.proofs.Laws.{Within}
use Rattle.abi_rules.specs.AbiRules.{abi_limits, abi_fits, abi_form, abi_slot_record, abi_field_record}

pub limits : (abi : List ℕ) → abi_limits abi ≡ true → Within abi
unfolding abi_limits
limits abi h =
    let p = and_4 (leb (abi_class_count abi) abi_class_limit) (leb (abi_slot_count abi) abi_slot_limit)
    (leb (abi_field_count abi) abi_field_limit) (leb (abi_text_length abi) abi_text_limit) h in
    record {
      classes = leb-true _ _ p.0;
      slots = leb-true _ _ p.1;
      fields = leb-true _ _ p.2;
      text = leb-true _ _ p.3;
    }

pub fits : (abi : List ℕ) → abi_fits abi ≡ true → Within abi × (abi_content_end abi ≤ length abi)
unfolding abi_fits
fits abi h = let p = and_both (abi_limits abi) (leb (abi_content_end abi) (length abi)) h in (limits abi p.0, leb-true _ _ p.1)

pub formed : (abi : List ℕ) → abi_form abi ≡ true → Within abi
unfolding abi_form
formed abi h =
    limits abi
    (and_3 (abi_limits abi) (least_fit (abi_content_end abi) (length abi)) (zero_rest abi (4 * abi_text_at abi + abi_text_length abi)) h).0

-- ---- row 4's records, as the code reads them: from their section's beginning on, told whether the text is printable

module _ (abi text : List ℕ) {clean : Bool} (told : clean ≡ printable text) where
  pub slots_are : all_of (abi_slot_count abi) (member_clean (drop (abi_slots_at abi) abi) abi_member_width 1023 text clean)
      ≡ all_of (abi_slot_count abi) (abi_slot_record abi text)
  unfolding abi_slot_record abi_slot_word
  slots_are = all-ext (abi_slot_count abi) _ _ (λ i l. member_is abi text told (abi_slots_at abi) abi_member_width 1023 i refl)

  pub fields_are : all_of (abi_field_count abi) (member_clean (drop (abi_fields_at abi) abi) abi_member_width 4095 text clean)
      ≡ all_of (abi_field_count abi) (abi_field_record abi text)
  unfolding abi_field_record abi_field_word
  fields_are = all-ext (abi_field_count abi) _ _ (λ i l. member_is abi text told (abi_fields_at abi) abi_member_width 4095 i refl)
