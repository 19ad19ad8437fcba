-- Row 5 of the table of refusals for both sheets, and rows 3 to 5 as a link or an ask applies them to words already read. Assumes
-- nothing.
use Rattle.std.specs.Prelude.{ℕ, Bool, cond, not, ◌&&◌, List}
use Rattle.words.specs.Folds.{all_of}
use Rattle.descriptor.specs.Machine.{is_field_descriptor}
use Rattle.descriptor.specs.Words.{is_method}
use Rattle.class_sheet.specs.ClassSheet.{method_count, field_count, method_flags, method_descriptor, field_descriptor, text_of}
use Rattle.abi_sheet.specs.AbiSheet.{abi_slot_count, abi_field_count, abi_slot_descriptor, abi_field_descriptor, abi_text_of}
use Rattle.class_rules.specs.ClassRules.{class_fits, class_records}
use Rattle.abi_rules.specs.AbiRules.{abi_fits, abi_records}

-- ---- row 5: "a descriptor breaks JVMS 4.3.2 (field) or 4.3.3 (method); only the grammar counts, class names by 4.2"; "JVMS 4.3.3 allows
-- at most 255 words, with one for the receiver of an instance method, and J and D as two. ABI slots count as instance methods"

unfoldable pub method_typed : List ℕ → List ℕ → ℕ → Bool
method_typed ws text m = is_method (method_flags ws m) (method_descriptor ws text m)

unfoldable pub field_typed : List ℕ → List ℕ → ℕ → Bool
field_typed ws text f = is_field_descriptor (field_descriptor ws text f)

-- row 5 does not refuse the class sheet
unfoldable pub class_descriptors : List ℕ → List ℕ → Bool
class_descriptors ws text = all_of (method_count ws) (method_typed ws text) && all_of (field_count ws) (field_typed ws text)

unfoldable pub abi_slot_typed : List ℕ → List ℕ → ℕ → Bool
abi_slot_typed abi text s = is_method 0 (abi_slot_descriptor abi text s)

unfoldable pub abi_field_typed : List ℕ → List ℕ → ℕ → Bool
abi_field_typed abi text f = is_field_descriptor (abi_field_descriptor abi text f)

-- row 5 does not refuse the ABI sheet
unfoldable pub abi_descriptors : List ℕ → List ℕ → Bool
abi_descriptors abi text = all_of (abi_slot_count abi) (abi_slot_typed abi text) && all_of (abi_field_count abi) (abi_field_typed abi text)

-- ---- "Checks run down this table": rows 4 and 5 of one sheet, 0 where neither refuses

unfoldable pub judged : Bool → Bool → ℕ
judged records typed = cond (not records) 4 (cond (not typed) 5 0)

unfoldable pub class_refusal : List ℕ → List ℕ → ℕ
class_refusal ws text = cond (not (class_records ws text)) 4 (cond (not (class_descriptors ws text)) 5 0)

unfoldable pub abi_refusal : List ℕ → List ℕ → ℕ
abi_refusal abi text = cond (not (abi_records abi text)) 4 (cond (not (abi_descriptors abi text)) 5 0)

-- ---- "Link and ask take words already read: of rows 1 to 3 only the count limits and the content's fit in the lent slice apply, as
-- 3." Row by row over both sheets, so row 4 of one goes before row 5 of the other.

-- row 3 does not refuse
unfoldable pub set_fits : List ℕ → List ℕ → Bool
set_fits ws abi = class_fits ws && abi_fits abi

-- rows 4 and 5, with the two sheets' texts: here and in the crates above `text` is the class sheet's and `labels` the ABI sheet's
unfoldable pub records_refusal : List ℕ → List ℕ → List ℕ → List ℕ → ℕ
records_refusal ws text abi labels =
    cond (not (class_records ws text && abi_records abi labels))
    4
    (cond (not (class_descriptors ws text && abi_descriptors abi labels)) 5 0)

-- rows 3, 4 and 5: the number that refuses, or 0
unfoldable pub set_refusal : List ℕ → List ℕ → ℕ
set_refusal ws abi = cond (not (set_fits ws abi)) 3 (records_refusal ws (text_of ws) abi (abi_text_of abi))
