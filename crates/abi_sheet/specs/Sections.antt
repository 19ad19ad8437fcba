-- An ABI sheet's words as data: the sections as lists, the words laid out from them, and the sections of words. Assumes nothing.
use Rattle.std.specs.Prelude.{ℕ, ◌*◌, ◌≡◌, List, ◌∷◌, ◌++◌, length, take, drop}
use Rattle.words.specs.Words.{words_for}
use Rattle.words.specs.Rows.{Rows, joined, cut}
use Rattle.abi_sheet.specs.AbiSheet.{abi_counts_width, abi_class_width, abi_member_width, abi_class_count, abi_slot_count, abi_field_count, abi_text_length}

-- ---- the sections. The text is kept as words with its number of bytes, so that bytes after it in its last word are kept too.

pub record AbiSections : Type 0 where
  pub classes : List (List ℕ)
  pub slots : List (List ℕ)
  pub fields : List (List ℕ)
  pub bytes : ℕ
  pub text : List ℕ
  pub rest : List ℕ

-- records of their widths, and text words as many as the bytes ask for
pub record AbiFormed (s : AbiSections) : Type 0 where
  pub classes : Rows abi_class_width s.classes
  pub slots : Rows abi_member_width s.slots
  pub fields : Rows abi_member_width s.fields
  pub text : length s.text ≡ words_for s.bytes

-- "four counts", then those sections
unfoldable pub abi_laid_out : AbiSections → List ℕ
abi_laid_out s =
    length s.classes ∷ length s.slots ∷ length s.fields ∷ s.bytes
    ∷ (joined s.classes ++ (joined s.slots ++ (joined s.fields ++ (s.text ++ s.rest))))

-- the sections of words, cut off from front to back
unfoldable pub abi_sections_of : List ℕ → AbiSections
abi_sections_of abi =
    let a : List ℕ = drop abi_counts_width abi in
    let b : List ℕ = drop (abi_class_width * abi_class_count abi) a in
    let c : List ℕ = drop (abi_member_width * abi_slot_count abi) b in
    let d : List ℕ = drop (abi_member_width * abi_field_count abi) c in
    record {
      classes = cut abi_class_width (abi_class_count abi) a;
      slots = cut abi_member_width (abi_slot_count abi) b;
      fields = cut abi_member_width (abi_field_count abi) c;
      bytes = abi_text_length abi;
      text = take (words_for (abi_text_length abi)) d;
      rest = drop (words_for (abi_text_length abi)) d;
    }

abbrev pub abi_with_rest : AbiSections → List ℕ → AbiSections
abi_with_rest s x = record {
  classes = s.classes;
  slots = s.slots;
  fields = s.fields;
  bytes = s.bytes;
  text = s.text;
  rest = x;
}
