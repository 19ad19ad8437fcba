-- Signatures, "name and descriptor", by their places: a method of the class sheet or a slot record of the ABI sheet. Two ways to compare the signatures of two
-- places: by the bytes of both parts, and by the numbers of a list that is lent. Linking is defined once, over any such comparison. Assumes nothing.
use Rattle.std.specs.Prelude.{ℕ, ◌+◌, ◌-◌, Bool, cond, ◌&&◌, List, get_or, eqb, ltb}
use Rattle.text.specs.Text.{same_bytes}
use Rattle.class_sheet.specs.ClassSheet.{method_limit, text_of, method_name, method_descriptor}
use Rattle.abi_sheet.specs.AbiSheet.{abi_text_of, abi_slot_name, abi_slot_descriptor}

-- where a signature stands: method m, or ABI slot s, both from 0
pub data Place : Type 0 where
  of_method : ℕ → Place
  of_abi_slot : ℕ → Place

-- a comparison of the signatures of two places
abbrev pub Same : Type 0
Same = Place → Place → Bool

-- and of the signatures of two methods
unfoldable pub methods_same : Same → ℕ → ℕ → Bool
methods_same same m k = same (of_method m) (of_method k)

-- ---- by bytes: "equal bytes of both parts"

module _ (ws text abi labels : List ℕ) where
  unfoldable pub place_name : Place → List ℕ
  place_name (of_method m) = method_name ws text m
  place_name (of_abi_slot s) = abi_slot_name abi labels s

  unfoldable pub place_descriptor : Place → List ℕ
  place_descriptor (of_method m) = method_descriptor ws text m
  place_descriptor (of_abi_slot s) = abi_slot_descriptor abi labels s

  unfoldable pub by_bytes : Same
  by_bytes p q = same_bytes (place_name p) (place_name q) && same_bytes (place_descriptor p) (place_descriptor q)

-- with the texts that the two sheets hold
abbrev pub by_sheets : List ℕ → List ℕ → Same
by_sheets ws abi = by_bytes ws (text_of ws) abi (abi_text_of abi)

-- ---- by numbers: "a lent list of 1,024 words: place m for method m, 512 + s for ABI slot s"

unfoldable pub place_number : Place → ℕ
place_number (of_method m) = m
place_number (of_abi_slot s) = method_limit + s

-- and the way back, for the numbers below 1,024
unfoldable pub place_at : ℕ → Place
place_at n = cond (ltb n method_limit) (of_method n) (of_abi_slot (n - method_limit))

unfoldable pub by_numbers : List ℕ → Same
by_numbers ns p q = eqb (get_or ns (place_number p) 0) (get_or ns (place_number q) 0)
