-- The list of numbers by which signatures are matched, and the call that fills it. Assumes nothing.
-- "A call on both sheets' words shall fill a lent list of 1,024 words: place m for method m, 512 + s for ABI slot s, both from 0, each holding the first place
-- whose record has equal bytes of both parts; unused places 0."
use Rattle.std.specs.Prelude.{◌≡◌, ℕ, ◌+◌, Bool, cond, not, ◌&&◌, List, ◌++◌, length, take, drop, eqb, ltb, Option, Some, None}
use Rattle.words.specs.Lists.{list_from, numbers, find}
use Rattle.class_sheet.specs.ClassSheet.{method_limit, method_count, text_of}
use Rattle.abi_sheet.specs.AbiSheet.{abi_slot_limit, abi_slot_count, abi_text_of}
use Rattle.set_rules.specs.SetRules.{set_refusal}
use Rattle.linking.specs.Signature.{Place, of_method, of_abi_slot, by_bytes, place_at}

-- "a lent list of 1,024 words"
abbrev pub number_limit : ℕ
number_limit = method_limit + abi_slot_limit

-- the place has a record: it is below its section's count, and below what that may be at most
unfoldable pub is_used : List ℕ → List ℕ → Place → Bool
is_used ws abi (of_method m) = ltb m (method_count ws) && ltb m method_limit
is_used ws abi (of_abi_slot s) = ltb s (abi_slot_count abi) && ltb s abi_slot_limit

-- a number that was found, or 0
abbrev pub or_zero : Option ℕ → ℕ
or_zero (Some n) = n
or_zero None = 0

module _ (ws text abi labels : List ℕ) where
  -- place q is used, and its "record has equal bytes of both parts" with place p's
  unfoldable pub is_twin : ℕ → ℕ → Bool
  is_twin p q = is_used ws abi (place_at q) && by_bytes ws text abi labels (place_at q) (place_at p)

  -- "the first place whose record has equal bytes of both parts; unused places 0"
  unfoldable pub number_at : ℕ → ℕ
  number_at p = cond (is_used ws abi (place_at p)) (or_zero (find (is_twin p) (numbers 0 number_limit))) 0

-- the 1,024 words, by the texts that the sheets hold
unfoldable pub numbers_of : List ℕ → List ℕ → List ℕ
numbers_of ws abi = list_from (number_at ws (text_of ws) abi (abi_text_of abi)) 0 number_limit

-- ---- the call

-- "row 3, there, at links and at asks, also takes a shorter list"
unfoldable pub numbers_short : List ℕ → Bool
numbers_short ns = ltb (length ns) number_limit

-- what a filling answers, and the list that it leaves
pub record FillOutcome : Type 0 where
  pub refusal : ℕ
  pub numbers : List ℕ

abbrev pub refused_filling : ℕ → List ℕ → FillOutcome
refused_filling n ns = record { refusal = n; numbers = ns }

-- "Turned away: the filling call, 3 to 5 as for a link", and row 3 also of a shorter list. What a longer one has beyond the 1,024 words stays.
unfoldable pub fill_def : List ℕ → List ℕ → List ℕ → FillOutcome
fill_def ws abi ns =
    cond (numbers_short ns)
    (refused_filling 3 ns)
    (cond (not (eqb (set_refusal ws abi) 0))
    (refused_filling (set_refusal ws abi) ns)
    (record { refusal = 0; numbers = numbers_of ws abi ++ drop number_limit ns }))

-- "The list is filled from the very set and ABI sheet that are then linked"
abbrev pub Filled : List ℕ → List ℕ → List ℕ → Type 0
Filled ws abi ns = take number_limit ns ≡ numbers_of ws abi
