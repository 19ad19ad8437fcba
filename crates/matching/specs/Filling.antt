-- What a filling of the list of numbers gives: "place m for method m, 512 + s for ABI slot s, both from 0, each holding the first place whose record has equal
-- bytes of both parts; unused places 0." `filling` of proofs/Filling.antt proves it. Assumes nothing.
use Rattle.std.specs.Prelude.{ℕ, ◌≤◌, ◌<◌, ◌≡◌, true, false, cond, List, length, get_or, drop}
use Rattle.class_sheet.specs.ClassSheet.{method_count, text_of}
use Rattle.abi_sheet.specs.AbiSheet.{abi_slot_count, abi_text_of}
use Rattle.set_rules.specs.SetRules.{set_refusal}
use Rattle.linking.specs.Signature.{Place, of_method, of_abi_slot, place_name, place_descriptor, place_number, place_at, by_numbers}
use Rattle.linking.specs.Numbers.{number_limit, is_used, numbers_short, fill_def, Filled}

-- "equal bytes of both parts": each part for itself, whichever text it lies in
pub record EqualParts (ws abi : List ℕ) (p q : Place) : Type 0 where
  pub name : place_name ws (text_of ws) abi (abi_text_of abi) p ≡ place_name ws (text_of ws) abi (abi_text_of abi) q
  pub descriptor : place_descriptor ws (text_of ws) abi (abi_text_of abi) p ≡ place_descriptor ws (text_of ws) abi (abi_text_of abi) q

abbrev pub Used : List ℕ → List ℕ → Place → Type 0
Used ws abi p = is_used ws abi p ≡ true

-- n is "the first place whose record has equal bytes of both parts" with place p's
pub record FirstPlace (ws abi : List ℕ) (p : Place) (n : ℕ) : Type 0 where
  pub used : Used ws abi (place_at n)
  pub same : EqualParts ws abi (place_at n) p
  pub least : (q : Place) → Used ws abi q → EqualParts ws abi q p → n ≤ place_number q

-- a list that tells signatures apart as their bytes do: two used places have one number just where both parts are equal. It need not be what a
-- filling leaves.
pub record Faithful (ws abi ns : List ℕ) : Type 0 where
  pub long : number_limit ≤ length ns
  pub equal : (p q : Place) → Used ws abi p → Used ws abi q → EqualParts ws abi p q → by_numbers ns p q ≡ true
  pub apart : (p q : Place) → Used ws abi p → Used ws abi q → by_numbers ns p q ≡ true → EqualParts ws abi p q

pub record Filling : Type 0 where
  -- of accepted sheets each method and each ABI slot has a used place
  pub methods : (ws abi : List ℕ) → set_refusal ws abi ≡ 0 → (m : ℕ) → m < method_count ws → Used ws abi (of_method m)
  pub slots : (ws abi : List ℕ) → set_refusal ws abi ≡ 0 → (s : ℕ) → s < abi_slot_count abi → Used ws abi (of_abi_slot s)
  -- row 3 "also takes a shorter list", before all else, and 3 to 5 are as for a link
  pub row : (ws abi ns : List ℕ) → (fill_def ws abi ns).refusal ≡ cond (numbers_short ns) 3 (set_refusal ws abi)
  -- an accepted filling leaves the list filled, and the rest of a longer one as it was
  pub filled : (ws abi ns : List ℕ) → (fill_def ws abi ns).refusal ≡ 0
      → (set_refusal ws abi ≡ 0) × Filled ws abi (fill_def ws abi ns).numbers × (drop number_limit (fill_def ws abi ns).numbers ≡ drop number_limit ns)
  -- of a filled list, whatever the sheets are: each used place holds the first place with its parts, each other place 0
  pub fill_first : (ws abi ns : List ℕ) → Filled ws abi ns → (p : Place) → Used ws abi p → FirstPlace ws abi p (get_or ns (place_number p) 0)
  pub fill_unused : (ws abi ns : List ℕ) → Filled ws abi ns → (n : ℕ) → n < number_limit → is_used ws abi (place_at n) ≡ false → get_or ns n 0 ≡ 0
  -- so of methods alone with one signature, up to 512, the list is all 0; and where no two signatures are equal each place holds itself, of ABI slots alone
  -- 512 + s
  pub one_signature : (ws abi ns : List ℕ) → Filled ws abi ns → Used ws abi (of_method 0)
      → ((p : Place) → Used ws abi p → EqualParts ws abi (of_method 0) p) → (n : ℕ) → n < number_limit → get_or ns n 0 ≡ 0
  pub all_apart : (ws abi ns : List ℕ) → Filled ws abi ns → ((p q : Place) → Used ws abi p → Used ws abi q → EqualParts ws abi p q → p ≡ q)
      → (p : Place) → Used ws abi p → get_or ns (place_number p) 0 ≡ place_number p
  -- and the numbers tell signatures apart as their bytes do
  pub fill_faithful : (ws abi ns : List ℕ) → Filled ws abi ns → Faithful ws abi ns
