-- Laws of the rows 3 to 5 of a link or an ask. Assumes nothing.
use mathlib.Core.Path.{◌≡◌, sym, ◌∙◌}
use mathlib.Core.Bool.{Bool, true, false, not}
use mathlib.Core.List.{List}
use Prim.Native.Nat.{ℕ, ◌≤◌}
use borrow.Author.Tests.{not-false}
use Rattle.words.proofs.Bools.{and_both}
use Rattle.class_sheet.specs.ClassSheet.{text_limit, text_length, text_of}
use Rattle.abi_sheet.specs.AbiSheet.{abi_text_limit, abi_text_length, abi_text_of}
use Rattle.class_rules.specs.ClassRules.{class_fits}
use Rattle.abi_rules.specs.AbiRules.{abi_fits}
use Rattle.class_rules.proofs.Laws as class
use Rattle.abi_rules.proofs.Laws as abi
use Rattle.set_rules.specs.SetRules.{set_fits, records_refusal, set_refusal}

pub set_3 : (ws abi : List ℕ) {f : Bool} → f ≡ set_fits ws abi → not f ≡ true → 3 ≡ set_refusal ws abi
unfolding set_refusal
set_3 ws abi e h = rw (← e, h)

-- both texts are there and the rest is rows 4 and 5
module _ (ws a : List ℕ) {f : Bool} (fit : f ≡ set_fits ws a) (h : not f ≡ false) where
  pub set-text : text_length ws ≤ text_limit
  unfolding set_fits
  set-text = (class.fits ws (and_both (class_fits ws) (abi_fits a) (sym fit ∙ not-false f h)).0).0.text

  pub set-abi-text : abi_text_length a ≤ abi_text_limit
  unfolding set_fits
  set-abi-text = (abi.fits a (and_both (class_fits ws) (abi_fits a) (sym fit ∙ not-false f h)).1).0.text

  pub set_rest : {r : ℕ} {t u : List ℕ} → t ≡ text_of ws → u ≡ abi_text_of a → r ≡ records_refusal ws t a u → r ≡ set_refusal ws a
  unfolding set_refusal
  set_rest e k g = g ∙ rw (← fit, h, e, k)
