-- What a filling answers, row by row, and what it leaves of the list. Assumes nothing.
use mathlib.Core.Path.{◌≡◌, sym, ap, ◌∙◌}
use mathlib.Core.Bool.{Bool, true, false}
use mathlib.Core.List.{List}
use Prim.Native.Nat.{ℕ, ◌+◌, ◌≤◌}
use native.Mathlib.Omega.{arith}
use Rattle.std.specs.Prelude.{Ok, Err}
use lib.ListN.{length, get_or}
use borrow.Author.Tests.{ne_eqb, ltb-false}
use Rattle.refusal.specs.declared.Refusal.{Refusal}
use Rattle.refusal.specs.declared.Refusal.TheVariants.{Form}
use Rattle.refusal.specs.Rows.{row}
use Rattle.refusal.proofs.Rows.{row_above}
use Rattle.words.specs.Folds.{table, stores}
use Rattle.words.specs.Lists.{list_from}
use Rattle.words.proofs.FoldLaws.{table-ext, table-list, stores-is}
use Rattle.words.proofs.ListLaws.{length-list-from, get_d_list_from}
use Rattle.class_sheet.specs.ClassSheet.{text_limit, text_length, text_of}
use Rattle.abi_sheet.specs.AbiSheet.{abi_text_limit, abi_text_length, abi_text_of}
use Rattle.set_rules.specs.SetRules.{set_refusal}
use Rattle.set_rules.proofs.Valid.{valid}
use Rattle.linking.specs.Numbers.{number_limit, number_at, numbers_of, numbers_short, fill_def}
use Rattle.signatures.specs.Keys.{outcome}

table-from : (n : ℕ) (f : ℕ → ℕ) → table n f ≡ list_from f 0 n
table-from n f =
    table-ext n f (λ i. get_or (list_from f 0 n) i 0)
    (λ i h. let z : 0 + i ≡ i = omega arith in sym (get_d_list_from f 0 n i 0 h ∙ ap f z))
    ∙ table-list (list_from f 0 n) n (sym (length-list-from f 0 n))

module _ (ws abi ns : List ℕ) where
  pub fill_short : {b : Bool} → b ≡ numbers_short ns → b ≡ true → outcome (Err Form) ns ≡ fill_def ws abi ns
  unfolding fill_def
  fill_short e t = let s : numbers_short ns ≡ true = sym e ∙ t in rw s

  module _ {b : Bool} (e : b ≡ numbers_short ns) (f : b ≡ false) where
    long : numbers_short ns ≡ false
    long = sym e ∙ f

    pub fill_refused : (refusal : Refusal) → row refusal ≡ set_refusal ws abi → outcome (Err refusal) ns ≡ fill_def ws abi ns
    unfolding fill_def
    fill_refused refusal r = rw (long, ← r, ne_eqb (row refusal) 0 (let p = row_above refusal in omega arith))

    pub fill_done : {after : List ℕ} → 0 ≡ set_refusal ws abi → after ≡ stores number_limit (number_at ws (text_of ws) abi (abi_text_of abi)) ns
        → outcome (Ok tt) after ≡ fill_def ws abi ns
    unfolding fill_def numbers_of numbers_short
    fill_done r s =
        let l : number_limit ≤ length ns = ltb-false (length ns) number_limit long in
        let f : ℕ → ℕ = number_at ws (text_of ws) abi (abi_text_of abi) in
        rw (long, ← r, s, stores-is number_limit f ns l, table-from number_limit f)

-- accepted sheets have texts that the room is enough for
pub texts_fit : (ws abi : List ℕ) → 0 ≡ set_refusal ws abi → (text_length ws ≤ text_limit) × (abi_text_length abi ≤ abi_text_limit)
texts_fit ws abi e = let v = valid ws abi (sym e) in (v.0.length_of_text, v.1.length_of_text)
