-- The theorem of specs/Filling.antt. Assumes nothing.
use mathlib.Core.Path.{◌≡◌, sym}
use mathlib.Core.Bool.{cond}
use mathlib.Core.List.{List}
use Prim.Native.Nat.{ℕ, ◌<◌}
use native.Mathlib.Omega.{arith}
use lib.ListN.{drop}
use lib.Seq.{take_at, drop_at}
use lib.Dec.{eqb}
use borrow.Author.Tests.{eqb-true, eqb-false, lt-ltb}
use Rattle.words.specs.Lists.{list_from}
use Rattle.words.proofs.Bools.{by}
use Rattle.words.proofs.ListLaws.{length-list-from}
use Rattle.class_sheet.specs.ClassSheet.{method_limit, method_count, text_of}
use Rattle.abi_sheet.specs.AbiSheet.{abi_slot_limit, abi_slot_count, abi_text_of}
use Rattle.set_rules.specs.SetRules.{set_refusal}
use Rattle.set_rules.proofs.Valid.{valid}
use Rattle.linking.specs.Signature.{of_method, of_abi_slot}
use Rattle.linking.specs.Numbers.{number_limit, is_used, number_at, numbers_of, numbers_short, fill_def, Filled}
use Rattle.matching.specs.Filling.{Used, Filling}
use Rattle.matching.proofs.Filled.{fill-first, fill-unused, fill-faithful, one_signature, all_apart}

methods-used : (ws abi : List ℕ) → set_refusal ws abi ≡ 0 → (m : ℕ) → m < method_count ws → Used ws abi (of_method m)
unfolding is_used
methods-used ws abi e m h =
    let v = valid ws abi e in let n = v.0.number_of_methods in rw (lt-ltb m (method_count ws) h) (lt-ltb m method_limit (omega arith))

slots-used : (ws abi : List ℕ) → set_refusal ws abi ≡ 0 → (s : ℕ) → s < abi_slot_count abi → Used ws abi (of_abi_slot s)
unfolding is_used
slots-used ws abi e s h =
    let v = valid ws abi e in let n = v.1.slot_count in rw (lt-ltb s (abi_slot_count abi) h) (lt-ltb s abi_slot_limit (omega arith))

row : (ws abi ns : List ℕ) → (fill_def ws abi ns).refusal ≡ cond (numbers_short ns) 3 (set_refusal ws abi)
unfolding fill_def
row ws abi ns =
    by (numbers_short ns) (λ t. rw t)
    (λ t. by (eqb (set_refusal ws abi) 0) (λ v. rw (t, v) (sym (eqb-true (set_refusal ws abi) 0 v))) (λ v. rw (t, v)))

filled : (ws abi ns : List ℕ) → (fill_def ws abi ns).refusal ≡ 0
    → (set_refusal ws abi ≡ 0) × Filled ws abi (fill_def ws abi ns).numbers × (drop number_limit (fill_def ws abi ns).numbers ≡ drop number_limit ns)
unfolding fill_def numbers_of
filled ws abi ns e =
    let l = length-list-from (number_at ws (text_of ws) abi (abi_text_of abi)) 0 number_limit in
    by (numbers_short ns) (λ t. absurd (let z : 3 ≡ 0 = rw t at e in omega arith))
    (λ t.
    let f = rw t at e in
    by (eqb (set_refusal ws abi) 0)
    (λ v.
    rw (t, v) (
      eqb-true (set_refusal ws abi) 0 v,
      take_at (list_from (number_at ws (text_of ws) abi (abi_text_of abi)) 0 number_limit) (drop number_limit ns) number_limit l,
      drop_at (list_from (number_at ws (text_of ws) abi (abi_text_of abi)) 0 number_limit) (drop number_limit ns) number_limit l,
    ))
    (λ v. absurd (eqb-false (set_refusal ws abi) 0 v (rw v at f))))

pub filling : Filling
filling = record {
  methods = methods-used;
  slots = slots-used;
  row = row;
  filled = filled;
  fill_first = fill-first;
  fill_unused = fill-unused;
  one_signature = one_signature;
  all_apart = all_apart;
  fill_faithful = fill-faithful;
}
