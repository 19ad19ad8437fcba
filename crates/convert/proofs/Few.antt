-- No row of a class sheet's words is above 5. Assumes nothing.
use mathlib.Core.Bool.{Bool, true, false, cond, not}
use mathlib.Core.List.{List}
use Prim.Native.Nat.{ℕ, ◌≤◌}
use native.Mathlib.Omega.{arith}
use Rattle.class_sheet.specs.ClassSheet.{text_of}
use Rattle.class_rules.specs.ClassRules.{class_records, class_form}
use Rattle.set_rules.specs.SetRules.{class_refusal, class_descriptors}
use Rattle.sheet.specs.Sheet.{class_rows}

-- a choice of two is at most what both are
pub at_most : (most : ℕ) (b : Bool) (x y : ℕ) → x ≤ most → y ≤ most → cond b x y ≤ most
at_most most true x y h k = h
at_most most false x y h k = k

pub records-few : (ws text : List ℕ) → class_refusal ws text ≤ 5
unfolding class_refusal
records-few ws text =
    at_most 5 (not (class_records ws text)) 4 _ (omega arith) (at_most 5 (not (class_descriptors ws text)) 5 0 (omega arith) (omega arith))

pub class-few : (ws : List ℕ) → class_rows ws ≤ 5
unfolding class_rows
class-few ws = at_most 5 (not (class_form ws)) 3 _ (omega arith) (records-few ws (text_of ws))
