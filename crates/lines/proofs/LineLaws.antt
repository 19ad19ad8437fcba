-- Laws of a part of a text as a line shows it. Assumes nothing.
use mathlib.Core.Path.{◌≡◌, refl, sym, ◌∙◌}
use mathlib.Core.Bool.{Bool, true, false}
use mathlib.Core.List.{List, [], ◌∷◌}
use Prim.Native.Nat.{ℕ}
use native.Mathlib.Omega.{arith}
use lib.ListN.{length}
use lib.Dec.{eqb}
use borrow.Author.Tests.{eqb-true, eqb-false}
use Rattle.lines.specs.Lines.{shown}

pub shown-dash : (part : List ℕ) {b : Bool} → b ≡ eqb (length part) 0 → b ≡ true → 45 ∷ [] ≡ shown part
shown-dash [] e t = refl
shown-dash (x ∷ xs) e t = let h = eqb-true _ _ (sym e ∙ t) in absurd (omega arith)

pub shown-part : (part : List ℕ) {b : Bool} → b ≡ eqb (length part) 0 → b ≡ false → part ≡ shown part
shown-part [] e f = absurd (eqb-false 0 0 (sym e ∙ f) refl)
shown-part (x ∷ xs) e f = refl
