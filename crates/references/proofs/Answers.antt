-- A count and a refusal never have one outcome, nor have two refusals, so the contracts determine what a call answers. Assumes nothing.
use mathlib.Core.Path.{◌≡◌, ap}
use mathlib.Core.List.{List}
use Prim.Native.Nat.{ℕ}
use Rattle.std.specs.Prelude.{Result, Ok, Err}
use Rattle.refusal.specs.declared.Refusal.{Refusal}
use Rattle.references.specs.References.{Outcome, outcome}
use Rattle.refusal.proofs.Rows.{row_unique, row_above}
use native.Mathlib.Omega.{arith}

pub answer_unique : (a b : Result ℕ Refusal) (m n : List ℕ) → outcome a m ≡ outcome b n → a ≡ b
answer_unique (Ok i) (Ok j) m n e = ap Ok (ap (λ (x : Outcome). x.count) e)
answer_unique (Ok i) (Err r) m n e = absurd (omega (arith, row_above r, ap (λ (x : Outcome). x.refusal) e))
answer_unique (Err r) (Ok j) m n e = absurd (omega (arith, row_above r, ap (λ (x : Outcome). x.refusal) e))
answer_unique (Err r) (Err s) m n e = ap Err (row_unique r s (ap (λ (x : Outcome). x.refusal) e))
