-- An accepted and a refused renumbering never have one outcome, nor have two refusals, so the contract determines what a renumbering answers.
-- Assumes nothing.
use mathlib.Core.Path.{◌≡◌, ap}
use mathlib.Core.List.{List}
use Prim.Native.Nat.{ℕ}
use native.Mathlib.Omega.{arith}
use Rattle.std.specs.Prelude.{Result, Ok, Err}
use Rattle.refusal.specs.declared.Refusal.{Refusal}
use Rattle.refusal.proofs.Rows.{row_unique, row_above}
use Rattle.renumber.specs.Renumber.{Outcome, outcome}

pub answer_unique : (a b : Result ℕ Refusal) (ws list ws' list' : List ℕ) → outcome a ws list ≡ outcome b ws' list' → a ≡ b
answer_unique (Ok i) (Ok j) ws list ws' list' e = ap Ok (ap (λ (x : Outcome). x.classes) e)
answer_unique (Ok i) (Err r) ws list ws' list' e = absurd (omega (arith, row_above r, ap (λ (x : Outcome). x.refusal) e))
answer_unique (Err r) (Ok j) ws list ws' list' e = absurd (omega (arith, row_above r, ap (λ (x : Outcome). x.refusal) e))
answer_unique (Err r) (Err s) ws list ws' list' e = ap Err (row_unique r s (ap (λ (x : Outcome). x.refusal) e))
