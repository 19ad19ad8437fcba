-- An accepted and a refused writing never have one outcome, so the contract determines what a writing answers: an accepted one has written a
-- block at least, and a refusal has a number. Assumes nothing.
use mathlib.Core.Path.{◌≡◌, sym, ap, ◌∙◌}
use mathlib.Core.Logic.{◌≢◌}
use mathlib.Core.List.{List}
use Prim.Native.Nat.{ℕ}
use native.Mathlib.Omega.{arith}
use Rattle.std.proofs.Common.{Result, Ok, Err}
use Rattle.refusal.specs.declared.Refusal.{Refusal}
use Rattle.refusal.proofs.Rows.{row_unique}
use Rattle.writer.specs.Writer.{Outcome, outcome, write_class_sheet}
use Rattle.writer.proofs.RoundTrip.{round_trip}

-- an outcome that tells its answer
abbrev pub Tells : Outcome → Type 0
Tells o = o.refusal ≡ 0 → o.blocks ≢ 0

pub answer_unique : (a b : Result ℕ Refusal) (m n : List ℕ) {o : Outcome} → Tells o → outcome a m ≡ o → outcome b n ≡ o → a ≡ b
answer_unique (Ok i) (Ok j) m n t e f = ap Ok (ap (λ (x : Outcome). x.blocks) (e ∙ sym f))
answer_unique (Ok i) (Err k) m n t e f =
    absurd (t (sym (ap (λ (x : Outcome). x.refusal) e)) (sym (ap (λ (x : Outcome). x.blocks) f)))
answer_unique (Err k) (Ok j) m n t e f =
    absurd (t (sym (ap (λ (x : Outcome). x.refusal) f)) (sym (ap (λ (x : Outcome). x.blocks) e)))
answer_unique (Err j) (Err k) m n t e f = ap Err (row_unique j k (ap (λ (x : Outcome). x.refusal) (e ∙ sym f)))

pub write_tells : (ws bs : List ℕ) → Tells (write_class_sheet ws bs)
write_tells ws bs e z = omega (arith, (round_trip.few ws bs e).0)
