-- An accepted and a refused call never have one outcome, so the contracts determine what a link and an ask answer: the place that an accepted
-- call answers is not 0, and a refusal has a number. Assumes nothing.
use mathlib.Core.Path.{◌≡◌, sym, ap, ◌∙◌}
use mathlib.Core.Logic.{◌≢◌}
use mathlib.Core.List.{List}
use Prim.Native.Nat.{ℕ}
use Rattle.linking.specs.Link.{Outcome}
use Rattle.area.specs.Area.{outcome}
use Rattle.area.specs.declared.Answer.{Answer}
use Rattle.std.specs.Prelude.{Result, Ok, Err}
use Rattle.refusal.specs.declared.Refusal.{Refusal}
use Rattle.refusal.proofs.Rows.{row_unique}

-- an outcome that tells its answer
abbrev pub Tells : Outcome → Type 0
Tells o = o.refusal ≡ 0 → o.first ≢ 0

pub answer_unique : (a b : Result Answer Refusal) (ws area ws' area' : List ℕ) {o : Outcome} → Tells o → outcome a ws area ≡ o → outcome b ws' area' ≡ o → a ≡ b
answer_unique (Ok a) (Ok b) ws area ws' area' t e f =
    let p = ap (λ (x : Outcome). x.first) (e ∙ sym f) in
    let q = ap (λ (x : Outcome). x.second) (e ∙ sym f) in
    ap (λ (x : ℕ). Ok (record { first = x; second = a.second })) p ∙ ap (λ (x : ℕ). Ok (record { first = b.first; second = x })) q
answer_unique (Ok a) (Err s) ws area ws' area' t e f =
    absurd (t (sym (ap (λ (x : Outcome). x.refusal) e)) (sym (ap (λ (x : Outcome). x.first) f)))
answer_unique (Err r) (Ok b) ws area ws' area' t e f =
    absurd (t (sym (ap (λ (x : Outcome). x.refusal) f)) (sym (ap (λ (x : Outcome). x.first) e)))
answer_unique (Err r) (Err s) ws area ws' area' t e f = ap Err (row_unique r s (ap (λ (x : Outcome). x.refusal) (e ∙ sym f)))
