-- What a reading asks of the rows that it is handed; no public promise cites it. Assumes nothing.
use Rattle.std.specs.Prelude.{ℕ, ◌≡◌, List, Result}
use Rattle.refusal.specs.Rows.{row_of}
use Rattle.refusal.specs.declared.Refusal.{Refusal}
use denote.Ref.{Bor}

-- what a call on words answers, as the call tells, is what `rule` says of them
abbrev pub Judges : (Bor (List ℕ) → Result Unit Refusal → Type 0) → (List ℕ → ℕ) → Type 0
Judges call rule = (ws : Bor (List ℕ)) (r : Result Unit Refusal) → call ws r → row_of r ≡ rule ws.now
