-- What a link answers is determined by its contract: each row that refuses it has a number, and the place that it answers is the area's next free
-- word, which is not 0. (An ask: ask/proofs/Answers.antt.) Assumes nothing.
use mathlib.Core.Path.{◌≡◌, sym, ap, ◌∙◌}
use mathlib.Core.Logic.{inl, inr}
use mathlib.Core.List.{List}
use Prim.Native.Nat.{ℕ}
use Rattle.linking.specs.Numbered.{NumberedOutcome, link_numbered}
use Rattle.link.specs.Stored.{numbered_outcome}
use Rattle.std.specs.Prelude.{Result}
use Rattle.refusal.specs.declared.Refusal.{Refusal}
use Rattle.area.specs.declared.Answer.{Answer}
use Rattle.area.proofs.Answers.{Tells, answer_unique}
use Rattle.matching.proofs.Numbered.{ends}

module _ (ws abi ns : List ℕ) (c : ℕ) (area stubs missing : List ℕ) where
  pub link_tells : Tells (link_numbered ws abi ns c area stubs missing).outcome
  link_tells =
      elim (ends ws abi ns c area stubs missing) [
        | inl r ↦ λ e. absurd (r.number e)
        | inr a ↦ λ e z. a.accepted.lent.some (sym a.accepted.answers-place ∙ z)
      ]

  pub link-answer : (a b : Result Answer Refusal) (s t u v s' t' u' v' : List ℕ) → numbered_outcome a s t u v ≡ link_numbered ws abi ns c area stubs missing
      → numbered_outcome b s' t' u' v' ≡ link_numbered ws abi ns c area stubs missing → a ≡ b
  link-answer a b s t u v s' t' u' v' e f =
      answer_unique a b s t s' t' link_tells (ap (λ (x : NumberedOutcome). x.outcome) e) (ap (λ (x : NumberedOutcome). x.outcome) f)
