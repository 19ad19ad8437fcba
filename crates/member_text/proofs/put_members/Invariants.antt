-- What puts the lines that are left, puts all of them from where it began. Assumes nothing.
use Rattle.std.proofs.Common.{◌≡◌, ℕ, ◌+◌, List}
use Rattle.lines.specs.Out.{Puts}
use Rattle.lines.specs.declared.Out.{Out}
use Rattle.member_text.specs.MemberText.{target_of}
use Rattle.member_text.proofs.TextLaws.{lines_left}
use Rattle.member_text.proofs.put_members.Given as goal

pub record Put (out₀ out : Out) (bs kind : List ℕ) (first step n p i next last : ℕ) : Type 0 where
  pub target : last ≡ target_of first step i
  pub rest : (q : Out) → Puts out q (lines_left bs kind first step n i next) → Puts out₀ q (lines_left bs kind first step n 0 (p + 2))

abbrev pub invariant-loop-i : goal.invariant-loop-i
invariant-loop-i l = Put l.initial.out l.out l.pool.bytes.now l.kind l.first l.step l.i-end l.p l.i l.next l.last
