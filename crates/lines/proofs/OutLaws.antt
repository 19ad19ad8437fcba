-- Laws of text that is put into lent bytes, a piece after the other as the code puts them. Assumes nothing.
use mathlib.Core.Path.{◌≡◌, refl, ◌∙◌, ap, subst}
use mathlib.Core.List.{List, [], ◌∷◌, ◌++◌}
use Prim.Native.Nat.{ℕ, ◌+◌, ◌/◌, ◌%◌, ◌≤◌, ◌<◌}
use native.Mathlib.Omega.{arith}
use lib.ListN.{length, set}
use Rattle.lines.specs.Bytes.{decimal}
use Rattle.lines.specs.Out.{standing, Puts}
use Rattle.lines.specs.declared.Out.{Out}
use Rattle.lines.proofs.ByteLaws.{byte_put, byte_full, put_one, put-none, decimal-one, decimal-more, then as append}

pub puts-none : (o : Out) → Puts o o []
puts-none o = record { puts = put-none (standing o); same = refl }

-- a text, and then another
pub then : {o p q : Out} {a b : List ℕ} → Puts o p a → Puts p q b → Puts o q (a ++ b)
then {o} {p} {q} {a} {b} f g = record { puts = append (standing o) a b f.puts g.puts; same = g.same ∙ f.same }

-- a byte where there is room, and where there is none
pub byte-put : (o p : Out) (b : ℕ) → o.at < length o.bytes.now → p.bytes.now ≡ set o.bytes.now o.at b → p.at ≡ o.at + 1
    → p.bytes.ghost_name ≡ o.bytes.ghost_name → Puts o p (b ∷ [])
byte-put o p b h e f g =
    record { puts = put_one (standing o) b (ap (λ (k : ℕ). (p.bytes.now, k)) f ∙ byte_put o.bytes.now o.at b h e); same = g }

pub byte-full : (o : Out) (b : ℕ) → length o.bytes.now ≤ o.at → Puts o o (b ∷ [])
byte-full o b h = record { puts = put_one (standing o) b (byte_full o.bytes.now o.at b h); same = refl }

-- a number's one digit, or the digits before the last one and then that
pub digit-put : {o p : Out} (n : ℕ) → n < 10 → Puts o p ((48 + n % 10) ∷ []) → Puts o p (decimal n)
digit-put {o} {p} n h e = let m : n % 10 ≡ n = omega arith in rw (decimal-one n h) (subst (λ (k : ℕ). Puts o p ((48 + k) ∷ [])) m e)

pub digits-put : {o p q : Out} (n : ℕ) → 10 ≤ n → Puts o p (decimal (n / 10)) → Puts p q ((48 + n % 10) ∷ []) → Puts o q (decimal n)
digits-put n h e f = rw (decimal-more n h) (then e f)
