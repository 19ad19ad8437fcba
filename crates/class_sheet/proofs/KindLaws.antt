-- What a number that names a kind is. Assumes nothing.
use Rattle.std.proofs.Common.{ℕ, zero, suc, ◌≡◌, Bool, refl, ap, ◌∙◌, arith}
use borrow.Author.Tests.{lt-leb, ne_eqb}
use Rattle.std.specs.Prelude.{is_ok, leb}
use Rattle.class_sheet.specs.Kinds.{kind_at}

-- the numbers up to 3 name a kind, and no others
kind_known : (n : ℕ) → is_ok (kind_at n) ≡ leb n 3
kind_known zero = refl
kind_known (suc zero) = refl
kind_known (suc (suc zero)) = refl
kind_known (suc (suc (suc zero))) = refl
kind_known (suc (suc (suc (suc n)))) =
    let m = suc (suc (suc (suc n))) in
    rw (ne_eqb m 0 (omega arith), ne_eqb m 1 (omega arith), ne_eqb m 2 (omega arith), ne_eqb m 3 (omega arith), lt-leb m 3 (omega arith)) refl

pub known_kind : (n : ℕ) {r : _} {b : Bool} → r ≡ kind_at n → b ≡ is_ok r → b ≡ leb n 3
known_kind n e q = q ∙ ap is_ok e ∙ kind_known n
