-- Tests taken apart. Assumes nothing.
use mathlib.Core.Path.{◌≡◌, refl}
use Prim.Native.Nat.{ℕ}
use mathlib.Core.Logic.{◌⊎◌, inl, inr}
use mathlib.Core.Bool.{Bool, true, false, cond, ◌&&◌, ◌||◌, false≢true, true≢false}

-- by cases on a test, with what it says in each
pub by : {X : Type 0} (b : Bool) → (b ≡ true → X) → (b ≡ false → X) → X
by true f g = f refl
by false f g = g refl

pub and_both : (a b : Bool) → (a && b) ≡ true → (a ≡ true) × (b ≡ true)
and_both true b h = (refl, h)
and_both false b h = absurd (false≢true h)

pub or-neither : (a b : Bool) → (a || b) ≡ false → (a ≡ false) × (b ≡ false)
or-neither true b h = absurd (true≢false h)
or-neither false b h = (refl, h)

pub or-either : (a b : Bool) → (a || b) ≡ true → (a ≡ true) ⊎ (b ≡ true)
or-either true b h = inl refl
or-either false b h = inr h

-- chains of tests
pub and_3 : (a b c : Bool) → (a && b && c) ≡ true → (a ≡ true) × (b ≡ true) × (c ≡ true)
and_3 a b c h = let p = and_both (a && b) c h in let q = and_both a b p.0 in (q.0, q.1, p.1)

pub and_4 : (a b c d : Bool) → (a && b && c && d) ≡ true → (a ≡ true) × (b ≡ true) × (c ≡ true) × (d ≡ true)
and_4 a b c d h = let p = and_both (a && b && c) d h in let q = and_3 a b c p.0 in (q.0, q.1, q.2, p.1)

pub and_5 : (a b c d e : Bool) → (a && b && c && d && e) ≡ true
    → (a ≡ true) × (b ≡ true) × (c ≡ true) × (d ≡ true) × (e ≡ true)
and_5 a b c d e h = let p = and_both (a && b && c && d) e h in let q = and_4 a b c d p.0 in (q.0, q.1, q.2, q.3, p.1)

pub and_6 : (a b c d e f : Bool) → (a && b && c && d && e && f) ≡ true
    → (a ≡ true) × (b ≡ true) × (c ≡ true) × (d ≡ true) × (e ≡ true) × (f ≡ true)
and_6 a b c d e f h =
    let p = and_both (a && b && c && d && e) f h in let q = and_5 a b c d e p.0 in (q.0, q.1, q.2, q.3, q.4, p.1)

pub and_7 : (a b c d e f g : Bool) → (a && b && c && d && e && f && g) ≡ true
    → (a ≡ true) × (b ≡ true) × (c ≡ true) × (d ≡ true) × (e ≡ true) × (f ≡ true) × (g ≡ true)
and_7 a b c d e f g h =
    let p = and_both (a && b && c && d && e && f) g h in
    let q = and_6 a b c d e f p.0 in (q.0, q.1, q.2, q.3, q.4, q.5, p.1)

-- a refusal with a number that is not 0 was passed over
pub passed : (b : Bool) (k r : ℕ) → (k ≡ 0 → ⊥) → cond b k r ≡ 0 → (b ≡ false) × (r ≡ 0)
passed true k r n e = absurd (n e)
passed false k r n e = (refl, e)
