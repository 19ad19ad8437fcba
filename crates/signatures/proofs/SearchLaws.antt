-- The search for a place's first twin may begin at the place kept for its key's bucket, and end at the place itself, which is its own. Assumes nothing.
use Rattle.std.specs.Option.{unwrap_or}
use Rattle.std.specs.Prelude.{Option, Some}
use mathlib.Core.Path.{◌≡◌, sym, ap, ◌∙◌}
use mathlib.Core.Bool.{Bool, true, false}
use mathlib.Core.List.{List}
use Prim.Native.Nat.{ℕ, zero, suc, ◌+◌, ◌-◌, ◌≤◌, ◌<◌}
use native.Mathlib.Omega.{arith}
use lib.ListN.{get_or}
use Rattle.words.specs.Lists.{list_from, numbers, find}
use Rattle.words.proofs.Bools.{by}
use Rattle.text.proofs.Laws.{same_refl}
use Rattle.linking.specs.Signature.{place_at, place_name, place_descriptor, by_bytes}
use Rattle.linking.specs.Numbers.{number_limit, is_twin, number_at}
use Rattle.linking.specs.Sheets.{of_sheets}
use Rattle.linking.specs.declared.Sheets.{Sheets}
use Rattle.signatures.specs.Keys.{used_in, bucket_of, Keyed, Least}
use Rattle.signatures.proofs.KeyLaws.{keys_same}

-- ---- searches

-- numbers that do not pass are passed over
find-skip : (p : ℕ → Bool) (a n m : ℕ) → ((k : ℕ) → k < a + n → p k ≡ false) → find p (numbers a (n + m)) ≡ find p (numbers (a + n) m)
unfolding find list_from
find-skip p a zero m h = let e : 0 + m ≡ m = omega arith in let z : a + 0 ≡ a = omega arith in rw (e, z)
find-skip p a (suc n) m h =
    let e : suc n + m ≡ suc (n + m) = omega arith in
    let z : a + suc n ≡ a + 1 + n = omega arith in
    rw (e, h a (omega arith), z) (find-skip p (a + 1) n m (λ k l. h k (omega arith)))

-- and a number that passes ends the search
find-stop : (p : ℕ → Bool) (a n m : ℕ) → p (a + n) ≡ true → find p (numbers a (n + suc m)) ≡ Some (unwrap_or (find p (numbers a n)) (a + n))
unfolding find list_from
find-stop p a zero m h =
    let e : 0 + suc m ≡ suc m = omega arith in
    let z : a + 0 ≡ a = omega arith in
    rw (e, z) (rw (rw z at h))
find-stop p a (suc n) m h =
    let e : suc n + suc m ≡ suc (n + suc m) = omega arith in
    let z : a + suc n ≡ a + 1 + n = omega arith in
    rw e (by (p a) (λ t. rw t) (λ t. rw (t, z) (find-stop p (a + 1) n m (rw z at h))))

-- so that it may begin where nothing before passes, and end at a number that does
find-between : (p : ℕ → Bool) (f x n : ℕ) → f ≤ x → x < n → ((k : ℕ) → k < f → p k ≡ false) → p x ≡ true
    → find p (numbers 0 n) ≡ Some (unwrap_or (find p (numbers f (x - f))) x)
find-between p f x n h g none here =
    let e : f + (x - f + suc (n - (x + 1))) ≡ n = omega arith in
    let y : f + (x - f) ≡ x = omega arith in
    let z : 0 + f ≡ f = omega arith in
    ap (λ (k : ℕ). find p (numbers 0 k)) (sym e)
    ∙ find-skip p 0 f (x - f + suc (n - (x + 1))) (λ k l. none k (omega arith))
    ∙ ap (λ (k : ℕ). find p (numbers k (x - f + suc (n - (x + 1))))) z
    ∙ find-stop p f (x - f) (n - (x + 1)) (rw y here)
    ∙ ap (λ (k : ℕ). Some (unwrap_or (find p (numbers f (x - f))) k)) y

module _ (s : Sheets) where
  -- a used place is its own twin
  own-twin : (p : ℕ) → used_in s p ≡ true → of_sheets is_twin s p p ≡ true
  unfolding is_twin by_bytes
  own-twin p u = rw (u, same_refl (of_sheets place_name s (place_at p)), same_refl (of_sheets place_descriptor s (place_at p)))

  pub number_none : (p : ℕ) {b : Bool} → b ≡ used_in s p → b ≡ false → 0 ≡ of_sheets number_at s p
  unfolding number_at
  number_none p e f = let u : used_in s p ≡ false = sym e ∙ f in rw u

  module _ (keys firsts : List ℕ) (keyed : Keyed s keys) (least : Least keys firsts) (p : ℕ) (used : used_in s p ≡ true) (inside : p < number_limit) where
    first-before : (q : ℕ) → q < number_limit → of_sheets is_twin s p q ≡ true → get_or firsts (bucket_of (get_or keys p 0)) 0 ≤ q
    first-before q l t = rw (keys_same s keys keyed p used inside q l t) at (least.each q l)

    pub number-found : {f : ℕ} {o : Option ℕ} {r : ℕ} → f ≡ get_or firsts (bucket_of (get_or keys p 0)) 0
        → o ≡ find (of_sheets is_twin s p) (numbers f (p - f)) → r ≡ unwrap_or o p → r ≡ of_sheets number_at s p
    unfolding number_at
    number-found {f} {o} {r} e g h =
        let l = least.each p inside in
        let found =
        find-between (of_sheets is_twin s p) f p number_limit (omega arith) inside
        (λ k b. by (of_sheets is_twin s p k) (λ t. absurd (let a = first-before k (omega arith) t in omega arith)) (λ t. t))
        (own-twin p used) in
        rw (used, found) (h ∙ ap (λ (x : Option ℕ). unwrap_or x p) g)
