-- A filled list: each used place holds the first place with its parts, so that two of them have one number just where their parts are equal. Assumes nothing.
use mathlib.Core.Path.{◌≡◌, refl, sym, ap, ◌∙◌}
use mathlib.Core.Bool.{Bool, true, false, true≢false}
use mathlib.Core.List.{List}
use Prim.Native.Nat.{ℕ, zero, suc, ◌+◌, ◌≤◌, ◌<◌}
use native.Mathlib.Omega.{arith}
use lib.ListN.{length, get_or, length-take}
use lib.Seq.{get_or-take}
use lib.Dec.{eqb}
use borrow.Author.Tests.{eqb-true, eqb-false, eq-eqb}
use Rattle.std.specs.Prelude.{Some}
use Rattle.words.specs.Lists.{list_from, numbers, find}
use Rattle.words.proofs.Bools.{by, and_both}
use Rattle.words.proofs.ListLaws.{find-passes, length-list-from, get_d_list_from}
use Rattle.class_sheet.specs.ClassSheet.{text_of}
use Rattle.abi_sheet.specs.AbiSheet.{abi_text_of}
use Rattle.linking.specs.Signature.{Place, of_method, place_number, place_at, by_numbers}
use Rattle.linking.specs.Numbers.{number_limit, is_used, is_twin, number_at, numbers_of, Filled}
use Rattle.matching.specs.Filling.{EqualParts, Used, FirstPlace, Faithful}
use Rattle.matching.proofs.Parts.{number-back, number-below, place-back, parts-refl, parts-sym, parts-trans, by_sheets, bytes-parts, parts-bytes}

-- ---- the first number that passes, by one that does

find-first : (p : ℕ → Bool) (a n x : ℕ) → a ≤ x → x < a + n → p x ≡ true → (k : ℕ) × (find p (numbers a n) ≡ Some k) × (k ≤ x)
unfolding find list_from
find-first p a zero x h g t = absurd (omega arith)
find-first p a (suc n) x h g t =
    by (p a) (λ q. (a, rw q refl, h)) (λ q. let r = find-first p (a + 1) n x (past q) (omega arith) t in (r.0, rw q r.1, r.2))
  where
    past : p a ≡ false → a + 1 ≤ x
    past q =
        by (eqb x a) (λ s. let z : x ≡ a = eqb-true x a s in absurd (true≢false (sym t ∙ rw z q))) (λ s. let n = eqb-false x a s in omega arith)

pub filled-long : (ws abi ns : List ℕ) → Filled ws abi ns → number_limit ≤ length ns
unfolding numbers_of
filled-long ws abi ns filled =
    omega (arith, length-take number_limit ns, ap length filled, length-list-from (number_at ws (text_of ws) abi (abi_text_of abi)) 0 number_limit)

module _ (ws abi : List ℕ) where
  abbrev twin : ℕ → ℕ → Bool
  twin = is_twin ws (text_of ws) abi (abi_text_of abi)

  abbrev number : ℕ → ℕ
  number = number_at ws (text_of ws) abi (abi_text_of abi)

  -- ---- the number of a used place: the first used place with equal parts

  twin-at : (p q : Place) → Used ws abi p → Used ws abi q → EqualParts ws abi q p → twin (place_number p) (place_number q) ≡ true
  unfolding is_twin
  twin-at p q u v e = rw (place-back ws abi p u, place-back ws abi q v, v) (parts-bytes ws abi q p e)

  passes : (p : Place) → Used ws abi p → (k : ℕ) → find (twin (place_number p)) (numbers 0 number_limit) ≡ Some k
      → Used ws abi (place_at k) × EqualParts ws abi (place_at k) p
  unfolding is_twin
  passes p u k e =
      let t = find-passes (twin (place_number p)) (numbers 0 number_limit) k e in
      let b = and_both (is_used ws abi (place_at k)) (by_sheets ws abi (place_at k) (place_at (place_number p))) t in
      (b.0, bytes-parts ws abi (place_at k) p (rw (place-back ws abi p u) at b.1))

  first-place : (p : Place) → Used ws abi p → FirstPlace ws abi p (number (place_number p))
  unfolding number_at
  first-place p u =
      let own =
      find-first (twin (place_number p)) 0 number_limit (place_number p) (omega arith) (number-below ws abi p u) (twin-at p p u u (parts-refl ws abi p)) in
      rw (place-back ws abi p u, u, own.1)
      (record {
        used = (passes p u own.0 own.1).0;
        same = (passes p u own.0 own.1).1;
        least = λ q v h.
            let r = find-first (twin (place_number p)) 0 number_limit (place_number q) (omega arith) (number-below ws abi q v) (twin-at p q u v h) in
            let s : Some r.0 ≡ Some own.0 = sym r.1 ∙ own.1 in
            let e : r.0 ≡ own.0 = cc in
            let l = r.2 in
            omega arith;
      })

  -- ---- the list

  module _ (ns : List ℕ) (filled : Filled ws abi ns) where
    holds : (n : ℕ) → n < number_limit → get_or ns n 0 ≡ number n
    unfolding numbers_of
    holds n l =
        sym (get_or-take number_limit ns n 0 l) ∙ ap (λ (x : List ℕ). get_or x n 0) filled ∙ get_d_list_from number 0 number_limit n 0 l
        ∙ ap number (omega arith)

    pub fill-first : (p : Place) → Used ws abi p → FirstPlace ws abi p (get_or ns (place_number p) 0)
    fill-first p u = rw (holds (place_number p) (number-below ws abi p u)) (first-place p u)

    pub fill-unused : (n : ℕ) → n < number_limit → is_used ws abi (place_at n) ≡ false → get_or ns n 0 ≡ 0
    unfolding number_at
    fill-unused n l f = holds n l ∙ rw f

    -- where all have the signature of method 0, that is the first place of each; where no two are equal, each is its own first

    pub one_signature : Used ws abi (of_method 0) → ((p : Place) → Used ws abi p → EqualParts ws abi (of_method 0) p) → (n : ℕ) → n < number_limit
        → get_or ns n 0 ≡ 0
    unfolding place_number
    one_signature u alike n l =
        by (is_used ws abi (place_at n))
        (λ v. let h = rw (number-back n) at (fill-first (place_at n) v).least (of_method 0) u (alike (place_at n) v) in omega arith)
        (λ f. fill-unused n l f)

    pub all_apart : ((p q : Place) → Used ws abi p → Used ws abi q → EqualParts ws abi p q → p ≡ q) → (p : Place) → Used ws abi p
        → get_or ns (place_number p) 0 ≡ place_number p
    all_apart apart p u =
        let a = fill-first p u in
        let k : ℕ = get_or ns (place_number p) 0 in
        sym (number-back k) ∙ ap place_number (apart (place_at k) p a.used u a.same)

    -- a place's number is at most another's with equal parts
    at-most : (p q : Place) → Used ws abi p → Used ws abi q → EqualParts ws abi p q → get_or ns (place_number q) 0 ≤ get_or ns (place_number p) 0
    at-most p q u v e =
        let a = fill-first p u in
        let k : ℕ = get_or ns (place_number p) 0 in
        let l = (fill-first q v).least (place_at k) a.used (parts-trans ws abi (place_at k) p q a.same e) in
        let b = number-back k in
        omega arith

    pub fill-faithful : Faithful ws abi ns
    unfolding by_numbers
    fill-faithful =
        record {
          long = filled-long ws abi ns filled;
          equal = λ p q u v e.
              let a = at-most p q u v e in
              let b = at-most q p v u (parts-sym ws abi p q e) in
              eq-eqb (get_or ns (place_number p) 0) (get_or ns (place_number q) 0) (omega arith);
          apart = λ p q u v t.
              let e = eqb-true (get_or ns (place_number p) 0) (get_or ns (place_number q) 0) t in
              let k : ℕ = get_or ns (place_number p) 0 in
              parts-trans ws abi p (place_at k) q (parts-sym ws abi (place_at k) p (fill-first p u).same) (rw (← e) at (fill-first q v).same);
        }
