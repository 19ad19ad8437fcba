-- Laws of the numbers of a list of methods that has grown. Assumes nothing.
use mathlib.Core.Path.{◌≡◌, refl, sym, ap, ◌∙◌}
use mathlib.Core.Bool.{Bool, true, false}
use mathlib.Core.List.{List, [], ◌∷◌, ◌++◌}
use Prim.Native.Nat.{ℕ, zero, suc, ◌+◌, ◌-◌, ◌≤◌, ◌<◌}
use native.Mathlib.Omega.{arith}
use lib.Dec.{leb}
use borrow.Author.Tests.{leb-true, le-leb}
use lib.ListN.{length, get_or, take, drop, length-append, get_or-append}
use Rattle.std.proofs.Math.Seq.{take-append_seam}
use Rattle.std.specs.Prelude.{Option, Some, None, slice_get}
use Rattle.words.specs.Folds.{table, stores}
use Rattle.words.specs.Words.{inside, copy_elements}
use Rattle.words.proofs.Bools.{and_3}
use Rattle.words.proofs.FoldLaws.{length-stores, length-table, stores-is, table-list}
use Rattle.words.proofs.Lists.{skip, part_at, length_part}
use Rattle.class_sheet.specs.ClassSheet.{method_limit}
use Rattle.linking.specs.Set.{write_at}
use Rattle.linking.specs.Numbered.{numbers_taken}
use Rattle.growth.specs.declared.Section.{Section}
use Rattle.growth.specs.declared.news.Member.{Member}
use Rattle.growth.specs.News.{ref_number, news_numbers, taken_of, added_of}
use Rattle.growth.specs.Growth.{numbers_grown, numbers_fit, numbers_put}
use Rattle.growth.proofs.GrowthLaws.{copy_is}

module _ (numbers : List ℕ) where
  -- the numbers that new members take, as the definition of a link has them
  pub numbers-taken : (ws text abi labels : List ℕ) (ms : List Member) → numbers_taken numbers (added_of ws text abi labels ms) ≡ news_numbers numbers ms
  unfolding numbers_taken added_of taken_of news_numbers ref_number
  numbers-taken ws text abi labels [] = refl
  numbers-taken ws text abi labels (x ∷ xs) = rw (numbers-taken ws text abi labels xs)

  length-numbers : (ms : List Member) → length (news_numbers numbers ms) ≡ length ms
  unfolding news_numbers
  length-numbers [] = refl
  length-numbers (x ∷ xs) = ap suc (length-numbers xs)

  -- the i-th, and past the end
  numbers_at : (ms : List Member) (i : ℕ) {m : Member} → slice_get ms i ≡ Some m → get_or (news_numbers numbers ms) i 0 ≡ ref_number numbers m.names
  unfolding news_numbers
  numbers_at [] i e = cc
  numbers_at (x ∷ xs) zero {m} e = let f : x ≡ m = cc in ap (λ (k : Member). ref_number numbers k.names) f
  numbers_at (x ∷ xs) (suc i) e = numbers_at xs i e

  numbers_past : (ms : List Member) (i : ℕ) → slice_get ms i ≡ None → get_or (news_numbers numbers ms) i 0 ≡ 0
  unfolding news_numbers
  numbers_past [] i e = refl
  numbers_past (x ∷ xs) zero e = cc
  numbers_past (x ∷ xs) (suc i) e = numbers_past xs i e

  -- what room there is where the test holds; where it does not, nothing is written
  pub record Fit (list : Section) (ms : List Member) : Type 0 where
    pub own : list.first + list.own ≤ list.count
    pub members : list.count + (list.own + length ms) ≤ method_limit
    pub long : method_limit ≤ length numbers

  pub put-fit : (list : Section) (ms : List Member) → Fit list ms → numbers_put numbers list ms ≡ write_at numbers list.count (numbers_grown numbers list ms)
  unfolding numbers_put numbers_fit inside
  put-fit list ms r =
      rw (
        le-leb (list.first + list.own) list.count r.own,
        le-leb (list.count + (list.own + length ms)) method_limit r.members,
        le-leb method_limit (length numbers) r.long,
      )

  module _ (list : Section) (ms : List Member) {b : Bool} (test : b ≡ numbers_fit numbers list ms) where
    pub code-fits : b ≡ true → Fit list ms
    unfolding numbers_fit inside
    code-fits t =
        let p = and_3 (leb (list.first + list.own) list.count) (leb (list.count + (list.own + length ms)) method_limit) (leb method_limit (length numbers))
        (sym test ∙ t) in
        record {
          own = leb-true (list.first + list.own) list.count p.0;
          members = leb-true (list.count + (list.own + length ms)) method_limit p.1;
          long = leb-true method_limit (length numbers) p.2;
        }

    pub put-none : b ≡ false → numbers ≡ numbers_put numbers list ms
    unfolding numbers_put
    put-none t = rw (← test, t)

  module _ (list : Section) (ms : List Member) (fits : list.first + list.own ≤ length numbers) where
    abbrev copied : List ℕ
    copied = take list.own (drop list.first numbers)

    length-copied : length copied ≡ list.own
    length-copied = length_part numbers list.first list.own fits

    pub length-grown : length (numbers_grown numbers list ms) ≡ list.own + length ms
    unfolding numbers_grown
    length-grown = omega (arith, length-append copied (news_numbers numbers ms), length-copied, length-numbers ms)

    -- number j, as the code reads it
    pub number_own : (j : ℕ) {w : ℕ} → j < list.own → w ≡ get_or numbers (list.first + j) 0 → w ≡ get_or (numbers_grown numbers list ms) j 0
    unfolding numbers_grown
    number_own j h e =
        e
        ∙ sym (get_or-append copied (news_numbers numbers ms) 0 j (rw length-copied h)
        ∙ part_at numbers list.first list.own j 0 h)

    behind : (j : ℕ) → list.own ≤ j → get_or (numbers_grown numbers list ms) j 0 ≡ get_or (news_numbers numbers ms) (j - list.own) 0
    unfolding numbers_grown
    behind j h = skip copied (news_numbers numbers ms) j (j - list.own) 0 (omega (arith, length-copied))

    module _ (j : ℕ) (h : list.own ≤ j) {o : Option Member} (e : o ≡ slice_get ms (j - list.own)) where
      pub number_new : {m : Member} {w : ℕ} → o ≡ Some m → w ≡ ref_number numbers m.names → w ≡ get_or (numbers_grown numbers list ms) j 0
      number_new f g = g ∙ sym (behind j h ∙ numbers_at ms (j - list.own) (sym e ∙ f))

      pub number_none : o ≡ None → 0 ≡ get_or (numbers_grown numbers list ms) j 0
      number_none f = sym (behind j h ∙ numbers_past ms (j - list.own) (sym e ∙ f))

    -- stored one by one beside the list, and then copied to their place
    pub grown-is : (z : List ℕ) {n : ℕ} {d s : List ℕ} {b : Bool} → n ≡ list.own + length ms → n ≤ length z → list.count + n ≤ length numbers
        → d ≡ stores n (λ j. get_or (numbers_grown numbers list ms) j 0) z → ◌≡◌ {A = Bool × List ℕ} (b, s) (copy_elements d 0 n numbers list.count)
        → s ≡ write_at numbers list.count (numbers_grown numbers list ms)
    grown-is z {n = n} {d = d} e h k p c =
        let f : ℕ → ℕ = λ j. get_or (numbers_grown numbers list ms) j 0 in
        let m : length d ≡ length z = ap length p ∙ length-stores n f z in
        let t : take n (table n f ++ drop n z) ≡ table n f = rw (length-table n f) at (take-append_seam (table n f) (drop n z)) in
        let g : table n f ≡ numbers_grown numbers list ms = table-list (numbers_grown numbers list ms) n (omega (arith, length-grown)) in
        copy_is d 0 n numbers list.count (omega arith) (omega arith) c ∙ ap (write_at numbers list.count) (ap (take n) (p ∙ stores-is n f z h) ∙ t ∙ g)
