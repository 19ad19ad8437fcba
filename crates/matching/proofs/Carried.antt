-- The list of numbers after an accepted link that adds methods, place by place: what was copied, what was taken, and all others, whatever it holds.
-- Assumes nothing.
use mathlib.Core.Path.{◌≡◌, refl, sym, ap, ◌∙◌}
use mathlib.Core.Logic.{◌⊎◌, inl, inr}
use mathlib.Core.Bool.{true, false, true≢false}
use mathlib.Core.List.{List, [], ◌∷◌, ◌++◌}
use Prim.Native.Nat.{ℕ, zero, suc, ◌+◌, ◌≤◌, ◌<◌}
use native.Mathlib.Omega.{arith}
use lib.ListN.{length, get_or, take, drop, length-append, get_or-append}
use Rattle.words.proofs.Lists.{skip, part_at, length_part}
use Rattle.class_sheet.specs.ClassSheet.{method_limit, method_count, class_first_method, class_method_count}
use Rattle.linking.specs.Signature.{place_number}
use Rattle.linking.specs.Compiler.{Taken, none_taken, members}
use Rattle.linking.specs.Set.{write_at}
use Rattle.linking.specs.Link.{is_none}
use Rattle.linking.specs.Numbers.{number_limit}
use Rattle.linking.specs.Numbered.{numbers_taken, numbers_after}
use Rattle.linking.proofs.Writes.{length-write, write-before, write-inside, write-after}
use Rattle.matching.specs.Matching.{Carries}

pub none_added : (xs : List Taken) → is_none (members xs) ≡ true → xs ≡ []
unfolding members
none_added [] e = refl
none_added (x ∷ xs) e = absurd (true≢false (sym e))

pub some_added : (xs : List Taken) (j : ℕ) → j < length xs → is_none (members xs) ≡ false
unfolding members
some_added [] j h = absurd (omega arith)
some_added (x ∷ xs) j h = refl

length_taken : (ns : List ℕ) (xs : List Taken) → length (numbers_taken ns xs) ≡ length xs
unfolding numbers_taken
length_taken ns [] = refl
length_taken ns (x ∷ xs) = ap suc (length_taken ns xs)

taken_at : (ns : List ℕ) (xs : List Taken) (j : ℕ) → j < length xs → get_or (numbers_taken ns xs) j 0 ≡ get_or ns (place_number (get_or xs j none_taken).from) 0
unfolding numbers_taken
taken_at ns [] j h = absurd (omega arith)
taken_at ns (x ∷ xs) zero h = refl
taken_at ns (x ∷ xs) (suc j) h = taken_at ns xs j (omega arith)

module _ (ws ns : List ℕ) (c : ℕ) (added : List Taken) (adds : is_none (members added) ≡ false)
    (listed : class_first_method ws c + class_method_count ws c ≤ method_count ws)
    (below : method_count ws + (class_method_count ws c + length added) ≤ method_limit) (long : number_limit ≤ length ns) where
  abbrev first : ℕ
  first = class_first_method ws c

  abbrev own : ℕ
  own = class_method_count ws c

  abbrev count : ℕ
  count = method_count ws

  abbrev copied : List ℕ
  copied = take own (drop first ns)

  abbrev taken : List ℕ
  taken = numbers_taken ns added

  abbrev written : List ℕ
  written = copied ++ taken

  copies : length copied ≡ own
  copies = length_part ns first own (omega arith)

  many : length written ≡ own + length added
  many = omega (arith, length-append copied taken, copies, length_taken ns added)

  copied_at : (j : ℕ) → j < own → get_or (write_at ns count written) (count + j) 0 ≡ get_or ns (first + j) 0
  copied_at j h =
      write-inside ns count written (omega arith) j (omega (arith, many)) ∙ get_or-append copied taken 0 j (omega (arith, copies)) ∙ part_at ns first own j 0 h

  took_at : (j : ℕ) → j < length added
      → get_or (write_at ns count written) (count + own + j) 0 ≡ get_or ns (place_number (get_or added j none_taken).from) 0
  took_at j h =
      let e : count + own + j ≡ count + (own + j) = omega arith in
      rw e
      (write-inside ns count written (omega arith) (own + j) (omega (arith, many)) ∙ skip copied taken (own + j) j 0 (omega (arith, copies))
      ∙ taken_at ns added j h)

  others_at : (n : ℕ) → (n < count) ⊎ (count + own + length added ≤ n) → get_or (write_at ns count written) n 0 ≡ get_or ns n 0
  others_at n (inl h) = write-before ns count written (omega arith) n h
  others_at n (inr h) = write-after ns count written (omega arith) n (omega (arith, many))

  pub carries : Carries ws c added ns (numbers_after ws ns c added)
  unfolding numbers_after
  carries =
      rw adds
      (record { below = omega arith; copied = copied_at; took = took_at; others = others_at; many = length-write ns count written (omega (arith, many)) })
