-- Laws of methods that are appended to a table. Assumes nothing.
use mathlib.Core.Path.{◌≡◌, refl, sym, ◌∙◌}
use mathlib.Core.Bool.{Bool, true, false, not}
use mathlib.Core.List.{List, [], ◌∷◌, ◌++◌}
use Prim.Native.Nat.{ℕ, ◌+◌, ◌-◌, ◌≤◌, ◌<◌}
use native.Mathlib.Omega.{arith}
use lib.ListN.{length}
use Rattle.words.specs.Lists.{numbers, fold}
use Rattle.std.specs.Prelude.{Option, Some, None}
use Rattle.words.proofs.ListLaws.{fold_from, fold_start, fold-turn, fold_end}
use Rattle.class_sheet.specs.ClassSheet.{class_first_method, class_method_count, method_limit}
use Rattle.linking.specs.Signature.{Same}
use Rattle.linking.specs.Chain.{list_count, own_methods, is_eligible}
use Rattle.linking.specs.Vtable.{Entry}
use Rattle.linking.specs.Compiler.{Taken, name_of, flags_of, target_of, has_slot, class_methods, append_from, append_entry}
use Rattle.reading.specs.Arrays.{mark_of, method_of, source_of}
use Rattle.reading.proofs.ArrayLaws.{method-back, no_source}
use Rattle.compiler.specs.Methods.{takes_slot}

module _ (same : Same) (ws text : List ℕ) (new : List Taken) where
  -- ---- whether a method takes a slot

  module _ (es : List Entry) (m : ℕ) {name : List ℕ} {f : ℕ} {b : Bool} (en : name ≡ name_of ws text new m) (ef : f ≡ flags_of ws new m)
      (eb : b ≡ is_eligible f name) where
    pub takes_none : b ≡ false → false ≡ takes_slot same ws text new es m
    unfolding takes_slot
    takes_none q = rw (← ef, ← en, ← eb, q)

    pub takes_new : {h : Bool} → b ≡ true → h ≡ has_slot same new m es → not h ≡ takes_slot same ws text new es m
    unfolding takes_slot
    takes_new q eh = rw (← ef, ← en, ← eb, q, ← eh)

  -- ---- by slot

  module _ (E : List Entry) (e : Entry) {o : Option ℕ} (h : o ≡ e.method) where
    pub append_none : o ≡ None → E ≡ append_entry same ws text new E e
    unfolding append_entry
    append_none q = rw (← h, q)

    module _ {m : ℕ} (k : o ≡ Some m) {t : Bool} (test : t ≡ takes_slot same ws text new E m) where
      pub append_left : t ≡ false → E ≡ append_entry same ws text new E e
      unfolding append_entry append_from takes_slot
      append_left q = rw (← h, k, ← test, q)

      pub append_new : {F : List Entry} {w : ℕ} → t ≡ true → w ≡ target_of ws new m
          → F ≡ E ++ (record { word = w; method = e.method; source = e.source } ∷ []) → F ≡ append_entry same ws text new E e
      unfolding append_entry append_from takes_slot
      append_new q f g = g ∙ rw (← h, k, ← test, q, f)

  -- a method's own mark is of no copy
  pub append_own : (E F : List Entry) (w : ℕ) {m k : ℕ} → m < 4095 → k ≡ mark_of (Some m)
      → F ≡ append_entry same ws text new E (record { word = w; method = method_of k; source = source_of k }) → F ≡ append_from same ws text new None E m
  unfolding append_entry
  append_own E F w {m = m} h e f = f ∙ rw (e, method-back m h, no_source (Some m))

-- ---- methods in order, by number

module _ {ℓ} {S : Type ℓ} (g : S → ℕ → S) (first n : ℕ) where
  pub range-start : (s : S) → fold_from (λ k. k) g s first n (first - first) ≡ fold g s (numbers first n)
  range-start s = let z : first - first ≡ 0 = omega arith in rw z (fold_start (λ k. k) g first n s)

  pub range-turn : (m : ℕ) {s t : S} → first ≤ m → m < first + n → t ≡ g s m
      → fold_from (λ k. k) g t first n (m + 1 - first) ≡ fold_from (λ k. k) g s first n (m - first)
  range-turn m low h e =
      let next : m + 1 - first ≡ m - first + 1 = omega arith in
      let here : first + (m - first) ≡ m = omega arith in
      rw next (fold-turn (λ k. k) g first n (m - first) (omega arith) (e ∙ rw here))

  pub range_end : (m : ℕ) (s : S) → first + n ≤ m → s ≡ fold_from (λ k. k) g s first n (m - first)
  range_end m s h = fold_end (λ k. k) g first n (m - first) s (omega arith)

-- declared and added ones: a fold along two lists, one after the other

fold_both {ℓ} : {S : Type ℓ} (g : S → ℕ → S) (s : S) (xs ys : List ℕ) → fold g s (xs ++ ys) ≡ fold g (fold g s xs) ys
unfolding fold
fold_both g s [] ys = refl
fold_both g s (x ∷ xs) ys = fold_both g (g s x) xs ys

pub both-appended {ℓ} : {S : Type ℓ} (g : S → ℕ → S) (ws : List ℕ) (new : List Taken) (c n : ℕ) (s : S) {first own : ℕ} {t u : S}
    → first ≡ class_first_method ws c → own ≡ list_count (class_first_method ws c) (class_method_count ws c) method_limit → length new ≡ n
    → t ≡ fold g s (numbers first own) → u ≡ fold g t (numbers method_limit n) → u ≡ fold g s (class_methods ws new c)
unfolding own_methods class_methods
both-appended g ws new c n s e f h p q =
    let own : List ℕ = numbers (class_first_method ws c) (list_count (class_first_method ws c) (class_method_count ws c) method_limit) in
    q ∙ rw (p, e, f, h) (sym (fold_both g s own (numbers method_limit n)))
