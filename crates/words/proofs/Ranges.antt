-- What the library's searches and folds along a range answer, where a call at a number of the range gives what a test or a value says of it.
-- Assumes nothing.
use mathlib.Core.Path.{◌≡◌, refl, sym, ap, subst, ◌∙◌}
use mathlib.Core.Bool.{Bool, true, false}
use mathlib.Core.List.{List, ◌∷◌, map-id}
use Prim.Native.Nat.{ℕ, zero, suc, ◌+◌, ◌-◌, ◌%◌, ◌^◌, ◌≤◌, ◌<◌}
use native.Mathlib.Omega.{arith}
use lib.ListN.{length, get_or}
use denote.Param.Members.{Mut}
use denote.Ref.{Bor}
use native.Mathlib.Nat.{add-zero}
use native.Mathlib.Numerals.{add-one}
use Rattle.std.specs.Prelude.{Option, Some, None}
use Rattle.std.specs.declared.ops.RangeInclusive.{RangeInclusive}
use Rattle.std.specs.Iterator.{Drains}
use Rattle.std.specs.Iterator.Runs.{Run, ItemsMapTo, AllItemsGive, IsFirstToGive}
use Rattle.std.specs.Fn.{Called}
use Rattle.std.specs.Option.{option_map, IfSome, IsSomeAnd}
use Rattle.std.specs.Range.{range_inclusive_len, range_inclusive_left, range_inclusive_steps}
use mathlib.Core.Logic.{◌⊎◌, inl, inr, ⊎_elim}
use Rattle.std.proofs.lemmas.Iterator.{YieldsList, items_from_drains}
use Rattle.std.proofs.lemmas.Iterator.Consumers.{YieldsList-from_shown}
use Rattle.words.proofs.Bools.{by}
use Rattle.words.proofs.ListLaws.{found_from, found-start, found-hit, found-miss, found-end}
use Rattle.std.specs.List.{range_with_len, AllWithin, HoldsAt, FoldsTo}
use Rattle.std.specs.Bool.{MatchBool, IsTrue}
use Rattle.std.specs.Option.{MatchOption}
use Rattle.std.proofs.lemmas.List.FromFn.{length-range_with_len, get_or-range_with_len}
use Rattle.words.specs.Folds.{all_of, sum_of}
use Rattle.words.specs.Lists.{list_from, numbers, find, first_found, some}
use Rattle.words.proofs.FoldLaws.{all-fails, all-if, sum_none32, sum_turn32}

-- the first of some numbers that passes, by which one passes
none_found : (p : ℕ → Bool) (a n : ℕ) → ((k : ℕ) → k < n → false ≡ p (a + k)) → None ≡ find p (numbers a n)
unfolding find list_from
none_found p a zero h = refl
none_found p a (suc n) h =
    let z : false ≡ p a = rw (add-zero a) at (h 0 (omega arith)) in
    rw (← z) (none_found p (a + 1) n (λ k l. let e : a + suc k ≡ a + 1 + k = omega arith in rw e at (h (suc k) (omega arith))))

one_found : (p : ℕ → Bool) (a n i : ℕ) → i < n → true ≡ p (a + i) → ((k : ℕ) → k < i → false ≡ p (a + k)) → Some (a + i) ≡ find p (numbers a n)
unfolding find list_from
one_found p a zero i l t h = absurd (omega arith)
one_found p a (suc n) zero l t h = let z : true ≡ p a = rw (add-zero a) at t in rw (← z, add-zero a) refl
one_found p a (suc n) (suc i) l t h =
    let z : false ≡ p a = rw (add-zero a) at (h 0 (omega arith)) in
    let e : (k : ℕ) → a + suc k ≡ a + 1 + k = λ k. omega arith in
    rw (← z, e i) (one_found p (a + 1) n i (omega arith) (rw (e i) at t) (λ k m. rw (e k) at (h (suc k) (omega arith))))

some_at : (p : ℕ → Bool) (a n i : ℕ) → i < n → true ≡ p (a + i) → true ≡ some p (numbers a n)
unfolding some list_from
some_at p a zero i l t = absurd (omega arith)
some_at p a (suc n) zero l t = let z : true ≡ p a = rw (add-zero a) at t in rw (← z) refl
some_at p a (suc n) (suc i) l t =
    let e : a + suc i ≡ a + 1 + i = omega arith in
    let r = some_at p (a + 1) n i (omega arith) (rw e at t) in by (p a) (λ u. rw u refl) (λ u. rw u r)

none_at : (p : ℕ → Bool) (a n : ℕ) → ((k : ℕ) → k < n → false ≡ p (a + k)) → false ≡ some p (numbers a n)
unfolding some list_from
none_at p a zero h = refl
none_at p a (suc n) h =
    let z : false ≡ p a = rw (add-zero a) at (h 0 (omega arith)) in
    rw (← z) (none_at p (a + 1) n (λ k l. let e : a + suc k ≡ a + 1 + k = omega arith in rw e at (h (suc k) (omega arith))))

module _ (a n : ℕ) where
  -- the numbers of a range, one by one
  each_number : (P : ℕ → Type 0) → AllWithin P (range_with_len a n) 0 (length (range_with_len a n)) → (k : ℕ) → k < n → P (a + k)
  each_number P h k l =
      subst P (get_or-range_with_len a n k 0 l) (h k 0 (omega arith) (omega (arith, length-range_with_len a n)))

  some_number : (P : ℕ → Type 0) (k : ℕ) → k < length (range_with_len a n) → HoldsAt P (range_with_len a n) k → (k < n) × P (a + k)
  some_number P k l h =
      let m : k < n = omega (arith, length-range_with_len a n) in (m, subst P (get_or-range_with_len a n k 0 m) (h 0))

  -- `all`
  pub all_along : (p q : ℕ → Bool) (e : ℕ) (r : Bool) → a + n ≤ e → ((k : ℕ) → p (a + k) ≡ q k)
      → MatchBool r (AllWithin (λ y. y < e → true ≡ p y) (range_with_len a n) 0 (length (range_with_len a n)))
      ((k : ℕ) × (k < length (range_with_len a n)) × HoldsAt (λ y. y < e → false ≡ p y) (range_with_len a n) k)
      → r ≡ all_of n q
  all_along p q e true l s h = sym (all-if n q (λ k m. sym (s k) ∙ sym (each_number (λ y. y < e → true ≡ p y) h k m (omega arith))))
  all_along p q e false l s h =
      let f = some_number (λ y. y < e → false ≡ p y) h.0 h.1 h.2 in sym (all-fails n q h.0 f.0 (sym (s h.0) ∙ sym (f.1 (omega arith))))

  -- the first one that `find` passes
  pub find_along : (p : ℕ → Bool) (e : ℕ) (r : Option ℕ) → ((k : ℕ) → k < n → a + k < e)
      → MatchOption r (AllWithin (λ y. y < e → false ≡ p y) (range_with_len a n) 0 (length (range_with_len a n)))
      (λ x. (x < e → true ≡ p x) × (i : ℕ) × (i < length (range_with_len a n)) × HoldsAt (λ y. y ≡ x) (range_with_len a n) i
      × AllWithin (λ y. y < e → false ≡ p y) (range_with_len a n) 0 i)
      → r ≡ find p (numbers a n)
  find_along p e None l h = none_found p a n (λ k m. each_number (λ y. y < e → false ≡ p y) h k m (l k m))
  find_along p e (Some x) l h =
      let s = some_number (λ y. y ≡ x) h.1 h.2 h.3 in
      let b = λ (k : ℕ) (m : k < h.1).
      subst (λ y. y < e → false ≡ p y) (get_or-range_with_len a n k 0 (omega arith)) (h.4 k 0 (omega arith) m) (l k (omega (arith, s.0))) in
      ap Some (sym s.1) ∙ one_found p a n h.1 s.0 (rw (← s.1) at (h.0 (rw s.1 at (l h.1 s.0)))) b

  -- `any`
  pub some_along : (p : ℕ → Bool) (e : ℕ) (r : Bool) → ((k : ℕ) → k < n → a + k < e)
      → MatchBool r ((k : ℕ) × (k < length (range_with_len a n)) × HoldsAt (λ y. y < e → true ≡ p y) (range_with_len a n) k)
      (AllWithin (λ y. y < e → false ≡ p y) (range_with_len a n) 0 (length (range_with_len a n)))
      → r ≡ some p (numbers a n)
  some_along p e true l h =
      let s = some_number (λ y. y < e → true ≡ p y) h.0 h.1 h.2 in some_at p a n h.0 s.0 (s.1 (l h.0 s.0))
  some_along p e false l h = none_at p a n (λ k m. each_number (λ y. y < e → false ≡ p y) h k m (l k m))

-- `a..=b` gives the numbers up to its end
abbrev left : RangeInclusive ℕ → ℕ
left = range_inclusive_left (λ a b. b - a)

abbrev steps : RangeInclusive ℕ → Option ℕ → RangeInclusive ℕ → Type 0
steps = range_inclusive_steps (λ a b. b - a) (λ a b. b ≡ a + 1)

abbrev shown : RangeInclusive ℕ → List ℕ
shown s = range_with_len s.start (left s)

range_more : (a b m n x : ℕ) → x ≡ a → m + 1 ≡ n → (m ≡ 0) ⊎ (b ≡ a + 1) → range_with_len a n ≡ x ∷ range_with_len b m
range_more a b m n x e f = ⊎_elim (λ z. rw (← f, z, e) refl) (λ q. rw (← f, add-one m, e, q) refl)

next_shown : (s : RangeInclusive ℕ) (x : ℕ) (t : RangeInclusive ℕ) → steps s (Some x) t → shown s ≡ x ∷ shown t
next_shown s x t h =
    range_more s.start t.start (left t) (left s) x h.1.0 h.1.1
    (by t.exhausted (λ e. inl (ap (range_inclusive_len (λ a b. b - a) t.start t.end) e)) (λ e. inr (h.1.2 e)))

pub YieldsList-from_inclusive : (s : RangeInclusive ℕ) (n : ℕ) → s.start ≡ 1 → s.end ≡ n → s.exhausted ≡ false
    → YieldsList steps (λ x. x) s (range_with_len 1 n)
YieldsList-from_inclusive s n e f g =
    let k : left s ≡ n = ap (range_inclusive_len (λ a b. b - a) s.start s.end) g ∙ omega (arith, e, f) in
    let all = YieldsList-from_shown steps (λ x. x) shown (λ u t h. length-range_with_len u.start (left u) ∙ h.1.0) next_shown s in
    subst (λ l. YieldsList steps (λ x. x) s l) (ap (λ a. range_with_len a (left s)) e ∙ ap (range_with_len 1) k) all

-- `fold` that sums modulo 2^32
module _ {F : Type 0} (g : Mut F (ℕ × (ℕ × Unit {0})) ℕ) (f : ℕ → ℕ) (e : ℕ) (c : F)
    (turn : (s x t : ℕ) (d : F) → x < e → Called g c (s, (x, tt)) t d → (d ≡ c) × (t ≡ (s + f x) % 2 ^ 32)) where
  sum_along : (n a s r : ℕ) (b d : F) → b ≡ c → a + n ≡ e → s ≡ sum_of a f % 2 ^ 32
      → FoldsTo {P = F × ℕ} (λ p x q. Called g p.0 (p.1, (x, tt)) q.1 q.0) (b, s) (range_with_len a n) (d, r) → r ≡ sum_of e f % 2 ^ 32
  sum_along zero a s r b d q l h k = let z : a ≡ e = omega arith in rw z at (sym (ap (λ p. p.1) k) ∙ h)
  sum_along (suc n) a s r b d q l h k =
      let u = turn s a k.0.1 k.0.0 (omega arith) (subst (λ y. Called g y (s, (a, tt)) k.0.1 k.0.0) q k.1) in
      sum_along n (a + 1) k.0.1 r k.0.0 d u.0 (omega arith) (sum_turn32 a f h refl u.1) k.2

pub sum_is : {S F : Type 0} {steps : S → Option ℕ → S → Type 0} {s : S} {g : Mut F (ℕ × (ℕ × Unit {0})) ℕ} {c : F} (f : ℕ → ℕ) (n r : ℕ)
    → (xs : List ℕ) × (d : F) × Drains steps s xs × FoldsTo {P = F × ℕ} (λ a x b. Called g a.0 (a.1, (x, tt)) b.1 b.0) (c, 0) xs (d, r)
    → YieldsList steps (λ x. x) s (range_with_len 0 n)
    → ((s x t : ℕ) (d : F) → x < n → Called g c (s, (x, tt)) t d → (d ≡ c) × (t ≡ (s + f x) % 2 ^ 32)) → r ≡ sum_of n f % 2 ^ 32
sum_is {F = F} {g = g} {c = c} f n r d e turn =
    let all = sym (map-id d.0) ∙ items_from_drains d.0 (d.2.1.0, d.2.1.1, λ _. (d.2.0, d.2.1.2)) e in
    sum_along g f n c turn n 0 0 r c d.1 refl (omega arith) (sum_none32 f)
    (subst (λ xs. FoldsTo {P = F × ℕ} (λ a x b. Called g a.0 (a.1, (x, tt)) b.1 b.0) (c, 0) xs (d.1, r)) all d.3)

-- what is said of an item, if there is one
if-some : {A : Type 0} {P Q : A → Type 0} (o : Option A) → ((x : A) → P x → Q x) → IfSome o P → IfSome o Q
if-some None f h = tt
if-some (Some x) f h = f x h

some-and : {A : Type 0} {P Q : A → Type 0} (o : Option A) → ((x : A) → P x → Q x) → IsSomeAnd o P → IsSomeAnd o Q
some-and None f h = h
some-and (Some x) f h = f x h

-- `find_map` along a list
module _ (f : ℕ → Option ℕ) (xs : List ℕ) where
  passed_by : (i : ℕ) → i ≤ length xs → ((k : ℕ) → k < i → None ≡ f (get_or xs k 0)) → found_from f xs i ≡ first_found f xs
  passed_by zero l h = found-start f xs
  passed_by (suc i) l h = rw (← (add-one i)) (found-miss f xs i 0 (omega arith) (h i (omega arith)) refl) ∙ passed_by i (omega arith) (λ k m. h k (omega arith))

  item_is : (P : ℕ → Type 0) (o : Option (Bor ℕ)) (y : ℕ) → option_map (λ b. b.now) o ≡ Some y → IfSome o (λ x. P x.now) → P y
  item_is P (Some x) y e h = let q : x.now ≡ y = cc in subst P q h
  item_is P None y e h = cc

  item_and : (P : ℕ → Type 0) (o : Option (Bor ℕ)) (y : ℕ) → option_map (λ b. b.now) o ≡ Some y → IsSomeAnd o (λ x. P x.now) → P y
  item_and P (Some x) y e h = let q : x.now ≡ y = cc in subst P q h
  item_and P None y e h = absurd h

  pub found_along : {S F : Type 0} {steps : S → Option (Bor ℕ) → S → Type 0} {g : Mut F (Bor ℕ × Unit {0}) (Option ℕ)} {c : F} (p : Run steps) (r : Option ℕ)
      → ItemsMapTo p (λ y. y.now) xs
      → MatchOption r (IsTrue p.whole × AllItemsGive p g c None) (λ y. (i : ℕ) × (i < p.len) × (p.len ≡ i + 1) × IsFirstToGive p g c (Some y) None i)
      → ((x : Bor ℕ) (o : Option ℕ) (d : F) → Called g c (x, tt) o d → (d ≡ c) × (o ≡ f x.now)) → r ≡ first_found f xs
  found_along {c = c} p None m h told =
      let each = h.1 (λ a o d k. (told a.0 o d k).0) in
      found-end f xs (length xs) (omega arith)
      ∙ passed_by (length xs) (omega arith) (λ k l. item_is (λ x. None ≡ f x) (p.at k) _ (m.2 k 0 (omega (arith, m.1 h.0)))
      (if-some (p.at k) (λ x q. (told x None c q).1) (each k)))
  found_along {c = c} p (Some y) m h told =
      let each = h.3 (λ a o d k. (told a.0 o d k).0) in
      found-hit f xs h.0 0 y (omega (arith, m.0)) (item_and (λ x. Some y ≡ f x) (p.at h.0) _ (m.2 h.0 0 h.1)
      (some-and (p.at h.0) (λ x q. (told x (Some y) c q).1) each.0)) refl
      ∙ passed_by h.0 (omega (arith, m.0)) (λ k l. item_and (λ x. None ≡ f x) (p.at k) _ (m.2 k 0 (omega arith))
      (some-and (p.at k) (λ x q. (told x None c q).1) (each.1 k l)))
