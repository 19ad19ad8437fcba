-- What a step from p comes to, for bytes that agree with bs before it: it goes on at q, or 22 is met at q, and in both cases only the first q bytes
-- count and all that ends before q is 21; or it ends early, and so does every front. Steps one after the other come to the same. Assumes nothing.
use mathlib.Core.Path.{◌≡◌, refl, sym, ap, ◌∙◌}
use mathlib.Core.List.{List}
use Prim.Native.Nat.{ℕ, zero, suc, ◌+◌, ◌≤◌, ◌<◌}
use native.Mathlib.Omega.{arith}
use lib.ListN.{length, get_or, take, length-take}
use lib.Seq.{take-take, take-length, get_or-take, length-take-le}
use lib.Dec.{leb}
use borrow.Author.Tests.{leb-true, leb-false, le-leb, lt-leb}
use Rattle.words.proofs.Bools.{by}
use Rattle.std.specs.Prelude.{Ok, Err}
use Rattle.refusal.specs.declared.Refusal.{Refusal}
use Rattle.refusal.specs.declared.Refusal.TheVariants.{WrongEnd, WrongPool}
use Rattle.class_form.specs.Form.{Step, u2, u4, ◌>>=◌, taken, after_each, after_counted}
use Rattle.class_form.proofs.Laws.{ok_same, not_ok, taken_to}

-- ---- bytes that agree in the first q

pub agree_less : (bs cs : List ℕ) (p q : ℕ) → p ≤ q → take q cs ≡ take q bs → take p cs ≡ take p bs
agree_less bs cs p q h e = sym (take-take p q cs h) ∙ ap (take p) e ∙ take-take p q bs h

pub agree_at : (bs cs : List ℕ) (q i : ℕ) → i < q → take q cs ≡ take q bs → get_or cs i 0 ≡ get_or bs i 0
agree_at bs cs q i h e = sym (get_or-take q cs i 0 h) ∙ ap (λ (l : List ℕ). get_or l i 0) e ∙ get_or-take q bs i 0 h

pub agree-length : (bs cs : List ℕ) (q : ℕ) → q ≤ length bs → take q cs ≡ take q bs → q ≤ length cs
agree-length bs cs q h e = omega (arith, length-take q cs, length-take q bs, ap length e)

pub agree-u2 : (bs cs : List ℕ) (q p : ℕ) → p + 2 ≤ q → take q cs ≡ take q bs → u2 cs p ≡ u2 bs p
unfolding u2
agree-u2 bs cs q p h e = rw (agree_at bs cs q p (omega arith) e, agree_at bs cs q (p + 1) (omega arith) e)

pub agree-u4 : (bs cs : List ℕ) (q p : ℕ) → p + 4 ≤ q → take q cs ≡ take q bs → u4 cs p ≡ u4 bs p
unfolding u4
agree-u4 bs cs q p h e = rw (agree-u2 bs cs q p (omega arith) e, agree-u2 bs cs q (p + 2) (omega arith) e)

-- ---- what a step comes to

abbrev pub Held : List ℕ → (List ℕ → Step) → ℕ → Step → Type 0
Held bs f q s = (cs : List ℕ) → take q cs ≡ take q bs → f cs ≡ s

abbrev pub Before : List ℕ → ℕ → (List ℕ → Step) → ℕ → Type 0
Before bs p f q = (n : ℕ) → p ≤ n → n < q → f (take n bs) ≡ Err WrongEnd

pub data Outcome (bs : List ℕ) (p : ℕ) (f : List ℕ → Step) : Type 0 where
  goes : (q : ℕ) → p ≤ q → q ≤ length bs → Held bs f q (Ok q) → Before bs p f q → Outcome bs p f
  met : (q : ℕ) → p ≤ q → q ≤ length bs → Held bs f q (Err WrongPool) → Before bs p f q → Outcome bs p f
  early : Before bs p f (length bs + 1) → Outcome bs p f

-- two steps that stop alike stop by one row
pub stop-same : {q r : Refusal} → ◌≡◌ {A = Step} (Err q) (Err r) → q ≡ r
stop-same e = cc

module _ (bs : List ℕ) where
  -- only the bytes before p count for which step is taken there
  pub swap : (p : ℕ) (f g : List ℕ → Step) → ((cs : List ℕ) → take p cs ≡ take p bs → g cs ≡ f cs) → Outcome bs p f → Outcome bs p g
  swap p f g same (goes q low there held before) =
      goes q low there (λ cs e. same cs (agree_less bs cs p q low e) ∙ held cs e) (λ n h l. same (take n bs) (take-take p n bs h) ∙ before n h l)
  swap p f g same (met q low there held before) =
      met q low there (λ cs e. same cs (agree_less bs cs p q low e) ∙ held cs e) (λ n h l. same (take n bs) (take-take p n bs h) ∙ before n h l)
  swap p f g same (early before) = early (λ n h l. same (take n bs) (take-take p n bs h) ∙ before n h l)

  -- a step to p itself, and one that 22 stops
  pub stays : (p : ℕ) → p ≤ length bs → Outcome bs p (λ cs. Ok p)
  stays p there = goes p (omega arith) there (λ cs e. refl) (λ n h l. absurd (omega arith))

  pub stopped : (p : ℕ) → p ≤ length bs → Outcome bs p (λ cs. Err WrongPool)
  stopped p there = met p (omega arith) there (λ cs e. refl) (λ n h l. absurd (omega arith))

  -- a step that went to q ends before the last byte, and only the bytes before q count
  pub ended : (p q : ℕ) (f : List ℕ → Step) → p ≤ length bs → Outcome bs p f → f bs ≡ Ok q → (p ≤ q) × (q ≤ length bs) × Held bs f q (Ok q)
  ended p q f there (goes r low there₁ held before) e =
      let k = ok_same (sym (held bs refl) ∙ e) in (omega arith, omega arith, rw k at held)
  ended p q f there (met r low there₁ held before) e = not_ok (sym (held bs refl) ∙ e)
  ended p q f there (early before) e =
      not_ok (sym (before (length bs) there (omega arith)) ∙ ap f (take-length bs) ∙ e)

  -- ---- one step, then another from where it ends

  module _ (p : ℕ) (f : List ℕ → Step) (g : List ℕ → ℕ → Step) where
    abbrev both : List ℕ → Step
    both cs = f cs >>= g cs

    -- the first has gone to q
    there-then : (q : ℕ) (s : Step) (cs : List ℕ) → f cs ≡ Ok q → g cs q ≡ s → both cs ≡ s
    there-then q s cs e k = rw e k

    first_stops : (r : Refusal) (cs : List ℕ) → f cs ≡ Err r → both cs ≡ Err r
    first_stops r cs e = rw e

    before-both : (q r : ℕ) → Held bs f q (Ok q) → Before bs p f q → Before bs q (λ cs. g cs q) r → Before bs p both r
    before-both q r held before after n h l =
        by (leb q n)
        (λ t.
        let k = leb-true q n t in there-then q (Err WrongEnd) (take n bs) (held (take n bs) (take-take q n bs k)) (after n k l))
        (λ t. first_stops WrongEnd (take n bs) (before n h (leb-false q n t)))

    second : (q : ℕ) → p ≤ q → Held bs f q (Ok q) → Before bs p f q → Outcome bs q (λ cs. g cs q) → Outcome bs p both
    second q low held before (goes r on there after between) =
        goes r (omega arith) there (λ cs e. there-then q (Ok r) cs (held cs (agree_less bs cs q r on e)) (after cs e))
        (before-both q r held before between)
    second q low held before (met r on there after between) =
        met r (omega arith) there (λ cs e. there-then q (Err WrongPool) cs (held cs (agree_less bs cs q r on e)) (after cs e))
        (before-both q r held before between)
    second q low held before (early between) = early (before-both q (length bs + 1) held before between)

    pub then_on : Outcome bs p f → ((q : ℕ) → p ≤ q → q ≤ length bs → f bs ≡ Ok q → Outcome bs q (λ cs. g cs q)) → Outcome bs p both
    then_on (goes q low there held before) next = second q low held before (next q low there (held bs refl))
    then_on (met q low there held before) next =
        met q low there (λ cs e. first_stops WrongPool cs (held cs e)) (λ n h l. first_stops WrongEnd (take n bs) (before n h l))
    then_on (early before) next = early (λ n h l. first_stops WrongEnd (take n bs) (before n h l))

  -- ---- an item of n bytes

  front_length : (n : ℕ) → n ≤ length bs → length (take n bs) ≡ n
  front_length n h = length-take-le n bs h

  pub takes : (p n : ℕ) → Outcome bs p (λ cs. taken cs p n)
  unfolding taken
  takes p n =
      by (leb (p + n) (length bs))
      (λ t.
      let there = leb-true (p + n) (length bs) t in
      goes (p + n) (omega arith) there
      (λ cs e. rw (le-leb (p + n) (length cs) (agree-length bs cs (p + n) there e)))
      (λ m h l. rw (lt-leb (p + n) (length (take m bs)) (omega (arith, front_length m (omega arith))))))
      (λ t.
      let past = leb-false (p + n) (length bs) t in
      early (λ m h l. rw (lt-leb (p + n) (length (take m bs)) (omega (arith, front_length m (omega arith))))))

  -- ---- items one after the other, and so many as a count says

  pub each : (base : ℕ) (item : List ℕ → ℕ → Step) → ((q : ℕ) → base ≤ q → q ≤ length bs → Outcome bs q (λ cs. item cs q)) → (n p : ℕ)
      → base ≤ p → p ≤ length bs → Outcome bs p (λ cs. after_each (item cs) n p)
  unfolding after_each
  each base item one zero p low there = stays p there
  each base item one (suc n) p low there =
      then_on p (λ cs. item cs p) (λ cs. after_each (item cs) n) (one p low there)
      (λ q on there₁ e. each base item one n q (omega arith) there₁)

  pub counted : (base : ℕ) (item : List ℕ → ℕ → Step) → ((q : ℕ) → base ≤ q → q ≤ length bs → Outcome bs q (λ cs. item cs q)) → (p : ℕ)
      → base ≤ p → Outcome bs p (λ cs. after_counted cs (item cs) p)
  unfolding after_counted
  counted base item one p low =
      then_on p (λ cs. taken cs p 2) (λ cs. after_each (item cs) (u2 cs p)) (takes p 2)
      (λ q on there e.
      let k = taken_to bs p 2 e in
      swap q (λ cs. after_each (item cs) (u2 bs p) q) (λ cs. after_each (item cs) (u2 cs p) q)
      (λ cs a. ap (λ (n : ℕ). after_each (item cs) n q) (agree-u2 bs cs q p (omega arith) a))
      (each base item one (u2 bs p) q (omega arith) there))
