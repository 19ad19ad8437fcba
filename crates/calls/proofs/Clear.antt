-- Whether a class, or one that it descends from, meets a clash in a list (`Elsewhere`) can be decided: by going through the list. Assumes nothing.
use mathlib.Core.Path.{◌≡◌, refl, sym, ap, ◌∙◌}
use mathlib.Core.Logic.{◌⊎◌, inl, inr}
use mathlib.Core.Bool.{Bool, true, false, true≢false}
use mathlib.Core.List.Memᴰ
use mathlib.Core.List.{List, [], ◌∷◌, Memᴰ}
use Prim.Native.Nat.{ℕ}
use native.Mathlib.Omega.{arith}
use lib.Dec.{eqb, leb}
use borrow.Author.Tests.{eqb-true, eqb-false, leb-true, leb-false}
use Rattle.words.proofs.Bools.{by}
use Rattle.class_sheet.specs.ClassSheet.{class_count}
use Rattle.linking.specs.Chain.{chain}
use Rattle.linking.specs.Before.{link_clashes}
use Rattle.calls.specs.Calls.{Call, link, ask, bytewise, State, start, step}
use Rattle.calls.specs.OldRun.{step_before, clashes}
use Rattle.calls.proofs.Comes.{Comes, now, later, Clashing, Clear}

-- a link of c in the list meets a clash in either run
pub record Meets (abi : List ℕ) (c : ℕ) (s t : State) (ks : List Call) : Type 0 where
  pub stubs : List ℕ
  pub state : State
  pub before : State
  pub comes : Comes abi (link c stubs) state before s t ks
  pub clash : (clashes abi state (link c stubs) ≡ true) ⊎ (clashes abi before (link c stubs) ≡ true)

module _ (abi : List ℕ) (c : ℕ) where
  pub record Here (s t : State) (k : Call) : Type 0 where
    pub stubs : List ℕ
    pub is : k ≡ link c stubs
    pub clash : (clashes abi s (link c stubs) ≡ true) ⊎ (clashes abi t (link c stubs) ≡ true)

  not-both : {x : Bool} → x ≡ true → x ≡ false → ⊥
  not-both p q = true≢false (sym p ∙ q)

  abbrev linked : Call → ℕ
  linked (link d stubs) = d
  linked (ask d i stubs) = 0

  abbrev lent : Call → List ℕ
  lent (link d stubs) = stubs
  lent (ask d i stubs) = []

  abbrev is_link : Call → Bool
  is_link (link d stubs) = true
  is_link (ask d i stubs) = false

  here? : (s t : State) (k : Call) → Here s t k ⊎ (Here s t k → ⊥)
  here? s t (link d stubs) =
      by (eqb d c)
      (λ q.
      let e : d ≡ c = eqb-true d c q in
      by (link_clashes s.set abi s.area c) (λ a. inl (record { stubs = stubs; is = rw e refl; clash = inl a }))
      (λ a.
      by (link_clashes t.set abi t.area c) (λ b. inl (record { stubs = stubs; is = rw e refl; clash = inr b }))
      (λ b. inr (λ h. elim h.clash [ inl x ↦ not-both x a | inr x ↦ not-both x b ]))))
      (λ q. inr (λ h. eqb-false d c q (ap linked h.is)))
  here? s t (ask d i stubs) = inr (λ h. true≢false (sym (ap is_link h.is)))

  later_meets : (s t : State) (k : Call) (ks : List Call) → Meets abi c (step bytewise abi s k) (step_before abi t k) ks → Meets abi c s t (k ∷ ks)
  later_meets s t k ks m = record { stubs = m.stubs; state = m.state; before = m.before; comes = later m.comes; clash = m.clash }

  now_meets : (s t : State) (k : Call) (ks : List Call) → Here s t k → Meets abi c s t (k ∷ ks)
  now_meets s t k ks h = rw h.is (record { stubs = h.stubs; state = s; before = t; comes = now; clash = h.clash })

  abbrev is_none : List Call → Bool
  is_none [] = true
  is_none (k ∷ ks) = false

  comes-some : {k : Call} {s t s' t' : State} {ks : List Call} → Comes abi k s t s' t' ks → is_none ks ≡ false
  comes-some now = refl
  comes-some (later d) = refl

  split : {stubs : List ℕ} {u v s t : State} {k : Call} {ks : List Call} → Comes abi (link c stubs) u v s t (k ∷ ks)
      → (clashes abi u (link c stubs) ≡ true) ⊎ (clashes abi v (link c stubs) ≡ true)
      → Here s t k ⊎ Meets abi c (step bytewise abi s k) (step_before abi t k) ks
  split {stubs} now x = inl (record { stubs = stubs; is = refl; clash = x })
  split {stubs} {u} {v} (later d) x = inr (record { stubs = stubs; state = u; before = v; comes = d; clash = x })

  pub meets? : (ks : List Call) (s t : State) → Meets abi c s t ks ⊎ (Meets abi c s t ks → ⊥)
  meets? [] s t = inr (λ m. true≢false (comes-some m.comes))
  meets? (k ∷ ks) s t =
      elim (here? s t k) [
        | inl h ↦ inl (now_meets s t k ks h)
        | inr n ↦
            elim (meets? ks (step bytewise abi s k) (step_before abi t k)) [
              | inl m ↦ inl (later_meets s t k ks m)
              | inr r ↦ inr (λ m. elim (split m.comes m.clash) [ inl h ↦ n h | inr q ↦ r q ])
            ]
      ]

module _ (ws abi area missing : List ℕ) (calls : List Call) where
  clashing? : (d : ℕ) → Clashing ws abi area missing calls d ⊎ (Clashing ws abi area missing calls d → ⊥)
  clashing? d =
      elim (meets? abi d calls (start ws area missing) (start ws area missing)) [
        | inl m ↦ inl (record { stubs = m.stubs; state = m.state; before = m.before; made = m.comes; clash = m.clash })
        | inr n ↦ inr (λ m. n (record { stubs = m.stubs; state = m.state; before = m.before; comes = m.made; clash = m.clash }))
      ]

  abbrev NoneOf : List ℕ → Type 0
  NoneOf ds = (d : ℕ) → Memᴰ d ds → Clashing ws abi area missing calls d → ⊥

  none_more : (x : ℕ) (ds : List ℕ) → (Clashing ws abi area missing calls x → ⊥) → NoneOf ds → NoneOf (x ∷ ds)
  none_more x ds n f d i = elim (Memᴰ.cases_cons i) [ inl e ↦ rw e n | inr j ↦ f d j ]

  none_in : NoneOf []
  none_in d i = absurd (Memᴰ.not-nil i)

  none? : (ds : List ℕ) → NoneOf ds ⊎ (NoneOf ds → ⊥)
  none? [] = inl none_in
  none? (x ∷ ds) =
      elim (clashing? x) [
        | inl m ↦ inr (λ f. f x (Memᴰ.head refl) m)
        | inr n ↦ elim (none? ds) [ inl f ↦ inl (none_more x ds n f) | inr g ↦ inr (λ f. g (λ d i. f d (Memᴰ.tail i))) ]
      ]

  pub clear? : (c : ℕ) → Clear ws abi area missing calls c ⊎ (Clear ws abi area missing calls c → ⊥)
  clear? c =
      by (leb c (class_count ws))
      (λ t. elim (none? (chain ws c)) [ inl f ↦ inl (λ l. f) | inr g ↦ inr (λ f. g (f (leb-true c (class_count ws) t))) ])
      (λ t. inl (λ l. absurd (let b = leb-false c (class_count ws) t in omega arith)))
