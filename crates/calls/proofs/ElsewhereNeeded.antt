-- A list to which `Elsewhere` speaks, with a link in which two inherited signatures have one fixed index: of a generated class whose list of methods grows, and
-- of an ask for it, whose places are others by the linker and by the one before. (That "room" is needed is the row `room` of ClashRows.) Assumes nothing.
use mathlib.Core.Path.{◌≡◌, refl}
use mathlib.Core.Logic.{◌⊎◌, inl, inr}
use mathlib.Core.Bool.{Bool, true, false, cond, not, ◌&&◌, false≢true}
use mathlib.Core.List.Memᴰ
use mathlib.Core.List.{List, [], ◌∷◌, ◌++◌}
use Prim.Native.Nat.{ℕ}
use lib.Dec.{eqb}
use borrow.Author.Tests.{eq-eqb}
use Rattle.words.proofs.Bools.{and_both}
use Rattle.linking.specs.Chain.{chain}
use Rattle.linking.specs.Link.{plan_with, Outcome}
use Rattle.linking.specs.Before.{build_before, builds_methods, relays_class, entries_clash, field_row, reaches_table, link_clashes, link_before}
use Rattle.linking.specs.Numbers.{numbers_of}
use Rattle.linking.proofs.Assemble as assemble
use Rattle.linking.proofs.Assemble.{method, built, interface, compiled, slot, abi, lent, spare, fresh, sevens, stubs_of}
use Rattle.linking.proofs.Opened.{opened}
use Rattle.calls.specs.Calls.{Call, State, link, ask, numbered, bytewise, outcome, start, step, left}
use Rattle.calls.specs.OldRun.{outcome_before, step_before, left_before, clashes}
use Rattle.calls.specs.Elsewhere as spec
use Rattle.calls.specs.Elsewhere.{SameAnswer, Roomy}
use Rattle.calls.proofs.Tests.{is_unlinked, unlinked-holds, shown}
use Rattle.calls.proofs.Comes.{Comes, now, later, Clear, IsElsewhere, AllRoomy, elsewhere-split, roomy-split}
use Rattle.calls.proofs.RunsAgree.{filling_filled}
use Rattle.calls.proofs.ElsewhereByNumbers.{elsewhere, elsewhere_by_numbers, roomy_by_numbers}

-- ---- the premises, by tests along the list

module _ (sheet : List ℕ) where
  abbrev small : Outcome → Bool
  small o = not (eqb o.refusal 14) && not (eqb o.refusal 15)

  unfoldable roomy : List Call → State → State → Bool
  roomy [] s t = true
  roomy (k ∷ ks) s t = (small (outcome bytewise sheet s k) && small (outcome_before sheet t k)) && roomy ks (step bytewise sheet s k) (step_before sheet t k)

  small-holds : (o : Outcome) → small o ≡ true → Roomy o
  small-holds o h = (λ q. false≢true (rw q at h), λ q. false≢true (rw q at h))

  roomy-each : (ks : List Call) (s' t' : State) → roomy ks s' t' ≡ true → (k : Call) (s t : State) → Comes sheet k s t s' t' ks
      → Roomy (outcome bytewise sheet s k) × Roomy (outcome_before sheet t k)
  unfolding roomy
  roomy-each [] s' t' h k s t c = elim c [ ]
  roomy-each (j ∷ ks) s' t' h k s t now =
      let a =
      (and_both (small (outcome bytewise sheet s k) && small (outcome_before sheet t k))
      (roomy ks (step bytewise sheet s k) (step_before sheet t k)) h).0 in
      let b = and_both (small (outcome bytewise sheet s k)) (small (outcome_before sheet t k)) a in
      (small-holds (outcome bytewise sheet s k) b.0, small-holds (outcome_before sheet t k) b.1)
  roomy-each (j ∷ ks) s' t' h k s t (later d) =
      roomy-each ks (step bytewise sheet s' j) (step_before sheet t' j)
      (and_both (small (outcome bytewise sheet s' j) && small (outcome_before sheet t' j))
      (roomy ks (step bytewise sheet s' j) (step_before sheet t' j)) h).1 k s t d

  -- no link of class c meets a clash
  abbrev linked : Call → ℕ
  linked (link d stubs) = d
  linked (ask d i stubs) = 0

  unfoldable calm : ℕ → List Call → State → State → Bool
  calm c [] s t = true
  calm c (k ∷ ks) s t =
      cond (eqb (linked k) c) (not (clashes sheet s k) && not (clashes sheet t k)) true && calm c ks (step bytewise sheet s k) (step_before sheet t k)

  calm-none : (c : ℕ) (stubs : List ℕ) (ks : List Call) (s t s' t' : State) → calm c ks s' t' ≡ true → Comes sheet (link c stubs) s t s' t' ks
      → (clashes sheet s (link c stubs) ≡ true) ⊎ (clashes sheet t (link c stubs) ≡ true) → ⊥
  unfolding calm
  calm-none c stubs [] s t s' t' h d x = elim d [ ]
  calm-none c stubs (j ∷ ks) s t s' t' h now x =
      let k : Call = link c stubs in
      let a = (and_both (cond (eqb (linked k) c) (not (clashes sheet s k) && not (clashes sheet t k)) true)
      (calm c ks (step bytewise sheet s k) (step_before sheet t k)) h).0 in
      let b = and_both (not (clashes sheet s k)) (not (clashes sheet t k)) (rw (eq-eqb c c refl) at a) in
      elim x [ inl p ↦ false≢true (rw p at b.0) | inr p ↦ false≢true (rw p at b.1) ]
  calm-none c stubs (j ∷ ks) s t s' t' h (later d) x =
      calm-none c stubs ks s t (step bytewise sheet s' j) (step_before sheet t' j)
      (and_both (cond (eqb (linked j) c) (not (clashes sheet s' j) && not (clashes sheet t' j)) true)
      (calm c ks (step bytewise sheet s' j) (step_before sheet t' j)) h).1 d x

module _ (ws sheet area missing : List ℕ) (calls : List Call) where
  roomy-all : roomy sheet calls (start ws area missing) (start ws area missing) ≡ true → AllRoomy ws sheet area missing calls
  roomy-all h k s t made here = roomy-each sheet calls (start ws area missing) (start ws area missing) h k s t made

  -- a class without a parent
  clear-root : (c : ℕ) → chain ws c ≡ c ∷ [] → calm sheet c calls (start ws area missing) (start ws area missing) ≡ true → Clear ws sheet area missing calls c
  clear-root c e h l d i x =
      elim (Memᴰ.cases_cons (rw e at i)) [
        | inl q ↦ calm-none sheet c x.stubs calls x.state x.before (start ws area missing) (start ws area missing) h (rw q at x.made) (rw q at x.clash)
        | inr j ↦ Memᴰ.not-nil j
      ]

-- ---- the list: P, and Q under it, which clashes; an interface; a generated class that gets y by its compiler table; an ask for it

abbrev world : assemble.Lent
world =
    spare 40
    (lent
    (built "P" 0 (method "a" 5 ∷ method "b" 6 ∷ []) [] ∷ built "Q" 1 [] [] ∷ interface "I" (method "y" 7 ∷ []) ∷ compiled "G" 0 [] (8 ∷ []) ∷ [])
    (abi "P" (slot "a" 0 ∷ []) [] ∷ abi "Q" (slot "b" 0 ∷ []) [] ∷ abi "G" (slot "y" 0 ∷ []) [] ∷ []))

unfoldable pub ws : List ℕ
ws = world.set

unfoldable pub sheet : List ℕ
sheet = world.abi

unfoldable pub calls : List Call
calls = link 1 (stubs_of 8) ∷ link 2 (stubs_of 8) ∷ link 3 (stubs_of 8) ∷ link 4 (stubs_of 8) ∷ ask 4 3 (stubs_of 8) ∷ []

unfoldable pub begin : State
begin = start ws (fresh 60) (sevens 4)

record Tested : Type 0 where
  unlinked : is_unlinked ws ≡ true
  roomy : roomy sheet calls begin begin ≡ true
  -- Q clashes, the others do not
  clash : calm sheet 2 calls begin begin ≡ false
  calm_interface : calm sheet 3 calls begin begin ≡ true
  calm_generated : calm sheet 4 calls begin begin ≡ true
  root_interface : chain ws 3 ≡ 3 ∷ []
  root_generated : chain ws 4 ≡ 4 ∷ []

tested : Tested
unfolding opened shown ws sheet calls begin roomy calm build_before link_before link_clashes reaches_table field_row entries_clash relays_class builds_methods
    plan_with step step_before
tested = record { unlinked = refl; roomy = refl; clash = refl; calm_interface = refl; calm_generated = refl; root_interface = refl; root_generated = refl }

-- the states in which the ask is made
unfoldable pub state : State
state =
    step bytewise sheet (step bytewise sheet (step bytewise sheet (step bytewise sheet begin (link 1 (stubs_of 8))) (link 2 (stubs_of 8)))
    (link 3 (stubs_of 8))) (link 4 (stubs_of 8))

unfoldable pub before : State
before =
    step_before sheet (step_before sheet (step_before sheet (step_before sheet begin (link 1 (stubs_of 8))) (link 2 (stubs_of 8))) (link 3 (stubs_of 8)))
    (link 4 (stubs_of 8))

pub record Speaks : Type 0 where
  -- accepted by both, at two places
  accepted : (outcome bytewise sheet state (ask 4 3 (stubs_of 8))).refusal ≡ 0
  places : (outcome bytewise sheet state (ask 4 3 (stubs_of 8))).first ∷ (outcome_before sheet before (ask 4 3 (stubs_of 8))).first ∷ [] ≡ 16 ∷ 15 ∷ []

pub speaks : Speaks
unfolding opened shown ws sheet begin state before build_before link_before plan_with step step_before
speaks = record { accepted = refl; places = refl }

here : IsElsewhere ws sheet (fresh 60) (sevens 4) calls (ask 4 3 (stubs_of 8))
here c i =
    elim (Memᴰ.cases_cons i) [
      | inl q ↦ rw q (clear-root ws sheet (fresh 60) (sevens 4) calls 4 tested.root_generated (unfold begin in tested.calm_generated))
      | inr j ↦
          elim (Memᴰ.cases_cons j) [
            | inl q ↦ rw q (clear-root ws sheet (fresh 60) (sevens 4) calls 3 tested.root_interface (unfold begin in tested.calm_interface))
            | inr k ↦ absurd (Memᴰ.not-nil k)
          ]
    ]

-- so the claim speaks to the ask, where the list of numbers is filled first and handed on

abbrev pub filling : List ℕ
filling = numbers_of ws sheet

abbrev pub front : List Call
front = link 1 (stubs_of 8) ∷ link 2 (stubs_of 8) ∷ link 3 (stubs_of 8) ∷ link 4 (stubs_of 8) ∷ []

in_front : calls ≡ front ++ (ask 4 3 (stubs_of 8) ∷ [])
unfolding calls
in_front = refl

pub instance : SameAnswer (ask 4 3 (stubs_of 8)) (left (numbered filling) ws sheet (fresh 60) (sevens 4) front).area
    (left_before ws sheet (fresh 60) (sevens 4) front).area
    (spec.now (numbered filling) ws sheet (fresh 60) (sevens 4) front (ask 4 3 (stubs_of 8))) (spec.before ws sheet (fresh 60) (sevens 4) front (ask 4 3 (stubs_of 8)))
instance =
    let filled = filling_filled ws sheet in
    elsewhere ws sheet (fresh 60) (sevens 4) filling filled (unlinked-holds ws tested.unlinked) calls
    (roomy_by_numbers ws sheet (fresh 60) (sevens 4) filling filled calls
    (roomy-split ws sheet (fresh 60) (sevens 4) calls (roomy-all ws sheet (fresh 60) (sevens 4) calls (unfold begin in tested.roomy)))) front []
    (ask 4 3 (stubs_of 8)) in_front
    (elsewhere_by_numbers ws sheet (fresh 60) (sevens 4) filling filled calls (ask 4 3 (stubs_of 8))
    (elsewhere-split ws sheet (fresh 60) (sevens 4) calls (ask 4 3 (stubs_of 8)) here))
