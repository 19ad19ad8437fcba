-- Lists of links in which two inherited signatures have one fixed index, by the linker and by the one before: of the last link the refusal and the table's
-- words. Assumes nothing.
use mathlib.Core.Path.{◌≡◌, refl}
use mathlib.Core.Bool.{Bool, true, false}
use mathlib.Core.List.{List, [], ◌∷◌}
use Prim.Native.Nat.{ℕ}
use Rattle.words.specs.Lists.{list_from}
use Rattle.linking.specs.Link.{plan_with, Outcome}
use Rattle.linking.specs.Before.{build_before, builds_methods, relays_class, entries_clash, field_row, reaches_table, link_clashes, link_before}
use Rattle.linking.proofs.Assemble as assemble
use Rattle.linking.proofs.Assemble.{AbiClass, Member, method, built, compiled, slot, abi, lent, fresh, stubs_of}
use Rattle.linking.proofs.Opened.{opened}
use Rattle.calls.specs.Calls.{Call, State, link, start, step, table_at, bytewise}
use Rattle.calls.specs.OldRun.{step_before, answers_now, answers_before, none_clashes}
use Rattle.calls.proofs.Tests.{shown}

-- ---- the last link

unfoldable pub ending : List (Outcome × State) → ℕ × List ℕ
ending [] = (0, [])
ending (a ∷ []) = (a.0.refusal, table_at a.0.area a.0.first a.0.second)
ending (a ∷ b ∷ rest) = ending (b ∷ rest)

-- of the first n classes, linked in order in an area with so many words after word 0: now and before
unfoldable pub told_in : ℕ → ℕ → assemble.Lent → (ℕ × List ℕ) × (ℕ × List ℕ)
told_in words n w =
    let calls : List Call = list_from (λ c. link c (stubs_of 40)) 1 n in
    let s : State = start w.set (fresh words) w.missing in
    (ending (answers_now bytewise w.abi calls s), ending (answers_before w.abi calls s))

abbrev told : ℕ → assemble.Lent → (ℕ × List ℕ) × (ℕ × List ℕ)
told n w = told_in 60 n w

-- ---- P, and Q under it

abbrev two : List Member → List Member → List AbiClass → assemble.Lent
two p q sheet = lent (built "P" 0 p [] ∷ built "Q" 1 q [] ∷ []) sheet

-- P's table has a twice: 5, 6, 7
abbrev twice : List AbiClass → assemble.Lent
twice sheet = lent (compiled "P" 0 (method "a" 5 ∷ method "b" 6 ∷ method "a" 7 ∷ []) (5 ∷ 6 ∷ 7 ∷ []) ∷ built "Q" 1 [] [] ∷ []) sheet

-- R under Q, with a method
abbrev three : Member → List AbiClass → assemble.Lent
three m sheet = lent (built "P" 0 (method "a" 5 ∷ method "b" 6 ∷ []) [] ∷ built "Q" 1 [] [] ∷ built "R" 2 (m ∷ []) [] ∷ []) sheet

-- two sheets combined: P fixes one, Q the other, at 0; or Q both
abbrev apart : AbiClass → List AbiClass
apart q = abi "P" (slot "a" 0 ∷ []) [] ∷ q ∷ []

abbrev b_in_Q : AbiClass
b_in_Q = abi "Q" (slot "b" 0 ∷ []) []

abbrev together : List AbiClass
together = abi "Q" (slot "b" 0 ∷ slot "a" 0 ∷ []) [] ∷ []

pub record Rows : Type 0 where
  -- a vanished
  pub vanished : told 2 (two (method "a" 5 ∷ method "b" 6 ∷ []) [] (apart b_in_Q)) ≡ ((0, 6 ∷ 5 ∷ []), (0, 6 ∷ []))
  -- the nearest ABI class stays, though in P's table, 901, 6, 5, its entry is the later one
  pub nearer : told 2 (two (method "a" 5 ∷ method "b" 6 ∷ []) [] (abi "P" (slot "b" 1 ∷ []) [] ∷ abi "Q" (slot "a" 1 ∷ []) [] ∷ []))
      ≡ ((0, 901 ∷ 5 ∷ 6 ∷ []), (0, 901 ∷ 5 ∷ []))
  -- from one ABI class the first entry, not the first row
  pub earlier : told 2 (two (method "a" 5 ∷ method "b" 6 ∷ []) [] together) ≡ ((0, 5 ∷ 6 ∷ []), (0, 6 ∷ []))
  -- in inherited order with c, which has no fixed index: P's table is 5, 6, 7
  pub ordered : told 2 (two (method "b" 6 ∷ method "c" 7 ∷ method "a" 5 ∷ []) [] (apart b_in_Q)) ≡ ((0, 6 ∷ 5 ∷ 7 ∷ []), (0, 6 ∷ 7 ∷ []))
  -- of a signature that gives way the last entry follows, once
  pub once : told 2 (twice (apart b_in_Q)) ≡ ((0, 6 ∷ 7 ∷ []), (0, 7 ∷ []))
  -- the first entry decides which one stays; later ones of it overwrite it
  pub first : told 2 (twice together) ≡ ((0, 7 ∷ 6 ∷ []), (0, 7 ∷ []))
  -- row 11 where 12 refused, and where none did; and none where 12 refused
  pub redeclared : told 2 (two (method "a" 5 ∷ method "b" 6 ∷ []) (method "a" 8 ∷ []) (apart b_in_Q)) ≡ ((11, []), (12, []))
  pub accepted : told 2 (two (method "b" 6 ∷ method "a" 5 ∷ []) (method "a" 8 ∷ []) together) ≡ ((11, []), (0, 8 ∷ []))
  pub refusing : told 2 (two (method "b" 6 ∷ method "a" 5 ∷ []) (method "b" 8 ∷ []) together) ≡ ((0, 8 ∷ 5 ∷ []), (12, []))
  -- "or a descendant that redeclares the moved signature"; and 12, by the parent's other table, where none refused
  pub descendant : told 3 (three (method "a" 8) (apart b_in_Q)) ≡ ((11, []), (12, []))
  pub twelve : told 3 (three (method "c" 9) (abi "P" (slot "a" 0 ∷ []) [] ∷ b_in_Q ∷ abi "R" (slot "a" 1 ∷ slot "c" 1 ∷ []) [] ∷ []))
      ≡ ((12, []), (0, 6 ∷ 9 ∷ []))
  -- elsewhere only through room: Y, after P and Q, in an area of 11 words
  pub room : told_in 10 3
      (lent (built "P" 0 (method "a" 5 ∷ method "b" 6 ∷ []) [] ∷ built "Q" 1 [] [] ∷ built "Y" 0 (method "y" 7 ∷ []) [] ∷ []) (apart b_in_Q))
      ≡ ((15, []), (0, 7 ∷ []))

pub rows : Rows
unfolding opened build_before link_before plan_with step step_before answers_now answers_before ending told_in
rows = record {
  vanished = refl;
  nearer = refl;
  earlier = refl;
  ordered = refl;
  once = refl;
  first = refl;
  redeclared = refl;
  accepted = refl;
  refusing = refl;
  descendant = refl;
  twelve = refl;
  room = refl;
}

-- ---- lists to which `run_as_before` speaks: several ABI entries, and no two inherited signatures of one index

abbrev calm : List AbiClass → Bool
calm sheet =
    let w : assemble.Lent = two (method "a" 5 ∷ method "b" 6 ∷ []) [] sheet in
    none_clashes bytewise w.abi (list_from (λ c. link c (stubs_of 40)) 1 2) (start w.set (fresh 60) w.missing)

pub record Calm : Type 0 where
  -- P fixes a at 0, and Q b at 1; or a at 0, too
  pub other_index : calm (apart (abi "Q" (slot "b" 1 ∷ []) [])) ≡ true
  pub same_signature : calm (apart (abi "Q" (slot "a" 0 ∷ []) [])) ≡ true
  -- the list of the row `vanished`, whose answers changed, is none
  pub vanished : calm (apart b_in_Q) ≡ false

pub calm_lists : Calm
unfolding opened shown build_before link_before plan_with step none_clashes link_clashes reaches_table field_row entries_clash relays_class builds_methods
calm_lists = record { other_index = refl; same_signature = refl; vanished = refl }
