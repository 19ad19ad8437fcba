-- Rows 7 and 15 taken apart: what holds of the area, and of it and the stub list, where they do not refuse. Assumes nothing.
use mathlib.Core.Path.{◌≡◌}
use mathlib.Core.Logic.{◌≢◌}
use mathlib.Core.Bool.{Bool, true, false, not, ◌||◌}
use mathlib.Core.List.{List}
use Prim.Native.Nat.{ℕ, ◌+◌, ◌-◌, ◌≤◌}
use native.Mathlib.Omega.{arith}
use lib.ListN.{length}
use lib.Dec.{eqb, ltb}
use borrow.Author.Tests.{eqb-false, ne_eqb, leb-true, ltb-false, not-false}
use Rattle.words.specs.Folds.{all_of}
use Rattle.words.proofs.Bools.{or-neither}
use Rattle.words.proofs.FoldLaws.{all-each}
use Rattle.class_sheet.specs.ClassSheet.{class_count, class_table_place, class_slot_count}
use Rattle.linking.specs.Link.{HasTable, next_free, ends_below, bad_area, no_room}

-- there are n stubs, and room for n slots and two words
pub record Fits (area stubs : List ℕ) (n : ℕ) : Type 0 where
  pub stubbed : n ≤ length stubs
  pub free : next_free area + n + 2 ≤ length area

pub fits : (area stubs : List ℕ) (n : ℕ) → no_room area stubs n ≡ false → Fits area stubs n
unfolding no_room
fits area stubs n e =
    let p = or-neither (ltb (length stubs) n) (ltb (length area - next_free area) (n + 2)) e in
    let a = ltb-false (length stubs) n p.0 in
    let b = ltb-false (length area - next_free area) (n + 2) p.1 in
    record { stubbed = omega arith; free = omega arith }

-- an area that row 7 does not refuse: each linked table ends below the next free word
pub record Sound (ws area : List ℕ) : Type 0 where
  pub some : next_free area ≢ 0
  pub within : next_free area ≤ length area
  pub short : length area ≤ 4294967295
  pub below : (c : ℕ) → HasTable ws c → class_table_place ws c + class_slot_count ws c + 2 ≤ next_free area

ends-below : (ws area : List ℕ) (c : ℕ) → ends_below ws area c ≡ true → class_table_place ws c ≢ 0
    → class_table_place ws c + class_slot_count ws c + 2 ≤ next_free area
unfolding ends_below
ends-below ws area c e h =
    leb-true (class_table_place ws c + class_slot_count ws c + 2) (next_free area) (rw (ne_eqb (class_table_place ws c) 0 h) at e)

pub sound : (ws area : List ℕ) → bad_area ws area ≡ false → Sound ws area
unfolding bad_area
sound ws area e =
    let none : Bool = eqb (length area) 0 in
    let long : Bool = ltb 4294967295 (length area) in
    let zero : Bool = eqb (next_free area) 0 in
    let past : Bool = ltb (length area) (next_free area) in
    let all : Bool = all_of (class_count ws) (λ i. ends_below ws area (i + 1)) in
    let a = or-neither (none || long || zero || past) (not all) e in
    let b = or-neither (none || long || zero) past a.0 in
    let d = or-neither (none || long) zero b.0 in
    let f = or-neither none long d.0 in
    record {
      some = eqb-false (next_free area) 0 d.1;
      within = ltb-false (length area) (next_free area) b.1;
      short = ltb-false 4294967295 (length area) f.1;
      below = λ c l.
          let i : c - 1 + 1 ≡ c = omega (arith, l.some) in
          let t = all-each (class_count ws) (λ i. ends_below ws area (i + 1)) (not-false all a.1) (c - 1) (omega (arith, l.some, l.among)) in
          ends-below ws area c (rw i at t) l.has;
    }
