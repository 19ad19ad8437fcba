-- A link leaves a faithful list faithful: each used place of the set that it leaves has the parts of its origin (`Origins`) and its number (`Carried`).
-- Assumes nothing.
use mathlib.Core.Path.{◌≡◌, sym, ◌∙◌}
use mathlib.Core.Logic.{inl, inr}
use mathlib.Core.Bool.{true, false}
use mathlib.Core.List.{List}
use Prim.Native.Nat.{ℕ, ◌+◌, ◌-◌, ◌≤◌, ◌<◌}
use native.Mathlib.Omega.{arith}
use lib.ListN.{length, get_or}
use lib.Dec.{ltb}
use borrow.Author.Tests.{ltb-true, ltb-false}
use Rattle.words.proofs.Bools.{by, and_both}
use Rattle.class_sheet.specs.ClassSheet.{method_count, class_first_method, class_method_count, method_limit}
use Rattle.linking.specs.Signature.{Place, of_method, of_abi_slot, Same, place_number, by_numbers}
use Rattle.linking.specs.Numbers.{number_limit, is_used}
use Rattle.linking.specs.Compiler.{none_taken, members}
use Rattle.linking.specs.Link.{Plan, is_none, LinkOutcome}
use Rattle.linking.specs.Numbered.{numbers_after}
use Rattle.matching.specs.Filling.{Used, Faithful}
use Rattle.matching.specs.Matching.{Carries}
use Rattle.matching.proofs.Carried.{carries}
use Rattle.matching.proofs.Rows.{Accepted}
use Rattle.matching.proofs.Origins as origins
use Rattle.matching.proofs.Origins.{Origin}

-- p of the new set has q's parts, and its number
record Traced (ws abi ns new left : List ℕ) (p q : Place) : Type 0 where
  origin : Origin ws abi new p q
  number : get_or left (place_number p) 0 ≡ get_or ns (place_number q) 0

faithful-from : (ws abi ns new left : List ℕ) → Faithful ws abi ns → number_limit ≤ length left
    → ((p : Place) → Used new abi p → (q : Place) × Traced ws abi ns new left p q) → Faithful new abi left
unfolding by_numbers
faithful-from ws abi ns new left f l trace = record {
  long = l;
  equal = λ p q u v e.
      let a = trace p u in
      let b = trace q v in
      rw (a.1.number, b.1.number)
      (f.equal a.0 b.0 a.1.origin.used b.1.origin.used
      (record {
        name = sym a.1.origin.name ∙ e.name ∙ b.1.origin.name;
        descriptor = sym a.1.origin.descriptor ∙ e.descriptor ∙ b.1.origin.descriptor;
      }));
  apart = λ p q u v n.
      let a = trace p u in
      let b = trace q v in
      let e = f.apart a.0 b.0 a.1.origin.used b.1.origin.used (rw (a.1.number, b.1.number) at n) in
      record {
        name = a.1.origin.name ∙ e.name ∙ sym b.1.origin.name;
        descriptor = a.1.origin.descriptor ∙ e.descriptor ∙ sym b.1.origin.descriptor;
      };
}

module _ (same : Same) (ws abi : List ℕ) (c : ℕ) (area stubs missing : List ℕ) (o : LinkOutcome) (acc : Accepted same ws abi c area stubs missing o)
    (ns : List ℕ) (f : Faithful ws abi ns) where
  abbrev p : Plan
  p = acc.coming

  abbrev new : List ℕ
  new = o.outcome.set

  abbrev count : ℕ
  count = method_count ws

  abbrev own : ℕ
  own = class_method_count ws c

  abbrev left : List ℕ
  left = numbers_after ws ns c p.added

  below : (m : ℕ) → Used new abi (of_method m) → m < method_count new
  unfolding is_used
  below m u = ltb-true m (method_count new) (and_both (ltb m (method_count new)) (ltb m method_limit) u).0

  -- no method is added: each place is its own origin
  kept : is_none (members p.added) ≡ true → (q : Place) → Used new abi q → (r : Place) × Traced ws abi ns new left q r
  unfolding numbers_after
  kept t (of_method m) u =
      let s = origins.still same ws abi c area stubs missing o acc t in
      let b = below m u in
      (of_method m, record { origin = origins.old same ws abi c area stubs missing o acc m (omega arith); number = rw t })
  kept t (of_abi_slot s) u = (of_abi_slot s, record { origin = origins.slot same ws abi c area stubs missing o acc s u; number = rw t })

  module _ (t : is_none (members p.added) ≡ false) where
    room : count + (own + length p.added) ≤ method_limit
    room = origins.room same ws abi c area stubs missing o acc t

    carried : Carries ws c p.added ns left
    carried = carries ws ns c p.added t (origins.listed same ws abi c area stubs missing o acc) room f.long

    copied : (m j : ℕ) → m ≡ count + j → j < own → Traced ws abi ns new left (of_method m) (of_method (class_first_method ws c + j))
    unfolding place_number
    copied m j e h = rw e (record { origin = origins.copied same ws abi c area stubs missing o acc t j h; number = carried.copied j h })

    added : (m j : ℕ) → m ≡ count + (own + j) → j < length p.added → Traced ws abi ns new left (of_method m) (get_or p.added j none_taken).from
    unfolding place_number
    added m j e h =
        let a : count + own + j ≡ count + (own + j) = omega arith in
        rw e (record { origin = origins.added same ws abi c area stubs missing o acc t j h; number = rw a at (carried.took j h) })

    grown : (q : Place) → Used new abi q → (r : Place) × Traced ws abi ns new left q r
    unfolding place_number
    grown (of_abi_slot s) u = (
      of_abi_slot s,
      record {
        origin = origins.slot same ws abi c area stubs missing o acc s u;
        number = carried.others (method_limit + s) (inr (omega (arith, room)));
      },
    )
    grown (of_method m) u =
        by (ltb m count)
        (λ a.
        let h = ltb-true m count a in (
          of_method m,
          record { origin = origins.old same ws abi c area stubs missing o acc m h; number = carried.others m (inl h) },
        ))
        (λ a.
        let g = ltb-false m count a in
        by (ltb m (count + own))
        (λ b.
        let h = ltb-true m (count + own) b in
        (of_method (class_first_method ws c + (m - count)), copied m (m - count) (omega arith) (omega arith)))
        (λ b.
        let h = ltb-false m (count + own) b in
        let l = below m u in
        let n = origins.many same ws abi c area stubs missing o acc t in (
          (get_or p.added (m - (count + own)) none_taken).from,
          added m (m - (count + own)) (omega arith) (omega arith),
        )))

  long : number_limit ≤ length left
  unfolding numbers_after
  long =
      by (is_none (members p.added)) (λ t. rw t f.long) (λ t. let l = (carried t).many in omega (arith, f.long))

  pub linked_faithful : Faithful new abi left
  linked_faithful =
      by (is_none (members p.added)) (λ t. faithful-from ws abi ns new left f long (kept t)) (λ t. faithful-from ws abi ns new left f long (grown t))
