-- Laws of a link's last rows, 14 and 15. Assumes nothing.
use mathlib.Core.Path.{◌≡◌}
use mathlib.Core.Bool.{Bool, true, false, ◌||◌}
use mathlib.Core.List.{List}
use Prim.Native.Nat.{ℕ}
use native.Mathlib.Omega.{arith}
use Rattle.words.proofs.Bools.{by, or-neither}
use Rattle.linking.specs.Counts.{missing_short}
use Rattle.linking.specs.Link.{Plan, lists_full, set_short, no_room}
use Rattle.link.specs.Stored.{room_row}

-- ---- the rows, as the code judges them

module _ (ws : List ℕ) (c : ℕ) (p : Plan) (area stubs missing : List ℕ) (n : ℕ) {f : Bool} (full : f ≡ lists_full ws c p) where
  pub room-full : f ≡ true → 14 ≡ room_row ws c p area stubs missing n
  unfolding room_row
  room-full e = rw (← full, e)

  module _ (left : f ≡ false) {s r m : Bool} (short : s ≡ set_short ws c p) (room : r ≡ no_room area stubs n) (list : m ≡ missing_short ws missing) where
    pub room-short : (r || s || m) ≡ true → 15 ≡ room_row ws c p area stubs missing n
    unfolding room_row
    room-short e = rw (← full, left, ← room, ← short, ← list, e)

    pub room-left : (r || s || m) ≡ false → 0 ≡ room_row ws c p area stubs missing n
    unfolding room_row
    room-left e = rw (← full, left, ← room, ← short, ← list, e)

-- what row 0 says of each
pub record Room (ws : List ℕ) (c : ℕ) (p : Plan) (area stubs missing : List ℕ) (n : ℕ) : Type 0 where
  pub lists : lists_full ws c p ≡ false
  pub area-has : no_room area stubs n ≡ false
  pub set-has : set_short ws c p ≡ false
  pub list-has : missing_short ws missing ≡ false

module _ (ws : List ℕ) (c : ℕ) (p : Plan) (area stubs missing : List ℕ) (n : ℕ) where
  pub room-is : room_row ws c p area stubs missing n ≡ 0 → Room ws c p area stubs missing n
  unfolding room_row
  room-is e =
      by (lists_full ws c p)
      (λ q. let o : ◌≡◌ {A = ℕ} 14 0 = rw q at e in absurd (omega arith))
      (λ q.
      by (no_room area stubs n || set_short ws c p || missing_short ws missing)
      (λ t. let o : ◌≡◌ {A = ℕ} 15 0 = rw (q, t) at e in absurd (omega arith))
      (λ t.
      let a = or-neither (no_room area stubs n || set_short ws c p) (missing_short ws missing) t in
      let b = or-neither (no_room area stubs n) (set_short ws c p) a.0 in
      record { lists = q; area-has = b.0; set-has = b.1; list-has = a.1 }))
