-- Laws of the walk over a class's interface tables, as the loop goes through it. Assumes nothing.
use mathlib.Core.Path.{◌≡◌, refl, sym, ◌∙◌}
use mathlib.Core.Bool.{true, false}
use mathlib.Core.List.{List}
use Prim.Native.Nat.{ℕ, zero, suc, ◌+◌, ◌-◌, ◌≤◌, ◌<◌}
use native.Mathlib.Omega.{arith}
use lib.ListN.{length, get_or}
use lib.Dec.{eqb, leb}
use borrow.Author.Tests.{eq-eqb, ne_eqb, le-leb, lt-leb, leb-false}
use Rattle.words.proofs.Bools.{by}
use Rattle.words.proofs.ListLaws.{rest-suc}
use Rattle.linking.specs.Link.{next_free}
use Rattle.linking.specs.Ask.{Walk, hit, missed, broken, walk}
use Rattle.std.specs.Prelude.{Option, Some, None, Result, Ok, Err}
use Rattle.refusal.specs.declared.Refusal.{Refusal}
use Rattle.refusal.proofs.Rows.{row_above}
use Rattle.area.specs.Area.{node_or_end, walk_of, nodes_to, Counted}
use Rattle.area.specs.declared.Walked.{Walked}

-- ---- what the answer of a walk says

missed-hit : {r n k : ℕ} → missed r ≡ hit n k → ⊥
missed-hit e = let z : ◌≡◌ {A = ℕ} 0 1 = cc in absurd (omega arith)

broken-hit : {n k : ℕ} → broken ≡ hit n k → ⊥
broken-hit e = let z : ◌≡◌ {A = ℕ} 0 1 = cc in absurd (omega arith)

broken-missed : {r : ℕ} → broken ≡ missed r → ⊥
broken-missed e = let z : ◌≡◌ {A = ℕ} 0 1 = cc in absurd (omega arith)

module _ (area : List ℕ) (i : ℕ) where
  -- a node that is found lies below word 0, and the count is the length of the list up to it
  pub hit-is : (left read head n nodes : ℕ) → walk area i left read head ≡ hit n nodes
      → (n + 1 < next_free area) × (nodes ≡ read + length (nodes_to area i left head))
  unfolding walk nodes_to
  hit-is zero read head n nodes e = by (eqb head 0) (λ t. absurd (missed-hit (rw t at e))) (λ f. absurd (broken-hit (rw f at e)))
  hit-is (suc left) read head n nodes e =
      by (eqb head 0)
      (λ t. absurd (missed-hit (rw t at e)))
      (λ f.
      by (leb (next_free area) (head + 1))
      (λ g. absurd (broken-hit (rw (f, g) at e)))
      (λ g.
      by (eqb (get_or area (head + 1) 0) i)
      (λ k.
      let q : hit head (read + 1) ≡ hit n nodes = rw (f, g, k) at e in
      let h : head ≡ n = cc in
      let p : read + 1 ≡ nodes = cc in
      (omega (arith, leb-false (next_free area) (head + 1) g), rw (f, k) (omega arith)))
      (λ k.
      let r = hit-is left (read + 1) (get_or area head 0) n nodes (rw (f, g, k) at e) in
      (r.0, rw (f, k) (omega (arith, r.1))))))

  -- without a hit it is the length of the whole list
  pub missed-is : (left read head nodes : ℕ) → walk area i left read head ≡ missed nodes → nodes ≡ read + length (nodes_to area i left head)
  unfolding walk nodes_to
  missed-is zero read head nodes e =
      by (eqb head 0)
      (λ t. let q : missed read ≡ missed nodes = rw t at e in let p : read ≡ nodes = cc in omega arith)
      (λ f. absurd (broken-missed (rw f at e)))
  missed-is (suc left) read head nodes e =
      by (eqb head 0)
      (λ t. let q : missed read ≡ missed nodes = rw t at e in let p : read ≡ nodes = cc in rw t (omega arith))
      (λ f.
      by (leb (next_free area) (head + 1))
      (λ g. absurd (broken-missed (rw (f, g) at e)))
      (λ g.
      by (eqb (get_or area (head + 1) 0) i)
      (λ k. absurd (missed-hit (sym (rw (f, g, k) at e))))
      (λ k. let r = missed-is left (read + 1) (get_or area head 0) nodes (rw (f, g, k) at e) in rw (f, k) (omega arith))))

  -- no more nodes are passed than may be read
  nodes_few : (left n : ℕ) → length (nodes_to area i left n) ≤ left
  unfolding nodes_to
  nodes_few zero n = omega arith
  nodes_few (suc left) n =
      by (eqb n 0)
      (λ t. rw t (omega arith))
      (λ f.
      by (eqb (get_or area (n + 1) 0) i)
      (λ k. rw (f, k) (omega arith))
      (λ k. rw (f, k) (omega (arith, nodes_few left (get_or area n 0)))))

  read-is : (head nodes : ℕ) (node : Option ℕ) → node_or_end node nodes ≡ walk area i 64 0 head → nodes ≡ length (nodes_to area i 64 head)
  read-is head nodes (Some n) e = let h = (hit-is 64 0 head n nodes (sym e)).1 in omega arith
  read-is head nodes None e = let h = missed-is 64 0 head nodes (sym e) in omega arith

  pub counted : (head : ℕ) (r : Result Walked Refusal) → walk_of r ≡ walk area i 64 0 head → Counted r (nodes_to area i 64 head)
  counted head (Ok w) e = let h = read-is head w.read w.node e in record { all = λ z. h; few = omega (arith, nodes_few 64 head) }
  counted head (Err r) e = record { all = λ z. absurd (omega (arith, row_above r)); few = omega arith }

-- ---- the loop

-- an ended list, whatever may still be read
walk-ended : (area : List ℕ) (i left read n : ℕ) → n ≡ 0 → missed read ≡ walk area i left read n
unfolding walk
walk-ended area i zero read n e = simp (eq-eqb n 0 e)
walk-ended area i (suc left) read n e = simp (eq-eqb n 0 e)

module _ (area : List ℕ) (i : ℕ) where
  -- the walk at node n, when so many have been read
  unfoldable pub walk_at : ℕ → ℕ → Walk
  walk_at read n = walk area i (64 - read) read n

  pub walk_start : (n : ℕ) → walk_at 0 n ≡ walk area i 64 0 n
  unfolding walk_at
  walk_start n = refl

  -- what is left to walk is the whole walk from the head
  module _ (head read n : ℕ) (left : walk_at read n ≡ walk area i 64 0 head) where
    pub walk-missed : n ≡ 0 → missed read ≡ walk area i 64 0 head
    unfolding walk_at
    walk-missed e = walk-ended area i (64 - read) read n e ∙ left

    pub walk-last : read ≡ 64 → n ≡ 0 → missed 64 ≡ walk area i 64 0 head
    walk-last e z = rw e at (walk-missed z)

    pub walk_out : 64 ≤ read → (n ≡ 0 → ⊥) → broken ≡ walk area i 64 0 head
    unfolding walk_at walk
    walk_out h some =
        let e : 64 - read ≡ 0 = omega arith in
        let w : broken ≡ walk_at read n = rw (e, ne_eqb n 0 some) in w ∙ left

    -- the link word's place, as the code has it
    module _ {next : ℕ} (free : next ≡ next_free area) (some : n ≡ 0 → ⊥) (h : read < 64) where
      pub walk-broken : next ≤ n + 1 → broken ≡ walk area i 64 0 head
      unfolding walk_at walk
      walk-broken k =
          let b : leb (next_free area) (n + 1) ≡ true = le-leb (next_free area) (n + 1) (omega arith) in
          let w : broken ≡ walk_at read n = rw (rest-suc 64 read h, ne_eqb n 0 some, b) in w ∙ left

      module _ {w : ℕ} (k : n + 1 < next) (word : w ≡ get_or area (n + 1) 0) where
        below : leb (next_free area) (n + 1) ≡ false
        below = lt-leb (next_free area) (n + 1) (omega arith)

        pub walk-hit : w ≡ i → hit n (read + 1) ≡ walk area i 64 0 head
        unfolding walk_at walk
        walk-hit e =
            let v : hit n (read + 1) ≡ walk_at read n = rw (rest-suc 64 read h, ne_eqb n 0 some, below, ← word, eq-eqb w i e) in v ∙ left

        pub walk_turn : {m : ℕ} → (w ≡ i → ⊥) → m ≡ get_or area n 0 → walk_at (read + 1) m ≡ walk area i 64 0 head
        unfolding walk_at walk
        walk_turn {m} e f =
            let v : walk_at (read + 1) m ≡ walk_at read n = rw (rest-suc 64 read h, ne_eqb n 0 some, below, ← word, ne_eqb w i e, f) in v ∙ left
