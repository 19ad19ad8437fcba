-- An ask keeps the relation of the two runs: one elsewhere puts alike nodes in both or none; another one, in each run for itself, changes no walk of a pair
-- elsewhere. Assumes nothing.
use mathlib.Core.Path.{◌≡◌, refl, sym}
use mathlib.Core.Logic.{◌≢◌, ◌⊎◌, inl, inr}
use mathlib.Core.List.{List}
use Prim.Native.Nat.{ℕ}
use native.Mathlib.Omega.{arith}
use lib.Dec.{eqb}
use borrow.Author.Tests.{eqb-true, eqb-false}
use Rattle.words.proofs.Bools.{by}
use Rattle.class_sheet.specs.ClassSheet.{class_slot_count}
use Rattle.linking.specs.Link.{HasTable, next_free, Outcome}
use Rattle.linking.proofs.RenumberedPackages.{Held}
use Rattle.calls.specs.Calls.{State, table_at}
use Rattle.calls.proofs.BesideAsk.{SameWalk, both-hit}
use Rattle.calls.proofs.BesideNext.{held_turned, held_then, walk_turned, walk_then}
use Rattle.calls.proofs.Elsewhere.{walk_of, Related}
use Rattle.calls.proofs.ElsewhereNext.{linked-there}
use Rattle.calls.proofs.NodeLists.{Layout}
use Rattle.calls.proofs.Rows.{PutsNode}
use Rattle.calls.proofs.Puts.{put-size, put_next, put-sound, put-table, put-found, put_walks}

-- what an ask leaves
abbrev pub put_in : State → Outcome → State
put_in s o = record { set = s.set; area = o.area; missing = s.missing }

put-held : (abi : List ℕ) (s : State) (c i : ℕ) (stubs : List ℕ) (o : Outcome) (p : PutsNode s.set abi c i s.area stubs o) → Layout s → (d : ℕ)
    → HasTable s.set d → Held s.set s.set s.area o.area d
put-held abi s c i stubs o p lay d l = record { linked = refl; slots = refl; words = λ k h. sym (put-table abi s c i stubs o p lay d l k h) }

module _ (abi : List ℕ) (E : ℕ → Type 0) (c i : ℕ) (stubs : List ℕ) where
  -- in one run
  pub other-ask : (s : State) (o : Outcome) → PutsNode s.set abi c i s.area stubs o → Layout s → Related abi E s s → (E c → E i → ⊥)
      → Related abi E s (put_in s o)
  other-ask s o p lay self none = record {
    sets = self.sets;
    held = λ d x l. put-held abi s c i stubs o p lay d l;
    nodes = λ d j x y l k. put_walks abi s c i stubs o p lay d j l (apart d j x y);
    accepted = self.accepted;
    accepted' = self.accepted;
    sound = self.sound;
    sound' = put-sound abi s c i stubs o p;
    parent = self.parent;
    parent' = self.parent;
  }
    where
      apart : (d j : ℕ) → E d → E j → (d ≢ c) ⊎ (j ≢ i)
      apart d j x y =
          by (eqb d c)
          (λ t.
          let e : d ≡ c = eqb-true d c t in
          by (eqb j i) (λ u. let f : j ≡ i = eqb-true j i u in absurd (none (rw e at x) (rw f at y))) (λ u. inr (eqb-false j i u)))
          (λ t. inl (eqb-false d c t))

  -- in both
  module _ (s t : State) (o o' : Outcome) (p : PutsNode s.set abi c i s.area stubs o) (p' : PutsNode t.set abi c i t.area stubs o')
      (lay : Layout s) (lay' : Layout t)
      (rel : Related abi E s t) (calm : E c) (calm' : E i)
      (words : table_at o.area o.first (class_slot_count s.set i) ≡ table_at o'.area o'.first (class_slot_count s.set i)) where
    new-walk : SameWalk o.area o'.area (class_slot_count s.set i) (walk_of (put_in s o) c i) (walk_of (put_in t o') c i)
    new-walk =
        let n = put_next abi s c i stubs o p in
        let n' = put_next abi t c i stubs o' p' in
        let z = put-size abi s c i stubs o p in
        let z' = put-size abi t c i stubs o' p' in
        let h = (rel.held i calm' p.interface).slots in
        rw (put-found abi s c i stubs o p lay, put-found abi t c i stubs o' p' lay')
        (both-hit {n = next_free s.area} {n' = next_free t.area} (rw (p.answers-place, p'.answers-place) at words) (omega arith) (omega arith))

    other-walk : (d j : ℕ) → E d → E j → HasTable s.set d → HasTable s.set j → (d ≢ c) ⊎ (j ≢ i)
        → SameWalk o.area o'.area (class_slot_count s.set j) (walk_of (put_in s o) d j) (walk_of (put_in t o') d j)
    other-walk d j x y l k n =
        walk_then (walk_turned (put_walks abi s c i stubs o p lay d j l n))
        (walk_then (rel.nodes d j x y l k)
        (rw (rel.held j y k).slots (put_walks abi t c i stubs o' p' lay' d j (linked-there abi E s t rel d x l) n)))

    pub ask-next : Related abi E (put_in s o) (put_in t o')
    ask-next = record {
      sets = rel.sets;
      held = λ d x l.
          held_then (held_turned (put-held abi s c i stubs o p lay d l))
          (held_then (rel.held d x l) (put-held abi t c i stubs o' p' lay' d (linked-there abi E s t rel d x l)));
      nodes = λ d j x y l k.
          by (eqb d c)
          (λ q.
          by (eqb j i)
          (λ v. let e : d ≡ c = eqb-true d c q in let f : j ≡ i = eqb-true j i v in rw (e, f) new-walk)
          (λ v. other-walk d j x y l k (inr (eqb-false j i v))))
          (λ q. other-walk d j x y l k (inl (eqb-false d c q)));
      accepted = rel.accepted;
      accepted' = rel.accepted';
      sound = put-sound abi s c i stubs o p;
      sound' = put-sound abi t c i stubs o' p';
      parent = rel.parent;
      parent' = rel.parent';
    }
