-- The names and descriptors that a link adds are parts of the class text or of the ABI text, and so are bytes. Assumes nothing.
use mathlib.Core.List.{List, [], ◌∷◌, ◌++◌}
use Prim.Native.Nat.{ℕ, ◌+◌}
use native.Mathlib.Omega.{arith}
use lib.ListN.{get_or, drop, length-take}
use lib.Dec.{eqb}
use mathlib.Core.Bool.{◌||◌}
use Rattle.words.specs.Lists.{first_found}
use Rattle.std.specs.Prelude.{Option}
use Rattle.words.proofs.Bools.{by}
use Rattle.words.proofs.Bytes.{all-bytes, append-bytes}
use Rattle.words.proofs.ListLaws.{by-found}
use Rattle.words.proofs.Lists.{part_at}
use Rattle.words.specs.Words.{AreBytes}
use Rattle.text.specs.Text.{name_at}
use Rattle.class_sheet.specs.ClassSheet.{class_compiler_table}
use Rattle.linking.specs.Signature.{Same}
use Rattle.linking.specs.Abi.{slot_at}
use Rattle.linking.specs.Vtable.{Entry, empty}
use Rattle.linking.specs.Compiler.{New, Taken, members, from_method, from_slot, signature_sources, is_declared, add_named, add_from, added_from, added_methods}
use Rattle.linking.specs.Set.{new_text}
use Rattle.linking.specs.Link.{new_fields_of, generated_methods}

part_bytes : (text : List ℕ) (start len : ℕ) → AreBytes text → AreBytes (name_at text start len)
unfolding name_at
part_bytes text start len b =
    all-bytes (name_at text start len)
    (λ i h. rw (part_at text start len i 0 (omega (arith, length-take len (drop start text)))) (b (start + i)))

more_bytes : (x : New) (xs : List New) → AreBytes x.name → AreBytes x.descriptor → AreBytes (new_text xs) → AreBytes (new_text (x ∷ xs))
unfolding new_text
more_bytes x xs n d h = append-bytes x.name (x.descriptor ++ new_text xs) n (append-bytes x.descriptor (new_text xs) d h)

pub no_bytes : AreBytes (new_text [])
unfolding new_text
no_bytes i = omega arith

pub field-bytes : (abi labels gs : List ℕ) → AreBytes labels → AreBytes (new_text (new_fields_of abi labels gs))
unfolding new_fields_of
field-bytes abi labels [] l = no_bytes
field-bytes abi labels (g ∷ gs) l = more_bytes _ _ (part_bytes labels _ _ l) (part_bytes labels _ _ l) (field-bytes abi labels gs l)

named-bytes : (same : Same) (ws : List ℕ) (c : ℕ) (x : Taken) (xs : List Taken) → AreBytes x.member.name → AreBytes x.member.descriptor
    → AreBytes (new_text (members xs)) → AreBytes (new_text (members (add_named same ws c x xs)))
unfolding add_named members
named-bytes same ws c x xs n d h = by (is_declared same ws c x) (λ e. rw e h) (λ e. rw e (more_bytes x.member (members xs) n d h))

module _ (same : Same) (ws text abi labels : List ℕ) (t : AreBytes text) (l : AreBytes labels) where
  from_bytes : (c i target : ℕ) (method : Option ℕ) (xs : List Taken) → AreBytes (new_text (members xs))
      → AreBytes (new_text (members (add_from same ws text abi labels c i target method xs)))
  from_bytes c i target method xs h =
      by-found method
      (λ m e. rw e (named-bytes same ws c (from_method ws text m target) xs (part_bytes text _ _ t) (part_bytes text _ _ t) h))
      (λ e.
      rw e
      (by-found (first_found (slot_at abi i) (signature_sources ws text abi labels c))
      (λ s q. rw q (named-bytes same ws c (from_slot abi labels s target) xs (part_bytes labels _ _ l) (part_bytes labels _ _ l) h))
      (λ q. rw q h)))

  added-bytes : (c : ℕ) (view : List Entry) (i : ℕ) (ts : List ℕ) → AreBytes (new_text (members (added_from same ws text abi labels c view i ts)))
  unfolding added_from members
  added-bytes c view i [] = no_bytes
  added-bytes c view i (x ∷ ts) =
      let h = added-bytes c view (i + 1) ts in
      by (eqb x 0 || eqb x (get_or view i empty).word)
      (λ e. rw e h)
      (λ e. rw e (from_bytes c i x (get_or view i empty).method (added_from same ws text abi labels c view (i + 1) ts) h))

  pub method-bytes : (area : List ℕ) (c : ℕ) → AreBytes (new_text (members (generated_methods same ws text abi labels area c)))
  unfolding generated_methods added_methods members
  method-bytes area c = by (eqb (class_compiler_table ws c) 0) (λ e. rw e no_bytes) (λ e. rw e (added-bytes c _ 0 _))
