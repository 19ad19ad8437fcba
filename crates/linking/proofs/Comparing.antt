-- A comparison of signatures that is an equivalence, as that by bytes and that by numbers are: which index a signature has then does not depend on the
-- place that it is taken from. Assumes nothing.
use mathlib.Core.Path.{◌≡◌, refl, sym, ◌∙◌}
use mathlib.Core.Bool.{true, true≢false}
use mathlib.Core.List.{List, [], ◌∷◌}
use Prim.Native.Nat.{ℕ}
use lib.ListN.{get_or}
use borrow.Author.Tests.{eqb-true, eq-eqb}
use Rattle.words.specs.Lists.{first_found}
use Rattle.words.proofs.Bools.{by, and_both}
use Rattle.words.proofs.Ext.{find-ext}
use Rattle.text.specs.Text.{same_bytes}
use Rattle.text.proofs.Laws.{same-is, same_refl}
use Rattle.linking.specs.Signature.{Same, Place, of_abi_slot, place_name, place_descriptor, by_bytes, place_number, by_numbers}
use Rattle.linking.specs.Abi.{abi_slots, vtable_index, fixed_index, fixer_distance}

pub record Compares (same : Same) : Type 0 where
  pub self : (p : Place) → same p p ≡ true
  pub sym : (p q : Place) → same p q ≡ true → same q p ≡ true
  pub trans : (p q r : Place) → same p q ≡ true → same q r ≡ true → same p r ≡ true

-- ---- by bytes, and by numbers

module _ (ws text abi labels : List ℕ) where
  -- the same bytes of both parts
  pub parts : (p q : Place) → by_bytes ws text abi labels p q ≡ true
      → (place_name ws text abi labels p ≡ place_name ws text abi labels q)
      × (place_descriptor ws text abi labels p ≡ place_descriptor ws text abi labels q)
  unfolding by_bytes
  parts p q t =
      let b =
      and_both (same_bytes (place_name ws text abi labels p) (place_name ws text abi labels q))
      (same_bytes (place_descriptor ws text abi labels p) (place_descriptor ws text abi labels q)) t in (
        same-is (place_name ws text abi labels p) (place_name ws text abi labels q) b.0,
        same-is (place_descriptor ws text abi labels p) (place_descriptor ws text abi labels q) b.1,
      )

  pub parts_same : (p q : Place) → place_name ws text abi labels p ≡ place_name ws text abi labels q
      → place_descriptor ws text abi labels p ≡ place_descriptor ws text abi labels q → by_bytes ws text abi labels p q ≡ true
  unfolding by_bytes
  parts_same p q n d = rw (n, d, same_refl (place_name ws text abi labels q)) (same_refl (place_descriptor ws text abi labels q))

  pub bytes_compare : Compares (by_bytes ws text abi labels)
  bytes_compare = record {
    self = λ p. parts_same p p refl refl;
    sym = λ p q t. let b = parts p q t in parts_same q p (sym b.0) (sym b.1);
    trans = λ p q r t u. let b = parts p q t in let d = parts q r u in parts_same p r (b.0 ∙ d.0) (b.1 ∙ d.1);
  }

module _ (ns : List ℕ) where
  number_of : (p q : Place) → by_numbers ns p q ≡ true → get_or ns (place_number p) 0 ≡ get_or ns (place_number q) 0
  unfolding by_numbers
  number_of p q t = eqb-true (get_or ns (place_number p) 0) (get_or ns (place_number q) 0) t

  of_number : (p q : Place) → get_or ns (place_number p) 0 ≡ get_or ns (place_number q) 0 → by_numbers ns p q ≡ true
  unfolding by_numbers
  of_number p q e = eq-eqb (get_or ns (place_number p) 0) (get_or ns (place_number q) 0) e

  pub numbers_compare : Compares (by_numbers ns)
  numbers_compare = record {
    self = λ p. of_number p p refl;
    sym = λ p q t. of_number q p (sym (number_of p q t));
    trans = λ p q r t u. of_number p r (number_of p q t ∙ number_of q r u);
  }

-- ---- two places of one signature

module _ (same : Same) (compares : Compares same) (p q : Place) (t : same p q ≡ true) where
  -- a third place has the signature of one just if it has that of the other
  pub compared-alike : (r : Place) → same r p ≡ same r q
  compared-alike r =
      by (same r p) (λ u. u ∙ sym (compares.trans r p q u t))
      (λ u. by (same r q) (λ v. absurd (true≢false (sym (compares.trans r q p v (compares.sym p q t)) ∙ u))) (λ v. u ∙ sym v))

  module _ (abi : List ℕ) where
    index_alike : (a : ℕ) → vtable_index same abi p a ≡ vtable_index same abi q a
    unfolding vtable_index
    index_alike a =
        rw (find-ext (λ s. same (of_abi_slot s) p) (λ s. same (of_abi_slot s) q) (abi_slots abi a) (λ s i. compared-alike (of_abi_slot s))) refl

    pub fixed-alike : (abis : List ℕ) → fixed_index same abi abis p ≡ fixed_index same abi abis q
    unfolding fixed_index first_found
    fixed-alike [] = refl
    fixed-alike (a ∷ abis) = rw (index_alike a, fixed-alike abis) refl

    pub distance-alike : (abis : List ℕ) → fixer_distance same abi abis p ≡ fixer_distance same abi abis q
    unfolding fixer_distance
    distance-alike [] = refl
    distance-alike (a ∷ abis) = rw (index_alike a, distance-alike abis) refl
