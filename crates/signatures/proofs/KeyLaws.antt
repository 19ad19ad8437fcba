-- Keys and buckets: twins share a key, and what is stored of keys, place by place. Assumes nothing.
use mathlib.Core.Path.{◌≡◌, sym, ◌∙◌}
use mathlib.Core.Logic.{◌≢◌}
use mathlib.Core.Bool.{Bool, true, false, ◌&&◌}
use mathlib.Core.List.{List}
use Prim.Native.Nat.{ℕ, ◌≤◌, ◌<◌}
use native.Mathlib.Omega.{arith}
use lib.ListN.{length, get_or}
use Rattle.words.specs.Folds.{stores}
use Rattle.words.proofs.Bools.{by, and_both}
use Rattle.words.proofs.FoldLaws.{stores_at}
use Rattle.text.specs.Text.{same_bytes}
use Rattle.text.proofs.Laws.{same-is}
use Rattle.linking.specs.Signature.{place_at, place_name, place_descriptor, by_bytes}
use Rattle.linking.specs.Numbers.{number_limit, is_twin}
use Rattle.linking.specs.Sheets.{of_sheets}
use Rattle.linking.specs.declared.Sheets.{Sheets}
use Rattle.signatures.specs.Keys.{used_in, key_at, bucket_of, Keyed}

-- ---- the keys of all places

pub keys-stored : (s : Sheets) (old : List ℕ) {n : ℕ} {keys : List ℕ} → keys ≡ stores n (of_sheets key_at s) old → number_limit ≤ n → n ≤ number_limit
    → length old ≡ number_limit → Keyed s keys
keys-stored s old {n} {keys} e h g l = record { each = λ p b. rw e (stores_at n (of_sheets key_at s) old p (omega arith) (omega arith)) }

-- ---- what is kept for each bucket, when the places from place i on were stored

pub record LeastFrom (keys firsts : List ℕ) (i : ℕ) : Type 0 where
  pub each : (p : ℕ) → i ≤ p → p < number_limit → get_or firsts (bucket_of (get_or keys p 0)) 0 ≤ p

-- ---- twins

module _ (s : Sheets) where
  pub key_same : (p q : ℕ) → used_in s p ≡ true → of_sheets is_twin s p q ≡ true → of_sheets key_at s q ≡ of_sheets key_at s p
  unfolding is_twin by_bytes key_at
  key_same p q u t =
      let a =
      and_both (used_in s q)
      (same_bytes (of_sheets place_name s (place_at q)) (of_sheets place_name s (place_at p))
      && same_bytes (of_sheets place_descriptor s (place_at q)) (of_sheets place_descriptor s (place_at p)))
      t in
      let b =
      and_both (same_bytes (of_sheets place_name s (place_at q)) (of_sheets place_name s (place_at p)))
      (same_bytes (of_sheets place_descriptor s (place_at q)) (of_sheets place_descriptor s (place_at p)))
      a.1 in
      rw (u, a.0, same-is _ _ b.0, same-is _ _ b.1)

  module _ (keys : List ℕ) (keyed : Keyed s keys) (p : ℕ) (used : used_in s p ≡ true) (inside : p < number_limit) where
    pub keys_same : (q : ℕ) → q < number_limit → of_sheets is_twin s p q ≡ true → get_or keys q 0 ≡ get_or keys p 0
    keys_same q l t = keyed.each q l ∙ key_same p q used t ∙ sym (keyed.each p inside)

    -- what the test of the search says: a place of another key is no twin, and one of this key is by its parts
    pub other_key : (q : ℕ) {k : ℕ} {r : Bool} → q < p → k ≡ get_or keys p 0 → get_or keys q 0 ≢ k → r ≡ false → r ≡ of_sheets is_twin s p q
    other_key q l e n f = by (of_sheets is_twin s p q) (λ t. absurd (n (keys_same q (omega arith) t ∙ sym e))) (λ t. f ∙ sym t)

  pub by_parts : (p q : ℕ) {name descriptor : List ℕ} {r : Bool} → name ≡ of_sheets place_name s (place_at p)
      → descriptor ≡ of_sheets place_descriptor s (place_at p)
      → r
      ≡ (used_in s q
      && (same_bytes (of_sheets place_name s (place_at q)) name && same_bytes (of_sheets place_descriptor s (place_at q)) descriptor))
      → r ≡ of_sheets is_twin s p q
  unfolding is_twin by_bytes
  by_parts p q e f h = rw (e, f) at h
