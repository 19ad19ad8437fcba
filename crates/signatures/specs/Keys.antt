-- By what the code finds equal signatures soon: a key that they share, and for each bucket of keys a place before which no key falls into it. Assumes nothing.
use Rattle.std.specs.Prelude.{ℕ, ◌+◌, ◌*◌, ◌-◌, ◌/◌, ◌%◌, ◌^◌, ◌≤◌, ◌<◌, ◌≡◌, Bool, cond, List, length, get_or, Result}
use Rattle.refusal.specs.declared.Refusal.{Refusal}
use Rattle.refusal.specs.Rows.{row_of}
use Rattle.words.specs.Words.{le_word}
use Rattle.linking.specs.Signature.{place_name, place_descriptor, place_at}
use Rattle.linking.specs.Numbers.{number_limit, is_used, FillOutcome}
use Rattle.linking.specs.Sheets.{of_sheets}
use Rattle.linking.specs.declared.Sheets.{Sheets}

-- place p of the sheets has a record
abbrev pub used_in : Sheets → ℕ → Bool
used_in s p = is_used s.set.now s.abi.now (place_at p)

-- ---- keys

abbrev pub factor : ℕ
factor = 2654435761

unfoldable pub mix : ℕ → ℕ → ℕ
mix key w = (key * factor % 2 ^ 32 + w) % 2 ^ 32

-- with a part's length, and its bytes in front, in the middle and at the end
unfoldable pub mix_part : ℕ → List ℕ → ℕ
mix_part key s = mix (mix (mix (mix key (length s % 256)) (le_word s 0)) (le_word s (length s / 2 - 2))) (le_word s (length s - 4))

unfoldable pub key_of : List ℕ → List ℕ → ℕ
key_of name descriptor = mix_part (mix_part 0 name) descriptor

unfoldable pub bucket_of : ℕ → ℕ
bucket_of key = key * factor % 2 ^ 32 / 2 ^ 20

-- the key of the signature at place p; of a place without a record, 0
unfoldable pub key_at : List ℕ → List ℕ → List ℕ → List ℕ → ℕ → ℕ
key_at ws text abi labels p =
    cond (is_used ws abi (place_at p))
    (key_of (place_name ws text abi labels (place_at p)) (place_descriptor ws text abi labels (place_at p)))
    0

-- ---- what the search goes by

-- the keys of all places
pub record Keyed (s : Sheets) (keys : List ℕ) : Type 0 where
  pub each : (p : ℕ) → p < number_limit → get_or keys p 0 ≡ of_sheets key_at s p

-- no key that falls into a bucket has a place before that which is kept for it
pub record Least (keys firsts : List ℕ) : Type 0 where
  pub each : (p : ℕ) → p < number_limit → get_or firsts (bucket_of (get_or keys p 0)) 0 ≤ p

-- ---- what a filling answers

abbrev pub outcome : Result Unit Refusal → List ℕ → FillOutcome
outcome answer ns = record { refusal = row_of answer; numbers = ns }
