-- The definitions are the Specification's: the proof of `Meaning`. Assumes nothing.
use mathlib.Core.Path.{◌≡◌, refl, ap}
use mathlib.Core.List.{List}
use Prim.Native.Nat.{ℕ, ◌≤◌}
use native.Mathlib.Omega.{arith}
use Rattle.words.proofs.Bools.{by}
use Rattle.descriptor.specs.Grammar.{MethodDescriptor, method_spelling}
use Rattle.descriptor.specs.Meaning.{Meaning}
use Rattle.descriptor.specs.Words.{argument_words, argument_limit, ValidDescriptor, is_method, counted, answer, argument_answer, Answer}
use Rattle.refusal.specs.declared.Refusal.{Refusal}
use Rattle.refusal.proofs.Rows.{row_unique, row_above}
use Rattle.std.specs.Prelude.{Result, Ok, Err}
use Rattle.descriptor.proofs.Counts.{width_is, method-begins}
use Rattle.descriptor.proofs.Limit.{valid_sound, valid_complete, static_more, short_within}
use Rattle.descriptor.proofs.Machines.{field_sound, field_complete, method_sound, method_complete}
use Rattle.descriptor.proofs.Unique.{field_unique, method_unique}

method-counts : (t : MethodDescriptor) (flags : ℕ) → argument_words t flags ≤ argument_limit
    → argument_answer (method_spelling t) flags ≡ counted (argument_words t flags)
unfolding argument_answer argument_words
method-counts t flags l = rw (valid_complete (method_spelling t) flags (t, refl, l), method-begins t)

no_method : (s : List ℕ) (flags : ℕ) → (ValidDescriptor flags s → ⊥) → (argument_answer s flags).refusal ≡ 5
unfolding argument_answer
no_method s flags n = by (is_method flags s) (λ y. absurd (n (valid_sound s flags y))) (λ y. rw y)

-- an answer that counts is no refusal
not-refused : (a : Answer) (n : ℕ) → a ≡ counted n → a.refusal ≡ 5 → ⊥
not-refused a n e h = let z : a.refusal ≡ 0 = ap (λ (x : Answer). x.refusal) e in omega arith

answers-unique : (a b : Result ℕ Refusal) → answer a ≡ answer b → a ≡ b
answers-unique (Ok m) (Ok n) e = ap Ok (ap (λ (x : Answer). x.words) e)
answers-unique (Ok m) (Err r) e = absurd (omega (arith, row_above r, ap (λ (x : Answer). x.refusal) e))
answers-unique (Err r) (Ok n) e = absurd (omega (arith, row_above r, ap (λ (x : Answer). x.refusal) e))
answers-unique (Err r) (Err s) e = ap Err (row_unique r s (ap (λ (x : Answer). x.refusal) e))

pub meaning : Meaning
meaning =
    record {
      field_sound = field_sound;
      field_complete = λ s d. rw (← d.1) (field_complete d.0);
      method_sound = method_sound;
      method_complete = λ s d. rw (← d.1) (method_complete d.0);
      field_unique = field_unique;
      method_unique = method_unique;
      width_is = width_is;
      valid_sound = valid_sound;
      valid_complete = valid_complete;
      static_more = static_more;
      short_within = short_within;
      argument_words_exact = method-counts;
      argument_words_refused =
          λ s flags. (
            λ h d. not-refused (argument_answer s flags) (argument_words d.0 flags) (rw (← d.1) (method-counts d.0 flags d.2)) h,
            no_method s flags,
          );
      answer_unique = answers-unique;
    }
