-- What a member and those after it come to, written: its record and its strings, and then theirs. Assumes nothing.
use mathlib.Core.Path.{◌≡◌, refl, sym, ap, ◌∙◌}
use mathlib.Core.List.{List, [], ◌∷◌, ◌++◌, append_assoc}
use Prim.Native.Nat.{ℕ, ◌+◌, ◌≤◌}
use native.Mathlib.Omega.{arith}
use lib.ListN.{length, length-append}
use Rattle.class_sheet.specs.ClassSheet.{member_width, member_words}
use Rattle.linking.specs.Compiler.{New}
use Rattle.linking.specs.Set.{write_at, new_record, new_records, new_text}
use Rattle.linking.proofs.Writes.{write-none, write-more}
use Rattle.class_file.proofs.Laws.{left_all, left_turn, left_end}

module _ (x : New) (xs : List New) where
  pub text_length : length (new_text (x ∷ xs)) ≡ length x.name + length x.descriptor + length (new_text xs)
  unfolding new_text
  text_length = simp length-append (omega arith)

  pub records_turn : (t : List ℕ) (k at : ℕ) → k ≤ length t → write_at t k (new_records at (x ∷ xs))
      ≡ write_at (write_at t k (member_words (new_record at x))) (k + member_width)
      (new_records (at + (length x.name + length x.descriptor)) xs)
  unfolding new_records
  records_turn t k at h =
      let e : at + length x.name + length x.descriptor ≡ at + (length x.name + length x.descriptor) = omega arith in
      rw e
      (sym
      (write-more t k (member_words (new_record at x))
      (new_records (at + (length x.name + length x.descriptor)) xs) (k + member_width) h (omega arith)))

  pub text_turn : (t : List ℕ) (at : ℕ) → at ≤ length t → write_at t at (new_text (x ∷ xs))
      ≡ write_at (write_at t at (x.name ++ x.descriptor)) (at + (length x.name + length x.descriptor)) (new_text xs)
  unfolding new_text
  text_turn t at h =
      ap (write_at t at) (sym (append_assoc x.name x.descriptor (new_text xs)))
      ∙ sym (write-more t at (x.name ++ x.descriptor) (new_text xs) (at + (length x.name + length x.descriptor)) h (rw length-append))

pub records_end : (t : List ℕ) (k at : ℕ) → write_at t k (new_records at []) ≡ t
unfolding new_records
records_end t k at = write-none t k

pub text_end : (t : List ℕ) (at : ℕ) → write_at t at (new_text []) ≡ t
unfolding new_text
text_end t at = write-none t at

pub no_text : length (new_text []) ≡ 0
unfolding new_text
no_text = refl

pub ruleset write_steps = (left_all, left_turn, left_end, records_turn, text_turn, text_length, records_end, text_end, no_text)
