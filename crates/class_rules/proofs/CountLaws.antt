-- Two lists of class words with the same six counts: the counts' limits, the places that they give, and the ends are the same. Assumes nothing.
use mathlib.Core.Path.{◌≡◌}
use mathlib.Core.List.{List}
use Prim.Native.Nat.{ℕ, ◌<◌}
use native.Mathlib.Omega.{arith}
use Rattle.class_sheet.specs.ClassSheet.{class_count_number, method_count_number, field_count_number, interface_count_number, compiler_count_number, text_length_number, counts_width, count_at, methods_at, fields_at, interfaces_at, compilers_at, text_at, content_end}
use Rattle.class_sheet.specs.Sections.{end_by}
use Rattle.class_rules.specs.ClassRules.{class_limits}

module _ (a b : List ℕ) (same : (k : ℕ) → k < counts_width → count_at a k ≡ count_at b k) where
  pub limits_same : class_limits a ≡ class_limits b
  unfolding class_limits
  limits_same =
      rw (
        same class_count_number (omega arith),
        same method_count_number (omega arith),
        same field_count_number (omega arith),
        same interface_count_number (omega arith),
        same compiler_count_number (omega arith),
        same text_length_number (omega arith),
      )

  pub text_at_same : text_at a ≡ text_at b
  unfolding text_at compilers_at interfaces_at fields_at methods_at
  text_at_same =
      rw (
        same class_count_number (omega arith),
        same method_count_number (omega arith),
        same field_count_number (omega arith),
        same interface_count_number (omega arith),
        same compiler_count_number (omega arith),
      )

  pub content_same : content_end a ≡ content_end b
  unfolding content_end
  content_same = rw (text_at_same, same text_length_number (omega arith))

  -- of records of w words
  pub end_same : (w : ℕ) → end_by w a ≡ end_by w b
  unfolding end_by
  end_same w =
      rw (
        same class_count_number (omega arith),
        same method_count_number (omega arith),
        same field_count_number (omega arith),
        same interface_count_number (omega arith),
        same compiler_count_number (omega arith),
        same text_length_number (omega arith),
      )
