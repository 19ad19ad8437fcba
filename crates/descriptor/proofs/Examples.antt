-- Two descriptors with their derivations: what the grammar spells; the width of bytes that are no descriptor, which no call shows; and the
-- request's descriptors at the limit of argument words. `judge`'s vectors count and refuse more. Assumes nothing.
use mathlib.Core.Path.{◌≡◌, refl}
use mathlib.Core.Bool.{So}
use mathlib.Core.List.{List, [], ◌∷◌, ◌++◌}
use Prim.Native.Nat.{ℕ, zero, suc}
use Prim.Native.String.{String}
use Rattle.words.specs.Lists.{fold, some}
use Rattle.descriptor.specs.Bytes.{byte, text, is_base_byte, is_name_byte}
use Rattle.descriptor.specs.Grammar.{UnqualifiedName, I, J, L, base, object, array, of, component, FieldDescriptor, field, parameter, «V», void, MethodDescriptor, name_bytes, name_spelling, rest_spelling, class_spelling, base_byte, object_spelling, type_spelling, field_spelling, parameter_spelling, parameters_spelling, void_spelling, result_spelling, method_spelling}
use Rattle.descriptor.specs.Machine.{field_next, method_next, is_method_descriptor}
use Rattle.descriptor.specs.Words.{byte_width, width, begun_words, begun_from, is_method, counted, refused, argument_answer}

-- ( I J ) V, and [ L a / b ;
abbrev pub int_long_void : MethodDescriptor
int_long_void = record { parameters = parameter (base I) ∷ parameter (base J) ∷ []; result = void «V» }

pub letter : (b : ℕ) → So (is_name_byte b) → UnqualifiedName
letter b h = record { first = record { code = b; allowed = h }; rest = [] }

pub array-of_a_b : FieldDescriptor
unfolding is_name_byte some
array-of_a_b = field (array (of (component (object (L (record { first = letter (byte "a") refl; rest = letter (byte "b") refl ∷ [] }))))))

pub record Rows : Type 0 where
  pub method : method_spelling int_long_void ≡ text "(IJ)V"
  pub class : field_spelling array-of_a_b ≡ text "[La/b;"
  -- of bytes that are no descriptor the first counts
  pub any_width : width (text "D;") ≡ 2
  pub no_width : width (text "") ≡ 1

pub rows : Rows
unfolding is_base_byte is_name_byte some width byte_width method_spelling parameters_spelling
    parameter_spelling result_spelling void_spelling field_spelling type_spelling
    base_byte object_spelling class_spelling rest_spelling name_spelling name_bytes array-of_a_b letter
rows = record { method = refl; class = refl; any_width = refl; no_width = refl }

-- ---- at the limit

abbrev times : ℕ → List ℕ → List ℕ
times zero p = []
times (suc n) p = p ++ times n p

-- ( p n times, then q ) V
abbrev pub parameters : ℕ → String → String → List ℕ
parameters n p q = byte "(" ∷ (times n (text p) ++ (text q ++ text ")V"))

-- 255 words, and 256 with the receiver's
abbrev pub longs_int : List ℕ
longs_int = parameters 127 "J" "I"

pub record Limits : Type 0 where
  -- "a static method of 128 long arguments"
  pub longs_128_static : argument_answer (parameters 128 "J" "") 8 ≡ refused
  -- "A static method with 127 J and one I is at 255 and accepted; the same instance method has 256."
  pub longs_int_static : argument_answer longs_int 8 ≡ counted 255
  pub longs_int_instance : argument_answer longs_int 0 ≡ refused

pub limits : Limits
unfolding argument_answer is_method is_method_descriptor method_next field_next is_base_byte is_name_byte some fold begun_from begun_words byte_width
limits = record { longs_128_static = refl; longs_int_static = refl; longs_int_instance = refl }
