-- The words of fields and arguments: of a derivation, as the Specification counts them, and as the functions compute them from the
-- bytes. Assumes nothing.
use Rattle.std.specs.Prelude.{ℕ, ◌+◌, ◌-◌, ◌/◌, ◌%◌, ◌≤◌, ◌≡◌, Bool, false, not, ◌&&◌, ◌||◌, cond, List, [], ◌∷◌, eqb, leb, ltb, get_or, Result, Ok, Err}
use Rattle.descriptor.specs.Bytes.{byte}
use Rattle.descriptor.specs.Grammar.{BaseType, B, C, D, F, I, J, S, Z, FieldType, base, object, array, FieldDescriptor, field, ParameterDescriptor, parameter, MethodDescriptor, method_spelling}
use Rattle.descriptor.specs.Machine.{field_done, method_next, is_method_descriptor}
use Rattle.descriptor.specs.declared.MethodState.{MethodState}
use Rattle.descriptor.specs.declared.MethodState.TheVariants.{Begin, Parameters, Return, Returned}
use Rattle.refusal.specs.declared.Refusal.{Refusal}
use Rattle.refusal.specs.Rows.{row}

-- ---- the words of a derivation: "a parameter of type long or double contributes two units to the length and a parameter of any other type
-- contributes one unit", and one is for this, the receiver, of an instance method (JVMS 4.3.3)

abbrev pub base_words : BaseType → ℕ
base_words B = 1
base_words C = 1
base_words D = 2
base_words F = 1
base_words I = 1
base_words J = 2
base_words S = 1
base_words Z = 1

unfoldable pub type_words : FieldType → ℕ
type_words (base b) = base_words b
type_words (object o) = 1
type_words (array a) = 1

unfoldable pub field_words : FieldDescriptor → ℕ
field_words (field t) = type_words t

unfoldable pub parameter_words : ParameterDescriptor → ℕ
parameter_words (parameter t) = type_words t

unfoldable pub parameters_words : List ParameterDescriptor → ℕ
parameters_words [] = 0
parameters_words (p ∷ ps) = parameter_words p + parameters_words ps

-- the receiver takes a word, unless the flags have 0x0008, static
abbrev pub receiver_words : ℕ → ℕ
receiver_words flags = 1 - flags / 8 % 2

unfoldable pub argument_words : MethodDescriptor → ℕ → ℕ
argument_words d flags = receiver_words flags + parameters_words d.parameters

abbrev pub argument_limit : ℕ
argument_limit = 255

-- "A method descriptor is valid only if it represents method parameters with a total length of 255 or less, where that length includes the
-- contribution for this in the case of instance or interface method invocations" (JVMS 4.3.3)
abbrev pub ValidDescriptor : ℕ → List ℕ → Type 0
ValidDescriptor flags s = (d : MethodDescriptor) × (method_spelling d ≡ s) × (argument_words d flags ≤ argument_limit)

-- ---- the words of bytes

-- the words of a value whose descriptor begins with b
unfoldable pub byte_width : ℕ → ℕ
byte_width b = cond (eqb b (byte "J") || eqb b (byte "D")) 2 1

-- the words of a value of the descriptor; bytes that are no descriptor have a width too, by their first byte, and without one it is 1
unfoldable pub width : List ℕ → ℕ
width s = byte_width (get_or s 0 0)

-- whether a parameter or the closing parenthesis is next
abbrev pub between_parameters : MethodState → Bool
between_parameters Begin = false
between_parameters (Parameters q) = field_done q
between_parameters Return = false
between_parameters (Returned q) = false

-- the words of the parameter that b begins, and 0 where b begins none
unfoldable pub begun_words : MethodState → ℕ → ℕ
begun_words q b = cond (between_parameters q && not (eqb b (byte ")"))) (byte_width b) 0

-- the words of all parameters that begin in the bytes
unfoldable pub begun_from : MethodState → List ℕ → ℕ
begun_from q [] = 0
begun_from q (b ∷ s) = begun_words q b + begun_from (method_next q b) s

-- the bytes are a method descriptor by 4.3.3, limit and all, of a method with these flags
unfoldable pub is_method : ℕ → List ℕ → Bool
is_method flags s = is_method_descriptor s && leb (receiver_words flags + begun_from Begin s) argument_limit

-- the same words counted on from n, in numbers that stay small on any bytes: above the limit nothing more is counted
unfoldable pub capped : ℕ → ℕ → ℕ
capped n w = cond (ltb argument_limit n) n (n + w)

unfoldable pub capped_from : ℕ → MethodState → List ℕ → ℕ
capped_from n q [] = n
capped_from n q (b ∷ s) = capped_from (capped n (begun_words q b)) (method_next q b) s

-- ---- what the functions answer: a refusal, 0 for none and 5 where the bytes are no method descriptor by 4.3.3, and words, 0 where refused

pub record Answer : Type 0 where
  pub refusal : ℕ
  pub words : ℕ

abbrev pub counted : ℕ → Answer
counted n = record { refusal = 0; words = n }

abbrev pub refused : Answer
refused = record { refusal = 5; words = 0 }

abbrev pub answer : Result ℕ Refusal → Answer
answer (Ok n) = counted n
answer (Err r) = record { refusal = row r; words = 0 }

unfoldable pub argument_answer : List ℕ → ℕ → Answer
argument_answer s flags = cond (is_method flags s) (counted (receiver_words flags + begun_from Begin s)) refused
