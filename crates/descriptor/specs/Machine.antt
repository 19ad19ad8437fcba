-- Descriptors as machines that read a byte at a time; proofs/Meaning.antt shows that they accept what the grammar derives, and nothing
-- else. Assumes nothing.
use Rattle.std.specs.Prelude.{ℕ, Bool, true, false, cond, List, eqb}
use Rattle.words.specs.Lists.{fold}
use Rattle.descriptor.specs.Bytes.{byte, is_base_byte, is_name_byte}
use Rattle.descriptor.specs.declared.FieldState.{FieldState}
use Rattle.descriptor.specs.declared.FieldState.TheVariants.{Open, Start, Inside, Done, Bad}
use Rattle.descriptor.specs.declared.MethodState.{MethodState}
use Rattle.descriptor.specs.declared.MethodState.TheVariants.{Begin, Parameters, Return, Returned}

-- ---- field descriptors: the state after a byte, whether a descriptor may end in a state, and both along all the bytes

unfoldable pub field_next : FieldState → ℕ → FieldState
field_next Open b = cond (eqb b (byte "[")) Open (cond (eqb b (byte "L")) Start (cond (is_base_byte b) Done Bad))
field_next Start b = cond (is_name_byte b) Inside Bad
field_next Inside b = cond (eqb b (byte ";")) Done (cond (eqb b (byte "/")) Start (cond (is_name_byte b) Inside Bad))
field_next Done b = Bad
field_next Bad b = Bad

abbrev pub field_done : FieldState → Bool
field_done Open = false
field_done Start = false
field_done Inside = false
field_done Done = true
field_done Bad = false

unfoldable pub is_field_descriptor : List ℕ → Bool
is_field_descriptor s = field_done (fold field_next Open s)

-- ---- method descriptors

unfoldable pub method_next : MethodState → ℕ → MethodState
method_next Begin b = cond (eqb b (byte "(")) (Parameters Done) (Parameters Bad)
method_next (Parameters Open) b = Parameters (field_next Open b)
method_next (Parameters Start) b = Parameters (field_next Start b)
method_next (Parameters Inside) b = Parameters (field_next Inside b)
method_next (Parameters Done) b = cond (eqb b (byte ")")) Return (Parameters (field_next Open b))
method_next (Parameters Bad) b = Parameters Bad
method_next Return b = cond (eqb b (byte "V")) (Returned Done) (Returned (field_next Open b))
method_next (Returned q) b = Returned (field_next q b)

abbrev pub method_done : MethodState → Bool
method_done Begin = false
method_done (Parameters q) = false
method_done Return = false
method_done (Returned q) = field_done q

unfoldable pub is_method_descriptor : List ℕ → Bool
is_method_descriptor s = method_done (fold method_next Begin s)
