-- Runs of the bytes that an identifier has: a machine that stands in an identifier reads them and stays where it is, so they may be
-- passed over. Assumes nothing.
use Rattle.std.specs.Prelude.{ℕ, ◌+◌, Bool, true, false, cond, List, [], ◌∷◌}
use Rattle.descriptor.specs.Bytes.{is_name_byte}
use Rattle.descriptor.specs.declared.FieldState.{FieldState}
use Rattle.descriptor.specs.declared.FieldState.TheVariants.{Open, Start, Inside, Done, Bad}
use Rattle.descriptor.specs.declared.MethodState.{MethodState}
use Rattle.descriptor.specs.declared.MethodState.TheVariants.{Begin, Parameters, Return, Returned}

-- how many bytes that a name may have are in front
unfoldable pub name_run : List ℕ → ℕ
name_run [] = 0
name_run (b ∷ s) = cond (is_name_byte b) (name_run s + 1) 0

-- a machine stands after a byte of an identifier
abbrev pub field_inside : FieldState → Bool
field_inside Open = false
field_inside Start = false
field_inside Inside = true
field_inside Done = false
field_inside Bad = false

abbrev pub method_inside : MethodState → Bool
method_inside Begin = false
method_inside (Parameters q) = field_inside q
method_inside Return = false
method_inside (Returned q) = field_inside q
