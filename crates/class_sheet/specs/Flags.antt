-- The bits of the access flags of classes, methods and fields (JVMS 4.1, 4.5, 4.6) that linking asks for. Assumes nothing.
use Rattle.std.specs.Prelude.{ℕ, ◌/◌, ◌%◌, Bool, eqb}

abbrev pub is_public : ℕ → Bool
is_public flags = eqb (flags % 2) 1

abbrev pub is_private : ℕ → Bool
is_private flags = eqb (flags / 2 % 2) 1

abbrev pub is_protected : ℕ → Bool
is_protected flags = eqb (flags / 4 % 2) 1

abbrev pub is_static : ℕ → Bool
is_static flags = eqb (flags / 8 % 2) 1

abbrev pub is_interface : ℕ → Bool
is_interface flags = eqb (flags / 512 % 2) 1

abbrev pub is_abstract : ℕ → Bool
is_abstract flags = eqb (flags / 1024 % 2) 1
