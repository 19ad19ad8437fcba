-- What row 5 remembers of a text, so that it reads a descriptor that many records share but once: at a start one more than the
-- length of a part that is a descriptor for every record of the kind, 0 where none is known. Assumes nothing.
use Rattle.std.specs.Prelude.{◌≡◌, Bool, true, List, ℕ, ◌+◌, ◌*◌, get_or, eqb}
use Rattle.text.specs.Text.{descriptor_start_word, descriptor_length_word, number_word, name_at}
use Rattle.descriptor.specs.Machine.{is_field_descriptor}
use Rattle.descriptor.specs.Words.{is_method}
use Rattle.set_rules.specs.declared.Members.{Members}
use Rattle.set_rules.specs.declared.Members.TheVariants.{Methods, Slots, Fields}

-- the bytes are a descriptor for a record of the kind whose number, its fifth word, is n: a method's by its flags, an ABI slot's as that
-- of an instance method, whatever its index, and a field's
unfoldable pub is_descriptor : Members → ℕ → List ℕ → Bool
is_descriptor Methods n s = is_method n s
is_descriptor Slots n s = is_method 0 s
is_descriptor Fields n s = is_field_descriptor s

-- the part is known: one more than its length stands at its start
unfoldable pub is_known : List ℕ → ℕ → ℕ → Bool
is_known known start len = eqb (get_or known start 0) (len + 1)

-- what is known is a descriptor of an instance method, which is good for a static one as well, or of a field
pub record Known (kind : Members) (text known : List ℕ) : Type 0 where
  pub good : (start len : ℕ) → get_or known start 0 ≡ len + 1 → is_descriptor kind 0 (name_at text start len) ≡ true

-- record i of those from word `first` on has a descriptor
unfoldable pub record_typed : Members → List ℕ → ℕ → ℕ → List ℕ → ℕ → Bool
record_typed kind ws first width text i =
    is_descriptor kind (get_or ws (first + width * i + number_word) 0)
    (name_at text (get_or ws (first + width * i + descriptor_start_word) 0) (get_or ws (first + width * i + descriptor_length_word) 0))
