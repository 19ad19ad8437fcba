-- "Take members straight from class files": the call, the set that its three lists make, and the JVM Specification's class file, in one statement.
-- `supplied` of proofs/Supplied.antt proves it. Assumes nothing.
use Rattle.std.specs.Prelude.{ℕ, ◌<◌, ◌≡◌, ◌≢◌, ◌↔◌, List, get_or}
use Rattle.words.specs.Lists.{list_from}
use Rattle.words.specs.Words.{AreBytes}
use Rattle.text.specs.Text.{name_at}
use Rattle.class_sheet.specs.ClassSheet.{method_count, field_count, text_of, class_flags, class_name, method_name, method_descriptor, method_flags, method_target, field_name, field_descriptor, field_flags, field_index}
use Rattle.class_sheet.specs.Sections.{laid_out}
use Rattle.set_rules.specs.SetRules.{set_refusal}
use Rattle.linking.specs.Compiler.{New}
use Rattle.class_members.specs.Members.{FileOutcome, read_class_file}
use Rattle.class_members.specs.SheetForm.{one_class, no_abi}
use Rattle.file_form.specs.Grammar.{ClassFile, file_spelling, IsClassInfo, Derivation}
use Rattle.file_members.specs.Own.{AreMembers}

-- a method and a field of words, and all that they hold, in their order
abbrev pub method_at : List ℕ → ℕ → New
method_at ws m =
    record {
      name = method_name ws (text_of ws) m;
      descriptor = method_descriptor ws (text_of ws) m;
      flags = method_flags ws m;
      last = method_target ws m;
    }

abbrev pub field_at : List ℕ → ℕ → New
field_at ws f =
    record {
      name = field_name ws (text_of ws) f;
      descriptor = field_descriptor ws (text_of ws) f;
      flags = field_flags ws f;
      last = field_index ws f;
    }

abbrev pub methods_of : List ℕ → List New
methods_of ws = list_from (method_at ws) 0 (method_count ws)

abbrev pub fields_of : List ℕ → List New
fields_of ws = list_from (field_at ws) 0 (field_count ws)

-- a reading's answer o and the words of the set are what class file f says, with the lent targets
pub record Says (targets : List ℕ) (o : FileOutcome) (ws : List ℕ) (f : ClassFile) : Type 0 where
  -- rows 3 to 5 accept the set
  pub accepted : set_refusal ws no_abi ≡ 0
  pub name : IsClassInfo f.pool f.this (class_name ws (text_of ws) 1)
  -- the parent's name stands after the class's: "none if its reference is 0", and then only
  pub parent : f.super ≢ 0 → IsClassInfo f.pool f.super (name_at (text_of ws) o.name o.parent)
  pub no_parent : (o.parent ≡ 0) ↔ (f.super ≡ 0)
  pub flags : class_flags ws 1 ≡ f.flags
  -- "in file order"
  pub fields : AreMembers f.pool f.fields (fields_of ws)
  pub methods : AreMembers f.pool f.methods (methods_of ws)
  -- "word indices 0"; "Targets come from a lent list, one for each method."
  pub indices : (i : ℕ) → i < field_count ws → field_index ws i ≡ 0
  pub targets_are : (m : ℕ) → m < method_count ws → method_target ws m ≡ get_or targets m 0

-- one class file spells the bytes, and it is what the reading says
pub record Read (bs targets : List ℕ) (o : FileOutcome) (ws : List ℕ) : Type 0 where
  pub derivation : Derivation bs
  pub only : (g : ClassFile) → file_spelling g ≡ bs → g ≡ derivation.file
  pub says : Says targets o ws derivation.file

-- of every reading that is accepted, whatever follows the set
abbrev pub Supplied : Type 0
Supplied =
    (bs targets fields methods text rest : List ℕ) → AreBytes bs → (read_class_file bs targets fields methods text).refusal ≡ 0
    → Read bs targets (read_class_file bs targets fields methods text) (laid_out (one_class (read_class_file bs targets fields methods text) rest))
