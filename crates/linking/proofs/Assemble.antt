-- An assembler of small class sets and ABI sheets, for examples: classes and members by name, laid out in order, the texts one after the
-- other. Assumes nothing.
use Prim.Native.Nat.{ℕ, suc, ◌+◌, ◌*◌}
use Prim.Native.String.{String}
use mathlib.Core.List.{List, [], ◌∷◌, ◌++◌}
use lib.ListN.{length, take, drop, replicate}
use Rattle.words.specs.Lists.{list_from}
use Rattle.descriptor.specs.Bytes.{text}
use Rattle.class_sheet.specs.ClassSheet.{class_instance_words, class_table_place, class_slot_count, class_static_words, text_of, method_name, method_flags, method_target, field_index}
use Rattle.abi_sheet.specs.AbiSheet.{abi_text_of}
use Rattle.linking.specs.Signature.{by_sheets}
use Rattle.linking.specs.Chain.{own_methods, own_fields}
use Rattle.linking.specs.Set.{packed}
use Rattle.linking.specs.Link.{Outcome, LinkOutcome, link_def}
use Rattle.linking.specs.Ask.{ask_def}
use Rattle.linking.specs.Whose.{slot_class}

-- ---- members

-- a method with its target, or a field with its index
pub record Member : Type 0 where
  pub name : String
  pub descriptor : String
  pub flags : ℕ
  pub last : ℕ

-- a method `()V` of these flags; a public one
abbrev pub flagged : ℕ → String → ℕ → Member
flagged flags name target = record { name = name; descriptor = "()V"; flags = flags; last = target }

abbrev pub method : String → ℕ → Member
method name target = flagged 1 name target

abbrev pub field : String → String → ℕ → Member
field name descriptor index = record { name = name; descriptor = descriptor; flags = 0; last = index }

abbrev pub static : String → String → ℕ → Member
static name descriptor index = record { name = name; descriptor = descriptor; flags = 8; last = index }

-- ---- classes

-- a class's compiler table
pub data Compiled : Type 0 where
  without : Compiled
  holding : List ℕ → Compiled

-- the numbers of a class record that are not places of lists
pub record Numbers : Type 0 where
  pub parent : ℕ
  pub flags : ℕ
  pub kind : ℕ
  pub state : ℕ
  pub words : ℕ
  pub place : ℕ
  pub slots : ℕ
  pub statics : ℕ

pub record Class : Type 0 where
  pub name : String
  pub numbers : Numbers
  pub methods : List Member
  pub fields : List Member
  pub interfaces : List ℕ
  pub compiled : Compiled

abbrev pub unlinked : ℕ → ℕ → ℕ → ℕ → ℕ → Numbers
unlinked parent flags kind state words =
    record { parent = parent; flags = flags; kind = kind; state = state; words = words; place = 0; slots = 0; statics = 0 }

-- a built class: name, parent, methods, fields
abbrev pub built : String → ℕ → List Member → List Member → Class
built name parent methods fields =
    record { name = name; numbers = unlinked parent 1 0 0 0; methods = methods; fields = fields; interfaces = []; compiled = without }

-- a built interface
abbrev pub interface : String → List Member → Class
interface name methods =
    record { name = name; numbers = unlinked 0 513 0 0 0; methods = methods; fields = []; interfaces = []; compiled = without }

-- a generated class, of link state 3, with its instance words
abbrev pub generated : String → ℕ → List Member → List Member → ℕ → Class
generated name parent methods fields words =
    record { name = name; numbers = unlinked parent 1 1 3 words; methods = methods; fields = fields; interfaces = []; compiled = without }

-- a generated class with a compiler table
abbrev pub compiled : String → ℕ → List Member → List ℕ → Class
compiled name parent methods table =
    record { name = name; numbers = unlinked parent 1 1 3 0; methods = methods; fields = []; interfaces = []; compiled = holding table }

abbrev pub array : String → ℕ → Class
array name parent =
    record { name = name; numbers = unlinked parent 1 2 0 0; methods = []; fields = []; interfaces = []; compiled = without }

-- the class with other numbers, and with interfaces
abbrev pub renumbered : (Numbers → Numbers) → Class → Class
renumbered f c =
    record {
      name = c.name;
      numbers = f c.numbers;
      methods = c.methods;
      fields = c.fields;
      interfaces = c.interfaces;
      compiled = c.compiled;
    }

-- of this kind
abbrev pub of_kind : ℕ → Class → Class
of_kind kind c =
    renumbered
    (λ n. record {
      parent = n.parent;
      flags = n.flags;
      kind = kind;
      state = n.state;
      words = n.words;
      place = n.place;
      slots = n.slots;
      statics = n.statics;
    })
    c

-- linked at the place with so many slots, by hand
abbrev pub linked_at : ℕ → ℕ → Class → Class
linked_at place slots c =
    renumbered
    (λ n. record {
      parent = n.parent;
      flags = n.flags;
      kind = n.kind;
      state = n.state;
      words = n.words;
      place = place;
      slots = slots;
      statics = n.statics;
    })
    c

-- with these flags, link state and instance words
abbrev pub having : ℕ → ℕ → ℕ → Class → Class
having flags state words c =
    renumbered
    (λ n. record {
      parent = n.parent;
      flags = flags;
      kind = n.kind;
      state = state;
      words = words;
      place = n.place;
      slots = n.slots;
      statics = n.statics;
    })
    c

-- with these static words
abbrev pub bringing : ℕ → Class → Class
bringing statics c =
    renumbered
    (λ n. record {
      parent = n.parent;
      flags = n.flags;
      kind = n.kind;
      state = n.state;
      words = n.words;
      place = n.place;
      slots = n.slots;
      statics = statics;
    })
    c

abbrev pub implementing : List ℕ → Class → Class
implementing interfaces c =
    record {
      name = c.name;
      numbers = c.numbers;
      methods = c.methods;
      fields = c.fields;
      interfaces = interfaces;
      compiled = c.compiled;
    }

-- ---- class words

-- the words of a part of the text that begins at byte `at`
abbrev pub part_words : ℕ → String → List ℕ
part_words at s = at ∷ length (text s) ∷ []

abbrev pub member_text : Member → List ℕ
member_text m = text m.name ++ text m.descriptor

abbrev pub members_text : List Member → List ℕ
members_text [] = []
members_text (m ∷ ms) = member_text m ++ members_text ms

abbrev pub member_words : ℕ → Member → List ℕ
member_words at m = part_words at m.name ++ (part_words (at + length (text m.name)) m.descriptor ++ (m.flags ∷ m.last ∷ []))

-- records of members whose texts begin at byte `at`
abbrev pub members_words : ℕ → List Member → List ℕ
members_words at [] = []
members_words at (m ∷ ms) = member_words at m ++ members_words (at + length (member_text m)) ms

abbrev pub class_names : List Class → List ℕ
class_names [] = []
class_names (c ∷ cs) = text c.name ++ class_names cs

abbrev pub all_methods : List Class → List Member
all_methods [] = []
all_methods (c ∷ cs) = c.methods ++ all_methods cs

abbrev pub all_fields : List Class → List Member
all_fields [] = []
all_fields (c ∷ cs) = c.fields ++ all_fields cs

abbrev pub all_interfaces : List Class → List ℕ
all_interfaces [] = []
all_interfaces (c ∷ cs) = c.interfaces ++ all_interfaces cs

abbrev pub compiled_slots : Compiled → List ℕ
compiled_slots without = []
compiled_slots (holding ts) = ts

abbrev pub all_compiled : List Class → List ℕ
all_compiled [] = []
all_compiled (c ∷ cs) = compiled_slots c.compiled ++ all_compiled cs

-- the two words of a compiler table that begins at word `at`
abbrev pub compiled_words : ℕ → Compiled → List ℕ
compiled_words at without = 0 ∷ 0 ∷ []
compiled_words at (holding ts) = suc at ∷ length ts ∷ []

-- class records: the name at byte `at`, then the first method, field, interface word and compiler word
abbrev pub classes_words : ℕ → ℕ → ℕ → ℕ → ℕ → List Class → List ℕ
classes_words at m f i w [] = []
classes_words at m f i w (c ∷ cs) =
    part_words at c.name
    ++ (c.numbers.parent ∷ c.numbers.flags ∷ c.numbers.kind ∷ m ∷ length c.methods ∷ f ∷ length c.fields ∷ i
    ∷ length c.interfaces ∷ c.numbers.state ∷ c.numbers.words ∷ [])
    ++ compiled_words w c.compiled
    ++ (c.numbers.place ∷ c.numbers.slots ∷ c.numbers.statics ∷ [])
    ++ classes_words (at + length (text c.name)) (m + length c.methods) (f + length c.fields) (i + length c.interfaces)
    (w + length (compiled_slots c.compiled)) cs

-- class words from their sections' parts
abbrev pub assembled : List Class → List Member → List Member → List ℕ → List ℕ → List ℕ
assembled cs ms fs is ws =
    let names : List ℕ = class_names cs in
    let labels : List ℕ = names ++ (members_text ms ++ members_text fs) in
    length cs ∷ length ms ∷ length fs ∷ length is ∷ length ws ∷ length labels
    ∷ classes_words 0 0 0 0 0 cs
    ++ members_words (length names) ms
    ++ members_words (length names + length (members_text ms)) fs
    ++ is
    ++ ws
    ++ packed labels

-- the class words of a set
abbrev pub class_sheet : List Class → List ℕ
class_sheet cs = assembled cs (all_methods cs) (all_fields cs) (all_interfaces cs) (all_compiled cs)

-- ---- ABI words

pub record Fixed : Type 0 where
  pub name : String
  pub descriptor : String
  pub index : ℕ

-- a method `()V` at its index
abbrev pub slot : String → ℕ → Fixed
slot name index = record { name = name; descriptor = "()V"; index = index }

abbrev pub fixed : String → String → ℕ → Fixed
fixed name descriptor index = record { name = name; descriptor = descriptor; index = index }

-- `size` and `words` are table size plus 1 and instance words plus 1, 0 for none
pub record AbiClass : Type 0 where
  pub name : String
  pub size : ℕ
  pub words : ℕ
  pub slots : List Fixed
  pub fields : List Fixed

abbrev pub abi : String → List Fixed → List Fixed → AbiClass
abi name slots fields = record { name = name; size = 0; words = 0; slots = slots; fields = fields }

-- with a table size, and with instance words
abbrev pub sized : ℕ → AbiClass → AbiClass
sized size a = record { name = a.name; size = suc size; words = a.words; slots = a.slots; fields = a.fields }

abbrev pub worded : ℕ → AbiClass → AbiClass
worded words a = record { name = a.name; size = a.size; words = suc words; slots = a.slots; fields = a.fields }

abbrev pub fixed_text : Fixed → List ℕ
fixed_text g = text g.name ++ text g.descriptor

abbrev pub fixeds_text : List Fixed → List ℕ
fixeds_text [] = []
fixeds_text (g ∷ gs) = fixed_text g ++ fixeds_text gs

abbrev pub fixeds_words : ℕ → List Fixed → List ℕ
fixeds_words at [] = []
fixeds_words at (g ∷ gs) =
    part_words at g.name
    ++ (part_words (at + length (text g.name)) g.descriptor ++ (g.index ∷ fixeds_words (at + length (fixed_text g)) gs))

abbrev pub abi_names : List AbiClass → List ℕ
abi_names [] = []
abi_names (a ∷ cs) = text a.name ++ abi_names cs

abbrev pub all_slots : List AbiClass → List Fixed
all_slots [] = []
all_slots (a ∷ cs) = a.slots ++ all_slots cs

abbrev pub all_fixed : List AbiClass → List Fixed
all_fixed [] = []
all_fixed (a ∷ cs) = a.fields ++ all_fixed cs

abbrev pub abi_classes_words : ℕ → ℕ → ℕ → List AbiClass → List ℕ
abi_classes_words at s f [] = []
abi_classes_words at s f (a ∷ cs) =
    part_words at a.name
    ++ (a.size ∷ a.words ∷ s ∷ length a.slots ∷ f ∷ length a.fields
    ∷ abi_classes_words (at + length (text a.name)) (s + length a.slots) (f + length a.fields) cs)

-- the ABI words of a list of ABI classes
abbrev pub abi_sheet : List AbiClass → List ℕ
abi_sheet cs =
    let names : List ℕ = abi_names cs in
    let labels : List ℕ = names ++ (fixeds_text (all_slots cs) ++ fixeds_text (all_fixed cs)) in
    length cs ∷ length (all_slots cs) ∷ length (all_fixed cs) ∷ length labels
    ∷ abi_classes_words 0 0 0 cs
    ++ fixeds_words (length names) (all_slots cs)
    ++ fixeds_words (length names + length (fixeds_text (all_slots cs))) (all_fixed cs)
    ++ packed labels

-- ---- calls

pub data Call : Type 0 where
  link : ℕ → Call
  ask : ℕ → ℕ → Call

-- what is lent: class words, ABI words, area, stubs and the list of missing slots
pub record Lent : Type 0 where
  pub set : List ℕ
  pub abi : List ℕ
  pub area : List ℕ
  pub stubs : List ℕ
  pub missing : List ℕ

-- "a fresh area has 1 there"
abbrev pub fresh : ℕ → List ℕ
fresh n = 1 ∷ replicate n 0

-- stubs 901, 902, ..
abbrev pub stubs_of : ℕ → List ℕ
stubs_of n = list_from (λ i. 901 + i) 0 n

-- a list of missing slots for n classes, written by nobody yet
abbrev pub sevens : ℕ → List ℕ
sevens n = replicate (33 * n) 7

-- a fresh area of 24 words, 8 stubs, a list of missing slots for the classes, and no word after the content
abbrev pub lent : List Class → List AbiClass → Lent
lent cs entries = record { set = class_sheet cs; abi = abi_sheet entries; area = fresh 23; stubs = stubs_of 8; missing = sevens (length cs) }

-- with other class words, another area, other stubs, and another list of missing slots
abbrev pub on_set : (List ℕ → List ℕ) → Lent → Lent
on_set f d = record { set = f d.set; abi = d.abi; area = d.area; stubs = d.stubs; missing = d.missing }

abbrev pub on_area : List ℕ → Lent → Lent
on_area area d = record { set = d.set; abi = d.abi; area = area; stubs = d.stubs; missing = d.missing }

abbrev pub on_stubs : List ℕ → Lent → Lent
on_stubs stubs d = record { set = d.set; abi = d.abi; area = d.area; stubs = stubs; missing = d.missing }

abbrev pub on_missing : List ℕ → Lent → Lent
on_missing missing d = record { set = d.set; abi = d.abi; area = d.area; stubs = d.stubs; missing = missing }

-- with n zero words after the content of the class words
abbrev pub spare : ℕ → Lent → Lent
spare n d = on_set (λ ws. ws ++ replicate n 0) d

unfoldable pub call : Lent → Call → LinkOutcome
call d (link c) = link_def d.set d.abi c d.area d.stubs d.missing
call d (ask c i) = record { outcome = ask_def d.set d.abi c i d.area d.stubs; missing = d.missing }

-- what is lent to the next call
abbrev pub onto : Lent → LinkOutcome → Lent
onto d o = record { set = o.outcome.set; abi = d.abi; area = o.outcome.area; stubs = d.stubs; missing = o.missing }

abbrev pub answer : Outcome → ℕ × ℕ × ℕ
answer o = (o.refusal, o.first, o.second)

-- the answers of calls made one after the other
unfoldable pub answers : Lent → List Call → List (ℕ × ℕ × ℕ)
answers d [] = []
answers d (x ∷ xs) = let o : LinkOutcome = call d x in answer o.outcome ∷ answers (onto d o) xs

-- what is lent after the calls
unfoldable pub after : Lent → List Call → Lent
after d [] = d
after d (x ∷ xs) = after (onto d (call d x)) xs

-- ---- what a class has, in the words lent

abbrev pub indices_from : List ℕ → List ℕ → List ℕ
indices_from ws [] = []
indices_from ws (f ∷ fs) = field_index ws f ∷ indices_from ws fs

-- the indices of its fields
unfoldable pub indices_of : ℕ → Lent → List ℕ
indices_of c d = indices_from d.set (own_fields d.set c)

-- name, flags and target of its methods
abbrev pub members_from : List ℕ → List ℕ → List ℕ → List (List ℕ × ℕ × ℕ)
members_from ws labels [] = []
members_from ws labels (m ∷ ms) = (method_name ws labels m, method_flags ws m, method_target ws m) ∷ members_from ws labels ms

unfoldable pub methods_of : ℕ → Lent → List (List ℕ × ℕ × ℕ)
methods_of c d = members_from d.set (text_of d.set) (own_methods d.set c)

-- its instance words
unfoldable pub words_of : ℕ → Lent → ℕ
words_of c d = class_instance_words d.set c

-- static words of the classes
unfoldable pub statics_of : List ℕ → Lent → List ℕ
statics_of [] d = []
statics_of (c ∷ cs) d = class_static_words d.set c ∷ statics_of cs d

-- the words of its slots
unfoldable pub table_of : ℕ → Lent → List ℕ
table_of c d = take (class_slot_count d.set c) (drop (class_table_place d.set c + 1) d.area)

-- the classes of its slots, 0 for an unknown one
unfoldable pub classes_of : ℕ → Lent → List ℕ
classes_of c d =
    list_from (slot_class (by_sheets d.set d.abi) d.set (text_of d.set) d.abi (abi_text_of d.abi) d.area c) 0 (class_slot_count d.set c)
