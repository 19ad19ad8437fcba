-- The theorems on static words, for all class words and whatever a list of numbers holds: what a link leaves, that numbering and sum agree, that the static indices end there, and what
-- holds after any list of calls. `statics` of proofs/Theorem.antt proves them. Assumes nothing.
use Rattle.std.specs.Prelude.{ℕ, ◌+◌, ◌≤◌, ◌<◌, ◌≡◌, ◌≢◌, true, List, length, get_or, take, Option}
use Rattle.words.specs.Lists.{fold}
use Rattle.class_sheet.specs.ClassSheet.{text_of, class_kind, is_built_kind, class_first_field, class_field_count, class_table_place, class_static_words, field_flags, field_index}
use Rattle.set_rules.specs.Valid.{IsClass, Valid}
use Rattle.sheet.specs.Sheet.{read_class_sheet}
use Rattle.linking.specs.Chain.{own_fields, is_static}
use Rattle.linking.specs.Fields.{field_width, number_fields, add_static, static_words}
use Rattle.linking.specs.Numbered.{link_numbered}
use Rattle.calls.specs.Calls.{Call, Way, AnyWay, left, Unlinked}

-- class c is built: of kind 0, or of kind 3
abbrev pub IsBuilt : List ℕ → ℕ → Type 0
IsBuilt ws c = is_built_kind (class_kind ws c) ≡ true

-- the words `new` after an accepted link of class c: "the sum of the static field widths for a built class, 0 for an array class; a generated class
-- brings its own"; every other class has what it had
pub record Left (ws new : List ℕ) (c : ℕ) : Type 0 where
  pub built : IsBuilt ws c → class_static_words new c ≡ static_words ws (text_of ws) c
  pub array : class_kind ws c ≡ 2 → class_static_words new c ≡ 0
  pub generated : class_kind ws c ≡ 1 → class_static_words new c ≡ class_static_words ws c
  pub others : (d : ℕ) → IsClass ws d → d ≢ c → class_static_words new d ≡ class_static_words ws d

-- each static field of class c's list has its words below the class's static words
abbrev pub Standing : List ℕ → ℕ → Type 0
Standing ws c =
    (i : ℕ) → i < class_field_count ws c → is_static (field_flags ws (class_first_field ws c + i)) ≡ true
    → field_index ws (class_first_field ws c + i) + field_width ws (text_of ws) (class_first_field ws c + i) ≤ class_static_words ws c

-- words that a list of calls starts from: valid, "every table place is 0", and static words of generated classes alone
pub record Start (ws : List ℕ) : Type 0 where
  pub valid : Valid ws
  pub unlinked : Unlinked ws
  pub clean : (c : ℕ) → IsClass ws c → class_kind ws c ≢ 1 → class_static_words ws c ≡ 0

-- class c after a list of calls that started from ws and left the words `new`
pub record After (ws new : List ℕ) (c : ℕ) : Type 0 where
  pub unlinked : class_kind ws c ≢ 1 → class_table_place new c ≡ 0 → class_static_words new c ≡ 0
  pub built : IsBuilt ws c → class_table_place new c ≢ 0 → class_static_words new c ≡ static_words ws (text_of ws) c
  pub array : class_kind ws c ≡ 2 → class_static_words new c ≡ 0
  pub generated : class_kind ws c ≡ 1 → class_static_words new c ≡ class_static_words ws c

-- so is every class of the words that a list of calls starts from, whatever it lends
abbrev pub AllAfter : Way → List ℕ → List ℕ → List ℕ → List ℕ → Type 0
AllAfter way ws abi area missing = (calls : List Call) → Start ws → (c : ℕ) → IsClass ws c → After ws (left way ws abi area missing calls).set c

pub record Statics : Type 0 where
  -- 1. What a link leaves, accepted and refused.
  pub linked : (ws abi numbers : List ℕ) (c : ℕ) (area stubs missing : List ℕ) → (link_numbered ws abi numbers c area stubs missing).outcome.refusal ≡ 0
      → Left ws (link_numbered ws abi numbers c area stubs missing).outcome.set c
  pub refused : (ws abi numbers : List ℕ) (c : ℕ) (area stubs missing : List ℕ) → (link_numbered ws abi numbers c area stubs missing).outcome.refusal ≢ 0
      → (link_numbered ws abi numbers c area stubs missing).outcome.set ≡ ws
  -- 2. The numbering counts to the sum, and that is at most 1,024.
  pub counted : (ws text abi labels : List ℕ) (own : Option ℕ) (c : ℕ) → (number_fields ws text abi labels own c).statics ≡ static_words ws text c
  pub most : (ws text : List ℕ) (c : ℕ) → static_words ws text c ≤ 1024
  -- 3. A static field's new index is the words of the static fields before it, and its end is at most the sum; so in the words that a link of a built
  -- class leaves.
  pub begins : (ws text abi labels : List ℕ) (own : Option ℕ) (c i : ℕ) → i < length (own_fields ws c)
      → is_static (field_flags ws (get_or (own_fields ws c) i 0)) ≡ true
      → get_or (number_fields ws text abi labels own c).indices i 0 ≡ fold (add_static ws text) 0 (take i (own_fields ws c))
  pub ends : (ws text abi labels : List ℕ) (own : Option ℕ) (c i : ℕ) → i < length (own_fields ws c)
      → is_static (field_flags ws (get_or (own_fields ws c) i 0)) ≡ true
      → get_or (number_fields ws text abi labels own c).indices i 0 + field_width ws text (get_or (own_fields ws c) i 0) ≤ static_words ws text c
  pub stand : (ws abi numbers : List ℕ) (c : ℕ) (area stubs missing : List ℕ) → (link_numbered ws abi numbers c area stubs missing).outcome.refusal ≡ 0
      → IsBuilt ws c → Standing (link_numbered ws abi numbers c area stubs missing).outcome.set c
  -- 4. After any list of calls, from words that a reading left, whatever follows the sheet in them.
  pub read : (bs out : List ℕ) → (read_class_sheet bs out).refusal ≡ 0 → Start (read_class_sheet bs out).memory
  pub after_calls : AnyWay AllAfter
