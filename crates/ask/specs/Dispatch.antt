-- What the ask's functions compute: a slot, a table, and the rows of an ask. Assumes nothing.
use Rattle.std.specs.Prelude.{ℕ, ◌+◌, cond, not, List, [], ◌∷◌, length, eqb, Option, Some, None, Result, Ok, Err}
use Rattle.refusal.specs.declared.Refusal.{Refusal}
use Rattle.refusal.specs.Rows.{row}
use Rattle.set_rules.specs.SetRules.{set_refusal}
use Rattle.linking.specs.Signature.{Same}
use Rattle.linking.specs.Chain.{on_found}
use Rattle.linking.specs.Vtable.{Entry, Built, built, refused}
use Rattle.linking.specs.Link.{next_free, bad_area, no_room, Outcome, refused_call}
use Rattle.linking.specs.Ask.{implementation, dispatch_entry, asked_area, on_dispatch, bad_ask}
use Rattle.reading.specs.declared.table.Slot.{Slot}
use Rattle.reading.specs.Tables.{entry}

-- the slot that is answered, or row 16
abbrev pub slot_built : Option Slot → Built
slot_built (Some s) = built (entry s ∷ [])
slot_built None = refused 16

-- "each known interface entry takes the first non-static, non-private method of its signature, class first, an unknown one keeps its
-- target": one entry
unfoldable pub dispatched : Same → List ℕ → ℕ → Entry → Built
dispatched same ws c e = dispatch_entry ws e e.method (on_found e.method (implementation same ws c) None)

-- the table of these entries, unless a row refuses it
abbrev pub table_built : {A : Type 0} → List Entry → Result A Refusal → Built
table_built T (Ok x) = built T
table_built T (Err refusal) = refused (row refusal)

-- rows 3 to 7 of an ask but for the walk, 0 where none refuses
unfoldable pub ask_refusal : List ℕ → List ℕ → ℕ → ℕ → List ℕ → ℕ
ask_refusal ws abi c i area =
    cond (not (eqb (set_refusal ws abi) 0)) (set_refusal ws abi) (cond (bad_ask ws c i) 6 (cond (bad_area ws area) 7 0))

-- row 16 or row 15 refuses, or the node is written
unfoldable pub finish_ask : List ℕ → ℕ → ℕ → List ℕ → List ℕ → ℕ → Built → Outcome
finish_ask ws c i area stubs nodes B =
    on_dispatch B
    (λ T. cond (no_room area stubs (length T))
    (refused_call 15 ws area)
    (record { refusal = 0; first = next_free area + 1; second = nodes; set = ws; area = asked_area ws area c i T stubs }))
    (λ n. refused_call n ws area)
