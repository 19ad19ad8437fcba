-- `interface_dispatch_table` (the ask): the walk over a class's interface tables, and the node built where there is none. Assumes nothing.
use Rattle.std.specs.Prelude.{ℕ, zero, suc, ◌+◌, Bool, cond, not, ◌&&◌, ◌||◌, List, [], ◌∷◌, ◌++◌, length, get_or, set, eqb, leb, Option, Some, None}
use Rattle.words.specs.Lists.{find, first_found}
use Rattle.class_sheet.specs.ClassSheet.{text_of, class_table_place, class_slot_count, method_flags, method_target}
use Rattle.abi_sheet.specs.AbiSheet.{abi_text_of}
use Rattle.set_rules.specs.SetRules.{set_refusal}
use Rattle.linking.specs.Signature.{Same, Place, of_method, by_sheets}
use Rattle.linking.specs.Chain.{on_found, own_methods, chain, is_virtual}
use Rattle.linking.specs.Vtable.{Entry, Built, built, refused, table_entries, slot_words}
use Rattle.linking.specs.Link.{no_class, is_linked, next_free, bad_area, no_room, Outcome, refused_call}
use Rattle.linking.specs.Set.{write_at}

-- ---- the walk

-- what a walk ends with: at the interface's node, at the list's end, or at a link that row 7 refuses; and the nodes read
pub data Walk : Type 0 where
  hit : ℕ → ℕ → Walk
  missed : ℕ → Walk
  broken : Walk

-- "Walk from the head". Row 7: "a chain walk meets a link whose two words are not below word 0, or a 65th node". `left` nodes may still
-- be read, `read` have been.
unfoldable pub walk : List ℕ → ℕ → ℕ → ℕ → ℕ → Walk
walk area i zero read n = cond (eqb n 0) (missed read) broken
walk area i (suc left) read n =
    cond (eqb n 0)
    (missed read)
    (cond (leb (next_free area) (n + 1))
    broken
    (cond (eqb (get_or area (n + 1) 0) i) (hit n (read + 1)) (walk area i left (read + 1) (get_or area n 0))))

-- the place of a class's list head: after its slots
abbrev pub head_place : List ℕ → ℕ → ℕ
head_place ws c = class_table_place ws c + class_slot_count ws c + 1

-- ---- "If absent, each known interface entry takes the first non-static, non-private method of its signature, class first, an unknown one
-- keeps its target"

module _ (same : Same) (ws : List ℕ) where
  unfoldable pub own_implementation : Place → ℕ → Option ℕ
  own_implementation p c = find (λ m. is_virtual (method_flags ws m) && same (of_method m) p) (own_methods ws c)

  unfoldable pub implementation : ℕ → ℕ → Option ℕ
  implementation c m = first_found (own_implementation (of_method m)) (chain ws c)

-- the entry of the class's table for an interface's, if it has an implementation
abbrev pub dispatch_entry : List ℕ → Entry → Option ℕ → Option ℕ → Built
dispatch_entry ws e (Some m) (Some k) = built (record { word = method_target ws k; method = Some k; source = None } ∷ [])
dispatch_entry ws e (Some m) None = refused 16
dispatch_entry ws e None found = built (e ∷ [])

abbrev pub cons_entry : Built → Built → Built
cons_entry (built T) (built U) = built (T ++ U)
cons_entry (built T) (refused n) = refused n
cons_entry (refused n) other = refused n

-- row 16: "a known interface method has no implementation"
unfoldable pub dispatch_entries : Same → List ℕ → ℕ → List Entry → Built
dispatch_entries same ws c [] = built []
dispatch_entries same ws c (e ∷ es) =
    cons_entry (dispatch_entry ws e e.method (on_found e.method (implementation same ws c) None)) (dispatch_entries same ws c es)

-- ---- "a node (old head, interface number, slots) goes in front"

unfoldable pub asked_area : List ℕ → List ℕ → ℕ → ℕ → List Entry → List ℕ → List ℕ
asked_area ws area c i T stubs =
    let node : ℕ = next_free area in
    let written : List ℕ = write_at area node (get_or area (head_place ws c) 0 ∷ i ∷ slot_words stubs 0 T) in
    set (set written (head_place ws c) node) 0 (node + length T + 2)

abbrev pub on_dispatch : Built → (List Entry → Outcome) → (ℕ → Outcome) → Outcome
on_dispatch (built T) f g = f T
on_dispatch (refused n) f g = g n

-- the node's table is built, or row 16 or 15 refuses; the answer is the place after the link word, and the nodes read
unfoldable pub build_node : Same → List ℕ → List ℕ → ℕ → ℕ → List ℕ → List ℕ → ℕ → Outcome
build_node same ws abi c i area stubs nodes =
    on_dispatch (dispatch_entries same ws c (table_entries same ws (text_of ws) abi (abi_text_of abi) area i))
    (λ T. cond (no_room area stubs (length T))
    (refused_call 15 ws area)
    (record { refusal = 0; first = next_free area + 1; second = nodes; set = ws; area = asked_area ws area c i T stubs }))
    (λ n. refused_call n ws area)

abbrev pub on_walk : Walk → (ℕ → ℕ → Outcome) → (ℕ → Outcome) → Outcome → Outcome
on_walk (hit n nodes) f g b = f n nodes
on_walk (missed nodes) f g b = g nodes
on_walk broken f g b = b

-- "interface ask: either class unlinked"
unfoldable pub bad_ask : List ℕ → ℕ → ℕ → Bool
bad_ask ws c i = no_class ws c || no_class ws i || not (is_linked ws c) || not (is_linked ws i)

-- the call over a comparison
unfoldable pub ask_by : Same → List ℕ → List ℕ → ℕ → ℕ → List ℕ → List ℕ → Outcome
ask_by same ws abi c i area stubs =
    cond (not (eqb (set_refusal ws abi) 0))
    (refused_call (set_refusal ws abi) ws area)
    (cond (bad_ask ws c i)
    (refused_call 6 ws area)
    (cond (bad_area ws area)
    (refused_call 7 ws area)
    (on_walk (walk area i 64 0 (get_or area (head_place ws c) 0))
    (λ n nodes. record { refusal = 0; first = n + 1; second = nodes; set = ws; area = area })
    (build_node same ws abi c i area stubs)
    (refused_call 7 ws area))))

-- and by the bytes of the signatures
unfoldable pub ask_def : List ℕ → List ℕ → ℕ → ℕ → List ℕ → List ℕ → Outcome
ask_def ws abi c i area stubs = ask_by (by_sheets ws abi) ws abi c i area stubs
