-- A LINK BEFORE THERE WAS A LIST OF MISSING SLOTS: its rows, its answer and what it left of set and area, no list lent. `LinkBefore` (Missing.antt) says by it
-- that a list which is long enough changes nothing of these. Assumes nothing.
use Rattle.std.specs.Prelude.{ℕ, cond, not, ◌||◌, List, length, eqb}
use Rattle.class_sheet.specs.ClassSheet.{text_of}
use Rattle.abi_sheet.specs.AbiSheet.{abi_text_of}
use Rattle.set_rules.specs.SetRules.{set_refusal}
use Rattle.linking.specs.Signature.{by_sheets}
use Rattle.linking.specs.Packages.{bad_packages}
use Rattle.linking.specs.Link.{bad_class, next_free, bad_area, Plan, Planned, planned, unplanned, plan, new_words, new_statics, lists_full, set_short, no_room, linked_area, linked_words, Outcome, refused_call}

-- rows 14 and 15, the latter without its clause on the list, then the effect
unfoldable pub finish_unlisted : List ℕ → List ℕ → ℕ → List ℕ → List ℕ → Plan → Outcome
finish_unlisted ws abi c area stubs p =
    cond (lists_full ws c p)
    (refused_call 14 ws area)
    (cond (no_room area stubs (length p.table) || set_short ws c p)
    (refused_call 15 ws area)
    (record {
      refusal = 0;
      first = next_free area;
      second = length p.table;
      set = linked_words ws c (next_free area) (new_words ws (text_of ws) abi (abi_text_of abi) c) (new_statics ws (text_of ws) c) p;
      area = linked_area area c p.table stubs;
    }))

abbrev pub on_planned : Planned → (Plan → Outcome) → (ℕ → Outcome) → Outcome
on_planned (planned p) f g = f p
on_planned (unplanned n) f g = g n

unfoldable pub link_unlisted : List ℕ → List ℕ → ℕ → List ℕ → List ℕ → Outcome
link_unlisted ws abi c area stubs =
    cond (not (eqb (set_refusal ws abi) 0))
    (refused_call (set_refusal ws abi) ws area)
    (cond (bad_class ws (text_of ws) c)
    (refused_call 6 ws area)
    (cond (bad_area ws area)
    (refused_call 7 ws area)
    (cond (bad_packages ws (text_of ws) abi (abi_text_of abi) c)
    (refused_call 26 ws area)
    (on_planned (plan (by_sheets ws abi) ws (text_of ws) abi (abi_text_of abi) area c) (finish_unlisted ws abi c area stubs) (λ n. refused_call n ws area)))))
