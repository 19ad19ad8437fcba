-- Links and asks that match signatures by the numbers of a list that is lent beside the set: "Slots are matched by these numbers." Assumes nothing.
use Rattle.std.specs.Prelude.{ℕ, cond, List, [], ◌∷◌, ◌++◌, get_or, take, drop, eqb}
use Rattle.class_sheet.specs.ClassSheet.{method_count, text_of, class_first_method, class_method_count}
use Rattle.abi_sheet.specs.AbiSheet.{abi_text_of}
use Rattle.linking.specs.Signature.{place_number, by_numbers}
use Rattle.linking.specs.Compiler.{Taken, members}
use Rattle.linking.specs.Set.{write_at}
use Rattle.linking.specs.Link.{Planned, planned, unplanned, plan, is_none, Outcome, refused_call, LinkOutcome, refused_link, link_with}
use Rattle.linking.specs.Ask.{ask_by}
use Rattle.linking.specs.Numbers.{numbers_short}

-- ---- the list after a link: "In preparation an added method carries the number of the signature it took, a copied one its own."

-- the numbers of the places that these methods take their signatures from
unfoldable pub numbers_taken : List ℕ → List Taken → List ℕ
numbers_taken numbers [] = []
numbers_taken numbers (x ∷ xs) = get_or numbers (place_number x.from) 0 ∷ numbers_taken numbers xs

-- the records of a list that grows are copied to the end of the section, the added ones stand after them: so do their numbers, and all others stay
unfoldable pub numbers_after : List ℕ → List ℕ → ℕ → List Taken → List ℕ
numbers_after ws numbers c added =
    let copied : List ℕ = take (class_method_count ws c) (drop (class_first_method ws c) numbers) in
    cond (is_none (members added)) numbers (write_at numbers (method_count ws) (copied ++ numbers_taken numbers added))

-- ---- the calls: "row 3, there, at links and at asks, also takes a shorter list"

-- what a link answers and leaves of all that it is lent, the list of numbers too
pub record NumberedOutcome : Type 0 where
  pub outcome : Outcome
  pub missing : List ℕ
  pub numbers : List ℕ

abbrev pub leaving : LinkOutcome → List ℕ → NumberedOutcome
leaving o numbers = record { outcome = o.outcome; missing = o.missing; numbers = numbers }

-- and all but that list
abbrev pub but_numbers : NumberedOutcome → LinkOutcome
but_numbers o = record { outcome = o.outcome; missing = o.missing }

-- the list after an accepted link that comes to this plan
abbrev pub numbers_planned : List ℕ → List ℕ → ℕ → Planned → List ℕ
numbers_planned ws numbers c (planned p) = numbers_after ws numbers c p.added
numbers_planned ws numbers c (unplanned n) = numbers

-- a refused link leaves the list
unfoldable pub link_numbered : List ℕ → List ℕ → List ℕ → ℕ → List ℕ → List ℕ → List ℕ → NumberedOutcome
link_numbered ws abi numbers c area stubs missing =
    let coming : Planned = plan (by_numbers numbers) ws (text_of ws) abi (abi_text_of abi) area c in
    let done : LinkOutcome = link_with coming ws abi c area stubs missing in
    cond (numbers_short numbers)
    (leaving (refused_link 3 ws area missing) numbers)
    (leaving done (cond (eqb done.outcome.refusal 0) (numbers_planned ws numbers c coming) numbers))

-- an ask only reads the list
unfoldable pub ask_numbered : List ℕ → List ℕ → List ℕ → ℕ → ℕ → List ℕ → List ℕ → Outcome
ask_numbered ws abi numbers c i area stubs =
    cond (numbers_short numbers) (refused_call 3 ws area) (ask_by (by_numbers numbers) ws abi c i area stubs)
