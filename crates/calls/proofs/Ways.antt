-- A link or an ask, however it compares signatures: it is refused and leaves set and area, or accepted by its comparison; an ask leaves the set. A list of
-- numbers is long enough where a link is accepted, and stays as long. Assumes nothing.
use mathlib.Core.Path.{◌≡◌, refl, ap}
use mathlib.Core.Logic.{◌≢◌, ◌⊎◌, inl, inr}
use mathlib.Core.List.{List}
use Prim.Native.Nat.{ℕ, ◌≤◌}
use native.Mathlib.Omega.{arith}
use lib.ListN.{length}
use Rattle.words.proofs.Bools.{by}
use Rattle.linking.specs.Signature.{Same, by_sheets, by_numbers}
use Rattle.linking.specs.Numbers.{number_limit, numbers_short}
use Rattle.linking.specs.Link.{LinkOutcome, link_def}
use Rattle.linking.specs.Ask.{ask_by, ask_def}
use Rattle.linking.specs.Numbered.{ask_numbered}
use Rattle.matching.proofs.Rows.{Refused, Accepted, link-cases}
use Rattle.matching.proofs.Numbered.{ends, link_refused, numbers_long, ask_matched}
use Rattle.calls.specs.Calls.{Call, link, ask, Way, numbered, bytewise, State, outcome, missing_after, way_after, step}
use Rattle.calls.proofs.Rows.{Idle, Puts, untouched, cases_by}

-- the comparison of a call on these sheets
abbrev pub same_of : Way → List ℕ → List ℕ → Same
same_of (numbered ns) ws abi = by_numbers ns
same_of bytewise ws abi = by_sheets ws abi

abbrev pub left_by : Way → List ℕ → State → ℕ → List ℕ → LinkOutcome
left_by way abi s c stubs = record { outcome = outcome way abi s (link c stubs); missing = missing_after way abi s (link c stubs) }

pub link-ends : (way : Way) (abi : List ℕ) (s : State) (c : ℕ) (stubs : List ℕ)
    → Refused (left_by way abi s c stubs) s.set s.area s.missing
    ⊎ Accepted (same_of way s.set abi) s.set abi c s.area stubs s.missing (left_by way abi s c stubs)
unfolding link_def
link-ends (numbered ns) abi s c stubs =
    elim (ends s.set abi ns c s.area stubs s.missing) [
      | inl r ↦ inl (record { number = r.number; same_set = r.same_set; same_area = r.same_area; same-missing = r.same-missing })
      | inr a ↦ inr a.accepted
    ]
link-ends bytewise abi s c stubs = link-cases (by_sheets s.set abi) s.set abi c s.area stubs s.missing

pub ask-ends : (way : Way) (abi : List ℕ) (s : State) (c i : ℕ) (stubs : List ℕ)
    → Idle s.set abi c i s.area (outcome way abi s (ask c i stubs))
    ⊎ Puts (same_of way s.set abi) s.set abi c i s.area stubs (outcome way abi s (ask c i stubs))
unfolding ask_def ask_numbered
ask-ends (numbered ns) abi s c i stubs =
    by (numbers_short ns) (λ t. rw t (inl (untouched s.set abi c i s.area 3 (omega arith))))
    (λ t. rw t (cases_by (by_numbers ns) s.set abi c i s.area stubs))
ask-ends bytewise abi s c i stubs = cases_by (by_sheets s.set abi) s.set abi c i s.area stubs

pub ask-leaves : (way : Way) (abi : List ℕ) (s : State) (c i : ℕ) (stubs : List ℕ) → (outcome way abi s (ask c i stubs)).set ≡ s.set
ask-leaves way abi s c i stubs = elim (ask-ends way abi s c i stubs) [ inl r ↦ r.same_set | inr a ↦ a.same_set ]

pub asked-state : (way : Way) (abi : List ℕ) (s : State) (c i : ℕ) (stubs : List ℕ)
    → step way abi s (ask c i stubs)
    ≡ record { set = (outcome way abi s (ask c i stubs)).set; area = (outcome way abi s (ask c i stubs)).area; missing = s.missing }
unfolding step
asked-state (numbered ns) abi s c i stubs = refl
asked-state bytewise abi s c i stubs = refl

-- what a refused link leaves of the list of numbers
pub same-way : (way : Way) (abi : List ℕ) (s : State) (c : ℕ) (stubs : List ℕ) → (outcome way abi s (link c stubs)).refusal ≢ 0
    → way_after way abi s (link c stubs) ≡ way
same-way (numbered ns) abi s c stubs n = ap numbered (link_refused s.set abi ns c s.area stubs s.missing n)
same-way bytewise abi s c stubs n = refl

-- ---- row 3's clause on the list of numbers

abbrev pub Long : Way → Type 0
Long (numbered ns) = number_limit ≤ length ns
Long bytewise = Unit {0}

pub ask-is : (way : Way) (abi : List ℕ) (s : State) → Long way → (c i : ℕ) (stubs : List ℕ)
    → outcome way abi s (ask c i stubs) ≡ ask_by (same_of way s.set abi) s.set abi c i s.area stubs
unfolding ask_def
ask-is (numbered ns) abi s long c i stubs = ask_matched s.set abi ns long c i s.area stubs
ask-is bytewise abi s long c i stubs = refl

pub accepted-long : (way : Way) (abi : List ℕ) (s : State) (c : ℕ) (stubs : List ℕ) → (outcome way abi s (link c stubs)).refusal ≡ 0 → Long way
accepted-long (numbered ns) abi s c stubs e = elim (ends s.set abi ns c s.area stubs s.missing) [ inl r ↦ absurd (r.number e) | inr a ↦ a.long ]
accepted-long bytewise abi s c stubs e = tt

pub still-long : (way : Way) (abi : List ℕ) (s : State) (k : Call) → Long way → Long (way_after way abi s k)
still-long (numbered ns) abi s (link c stubs) long = let e = numbers_long s.set abi ns c s.area stubs s.missing in omega arith
still-long (numbered ns) abi s (ask c i stubs) long = long
still-long bytewise abi s k long = tt
