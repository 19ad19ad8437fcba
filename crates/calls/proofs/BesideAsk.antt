-- Two states in which some classes are alike (`Beside`): an ask of two such classes is refused by the same row or, if room does not refuse it, answers a
-- node with the same slots. Assumes nothing.
use mathlib.Core.Path.{◌≡◌, refl, sym, ap, ◌∙◌}
use mathlib.Core.Logic.{◌≢◌}
use mathlib.Core.Bool.{true, false, cond}
use mathlib.Core.List.{List}
use Prim.Native.Nat.{ℕ, ◌+◌, ◌≤◌, ◌<◌}
use native.Mathlib.Omega.{arith}
use lib.ListN.{length}
use borrow.Author.Tests.{eq-eqb, ne_eqb}
use Rattle.words.proofs.Bools.{by}
use Rattle.linking.specs.Vtable.{Entry, Built, built, refused}
use Rattle.linking.specs.Link.{next_free, no_room, Outcome, refused_call}
use Rattle.linking.specs.Ask.{Walk, hit, missed, head_place, asked_area, on_dispatch}
use Rattle.linking.proofs.Rebuilt.{Any}
use Rattle.linking.proofs.Renumbered.{Tables, SameBuilt, both-built, both-refused}
use Rattle.linking.proofs.Rows.{Fits, fits}
use Rattle.calls.specs.Calls.{table_at}
use Rattle.calls.specs.Elsewhere.{takes, Roomy}
use Rattle.calls.proofs.Beside.{words_same}
use Rattle.calls.proofs.Area.{asked-slots, asked-free}

-- a node of the same slots, below the next free word, is found in both, or none in either; the nodes read may differ
pub data SameWalk (area area' : List ℕ) (slots : ℕ) : Walk → Walk → Type 0 where
  both-hit : {n n' r r' : ℕ} → table_at area (n + 1) slots ≡ table_at area' (n' + 1) slots → n + 2 + slots ≤ next_free area → n' + 2 + slots ≤ next_free area'
      → SameWalk area area' slots (hit n r) (hit n' r')
  both-missed : {r r' : ℕ} → SameWalk area area' slots (missed r) (missed r')

-- ---- what two asks answer: places and nodes read aside, the same

pub record SameAsk (area area' : List ℕ) (slots : ℕ) (o o' : Outcome) : Type 0 where
  pub refusal : o.refusal ≡ o'.refusal
  pub took : takes area o ≡ takes area' o'
  pub words : o.refusal ≡ 0 → table_at o.area o.first slots ≡ table_at o'.area o'.first slots

not_taken : (area : List ℕ) (o : Outcome) → o.area ≡ area → takes area o ≡ false
not_taken area o e = rw (e, eq-eqb (next_free area) (next_free area) refl) refl

pub ask-refused : (n : ℕ) → n ≢ 0 → (ws ws' area area' : List ℕ) (slots : ℕ) → SameAsk area area' slots (refused_call n ws area) (refused_call n ws' area')
ask-refused n z ws ws' area area' slots = record {
  refusal = refl;
  took = not_taken area (refused_call n ws area) refl ∙ sym (not_taken area' (refused_call n ws' area') refl);
  words = λ e. absurd (z e);
}

module _ (ws abi : List ℕ) (c i : ℕ) (area stubs : List ℕ) (nodes : ℕ) where
  abbrev put : List Entry → Outcome
  put T = cond (no_room area stubs (length T)) (refused_call 15 ws area)
      (record { refusal = 0; first = next_free area + 1; second = nodes; set = ws; area = asked_area ws area c i T stubs })

  pub record Put (T : List Entry) (o : Outcome) : Type 0 where
    pub room : Fits area stubs (length T)
    pub number : o.refusal ≡ 0
    pub place : o.first ≡ next_free area + 1
    pub new-area : o.area ≡ asked_area ws area c i T stubs

  was-put : (T : List Entry) → (put T).refusal ≢ 15 → Put T (put T)
  was-put T n =
      by (no_room area stubs (length T)) (λ t. absurd (n (rw t refl)))
      (λ t. rw t (record { room = fits area stubs (length T) t; number = refl; place = refl; new-area = refl }))

module _ (ws ws' abi : List ℕ) (c i : ℕ) (area area' stubs : List ℕ) (nodes nodes' slots : ℕ) (head : head_place ws c < next_free area)
    (head' : head_place ws' c < next_free area') (some : next_free area ≢ 0) (some' : next_free area' ≢ 0) where
  puts-same : (T U : List Entry) → Tables Any T U → length T ≡ slots → length U ≡ slots → (o o' : Outcome) → Put ws abi c i area stubs nodes T o
      → Put ws' abi c i area' stubs nodes' U o' → SameAsk area area' slots o o'
  puts-same T U h n n' o o' p q = record {
    refusal = p.number ∙ sym q.number;
    took = taken ws area T o some head p.room.free p.new-area ∙ sym (taken ws' area' U o' some' head' q.room.free q.new-area);
    words = λ z.
        rw (p.new-area, q.new-area, p.place, q.place)
        (ap (table_at (asked_area ws area c i T stubs) (next_free area + 1)) (sym n)
        ∙ asked-slots ws area c i T stubs p.room.free some head ∙ words_same stubs 0 h
        ∙ sym (asked-slots ws' area' c i U stubs q.room.free some' head')
        ∙ ap (table_at (asked_area ws' area' c i U stubs) (next_free area' + 1)) n');
  }
    where
      taken : (ws area : List ℕ) (T : List Entry) (o : Outcome) → next_free area ≢ 0
          → head_place ws c < next_free area → next_free area + length T + 2 ≤ length area
          → o.area ≡ asked_area ws area c i T stubs → takes area o ≡ true
      taken ws area T o n h r e =
          rw (e, asked-free ws area c i T stubs r n h, ne_eqb (next_free area + length T + 2) (next_free area) (λ q. omega arith)) refl

  pub dispatched : {b b' : Built} → SameBuilt Any b b' → ((n : ℕ) → b ≡ refused n → n ≢ 0)
      → ((T : List Entry) → b ≡ built T → length T ≡ slots) → ((U : List Entry) → b' ≡ built U → length U ≡ slots)
      → Roomy (on_dispatch b (put ws abi c i area stubs nodes) (λ n. refused_call n ws area))
      → Roomy (on_dispatch b' (put ws' abi c i area' stubs nodes') (λ n. refused_call n ws' area'))
      → SameAsk area area' slots (on_dispatch b (put ws abi c i area stubs nodes) (λ n. refused_call n ws area))
      (on_dispatch b' (put ws' abi c i area' stubs nodes') (λ n. refused_call n ws' area'))
  dispatched (both-built {T} {U} h) z f g r r' =
      puts-same T U h (f T refl) (g U refl) (put ws abi c i area stubs nodes T) (put ws' abi c i area' stubs nodes' U)
      (was-put ws abi c i area stubs nodes T r.1) (was-put ws' abi c i area' stubs nodes' U r'.1)
  dispatched (both-refused {n}) z f g r r' = ask-refused n (z n refl) ws ws' area area' slots

  -- the walk's end, and what follows
  abbrev found : ℕ → ℕ → Outcome
  found n read = record { refusal = 0; first = n + 1; second = read; set = ws; area = area }

  abbrev found' : ℕ → ℕ → Outcome
  found' n read = record { refusal = 0; first = n + 1; second = read; set = ws'; area = area' }

  pub found-same : (n n' r r' : ℕ) → table_at area (n + 1) slots ≡ table_at area' (n' + 1) slots → SameAsk area area' slots (found n r) (found' n' r')
  found-same n n' r r' h = record {
    refusal = refl;
    took = not_taken area (found n r) refl ∙ sym (not_taken area' (found' n' r') refl);
    words = λ z. h;
  }
