-- The theorems on the order in which a class file is judged, for all bytes: what refuses is met at a place, and only the bytes before it count.
-- `front_to_back` of proofs/Theorem.antt proves them. Assumes nothing.
use Rattle.std.specs.Prelude.{ℕ, ◌≤◌, ◌<◌, ◌≡◌, ◌≢◌, ◌⊎◌, List, ◌∷◌, ◌++◌, length, take}
use Rattle.words.specs.Words.{AreBytes}
use Rattle.class_form.specs.Form.{form_refusal}

-- a row is met at q: all bytes that begin with the first q of bs have it, and what ends before q is cut short
pub record MetAt (bs : List ℕ) (row q : ℕ) : Type 0 where
  pub there : q ≤ length bs
  pub held : (cs : List ℕ) → take q cs ≡ take q bs → form_refusal cs ≡ row
  pub before : (n : ℕ) → n < q → form_refusal (take n bs) ≡ 21

-- however much of bs is there, it ends early
abbrev pub EndsEarly : List ℕ → Type 0
EndsEarly bs = (n : ℕ) → n ≤ length bs → form_refusal (take n bs) ≡ 21

-- bytes that begin with bs and are not refused by 21
pub record Open (bs : List ℕ) : Type 0 where
  pub more : List ℕ
  pub bytes : AreBytes more
  pub other : form_refusal (bs ++ more) ≢ 21

-- a front of bs is a class file, and bytes continue after it
abbrev pub Continues : List ℕ → Type 0
Continues bs = (n : ℕ) × (n < length bs) × (form_refusal (take n bs) ≡ 0)

-- the bytes are a class file: none of their fronts is one, and nothing that they are the front of
pub record Alone (bs : List ℕ) : Type 0 where
  pub front : (n : ℕ) → n < length bs → form_refusal (take n bs) ≡ 21
  pub more : (b : ℕ) (rest : List ℕ) → form_refusal (bs ++ (b ∷ rest)) ≡ 21

-- ---- the theorems, for all bytes: "Of 21 and 22 the one met first, front to back, is given."

pub record FrontToBack (bs : List ℕ) : Type 0 where
  -- 1. There are four answers.
  pub answers : (form_refusal bs ≡ 0) ⊎ (form_refusal bs ≡ 20) ⊎ (form_refusal bs ≡ 21) ⊎ (form_refusal bs ≡ 22)
  -- 2. "20, first, if eight bytes are there and magic or version is wrong": whatever follows the eight.
  pub version : form_refusal bs ≡ 20 → MetAt bs 20 8
  -- 3. 22 is met at a place, whatever follows it; what ends before is 21.
  pub pool : form_refusal bs ≡ 22 → (q : ℕ) × MetAt bs 22 q
  -- 4. "21, if the bytes end early or continue after the last attribute": one of the two.
  pub ends : form_refusal bs ≡ 21 → EndsEarly bs ⊎ Continues bs
  -- 5. Of bytes that end early nothing has been met yet: with others after them they are a class file, or another row refuses them. So a front at
  -- which 22 is met is never told 21.
  pub unmet : AreBytes bs → EndsEarly bs → Open bs
  -- 6. No class file is the front of another.
  pub alone : form_refusal bs ≡ 0 → Alone bs
