-- The form of a class file (JVMS chapter 4), judged front to back: where each item ends, or the row that refuses it. Numbers are big-endian.
-- "Of 21 and 22 the one met first, front to back, is given": a test is made as soon as its own item has been taken. Assumes nothing.
use Rattle.std.specs.Prelude.{ℕ, zero, suc, ◌+◌, ◌*◌, Bool, cond, not, ◌&&◌, ◌||◌, List, length, get_or, eqb, leb, ltb, Result, Ok, Err}
use Rattle.refusal.specs.declared.Refusal.{Refusal}
use Rattle.refusal.specs.declared.Refusal.TheVariants.{WrongEnd, WrongPool}
use Rattle.refusal.specs.Rows.{row}

-- ---- numbers of two and four bytes

unfoldable pub u2 : List ℕ → ℕ → ℕ
u2 bs p = 256 * get_or bs p 0 + get_or bs (p + 1) 0

unfoldable pub u4 : List ℕ → ℕ → ℕ
u4 bs p = 65536 * u2 bs p + u2 bs (p + 2)

-- ---- a step goes on at a place, or is refused

abbrev pub Step : Type 0
Step = Result ℕ Refusal

-- what follows where nothing is refused
infixl 10 ◌>>=◌
abbrev pub ◌>>=◌ : {A B : Type 0} → Result A Refusal → (A → Result B Refusal) → Result B Refusal
Ok x >>= next = next x
Err refusal >>= next = Err refusal

-- an item of n bytes at p: "21, if the bytes end early"
unfoldable pub taken : List ℕ → ℕ → ℕ → Step
taken bs p n = cond (leb (p + n) (length bs)) (Ok (p + n)) (Err WrongEnd)

-- ---- the constant pool, JVMS 4.4

-- "JVMS 4.4's eleven for these versions": Utf8 1, Integer 3, Float 4, Long 5, Double 6, Class 7, String 8, Fieldref 9, Methodref 10,
-- InterfaceMethodref 11, NameAndType 12
unfoldable pub is_tag : ℕ → Bool
is_tag t = eqb t 1 || (leb 3 t && leb t 12)

-- "Long and Double constants take two pool places"
unfoldable pub is_wide : ℕ → Bool
is_wide t = eqb t 5 || eqb t 6

unfoldable pub places : ℕ → ℕ
places t = cond (is_wide t) 2 1

-- how many bytes follow the tag t, from p on
unfoldable pub body_size : List ℕ → ℕ → ℕ → ℕ
body_size bs t p =
    cond (eqb t 1) (2 + u2 bs p)
    (cond (is_wide t) 8
    (cond (eqb t 7 || eqb t 8) 2 4))

-- "22, if a pool tag is none of JVMS 4.4's eleven"; "one at the last place counts as a wrong tag"
unfoldable pub tag_ok : ℕ → ℕ → ℕ → Bool
tag_ok count i t = is_tag t && not (is_wide t && eqb (i + 1) count)

-- the constant of index i at p: its tag is judged before its body is looked at
unfoldable pub after_constant : List ℕ → ℕ → ℕ → ℕ → Step
after_constant bs count i p =
    taken bs p 1 >>= (λ q. cond (tag_ok count i (get_or bs p 0)) (taken bs q (body_size bs (get_or bs p 0) q)) (Err WrongPool))

-- the constants of index i on, at most k of them
unfoldable pub after_constants : List ℕ → ℕ → ℕ → ℕ → ℕ → Step
after_constants bs count zero i p = Ok p
after_constants bs count (suc k) i p =
    cond (ltb i count) (after_constant bs count i p >>= after_constants bs count k (i + places (get_or bs p 0))) (Ok p)

abbrev pub count_place : ℕ
count_place = 8

abbrev pub pool_place : ℕ
pool_place = 10

unfoldable pub pool_count : List ℕ → ℕ
pool_count bs = u2 bs count_place

unfoldable pub after_pool : List ℕ → Step
after_pool bs = taken bs count_place 2 >>= after_constants bs (pool_count bs) (pool_count bs) 1

-- ---- a constant by its index: "a pool reference used for a name, descriptor or class is outside the pool or has the wrong tag"

-- the place of constant i's tag, by the same walk, where the constant of index j stands at p; the second place of a Long or Double has none
unfoldable pub constant_from : List ℕ → ℕ → ℕ → ℕ → ℕ → Step
constant_from bs i zero j p = cond (eqb j i) (Ok p) (Err WrongPool)
constant_from bs i (suc k) j p =
    cond (ltb j i)
    (after_constant bs (pool_count bs) j p >>= constant_from bs i k (j + places (get_or bs p 0)))
    (cond (eqb j i) (Ok p) (Err WrongPool))

unfoldable pub constant_at : List ℕ → ℕ → Step
constant_at bs i = cond (leb 1 i && ltb i (pool_count bs)) (constant_from bs i i 1 pool_place) (Err WrongPool)

-- the same, if it has this tag
unfoldable pub tagged_at : List ℕ → ℕ → ℕ → Step
tagged_at bs t i = constant_at bs i >>= (λ p. cond (eqb (get_or bs p 0) t) (Ok p) (Err WrongPool))

unfoldable pub utf8_at : List ℕ → ℕ → Step
utf8_at bs i = tagged_at bs 1 i

-- the name of a Class
unfoldable pub class_at : List ℕ → ℕ → Step
class_at bs i = tagged_at bs 7 i >>= (λ p. utf8_at bs (u2 bs (p + 1)))

-- ---- the items after the pool: "Only the class's and parent's references and the members' names and descriptors are looked up, each when it
-- is read."

-- a reference at p, looked up once it has been taken
unfoldable pub after_reference : List ℕ → (ℕ → Step) → ℕ → Step
after_reference bs look_up p = do
  q ← taken bs p 2
  found ← look_up (u2 bs p)
  Ok q

unfoldable pub after_name : List ℕ → ℕ → Step
after_name bs p = do
  q ← taken bs p 2
  name ← utf8_at bs (u2 bs p)
  Ok q

unfoldable pub after_class : List ℕ → ℕ → Step
after_class bs p = do
  q ← taken bs p 2
  name ← class_at bs (u2 bs p)
  Ok q

-- "parent name (none if its reference is 0)"
unfoldable pub after_parent : List ℕ → ℕ → Step
after_parent bs p = cond (eqb (u2 bs p) 0) (taken bs p 2) (after_class bs p)

-- neither looked up nor yielded
unfoldable pub after_interfaces : List ℕ → ℕ → Step
after_interfaces bs p = taken bs p 2 >>= (λ q. taken bs q (2 * u2 bs p))

-- "attributes are passed by their lengths": a name, which is not looked up, a length, and so many bytes
unfoldable pub after_attribute : List ℕ → ℕ → Step
after_attribute bs p = taken bs p 6 >>= (λ q. taken bs q (u4 bs (p + 2)))

-- n items one after the other
unfoldable pub after_each : (ℕ → Step) → ℕ → ℕ → Step
after_each item zero p = Ok p
after_each item (suc n) p = item p >>= after_each item n

-- a count of two bytes, then so many items
unfoldable pub after_counted : List ℕ → (ℕ → Step) → ℕ → Step
after_counted bs item p = taken bs p 2 >>= after_each item (u2 bs p)

unfoldable pub after_attributes : List ℕ → ℕ → Step
after_attributes bs p = after_counted bs (after_attribute bs) p

-- access flags, name, descriptor, attributes
unfoldable pub after_member : List ℕ → ℕ → Step
after_member bs p = do
  name ← taken bs p 2
  descriptor ← after_name bs name
  attributes ← after_name bs descriptor
  after_attributes bs attributes

unfoldable pub after_members : List ℕ → ℕ → Step
after_members bs p = after_counted bs (after_member bs) p

-- ---- the file

-- access flags, this class, its parent and the interfaces, from the pool's end on
unfoldable pub after_head : List ℕ → ℕ → Step
after_head bs p = do
  class ← taken bs p 2
  parent ← after_class bs class
  interfaces ← after_parent bs parent
  after_interfaces bs interfaces

-- fields, methods and attributes, from the interfaces' end on
unfoldable pub after_body : List ℕ → ℕ → Step
after_body bs fields = do
  methods ← after_members bs fields
  attributes ← after_members bs methods
  after_attributes bs attributes

unfoldable pub after_file : List ℕ → Step
after_file bs = do
  head ← after_pool bs
  fields ← after_head bs head
  after_body bs fields

-- magic CAFEBABE and a major version of 45 to 48
unfoldable pub version_ok : List ℕ → Bool
version_ok bs = eqb (u4 bs 0) 3405691582 && leb 45 (u2 bs 6) && leb (u2 bs 6) 48

-- "or continue after the last attribute"
abbrev pub end_refusal : List ℕ → Step → ℕ
end_refusal bs (Ok p) = cond (eqb p (length bs)) 0 21
end_refusal bs (Err refusal) = row refusal

-- "20, first, if eight bytes are there and magic or version is wrong": the number that refuses the form, or 0
unfoldable pub form_refusal : List ℕ → ℕ
form_refusal bs =
    cond (leb 8 (length bs)) (cond (version_ok bs) (end_refusal bs (after_file bs)) 20) 21
