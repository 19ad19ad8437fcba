-- The numbers of the refusals: "An accepted call gives 0 and its result; a refused one gives its number". Assumes nothing.
use Rattle.std.specs.Prelude.{ℕ, Result, Ok, Err}
use Rattle.refusal.specs.declared.Refusal.{Refusal}
use Rattle.refusal.specs.declared.Refusal.TheVariants.{Blocks, CheckWord, Form, Record, Descriptor, Class, Area, FewWords, MixedIndices, ManyWords, MovedSlot, TakenSlot, ManySlots, FullLists, ShortMemory, Unimplemented, NotFresh, ShortBytes, Ring, NotClassFile, WrongEnd, WrongPool, LostStatics, ShortBitmap, ShortList, MixedPackages}

abbrev pub row : Refusal → ℕ
row Blocks = 1
row CheckWord = 2
row Form = 3
row Record = 4
row Descriptor = 5
row Class = 6
row Area = 7
row FewWords = 8
row MixedIndices = 9
row ManyWords = 10
row MovedSlot = 11
row TakenSlot = 12
row ManySlots = 13
row FullLists = 14
row ShortMemory = 15
row Unimplemented = 16
row NotFresh = 17
row ShortBytes = 18
row Ring = 19
row NotClassFile = 20
row WrongEnd = 21
row WrongPool = 22
row LostStatics = 23
row ShortBitmap = 24
row ShortList = 25
row MixedPackages = 26

-- the number that an answer gives: the row that refuses, or 0
abbrev pub row_of : {A : Type 0} → Result A Refusal → ℕ
row_of (Ok x) = 0
row_of (Err refusal) = row refusal
