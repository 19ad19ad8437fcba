-- The records and strings of the members that are left, written over what is there, give the whole. Assumes nothing.
use Rattle.std.proofs.Common.{◌≡◌, ℕ, ◌+◌, ◌*◌, List, length}
use Rattle.class_sheet.specs.ClassSheet.{member_width}
use Rattle.linking.specs.Compiler.{New}
use Rattle.linking.specs.Set.{write_at, new_records, new_text}
use Rattle.class_file.proofs.Laws.{left}
use Rattle.class_file.proofs.put_members.Given as goal

pub record Written (records₀ text₀ : List ℕ) (start : ℕ) (all : List New) (records text : List ℕ) (i at : ℕ) (rest : List New) : Type 0 where
  pub records_are : write_at records (member_width * i) (new_records at rest) ≡ write_at records₀ 0 (new_records start all)
  pub text_is : write_at text at (new_text rest) ≡ write_at text₀ start (new_text all)
  pub end_is : at + length (new_text rest) ≡ start + length (new_text all)

abbrev pub invariant-loop-i : goal.invariant-loop-i
invariant-loop-i l =
    Written l.initial.records l.initial.text l.start (left l.pool.bytes.now l.lasts l.i-end 0 (l.p + 2)) l.records l.text l.i l.at
    (left l.pool.bytes.now l.lasts l.i-end l.i l.next)
