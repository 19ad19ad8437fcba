-- By cases: a method of the sheet, an added one, or neither. Assumes nothing.
use Rattle.compiler.proofs.MethodLaws.{name_added}
use Rattle.compiler.proofs.Members.name_of.Goals as goal

pub returns-in-Some : goal.returns-in-Some
returns-in-Some c = search name_added
