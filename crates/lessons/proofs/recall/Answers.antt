-- `recall` meets its contract: the lesson that was found, with its reasons; of the row, at most the place of the next lesson changes.
-- Assumes nothing.
use mathlib.Core.Path.{refl}
use native.Mathlib.Omega.{arith}
use borrow.Author.Rules.{rules}
use Rattle.lessons.proofs.Remembering.{telling}
use Rattle.lessons.proofs.recall.Goals as goal

pub returns : goal.returns
returns c = telling {lesson = c.in_ok-lesson.lesson.now} _ (omega arith) refl c.in_ok-which.ensures (search rules) (rw c.kept.ensures at c.load.ensures)
