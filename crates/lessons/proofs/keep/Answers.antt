-- `keep` meets its contract: the lesson, and where the next one goes, are all that is written.
-- Assumes nothing.
use mathlib.Core.Path.{refl}
use Prim.Native.Nat.{ℕ}
use native.Mathlib.Omega.{arith}
use Rattle.std.proofs.lemmas.List.{length-take}
use Rattle.lessons.proofs.Remembering.{writing, first_words}
use Rattle.lessons.proofs.keep.Goals as goal

pub returns : goal.returns
returns c =
    writing _ _ (omega arith) (omega arith) (omega arith) refl refl c.width-words.ensures
    (first_words c.args.why.now.words c.save.new.place _ (omega arith) c.save.auto.place c.save.ensures.words (omega (arith, length-take {A = ℕ})))
