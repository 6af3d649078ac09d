-- What a try in vain tells.
-- Assumes nothing.
use Rattle.std.specs.Prelude.{List, ℕ}
use Rattle.points.specs.declared.Points.{Points}
use Rattle.points.specs.Points.{member, Among}
use Rattle.lessons.specs.Limit.{Hopeless}
use Rattle.tries.specs.declared.marks.Try.{Try}
use Rattle.tries.specs.Marks.{marked}

-- there is no list of this kind for the try t, come over section h to p: it gets no further than `most`, because of the set us, which
-- has all points of the set ws before
pub record Fails (ss ts : List ℕ) (c s : ℕ) (t : Try) (h p : ℕ) (Kind : List ℕ → Type 0) (ws us : Points) (most : ℕ) : Type 0 where
  pub more : Among (member ws) (member us)
  pub hopeless : Hopeless ss ts c s h p Kind (marked t) t.left (member us) most
