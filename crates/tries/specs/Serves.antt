-- What is said of a search, by the turn that it serves.
-- Assumes nothing.
use Rattle.std.specs.Prelude.{◌≡◌, List, ℕ}
use Rattle.points.specs.declared.Points.{Points}
use Rattle.turns.specs.declared.enter.Serving.{Serving}
use Rattle.lessons.specs.declared.lesson.Row.{Row}
use Rattle.lessons.specs.Table.{Lessons}
use Rattle.tries.specs.declared.marks.Try.{Try}
use Rattle.tries.specs.declared.look.Look.{Look}
use Rattle.tries.specs.declared.search.Search.{Search}
use Rattle.tries.specs.Marks.{marked}
use Rattle.tries.specs.Looked.{Goes, Looked}
use Rattle.tries.specs.Fails.{Fails}

-- the lists that a try looks for, when it has come over section h to p
abbrev pub Seeks : Serving → Try → ℕ → ℕ → List ℕ → Type 0
Seeks w t h p qs = Goes w.yard.now.plan.sections.now w.yard.now.plan.turns.now w.from w.onto t h p qs

-- what a look at section e tells a try that has come over section h to p
abbrev pub LookedFor : Serving → Try → ℕ → ℕ → ℕ → Look → Type 0
LookedFor w t h p e r = Looked w.yard.now.plan.sections.now w.yard.now.plan.turns.now w.from w.onto (marked t) t.left h p e r

-- what a try in vain tells
abbrev pub FailsFor : Serving → Try → ℕ → ℕ → (List ℕ → Type 0) → Points → Points → ℕ → Type 0
FailsFor w t h p Kind ws us most = Fails w.yard.now.plan.sections.now w.yard.now.plan.turns.now w.from w.onto t h p Kind ws us most

-- the lessons in the table are right
abbrev pub Taught : Serving → List Row → Type 0
Taught w memo = Lessons w.yard.now.plan.sections.now w.yard.now.plan.turns.now w.from w.onto memo

-- the search a is that of b: for the same turn, with the same table and list lent to it, whatever stands in them
pub record SameLent (b a : Search) : Type 0 where
  pub serving : a.serving ≡ b.serving
  pub memo : a.memo.ghost_name ≡ b.memo.ghost_name
  pub out : a.out.ghost_name ≡ b.out.ghost_name
