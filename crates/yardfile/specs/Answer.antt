-- The answer of the reader as document 01's numbers, and what may be answered.
-- Assumes nothing.
use Rattle.std.specs.Prelude.{◌≡◌, Result, Ok, Err, List, ℕ}
use Rattle.rules.specs.Refused.{verdict_of}
use Rattle.rules.specs.YardFile.{Lent, Reading, unread, read}
use Rattle.rules.specs.declared.refusal.Refusal.{Refusal}
use Rattle.yardfile.specs.declared.Counts.{Counts}

-- the six numbers that each answer stands for, with the lent tables at exit
abbrev pub reading_of : Result Counts Refusal → Lent → Reading
reading_of (Ok c) lent = record { refusal = 0; place = 0; points = c.points; sections = c.sections; turns = c.turns; queries = c.queries; tables = lent }
reading_of (Err r) lent = unread (verdict_of r) lent

-- what may be answered to the file s where lent are the tables at entry and out those at exit
pub record Answers (s : List ℕ) (lent : Lent) (r : Result Counts Refusal) (out : Lent) : Type 0 where
  pub numbers : reading_of r out ≡ read s lent
