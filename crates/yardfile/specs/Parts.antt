-- A yard file as the runs of which it is made.
-- Assumes nothing.
use Rattle.std.specs.Prelude.{◌≡◌, Bool, ◌&&◌, Result, Ok, Err, List, ℕ, ◌*◌, ◌≤◌, leb, length}
use Rattle.std.proofs.Math.Option.{none, some}
use Rattle.rules.specs.YardFile.{fault, lent_of}
use Rattle.rules.specs.YardFile as rules
use Rattle.rules.specs.declared.refusal.Refusal.{Refusal}
use Rattle.rules.specs.declared.refusal.Refusal.TheVariants.{File}
use Rattle.yardfile.specs.Runs.{IsField, Ran}
use Rattle.yardfile.specs.declared.Lent.{Lent}
use Rattle.yardfile.specs.declared.Parts.{Parts}

-- three runs from byte 5 on, each from the end of the one before
pub record Parted (s : List ℕ) (h : Parts) : Type 0 where
  pub sections : Ran s 2 5 h.sections
  pub turns : Ran s 3 h.sections.end h.turns
  pub queries : Ran s 4 h.turns.end h.queries

-- the file is the field of tag 1 and three runs, and has no fault
pub record Whole (s : List ℕ) (h : Parts) : Type 0 where
  pub sound : fault s ≡ none
  pub first : IsField s 1 0
  pub parted : Parted s h
  pub ends : length s ≤ h.queries.end

-- what each answer of the survey says: the runs of a file without a fault, or the refusal at its first fault
abbrev pub Surveys : List ℕ → Result Parts Refusal → Type 0
Surveys s (Ok h) = Whole s h
Surveys s (Err r) = (p : ℕ) × ((fault s ≡ some p) × (r ≡ File p))

-- the lent tables as the rules have them
abbrev pub tables_of : Lent → rules.Lent
tables_of l = lent_of l.sections.now l.turns.now l.queries.now

-- the tables of three runs fit the lent ones
abbrev pub parts_fit : Parts → rules.Lent → Bool
parts_fit h lent =
    leb (h.sections.count * 6) (length lent.sections) && leb (h.turns.count * 2) (length lent.turns) && leb (h.queries.count * 5) (length lent.queries)
