-- The C ABI's structs of numbers, for the numbers of an answer.
-- Assumes nothing.
use Rattle.std.specs.Prelude.{List, ℕ}
use Rattle.rules.specs.Refused.{verdict_of}
use Rattle.rules.specs.Search.{Numbers, refusal, Outcome}
use Rattle.rules.specs.YardFile.{Lent, Reading}
use Rattle.rules.specs.PullAnswer as rules
use Rattle.rules.specs.declared.refusal.Refusal.{Refusal}
use Rattle.rules.specs.declared.route.Route.{Route}
use Rattle.yardfile.specs.declared.Counts.{Counts}
use Rattle.finder.specs.declared.Answer.{Answer}
use Rattle.finder.specs.declared.Pull.{Pull}
use Rattle.finder.specs.declared.Yard.{Yard}

-- the numbers in the struct's fields of the same names
abbrev pub answer_of : Numbers → Answer
answer_of n = record { refusal = n.refusal; place = n.place; total = n.total; reversals = n.reversals; steps = n.steps }

-- what stands for a refusal: its number and place, and zeros
abbrev pub refused_answer : Refusal → Answer
refused_answer r = answer_of (refusal (verdict_of r))

-- what stands for a walk: its numbers, and zeros
abbrev pub route_answer : Route → Answer
route_answer r = record { refusal = 0; place = 0; total = r.total; reversals = r.reversals; steps = r.steps }

-- the struct's numbers, as the rules have them
abbrev pub answer_numbers : Answer → Numbers
answer_numbers r = record { refusal = r.refusal; place = r.place; total = r.total; reversals = r.reversals; steps = r.steps }

-- the same with the two lent buffers at exit
abbrev pub answer_result : Answer → List ℕ → List ℕ → Outcome
answer_result r route labels = record { numbers = answer_numbers r; route = route; labels = labels }

-- what stands for a pull-out that is refused
abbrev pub refused_pull : Refusal → Pull
refused_pull r = record { refusal = (verdict_of r).number; place = (verdict_of r).place; count = 0 }

-- the numbers of the struct with the lent list at exit, as the rules have them
abbrev pub pull_numbers : Pull → List ℕ → rules.Pulled
pull_numbers r list = record { refusal = r.refusal; place = r.place; count = r.count; list = list }

-- what stands for a file that is refused
abbrev pub refused_yard : Refusal → Yard
refused_yard r = record { refusal = (verdict_of r).number; place = (verdict_of r).place; points = 0; sections = 0; turns = 0; queries = 0 }

-- what stands for a file that is read: V and the three counts
abbrev pub counts_yard : Counts → Yard
counts_yard n = record { refusal = 0; place = 0; points = n.points; sections = n.sections; turns = n.turns; queries = n.queries }

-- the numbers of the struct with the lent tables at exit, as the rules have them
abbrev pub yard_reading : Yard → Lent → Reading
yard_reading r lent = record {
  refusal = r.refusal;
  place = r.place;
  points = r.points;
  sections = r.sections;
  turns = r.turns;
  queries = r.queries;
  tables = lent;
}
