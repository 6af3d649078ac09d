-- The step over one section, and the row of an arrival.
-- Assumes nothing.
use Rattle.std.specs.Prelude.{◌≡◌, ◌≢◌, ◌⊎◌, Bool, cond, List, ℕ, ◌+◌, ◌*◌, ◌≤◌, ◌<◌, eqb, Option, MatchOption}
use Rattle.rules.specs.Plan.{of_sections, section_count, end_A, arrivals, to_point, sec}
use Rattle.rules.specs.Net.{no_distance}
use Rattle.rules.specs.Trip as rules
use Rattle.rules.specs.declared.net.Row.{Row}
use Rattle.rules.specs.declared.net.Step as rows
use Rattle.plan.specs.Lent.{plan_lent}
use Rattle.train.specs.Asked.{query_lent}
use Rattle.turns.specs.Tables.{Tables, Arrived}
use Rattle.steps.specs.declared.trip.Trip.{Trip}
use Rattle.steps.specs.Served.{Served}
use Rattle.steps.specs.StepTable.{Entry}

-- what the rules say of the query of a trip
abbrev pub rules_trip : Trip → rules.Trip
rules_trip t = rules.trip_of (query_lent t.query)

-- whether a step of it may enter section s
abbrev pub may_enter : Trip → ℕ → Bool
may_enter t = (rules_trip t).may_step

-- the plan of a trip passes, and its tables are right
abbrev pub RightTables : Trip → Type 0
RightTables t = Tables t.query.plan.sections.now t.query.plan.turns.now t.slots.now t.turns.now

-- all that is known of the tables that are read for a step
pub record StepTables (t : Trip) (served : List Bool) : Type 0 where
  pub tables : RightTables t
  pub serving : Served (plan_lent t.query.plan) (may_enter t) t.query.length served
  pub short : t.query.length ≤ 20000

-- the arrival a has come to p; where s is a section, it is another one at p
pub record Meets (ss : List ℕ) (a p s : ℕ) : Type 0 where
  pub from : a < arrivals (of_sections ss)
  pub point : p ≡ to_point (of_sections ss) a
  pub there : s < section_count (of_sections ss) → Arrived ss s p
  pub other : s < section_count (of_sections ss) → s ≢ sec a

-- the arrival over section s that is entered at p
unfoldable pub arrival_over : List ℕ → ℕ → ℕ → ℕ
arrival_over ss s p = 2 * s + cond (eqb (end_A (of_sections ss) s) p) 1 0

-- of sections x and y that stand at a point, one that is not c
abbrev pub other_than : ℕ → ℕ → ℕ → ℕ
other_than c x y = cond (eqb x c) y x

-- x is an admissible step from arrival a over section s, with its cost, and there is no other
pub record OnlyStep (t : rules.Trip) (a s : ℕ) (x : rows.Step) : Type 0 where
  pub over : sec x.next ≡ s
  pub entry : Entry t a x
  pub only : (d : ℕ) → rules.Step t a d → sec d ≡ s → d ≡ x.next

-- there is no step from arrival a over section s
abbrev pub NoStep : rules.Trip → ℕ → ℕ → Type 0
NoStep t a s = (d : ℕ) → rules.Step t a d → sec d ≡ s → ⊥

-- r is the step from arrival a over section s, or there is none
abbrev pub StepOver : rules.Trip → ℕ → ℕ → Option rows.Step → Type 0
StepOver t a s r = MatchOption r (NoStep t a s) (OnlyStep t a s)

-- what a row has for the step from arrival a over section s: the step, or what leads to "none" where there is none
pub record Held (t : rules.Trip) (a s : ℕ) (x : rows.Step) : Type 0 where
  pub over : x.next ≢ no_distance → sec x.next ≡ s
  pub entry : x.next ≢ no_distance → Entry t a x
  pub only : (d : ℕ) → rules.Step t a d → sec d ≡ s → d ≡ x.next

-- the row has the steps from arrival a, over two sections in ascending order
pub record StepsFrom (t : rules.Trip) (a : ℕ) (row : Row) : Type 0 where
  pub low : ℕ
  pub high : ℕ
  pub first : Held t a low row.first
  pub second : Held t a high row.second
  pub ascending : high ≢ no_distance → low < high
  pub all : (n : ℕ) → rules.Step t a n → (sec n ≡ low) ⊎ (sec n ≡ high)
