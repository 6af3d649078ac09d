-- The tables that a search reads besides the plan's own.
-- Assumes nothing.
use Rattle.std.specs.Prelude.{◌≡◌, ◌≢◌, Bool, false, ◌&&◌, ◌||◌, List, ℕ, ◌<◌, T, eqb, get_or, Option, None, Some}
use Rattle.rules.specs.Plan.{plan_of, of_sections, section_count, turn_count, touches, turn_section, turn_point}
use Rattle.rules.specs.Refusals.{verdict, passed}
use Rattle.rules.specs.PlanCheck.{plan_checks}
use Rattle.plan.specs.Ends.{Slots}
use Rattle.turns.specs.declared.yard.Turn.{Turn}
use Rattle.turns.specs.declared.yard.Yard.{Yard}

-- these are the sections and the turns of a plan that passes checks 1 to 6
pub record Passes (ss ts : List ℕ) : Type 0 where
  pub points : ℕ
  pub passes : verdict (plan_checks (plan_of points ss ts)) ≡ passed

-- turn t by its two sections
abbrev pub turn_of : List ℕ → List ℕ → ℕ → Turn
turn_of ss ts t = record { first = turn_section (plan_of 0 ss ts) t 0; second = turn_section (plan_of 0 ss ts) t 1 }

-- What the table says of point p where the first n turns have been put into it: the turn there, or that it has none.
pub data TurnAt (ss ts : List ℕ) (table : List (Option Turn)) (n p : ℕ) : Type 0 where
  turn : (t : ℕ) → t < n → turn_point (plan_of 0 ss ts) t ≡ p → get_or table p None ≡ Some (turn_of ss ts t) → TurnAt ss ts table n p
  no_turn : ((t : ℕ) → t < n → turn_point (plan_of 0 ss ts) t ≢ p) → get_or table p None ≡ None → TurnAt ss ts table n p

-- all turns have been put into it
pub record TurnTable (ss ts : List ℕ) (table : List (Option Turn)) : Type 0 where
  pub at : (p : ℕ) → p < 768 → TurnAt ss ts table (turn_count (plan_of 0 ss ts)) p

-- sections h and e are those of the turn, one way or the other
abbrev pub is_between : Turn → ℕ → ℕ → Bool
is_between t h e = (eqb t.first h && eqb t.second e) || (eqb t.first e && eqb t.second h)

-- sections h and e are, by such a table, the turn of point p
abbrev pub forbidden_by : List (Option Turn) → ℕ → ℕ → ℕ → Bool
forbidden_by table p h e = elim (get_or table p None) [ Some t ↦ is_between t h e | None ↦ false ]

-- all that is known of the tables that a search reads: the sections at each point, and its turn
pub record Tables (ss ts slots : List ℕ) (table : List (Option Turn)) : Type 0 where
  pub checked : Passes ss ts
  pub slotted : Slots ss slots
  pub turned : TurnTable ss ts table

-- the plan of a yard passes, and its tables are right
abbrev pub Ready : Yard → Type 0
Ready y = Tables y.plan.sections.now y.plan.turns.now y.slots.now y.turns.now

-- a train can have come over section h to the point p
pub record Arrived (ss : List ℕ) (h p : ℕ) : Type 0 where
  pub inside : h < section_count (of_sections ss)
  pub touch : T (touches (of_sections ss) h p)
