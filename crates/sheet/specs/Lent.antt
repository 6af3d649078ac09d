-- A sheet as it is lent, and a trip that is ready for it.
-- Assumes nothing.
use Rattle.std.specs.Prelude.{length}
use Rattle.rules.specs.Sheet as rules
use Rattle.train.specs.Asked.{query_lent, Accepted}
use Rattle.turns.specs.Tables.{Tables}
use Rattle.steps.specs.declared.trip.Trip.{Trip}
use Rattle.sheet.specs.declared.Sheet.{Sheet}

-- the sheet that is lent
abbrev pub sheet_lent : Sheet → rules.Sheet
sheet_lent h = rules.sheet_of h.claim h.list.now h.labels.now

-- refusals 1 to 11 do not apply to the query of the trip with the labels of the sheet, and the tables of the trip are right
pub record ReadyFor (t : Trip) (h : Sheet) : Type 0 where
  pub accepted : Accepted (query_lent t.query) (length h.labels.now)
  pub tables : Tables t.query.plan.sections.now t.query.plan.turns.now t.slots.now t.turns.now
