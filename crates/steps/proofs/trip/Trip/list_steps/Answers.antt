-- `Trip::list_steps` meets its contract: the ends are marked in rows whose steps stay.
-- Assumes nothing.
use Rattle.std.proofs.Common.{arith}
use Rattle.steps.proofs.Marking.{kept_table}
use Rattle.steps.proofs.trip.Trip.list_steps.Goals as goal

pub returns : goal.returns
returns c = record {
  steps = kept_table c.fill_ends.ensures.kept c.fill_steps.ensures.steps;
  endings = c.fill_ends.ensures.ends;
  long = omega arith;
}
