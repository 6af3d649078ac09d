-- `Trip::reverses` meets its contract: the table says whether the turn is forbidden.
-- Assumes nothing.
use mathlib.Core.Path.{◌∙◌}
use Rattle.steps.proofs.Reversing.{p_low, by_turn}
use Rattle.steps.proofs.trip.Trip.reverses.Goals as goal

pub is_forbidden-requires : goal.is_forbidden-requires
is_forbidden-requires c = p_low c.requires.passes c.requires.turned c.requires.link c.to_point-p.ensures

pub returns : goal.returns
returns c = rw c.yard.ensures.turns at c.is_forbidden.ensures ∙ by_turn c.requires.passes c.requires.turned c.requires.link c.to_point-p.ensures
