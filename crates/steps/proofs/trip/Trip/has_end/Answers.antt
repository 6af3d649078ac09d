-- `Trip::has_end` meets its contract: where nothing stands in the second slot of the finish point, only the finish is there.
-- Assumes nothing.
use mathlib.Core.Path.{refl, sym, ◌∙◌}
use borrow.Author.Tests.{not-false}
use lib.Dec.{eqb, eqb→eq}
use Rattle.rules.proofs.Tests.{says_true}
use Rattle.steps.proofs.NoEnds.{none_other}
use Rattle.steps.proofs.trip.Trip.has_end.Goals as goal

pub returns : goal.returns
returns c =
    λ z a w. none_other c.requires.indexed c.args.self.now.query.finish c.args.self.now.query.enter c.requires.finish c.requires.enter c.number-goal.ensures
    (rw c.yard.ensures.slots at c.slot_at.ensures) (eqb→eq c.slot_at.result 4294967295 (says_true (eqb c.slot_at.result 4294967295) (not-false (eqb c.slot_at.result 4294967295) z) refl))
    a w.inside (w.point ∙ sym c.number-goal.ensures) w.over
