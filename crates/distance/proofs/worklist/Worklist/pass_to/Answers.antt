-- `worklist::Worklist::pass_to` meets its contract: the label is lowered to what the step offers, if at all.
-- Assumes nothing.
use native.Mathlib.Omega.{arith}
use borrow.Author.Rules.{rules}
use Rattle.distance.proofs.Offers.{step_read, known_offered}
use Rattle.distance.proofs.Lowering.{lowered_kept}
use Rattle.distance.proofs.worklist.Worklist.pass_to.Goals as goal

pub returns-then-lower-clause-kept : goal.returns-then-lower-clause-kept
returns-then-lower-clause-kept g c =
    lowered_kept (omega arith)
    (known_offered _ _ _ (step_read _ _ _ _ c.step_at-step.ensures (omega arith)) c.requires.in_bounds (search rules) c.saturating_add-v.ensures)
    c.lower.ensures
