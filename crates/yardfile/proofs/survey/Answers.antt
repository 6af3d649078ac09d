-- `survey` meets its contract: after the four runs comes the first fault, or the end of the file.
-- Assumes nothing.
use mathlib.Core.Path.{refl}
use native.Mathlib.Omega.{arith}
use Rattle.yardfile.proofs.Surveying.{none_first, one_first, fault_after, whole, ends_early}
use Rattle.yardfile.proofs.survey.Goals as goal

pub returns-then-first-eq0 : goal.returns-then-first-eq0
returns-then-first-eq0 c = (0, (none_first c.run_from-first.ensures c.if-first-eq0.true, refl))

pub overflow_cast-result : goal.overflow_cast-result
overflow_cast-result c =
    let early = ends_early c.parts_of-parts.ensures in
    omega (arith, early)

pub returns-then-end-file : goal.returns-then-end-file
returns-then-end-file c =
    let end = c.parts_of-parts.result.queries.end in
    (end, (fault_after (one_first c.run_from-first.ensures c.if-first-eq0.false) c.parts_of-parts.ensures c.if-end-file.true, refl))

pub returns : goal.returns
returns c =
    whole (one_first c.run_from-first.ensures c.if-first-eq0.false) c.parts_of-parts.ensures (omega arith)
