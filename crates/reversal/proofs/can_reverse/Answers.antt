-- A guess that has missed says that there is none.
-- Assumes nothing.
use Rattle.std.proofs.Common.{◌≡◌, true}
use Rattle.std.specs.Option.{is_some}
use Rattle.reversal.specs.Glanced.{TakesFrom}
use Rattle.reversal.proofs.Guessing.{guess_missed}
use Rattle.reversal.proofs.Reversing.{none_reverses}
use Rattle.reversal.proofs.can_reverse.Goals as goal

pub returns-then-missed : goal.returns-then-missed
returns-then-missed c =
    let start = c.start-start.ensures in
    let e : is_some c.guess_point.result ≡ true = cc in
    none_reverses (rw (start.starts.over, start.point, start.whole) at (guess_missed (TakesFrom c.args.serving.now c.start-start.result) _ _ c.guess_point.ensures e))
