use mathlib.Core.Path.{refl}
use native.Mathlib.Omega.{arith}
use Rattle.yardfile.proofs.Following.{going_more}
use Rattle.yardfile.proofs.run.run_from.Goals as goal

pub loop-count-preserved : goal.loop-count-preserved
loop-count-preserved c =
    let step = c.field_bytes-step in
    going_more step.result c.loop-count.invariant (omega arith) (c.if-not-is_field.ensures.0 refl) step.ensures
