use native.Mathlib.Omega.{arith}
use Rattle.points.proofs.Words.{added, both}
use Rattle.points.proofs.Points.add.Goals as goal

pub returns : goal.returns
returns c =
    added (both c.args.self.now.words c.args.more.now.words c.loop-i.word-items {n = 24} (omega arith) (omega arith) (omega arith) (λ j l. c.loop-i.invariant.done j (omega arith)))
