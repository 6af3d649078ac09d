use Rattle.reversal.proofs.Running.{running_first, running_more, running_last}
use Rattle.reversal.proofs.run.run.Goals as goal

pub loop-i-init : goal.loop-i-init
loop-i-init g c = running_first c.start-passed.ensures c.requires.starts

pub returns-in-Last : goal.returns-in-Last
returns-in-Last g c = λ z. running_last c.loop-i.invariant (c.requires.tells _ _ _ c.loop-i.invariant.came c.in-Last.ensures).1

pub loop-i-preserved : goal.loop-i-preserved
loop-i-preserved g c =
    running_more c.loop-i.invariant (c.requires.tells _ _ _ c.loop-i.invariant.came c.in-On.ensures).1
    (c.add.ensures.new c.if-not-add.false) (c.add.ensures.added c.if-not-add.false)
