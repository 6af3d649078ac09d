-- `search_sized` meets its contract: a table filled with nothing holds no wrong lesson, the first try marks p alone, and a point's try finds
-- the smallest way.
-- Assumes nothing.
use Rattle.std.proofs.Common.{rules}
use Rattle.turns.proofs.Entering.{arrived_low}
use Rattle.lessons.proofs.Remembering.{blank_lessons}
use Rattle.tries.proofs.Finding.{searched}
use Rattle.tries.proofs.search_sized.Goals as goal

pub first-requires : goal.first-requires
first-requires g c = arrived_low c.requires.ready.checked c.requires.arrived

pub try_point-requires-clause-taught : goal.try_point-requires-clause-taught
try_point-requires-clause-taught g c = blank_lessons _

pub returns : goal.returns
returns g c =
    searched c.args.serving.now.from c.args.serving.now.onto c.first.ensures c.requires.some c.try_point.ensures.tried c.ok.ensures.value
    (search rules)
