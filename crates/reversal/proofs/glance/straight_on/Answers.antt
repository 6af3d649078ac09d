use Rattle.turns.proofs.Entering.{arrived_low}
use Rattle.reversal.proofs.glance.straight_on.Goals as goal

pub slots_of-e-items-requires : goal.slots_of-e-items-requires
slots_of-e-items-requires c = arrived_low c.requires.ready.checked c.requires.came
