use Rattle.std.proofs.Common.{arith}
use Rattle.turns.proofs.Entering.{arrived_low}
use Rattle.reversal.proofs.Glancing.{leads_takes}
use Rattle.reversal.proofs.Guessing.{guess_shut, guess_on, missed_all}
use Rattle.reversal.proofs.guess.+guess_point_guess_section.Goals as goal

pub guess_point-slots_of-e-items-requires : goal.guess_point-slots_of-e-items-requires
guess_point-slots_of-e-items-requires t c = arrived_low c.requires.ready.checked c.requires.came

pub guess_point-returns : goal.guess_point-returns
guess_point-returns t c = missed_all c.requires.ready c.loop-e.invariant (omega (arith, c.loop-e-test.false, c.slots_of-e-items.ensures.long))

pub guess_section-returns-in-Shut : goal.guess_section-returns-in-Shut
guess_section-returns-in-Shut t c = guess_shut c.in-Shut.ensures

pub guess_section-returns-in-On : goal.guess_section-returns-in-On
guess_section-returns-in-On t c = guess_on _ _ _ _ c.guess_point.result (leads_takes c.in-On.ensures) c.guess_point.ensures
