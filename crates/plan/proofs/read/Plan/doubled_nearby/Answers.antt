use Rattle.std.proofs.Common.{arith}
use Rattle.plan.proofs.Nearby.{looked_none, nothing_nearby, twin_nearby, looked_more, slot_inside}
use Rattle.plan.proofs.read.Plan.doubled_nearby.Goals as goal

pub loop-r-init : goal.loop-r-init
loop-r-init c = looked_none c.requires.indexed c.requires.inside c.number-a.ensures

pub returns-then-r-s : goal.returns-then-r-s
returns-then-r-s c =
    let slots = c.slots_of-r-items.ensures in
    nothing_nearby c.loop-r.invariant (slots.each c.loop-r.r-index (omega (arith, slots.long))) c.if-r-s.true

pub returns-then-same_ends : goal.returns-then-same_ends
returns-then-same_ends c =
    let slots = c.slots_of-r-items.ensures in
    twin_nearby c.loop-r.invariant (slots.each c.loop-r.r-index (omega (arith, slots.long))) c.if-r-s.false c.same_ends.ensures c.if-same_ends.true

pub loop-r-preserved : goal.loop-r-preserved
loop-r-preserved c =
    let slots = c.slots_of-r-items.ensures in
    looked_more c.loop-r.invariant (slots.each c.loop-r.r-index (omega (arith, slots.long))) c.if-r-s.false c.same_ends.ensures c.if-same_ends.false

-- three slots passed: the own one would be a fourth
pub returns : goal.returns
returns c = absurd (omega (arith, c.slots_of-r-items.ensures.long, slot_inside c.loop-r.invariant))
