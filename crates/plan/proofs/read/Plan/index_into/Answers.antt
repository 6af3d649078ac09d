use Rattle.plan.proofs.SlotTable.{held_none, held_all, first_room, second_room, held_more}
use Rattle.plan.proofs.read.Plan.index_into.Goals as goal

pub loop-s-init : goal.loop-s-init
loop-s-init c = rw c.requires.empty (held_none c.requires.joined c.requires.three c.section_count-s-end.ensures)

pub place-requires : goal.place-requires
place-requires c =
    let ends = c in
    let h = first_room ends.loop-s.invariant ends.loop-s-test.true ends.number-a.ensures ends.number-b.ensures in
    record { point = h.0; room = h.1 }

pub place-requires-in-loop-s : goal.place-requires-in-loop-s
place-requires-in-loop-s c =
    let ends = c in
    let h = second_room ends.loop-s.invariant ends.loop-s-test.true ends.number-a.ensures ends.number-b.ensures c.place.ensures.filled in
    record { point = h.0; room = h.1 }

pub loop-s-preserved : goal.loop-s-preserved
loop-s-preserved c =
    let ends = c in
    let first = c.place.ensures in
    held_more ends.loop-s.invariant ends.loop-s-test.true ends.number-a.ensures ends.number-b.ensures
    first.filled first.placed c.place-in-loop-s.ensures.filled c.place-in-loop-s.ensures.placed

pub returns : goal.returns
returns c = held_all c.loop-s.invariant c.loop-s-test.false
