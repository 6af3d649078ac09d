-- What the search has found decides between 16, 14 and success.
-- Assumes nothing.
use Rattle.std.proofs.Common.{arith}
use lib.Seq.{length-take-le}
use Rattle.tries.proofs.Finding.{searched_length}
use Rattle.pullout.specs.Asked.{reversal_lent}
use Rattle.pullout.proofs.Answering.{length_some, asked_arrives, found_low, nothing_found, too_long, written_out}
use Rattle.pullout.proofs.Reversal.find.Goals as goal

pub first_pull_out-requires-clause-arrived : goal.first_pull_out-requires-clause-arrived
first_pull_out-requires-clause-arrived c =
    let v = c.args.self.now in
    rw (c.requires.prepared.same, c.point.ensures)
    (asked_arrives v.plan.points v.plan.sections.now v.plan.turns.now v.length v.arrival v.section c.requires.passes)

pub first_pull_out-requires-clause-some : goal.first_pull_out-requires-clause-some
first_pull_out-requires-clause-some c = length_some (reversal_lent c.args.self.now) c.requires.passes

pub returns-in_default : goal.returns-in_default
returns-in_default c =
    let v = c.args.self.now in
    nothing_found (reversal_lent v) c.args.list.now c.requires.passes
    (rw (c.point.ensures) at (rw c.requires.prepared.same at (c.in_default.ensures v.plan.points)))

pub returns-then-list-count : goal.returns-then-list-count
returns-then-list-count c =
    let v = c.args.self.now in
    too_long (reversal_lent v) c.args.list.now c.requires.passes
    (rw (c.point.ensures) at (rw c.requires.prepared.same at (c.in-Some.ensures v.plan.points))) c.if-list-count.true

pub slice_bounds-found-end : goal.slice_bounds-found-end
slice_bounds-found-end c = let found = c.in-Some.ensures 0 in omega (arith, found_low found, searched_length found)

pub slice_bounds-copy_into-end : goal.slice_bounds-copy_into-end
slice_bounds-copy_into-end c =
    let found = c.in-Some.ensures 0 in
    omega (arith, length-take-le c.in-Some.count c.first_pull_out.new.out (omega (arith, found_low found, searched_length found)))

pub copy_into-requires : goal.copy_into-requires
copy_into-requires c =
    let found = c.in-Some.ensures 0 in
    omega (
      arith,
      length-take-le c.in-Some.count c.first_pull_out.new.out (omega (arith, found_low found, searched_length found)),
      length-take-le c.in-Some.count c.args.list.now (omega arith),
    )

pub returns : goal.returns
returns c =
    let v = c.args.self.now in
    rw c.copy_into.ensures
    (written_out (reversal_lent v) c.args.list.now c.requires.passes
    (rw (c.point.ensures) at (rw c.requires.prepared.same at (c.in-Some.ensures v.plan.points))) c.if-list-count.false)
