-- `solve::solve_sized` meets its contract: what solves the table's net solves the query.
-- Assumes nothing.
use Rattle.std.proofs.Common.{arith, rules}
use Rattle.rules.specs.declared.net.NetTable.{NetTable}
use Rattle.search.proofs.Solving.{listing_table, solved_query}
use Rattle.search.proofs.solve.solve_sized.Goals as goal

pub whole_as_front-rows : goal.whole_as_front-rows
whole_as_front-rows g c = (omega (arith, c.requires.lent.one_each, c.requires.rows_fit), omega (arith, c.requires.small))

pub solve_over-requires-clause-table : goal.solve_over-requires-clause-table
solve_over-requires-clause-table g c = listing_table c.requires.ready.sound _ c.list_steps.ensures (search rules) c.finish_room.ensures

pub returns : goal.returns
returns g c =
    -- where the rows stand plays no part
    let net : NetTable = record { rows = record { ref_ptr = (0, 0); now = c.list_steps.new.rows }; room = c.finish_room.result } in
    solved_query c.requires.ready.sound net c.list_steps.ensures (search rules) c.finish_room.ensures c.start_arrival-from.ensures c.solve_over.ensures
