-- `Lent::put` meets its contract: each run of the file is one of its tables.
-- Assumes nothing.
use Rattle.yardfile.specs.Parts.{tables_of}
use Rattle.yardfile.proofs.Reading.{room, in_places}
use Rattle.yardfile.proofs.Lent.put.Goals as goal

pub put_rows-requires : goal.put_rows-requires
put_rows-requires c =
    let lent = tables_of c.args.self in
    record { follow = c.requires.whole.parted.sections.follow; room = (room c.requires.whole lent c.requires.room).sections }

pub put_rows-requires-2 : goal.put_rows-requires-2
put_rows-requires-2 c =
    let lent = tables_of c.args.self in
    record { follow = c.requires.whole.parted.turns.follow; room = (room c.requires.whole lent c.requires.room).turns }

pub put_rows-requires-3 : goal.put_rows-requires-3
put_rows-requires-3 c =
    let lent = tables_of c.args.self in
    record { follow = c.requires.whole.parted.queries.follow; room = (room c.requires.whole lent c.requires.room).queries }

pub returns : goal.returns
returns c =
    let third = c.put_rows-3 in
    let lent = tables_of c.args.self in
    in_places lent c.requires.whole (room c.requires.whole lent c.requires.room) c.put_rows.ensures c.put_rows-2.ensures third.ensures
