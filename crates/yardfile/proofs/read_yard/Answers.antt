-- `read_yard` meets its contract: the three lengths are tested before anything is written.
-- Assumes nothing.
use Rattle.rules.specs.YardFile.{lent_of}
use Rattle.yardfile.proofs.Reading.{tested, refused_14, answered}
use Rattle.yardfile.proofs.read_yard.Goals as goal

pub returns-then-not-fits : goal.returns-then-not-fits
returns-then-not-fits c =
    let lent = lent_of c.args.sections.now c.args.turns.now c.args.queries.now in
    let w = c.in_ok-parts.ensures in
    refused_14 lent w (tested w lent c.fits.ensures c.if-not-fits.true)

pub put-requires-clause-room : goal.put-requires-clause-room
put-requires-clause-room c =
    let lent = lent_of c.args.sections.now c.args.turns.now c.args.queries.now in
    let w = c.in_ok-parts.ensures in
    tested w lent c.fits.ensures c.if-not-fits.false

pub returns : goal.returns
returns c =
    let lent = lent_of c.args.sections.now c.args.turns.now c.args.queries.now in
    let w = c.in_ok-parts.ensures in
    let room = tested w lent c.fits.ensures c.if-not-fits.false in
    answered lent {out = lent_of _ _ _} w room c.number_of.ensures c.put.ensures
