-- `accept` meets its contract: an accepted list is shortest, and the start's label is its distance.
-- Assumes nothing.
use Rattle.std.proofs.Common.{length}
use Rattle.rules.proofs.Sound.{label_length}
use Rattle.train.specs.Asked.{query_lent}
use Rattle.steps.proofs.Routing.{ready}
use Rattle.sheet.proofs.Answering.{shortest, start_label, walk_accepted}
use Rattle.sheet.proofs.accept.Goals as goal

pub route-requires-clause-ready : goal.route-requires-clause-ready
route-requires-clause-ready c =
    ready c.args.trip.now (length c.args.sheet.now.labels.now) c.requires.ready.accepted c.requires.ready.tables

pub route-requires-clause-one_each : goal.route-requires-clause-one_each
route-requires-clause-one_each c = label_length (query_lent c.args.trip.now.query) (length c.args.sheet.now.labels.now) c.requires.ready.accepted

pub route-requires-clause-shortest : goal.route-requires-clause-shortest
route-requires-clause-shortest c = shortest (query_lent c.args.trip.now.query) c.requires.ready.accepted c.requires.passes c.if-sheet-eq0.false

pub route-requires-clause-label : goal.route-requires-clause-label
route-requires-clause-label c = start_label (query_lent c.args.trip.now.query) c.requires.ready.accepted c.requires.passes c.if-sheet-eq0.false

pub returns : goal.returns
returns c =
    let numbers = c.route.ensures in
    walk_accepted (query_lent c.args.trip.now.query) c.requires.ready.accepted c.requires.passes c.if-sheet-eq0.false numbers.total numbers.reversals numbers.steps
