-- The numbers of the search's answer, and the buffers that it left.
-- Assumes nothing.
use Rattle.finder.proofs.finder_search.Goals as goal

pub returns-in-Ok : goal.returns-in-Ok
returns-in-Ok c = rw c.into.ensures c.in-Ok.ensures

pub returns-in-Err : goal.returns-in-Err
returns-in-Err c = rw c.into-in-Err.ensures c.in-Err.ensures
