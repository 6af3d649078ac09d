use Rattle.reversal.proofs.Reversing.{searched_reverses}
use Rattle.reversal.proofs.search_reversal.Goals as goal

pub returns : goal.returns
returns c v = rw c.is_some.ensures (searched_reverses (c.first_pull_out.ensures v))
