-- The links of the queue of waiting arrivals.
-- Assumes nothing.
use Rattle.std.specs.Prelude.{List, ℕ, ◌<◌, get_or}
use Rattle.distance.specs.declared.queue.Node.{Node}
use Rattle.distance.specs.declared.queue.TheConstants.Node.{ALONE}

-- the nodes after and before each of the n nodes are two of them
abbrev pub Linked : ℕ → List Node → Type 0
Linked n nodes = (x : ℕ) → x < n → ((get_or nodes x ALONE).after < n) × ((get_or nodes x ALONE).before < n)
