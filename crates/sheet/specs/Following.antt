-- What is found of a list of arrivals that is followed over the table of steps.
-- Assumes nothing.
use Rattle.std.specs.Prelude.{◌≡◌, List, ℕ, min, Option, MatchOption}
use Rattle.rules.specs.Net.{no_distance, Net, Walk, costs}
use Rattle.rules.specs.Trip.{Trip, Step, cost}

-- there is no step from a to b, or there is one and it costs so much
abbrev pub StepCost : Trip → ℕ → ℕ → Option ℕ → Type 0
StepCost t a b r = MatchOption r (Step t a b → ⊥) (λ c. Step t a b × (c ≡ cost t a b))

-- the list is no walk from a, or it is one; its costs are exact below "none", and "none" from there on
abbrev pub WalkFound : Net → ℕ → List ℕ → Option ℕ → Type 0
WalkFound N a bs r = MatchOption r (Walk N a bs → ⊥) (λ s. Walk N a bs × (s ≡ min (costs N a bs) no_distance))
