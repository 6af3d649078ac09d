-- Walks over any step relation with costs: shortest, first by section numbers, remaining distance, label rules.
-- What a step of a train is stands in Trip.antt.
-- Assumes nothing.
use Rattle.std.specs.Prelude.{◌≡◌, List, [], ◌∷◌, map, ℕ, ◌+◌, ◌≤◌, ◌<◌}
use Rattle.rules.specs.Plan.{sec}

-- [An admissible walk] the number that stands for "none"
abbrev pub no_distance : ℕ
no_distance = 4294967295

-- [An admissible walk] the steps between arrivals, what each costs, the arrivals at which a walk may end, and the finish room
pub record Net : Type 1 where
  pub Step : ℕ → ℕ → Type 0
  pub cost : ℕ → ℕ → ℕ
  pub Finish : ℕ → Type 0
  pub room : ℕ

-- [An admissible walk] the list of arrivals is a walk from the arrival a: step by step, to an arrival at which it may end; no steps at all is one too
pub data Walk (N : Net) : ℕ → List ℕ → Type 0 where
  here : {a : ℕ} → N.Finish a → Walk N a []
  onward : {a b : ℕ} {bs : List ℕ} → N.Step a b → Walk N b bs → Walk N a (b ∷ bs)

-- [An admissible walk] the costs of the steps of a list
abbrev pub costs : Net → ℕ → List ℕ → ℕ
costs N a [] = 0
costs N a (b ∷ bs) = N.cost a b + costs N b bs

-- [An admissible walk] the sum of costs and finish room
abbrev pub distance : Net → ℕ → List ℕ → ℕ
distance N a bs = costs N a bs + N.room

-- [An admissible walk] no walk from a is shorter
pub record Shortest (N : Net) (a : ℕ) (bs : List ℕ) : Type 0 where
  pub walk : Walk N a bs
  pub least : (cs : List ℕ) → Walk N a cs → distance N a bs ≤ distance N a cs

-- [An admissible walk] compared number by number from the front, the first list does not come after the second
pub data NotAfter : List ℕ → List ℕ → Type 0 where
  over : {ys : List ℕ} → NotAfter [] ys
  lower : {x y : ℕ} {xs ys : List ℕ} → x < y → NotAfter (x ∷ xs) (y ∷ ys)
  level : {x y : ℕ} {xs ys : List ℕ} → x ≡ y → NotAfter xs ys → NotAfter (x ∷ xs) (y ∷ ys)

-- [An admissible walk] of the shortest walks from a, the one whose list of sections is smallest
pub record FirstShortest (N : Net) (a : ℕ) (bs : List ℕ) : Type 0 where
  pub shortest : Shortest N a bs
  pub first : (cs : List ℕ) → Shortest N a cs → NotAfter (map sec bs) (map sec cs)

-- [An admissible walk] no walk leads on from a
abbrev pub NoWalk : Net → ℕ → Type 0
NoWalk N a = (bs : List ℕ) → Walk N a bs → ⊥

-- [An admissible walk] v is the remaining distance of a: the least sum of costs and finish room from it, or "none"
pub data Remaining (N : Net) (a v : ℕ) : Type 0 where
  no_walk : v ≡ no_distance → NoWalk N a → Remaining N a v
  by_walk : (bs : List ℕ) → Shortest N a bs → v ≡ distance N a bs → Remaining N a v

-- [The sheet] the label l is at most the cost c plus the label m, where "none" is above all numbers
pub data AtMost (l c m : ℕ) : Type 0 where
  above_all : m ≡ no_distance → AtMost l c m
  within : l < no_distance → l ≤ c + m → AtMost l c m

-- [The sheet] the two label rules at the arrival a
pub record KeepsRules (N : Net) (label : ℕ → ℕ) (a : ℕ) : Type 0 where
  pub at_finish : N.Finish a → label a ≤ N.room
  pub at_step : (b : ℕ) → N.Step a b → AtMost (label a) (N.cost a b) (label b)
