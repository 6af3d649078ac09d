-- Admissible steps and walks of one train.
-- The rules read a trip and not a query: what a query means for them is said once, in `trip_of`.
-- Assumes nothing.
use Rattle.std.specs.Prelude.{◌≡◌, ◌≢◌, Bool, cond, not, ◌&&◌, List, [], ◌∷◌, ℕ, ◌+◌, ◌<◌, T, eqb}
use Rattle.rules.specs.Plan.{Plan, len, is_free, end_at, arrivals, to_point, from_point, sec, forbidden}
use Rattle.rules.specs.Query.{Query, start_arrival, first_distance, finish_room}
use Rattle.rules.specs.Net.{Net, distance}
use Rattle.rules.specs.PullOut.{PullOut, any_section}

-- [An admissible walk] the tables, the length that a pull-out has to take and a reversal costs, the sections that a step may enter, those that a
-- pull-out may use, the point and the section at which a walk ends, and the room there
pub record Trip : Type 0 where
  pub plan : Plan
  pub need : ℕ
  pub may_step : ℕ → Bool
  pub may_pull : ℕ → Bool
  pub goal : ℕ
  pub finish : ℕ
  pub room : ℕ

module _ (t : Trip) where
  -- [An admissible walk] the turn of a step from arrival a to arrival b is forbidden: the step is a reversal, and else it runs on
  abbrev pub reverses : ℕ → ℕ → Bool
  reverses a b = forbidden t.plan (sec a) (sec b)

  -- [An admissible walk] a step leaves the point of arrival a over another section, which may be entered, to that section's far end;
  -- a reversal asks for a pull-out
  pub record Step (a b : ℕ) : Type 0 where
    pub from : a < arrivals t.plan
    pub to : b < arrivals t.plan
    pub joined : from_point t.plan b ≡ to_point t.plan a
    pub other : sec b ≢ sec a
    pub may : T (t.may_step (sec b))
    pub turn : T (reverses a b) → (qs : List ℕ) × PullOut t.plan t.may_pull t.need (sec a) (to_point t.plan a) (sec b) qs

  -- [An admissible walk] what a step costs: the section's length, and for a reversal the train's length before it
  abbrev pub cost : ℕ → ℕ → ℕ
  cost a b = cond (reverses a b) t.need 0 + len t.plan (sec b)

  -- [An admissible walk] a walk may end at an arrival at the finish point over a section other than the finish section
  pub record Finish (a : ℕ) : Type 0 where
    pub inside : a < arrivals t.plan
    pub point : to_point t.plan a ≡ t.goal
    pub over : sec a ≢ t.finish

  -- [An admissible walk] the steps, their costs, the ends and the room of a trip
  abbrev pub net_of : Net
  net_of = record { Step = Step; cost = cost; Finish = Finish; room = t.room }

  -- [An admissible walk] how many steps of a list are reversals
  abbrev pub reversals : ℕ → List ℕ → ℕ
  reversals a [] = 0
  reversals a (b ∷ bs) = cond (reverses a b) 1 0 + reversals b bs

-- [An admissible walk] what a query means: a step may enter a free section that is neither the finish nor the start section, which counts as occupied
abbrev pub trip_of : Query → Trip
trip_of q = record {
  plan = q.plan;
  need = q.train;
  may_step = λ s. is_free q.plan s && not (eqb s q.finish) && not (eqb s q.start);
  may_pull = any_section;
  goal = end_at q.plan q.finish q.finish_end;
  finish = q.finish;
  room = finish_room q;
}

-- [An admissible walk] the steps of a query's train
abbrev pub query_net : Query → Net
query_net q = net_of (trip_of q)

-- [An admissible walk] a walk's total: first distance, costs and finish room
abbrev pub total : Query → List ℕ → ℕ
total q bs = first_distance q + distance (query_net q) (start_arrival q) bs

-- [An admissible walk] a walk's number of reversals
abbrev pub walk_reversals : Query → List ℕ → ℕ
walk_reversals q bs = reversals (trip_of q) (start_arrival q) bs
