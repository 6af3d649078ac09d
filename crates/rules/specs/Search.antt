-- What the search answers, and what both lent buffers hold afterwards: numbers 1 to 14.
-- Assumes nothing.
use Rattle.std.specs.Prelude.{◌≡◌, ◌≢◌, List, [], ◌∷◌, ◌++◌, ℕ, ◌<◌, ltb, length, get_or, drop}
use Rattle.rules.specs.Plan.{arrivals}
use Rattle.rules.specs.Refusals.{Verdict, Check, passed, refused_at, once, verdict}
use Rattle.rules.specs.Query.{Query, start_arrival, query_checks}
use Rattle.rules.specs.Net.{no_distance, FirstShortest, NoWalk, Remaining}
use Rattle.rules.specs.Trip.{query_net, total, walk_reversals}

-- [Refusal numbers] the five numbers of an answer; refusal 0 is success
pub record Numbers : Type 0 where
  pub refusal : ℕ
  pub place : ℕ
  pub total : ℕ
  pub reversals : ℕ
  pub steps : ℕ

-- [Refusal numbers] with a refusal every number but its own and the place is 0
abbrev pub refusal : Verdict → Numbers
refusal v = record { refusal = v.number; place = v.place; total = 0; reversals = 0; steps = 0 }

-- [Refusal numbers] the total, the reversals and the steps of a walk
abbrev pub success : Query → List ℕ → Numbers
success q bs = record { refusal = 0; place = 0; total = total q bs; reversals = walk_reversals q bs; steps = length bs }

-- [Refusal numbers] an answer, and the two buffers at exit
pub record Outcome : Type 0 where
  pub numbers : Numbers
  pub route : List ℕ
  pub labels : List ℕ

-- [Refusal numbers] one label for each arrival, and each is the remaining distance of its arrival
pub record Labelled (q : Query) (ls : List ℕ) : Type 0 where
  pub long : length ls ≡ arrivals q.plan
  pub right : (a : ℕ) → a < arrivals q.plan → Remaining (query_net q) a (get_or ls a no_distance)

-- [Refusals 13 and 14] once the walk is known: over 2,048 steps, or more than the route buffer holds
abbrev pub walk_checks : List ℕ → List ℕ → List Check
walk_checks route bs = once 13 (ltb 2048 (length bs)) ∷ once 14 (ltb (length route) (length bs)) ∷ []

-- [Refusal numbers] what may be answered to the query q where route and labels are the buffers at entry
pub data Answer (q : Query) (route labels : List ℕ) (r : Outcome) : Type 0 where
  -- 1 to 11 write nothing
  refused : (v : Verdict) → verdict (query_checks q (length labels)) ≡ v → v.number ≢ 0
      → r ≡ record { numbers = refusal v; route = route; labels = labels } → Answer q route labels r
  -- 12 is given where no admissible walk exists, and writes the labels alone
  no_route : (ls : List ℕ) → verdict (query_checks q (length labels)) ≡ passed → NoWalk (query_net q) (start_arrival q) → Labelled q ls
      → r ≡ record { numbers = refusal (refused_at 12 0); route = route; labels = ls } → Answer q route labels r
  -- 13 and 14 write nothing
  unwritten : (bs : List ℕ) (v : Verdict) → verdict (query_checks q (length labels)) ≡ passed → FirstShortest (query_net q) (start_arrival q) bs
      → verdict (walk_checks route bs) ≡ v → v.number ≢ 0
      → r ≡ record { numbers = refusal v; route = route; labels = labels } → Answer q route labels r
  -- success writes the arrivals into the front of the route buffer, and all labels; the rest stays
  found : (bs ls : List ℕ) → verdict (query_checks q (length labels)) ≡ passed → FirstShortest (query_net q) (start_arrival q) bs
      → verdict (walk_checks route bs) ≡ passed → Labelled q ls
      → r ≡ record { numbers = success q bs; route = bs ++ drop (length bs) route; labels = ls } → Answer q route labels r
