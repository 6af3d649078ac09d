-- The answers of the search, one law for each of its ends.
-- Assumes nothing.
use Rattle.std.proofs.Common.{◌≡◌, ℕ, Result, Ok, Err, List, [], ◌∷◌, ◌++◌, refl, sym, ◌∙◌, arith, ◌≤◌, ◌<◌, length, get_or, drop}
use lib.Dec.{ltb}
use Rattle.std.specs.Prelude.{IsErrAnd}
use Rattle.rules.specs.declared.route.Route.{Route}
use Rattle.search.specs.Answer.{result_of}
use Rattle.rules.specs.Refusals.{passed, once, verdict, refused_at}
use Rattle.rules.specs.Refused.{verdict_of}
use Rattle.rules.specs.declared.refusal.Refusal.{Refusal}
use Rattle.rules.specs.Query.{Query, start_arrival, query_checks}
use Rattle.rules.specs.Plan.{arrivals}
use Rattle.rules.specs.Net.{no_distance, distance, FirstShortest, NoWalk, Remaining, no_walk, by_walk}
use Rattle.rules.specs.Trip.{query_net, total, walk_reversals}
use Rattle.rules.specs.Search.{refusal, Labelled, walk_checks, Answer, refused, no_route, unwritten, found}
use Rattle.rules.proofs.Refused.{refusal_numbered}
use Rattle.rules.proofs.Tests.{tests}
use Rattle.rules.proofs.Verdicts.{refuses_once, passes_once}
use Rattle.rules.proofs.Walks.{remaining_unique}
use Rattle.rules.proofs.Sound.{sound, label_length}
use Rattle.rules.proofs.Trips.{start_inside, query_few_steps, total_below}
use Rattle.distance.specs.Answer.{Labels}
use Rattle.train.specs.Asked.{Accepted}

-- what is refused by 1 to 11 writes nothing
pub turned_away : {q : Query} (route labels : List ℕ) (result : Result Route Refusal) (r : Refusal) → IsErrAnd result (λ e. e ≡ r)
    → verdict (query_checks q (length labels)) ≡ verdict_of r → Answer q route labels (result_of result route labels)
turned_away route labels (Ok x) r h e = absurd h
turned_away route labels (Err s) r h e = refused (verdict_of s) (rw h e) (refusal_numbered s) refl

-- a walk is not too long, and fits or not
module _ (route bs : List ℕ) (few : length bs < 2048) where
  after_13 : verdict (walk_checks route bs) ≡ verdict (once 14 (ltb (length route) (length bs)) ∷ [])
  after_13 = passes_once (ltb 2048 (length bs)) 13 (once 14 (ltb (length route) (length bs)) ∷ []) (simp tests (omega arith))

  walk_fits : length bs ≤ length route → verdict (walk_checks route bs) ≡ passed
  walk_fits l = after_13 ∙ passes_once (ltb (length route) (length bs)) 14 [] (simp tests (omega arith))

  walk_too_long : length route < length bs → verdict (walk_checks route bs) ≡ refused_at 14 0
  walk_too_long l = after_13 ∙ refuses_once (ltb (length route) (length bs)) 14 [] (simp tests (omega arith))

module _ (q : Query) (labels : List ℕ) {known : List ℕ} (ok : Accepted q (length labels)) (L : Labels (query_net q) (arrivals q.plan) known) where
  start_there : start_arrival q < length known
  start_there = omega (arith, start_inside (sound q (length labels) ok), L.long)

  -- as many labels are copied out as the buffer holds
  pub one_each : length labels ≡ length known
  one_each = label_length q (length labels) ok ∙ sym L.long

  labelled : Labelled q known
  labelled = record { long = L.long; right = L.exact.right }

  -- the start's label is the remaining distance there
  start_remaining : Remaining (query_net q) (start_arrival q) (get_or known (start_arrival q) no_distance)
  start_remaining = L.exact.right (start_arrival q) (start_inside (sound q (length labels) ok))

  -- refusal 12
  pub no_way : (route : List ℕ) → get_or known (start_arrival q) no_distance ≡ no_distance
      → Answer q route labels (record { numbers = refusal (refused_at 12 0); route = route; labels = known })
  no_way route e = no_route known ok (none start_remaining e) labelled refl
    where
      none : {v : ℕ} → Remaining (query_net q) (start_arrival q) v → v ≡ no_distance → NoWalk (query_net q) (start_arrival q)
      none (no_walk i m) z = m
      none (by_walk bs s i) z = absurd (omega (arith, total_below (sound q (length labels) ok) bs s))

  module _ {walk : List ℕ} (first : FirstShortest (query_net q) (start_arrival q) walk) where
    few : length walk < 2048
    few = query_few_steps (sound q (length labels) ok) walk first.shortest

    -- the start's label is the walk's distance
    pub start_label : get_or known (start_arrival q) no_distance ≡ distance (query_net q) (start_arrival q) walk
    start_label = remaining_unique start_remaining (by_walk walk first.shortest refl)

    -- refusal 14
    pub no_room : (route : List ℕ) → length route < length walk
        → Answer q route labels (record { numbers = refusal (refused_at 14 0); route = route; labels = labels })
    no_room route l = unwritten walk (refused_at 14 0) ok first (walk_too_long route walk few l) (λ z. omega arith) refl

    -- success
    pub handed_out : (route : List ℕ) {r : Route} → length walk ≤ length route → r.total ≡ total q walk → r.reversals ≡ walk_reversals q walk
        → r.steps ≡ length walk → Answer q route labels (result_of (Ok r) (walk ++ drop (length walk) route) known)
    handed_out route l t e s = found walk known ok first (walk_fits route walk few l) labelled (rw (t, e, s) refl)
