-- Steps do not ask how many points the plan has, nor by which ends the train leaves and enters. Where a walk may end is a matter of the sections
-- and the finish alone, and a reversal one of the sections and the turns. So what is said of the rows or of a walk of one query holds of each query
-- that agrees with it there.
-- Assumes nothing.
use Rattle.std.proofs.Common.{◌≡◌, ℕ, ◌+◌, List, [], ◌∷◌, cond, refl, ap}
use Rattle.rules.specs.Plan.{plan_of}
use Rattle.rules.specs.Query.{query_of}
use Rattle.rules.specs.Trip.{Step, Finish, reverses, reversals, trip_of}
use Rattle.rules.specs.declared.net.Row.{Row}
use Rattle.rules.proofs.AnyPoints.{pull_points}
use Rattle.steps.specs.StepTable.{StepTable, Ends, EndAt, may_end, goes_on}

-- the same length, start and finish
step_any : (ss ts : List ℕ) (l x y v w e g f h : ℕ) {a b : ℕ} → Step (trip_of (query_of (plan_of v ss ts) l x e y g)) a b
    → Step (trip_of (query_of (plan_of w ss ts) l x f y h)) a b
step_any ss ts l x y v w e g f h s =
    record {
      from = s.from;
      to = s.to;
      joined = s.joined;
      other = s.other;
      may = s.may;
      turn = λ t. let r = s.turn t in (r.0, pull_points v w r.1);
    }

pub steps_any : (ss ts : List ℕ) (l x y v w e g f h : ℕ) {rows : List Row} → StepTable (trip_of (query_of (plan_of v ss ts) l x e y g)) rows
    → StepTable (trip_of (query_of (plan_of w ss ts) l x f y h)) rows
steps_any ss ts l x y v w e g f h t =
    record {
      each = λ a s i p n. let z = t.each a s i p n in record { step = step_any ss ts l x y v w e g f h z.step; cost_of = z.cost_of };
      every = λ a b s. t.every a b (step_any ss ts l x y w v f h e g s);
      ascending = t.ascending;
    }

-- the same finish and finish end
finish_any : (ss ts us : List ℕ) (y g v w l x e m z f : ℕ) {a : ℕ} → Finish (trip_of (query_of (plan_of v ss ts) l x e y g)) a
    → Finish (trip_of (query_of (plan_of w ss us) m z f y g)) a
finish_any ss ts us y g v w l x e m z f k = record { inside = k.inside; point = k.point; over = k.over }

pub ends_any : (ss ts us : List ℕ) (y g v w l x e m z f : ℕ) {rows : List Row} → Ends (trip_of (query_of (plan_of v ss ts) l x e y g)) rows
    → Ends (trip_of (query_of (plan_of w ss us) m z f y g)) rows
ends_any ss ts us y g v w l x e m z f {rows} t = record { at = λ a i. go (t.at a i) }
  where
    go : {a : ℕ} → EndAt (trip_of (query_of (plan_of v ss ts) l x e y g)) rows a → EndAt (trip_of (query_of (plan_of w ss us) m z f y g)) rows a
    go (may_end i k) = may_end i (finish_any ss ts us y g v w l x e m z f k)
    go (goes_on i n) = goes_on i (λ k. n (finish_any ss us ts y g w v m z f l x e k))

pub no_end_any : (ss ts us : List ℕ) (y g v w l x e m z f : ℕ) → ((a : ℕ) → Finish (trip_of (query_of (plan_of v ss ts) l x e y g)) a → ⊥)
    → (a : ℕ) → Finish (trip_of (query_of (plan_of w ss us) m z f y g)) a → ⊥
no_end_any ss ts us y g v w l x e m z f none a k = none a (finish_any ss us ts y g w v m z f l x e k)

-- the same sections and turns
pub reversals_any : (ss ts : List ℕ) (v w l x e y g m z f u h a : ℕ) (bs : List ℕ) → reversals (trip_of (query_of (plan_of v ss ts) l x e y g)) a bs
    ≡ reversals (trip_of (query_of (plan_of w ss ts) m z f u h)) a bs
reversals_any ss ts v w l x e y g m z f u h a [] = refl
reversals_any ss ts v w l x e y g m z f u h a (b ∷ bs) =
    ap (λ n. cond (reverses (trip_of (query_of (plan_of v ss ts) l x e y g)) a b) 1 0 + n) (reversals_any ss ts v w l x e y g m z f u h b bs)
