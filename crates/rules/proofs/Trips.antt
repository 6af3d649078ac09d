-- The steps of a train make a bounded net (`bounded`), so the laws of walks hold of them: for a query that passes its checks a shortest
-- walk has fewer than 2,048 steps (`query_few_steps`), and its total is below "none" (`total_below`).
-- Assumes nothing.
use mathlib.Core.Path.{◌≡◌, refl, sym, ◌∙◌}
use mathlib.Core.Logic.{◌≢◌}
use mathlib.Core.Bool.{Bool, true, false, cond}
use mathlib.Core.List.{List}
use Prim.Native.Nat.{ℕ, ◌+◌, ◌-◌, ◌%◌, ◌≤◌, ◌<◌}
use native.Mathlib.Omega.{arith}
use lib.ListN.{length}
use Rattle.rules.specs.Plan.{Plan, section_count, end_A, end_B, len, end_at, arrivals, sec}
use Rattle.rules.specs.Query.{Query, start_arrival}
use Rattle.rules.specs.Net.{no_distance, distance, Shortest}
use Rattle.rules.specs.Trip.{Trip, reverses, Step, cost, net_of, trip_of, query_net, total}
use Rattle.rules.proofs.Walks.{Bounded}
use Rattle.rules.proofs.Simple.{few_steps, far_below}
use Rattle.rules.proofs.Sound.{Sound, at_both_ends}

-- what bounds the walks of a trip
pub record SoundTrip (t : Trip) : Type 0 where
  pub few_sections : section_count t.plan ≤ 1024
  pub long : (s : ℕ) → s < section_count t.plan → (1 ≤ len t.plan s) × (len t.plan s ≤ 200000)
  pub ends_differ : (s : ℕ) → s < section_count t.plan → end_A t.plan s ≢ end_B t.plan s
  pub need : t.need ≤ 20000
  pub room : t.room ≤ 200000

-- the trip of a query that passed its checks
pub sound_trip : {q : Query} → Sound q → SoundTrip (trip_of q)
sound_trip S = record {
  few_sections = S.plan.few_sections.1;
  long = λ s l. (S.plan.each_section s l).long;
  ends_differ = λ s l. (S.plan.each_section s l).ends_differ;
  need = S.train.1;
  room = S.room.1;
}

-- an end of a section whose ends differ is known by its point
same_end : (y : Plan) (s e f : ℕ) → e ≤ 1 → f ≤ 1 → end_A y s ≢ end_B y s → end_at y s e ≡ end_at y s f → e ≡ f
same_end y s e f u v n =
    at_both_ends (λ e. end_at y s e ≡ end_at y s f → e ≡ f)
    (at_both_ends (λ f. end_A y s ≡ end_at y s f → 0 ≡ f) (λ q. refl) (λ q. absurd (n q)) f v)
    (at_both_ends (λ f. end_B y s ≡ end_at y s f → 1 ≡ f) (λ q. absurd (n (sym q))) (λ q. refl) f v)
    e
    u

-- a cost is a section's length, or a train's before it
cost_range : (b : Bool) (x l : ℕ) → x ≤ 20000 → 1 ≤ l → l ≤ 200000 → (1 ≤ cond b x 0 + l) × (cond b x 0 + l ≤ 220000)
cost_range true x l u v w = omega arith
cost_range false x l u v w = omega arith

module _ {t : Trip} (S : SoundTrip t) where
  step_cost : {a b : ℕ} → Step t a b → (1 ≤ cost t a b) × (cost t a b ≤ 220000)
  step_cost {a} {b} s =
      let l = S.long (sec b) (omega (arith, s.to)) in
      cost_range (reverses t a b) t.need (len t.plan (sec b)) S.need l.0 l.1

  -- both steps enter the section at the point of a, so they leave it by the same end
  step_over : {a b c : ℕ} → Step t a b → Step t a c → sec b ≡ sec c → b ≡ c
  step_over {a} {b} {c} s u e =
      let d = S.ends_differ (sec c) (omega (arith, u.to)) in
      let z = same_end t.plan (sec c) (1 - b % 2) (1 - c % 2) (omega arith) (omega arith) d (rw e at s.joined ∙ sym u.joined) in
      omega arith

  -- so the laws of walks hold of a trip
  pub bounded : Bounded (net_of t) (arrivals t.plan) 220000
  bounded = record {
    positive = λ s. (step_cost s).0;
    capped = λ s. (step_cost s).1;
    from = λ s. s.from;
    to = λ s. s.to;
    ending = λ f. f.inside;
    same_step = step_over;
  }

  pub room_below : t.room < no_distance
  room_below = omega (arith, S.room)

  -- the distance of a shortest walk from any arrival, and a first distance with it, is below "none"
  pub distance_below : (a : ℕ) (bs : List ℕ) → a < arrivals t.plan → Shortest (net_of t) a bs → distance (net_of t) a bs + 200000 < no_distance
  distance_below a bs l h = far_below bounded bs (omega (arith, S.few_sections)) (omega arith) S.room l h

module _ {q : Query} (S : Sound q) where
  pub start_inside : start_arrival q < arrivals q.plan
  start_inside = omega (arith, S.start)

  pub query_bounded : Bounded (query_net q) (arrivals q.plan) 220000
  query_bounded = bounded (sound_trip S)

  -- its arrivals with the start are different, and there are 2E of them
  pub query_few_steps : (bs : List ℕ) → Shortest (query_net q) (start_arrival q) bs → length bs < 2048
  query_few_steps bs h = omega (arith, few_steps query_bounded bs start_inside h, S.plan.few_sections)

  -- and so its total is a number of 32 bits that is not "none"
  pub total_below : (bs : List ℕ) → Shortest (query_net q) (start_arrival q) bs → total q bs < no_distance
  total_below bs h = omega (arith, distance_below (sound_trip S) (start_arrival q) bs start_inside h, S.first)
