-- A computed test of a search's answer: the labels keep the rules and are attained, and the list follows them.
-- Such labels are the remaining distances (`labelled`), and such a list is the first shortest walk (`first_walk`).
-- Assumes nothing.
use mathlib.Core.Path.{◌≡◌}
use mathlib.Core.Logic.{◌⊎◌, inl, inr}
use mathlib.Core.Bool.{Bool, not, ◌&&◌, ◌||◌}
use mathlib.Core.List.{List, [], ◌∷◌}
use Prim.Native.Nat.{ℕ, ◌+◌, ◌≤◌, ◌<◌}
use native.Mathlib.Omega.{arith}
use lib.Dec.{T, eqb, eqb→eq, leb, leb→le, ltb, ltb→lt}
use lib.ListN.{length, get_or}
use Rattle.rules.specs.Ranges.{every, some_of}
use Rattle.rules.specs.Plan.{arrivals, sec}
use Rattle.rules.specs.Query.{Query, start_arrival}
use Rattle.rules.specs.Net.{no_distance, FirstShortest, NoWalk, Remaining, KeepsRules}
use Rattle.rules.specs.Trip.{Trip, Step, cost, net_of, trip_of, query_net}
use Rattle.rules.specs.Search.{Labelled}
use Rattle.rules.proofs.Tests.{clash, and_T, T_and, or_T, tests}
use Rattle.rules.proofs.Ranges.{every_T, some_T}
use Rattle.rules.proofs.Walks.{Attained, unreached, at_end, by_step, keeps_everywhere, attained_remaining, none_no_walk}
use Rattle.rules.proofs.First.{Follow, stop, go_on, follow_first}
use Rattle.rules.proofs.Sound.{Sound}
use Rattle.rules.proofs.Trips.{sound_trip, query_bounded, room_below}
use Rattle.rules.proofs.StepTests.{is_step, is_finish, finish_T, HasLengths, step_T, T_step}
use Rattle.rules.proofs.LabelTests.{label_bad, kept_T}

-- the trip of a query that passed its checks has what the computed tests ask
pub has_lengths : {q : Query} → Sound q → HasLengths (trip_of q)
has_lengths S = record { sections = λ s l. (S.plan.each_section s l).long.0; need = S.train.0 }

module _ (t : Trip) (label : ℕ → ℕ) where
  -- a tight step from a to b
  abbrev pub is_tight : ℕ → ℕ → Bool
  is_tight a b = is_step t a b && eqb (label a) (cost t a b + label b)

  -- the label of a is "none", or the room where a walk may end, or a number that a tight step gives
  abbrev pub is_attained : ℕ → Bool
  is_attained a =
      eqb (label a) no_distance || (is_finish t a && eqb (label a) t.room) || (ltb (label a) no_distance && some_of (is_tight a) 0 (arrivals t.plan))

  -- no tight step from a leads over a lower section than b's
  abbrev pub is_smallest : ℕ → ℕ → Bool
  is_smallest a b = every (λ c. not (is_tight a c) || leb (sec b) (sec c)) 0 (arrivals t.plan)

  -- the list follows the tight steps over the lowest sections, to an end
  abbrev pub follows : ℕ → List ℕ → Bool
  follows a [] = is_finish t a
  follows a (b ∷ bs) = is_tight a b && is_smallest a b && follows b bs

  -- at every arrival the label keeps the rules and is attained
  abbrev pub labels_good : Bool
  labels_good = every (λ a. not (label_bad t label a) && is_attained a) 0 (arrivals t.plan)

module _ {t : Trip} (H : HasLengths t) (label : ℕ → ℕ) where
  attained_T : (a : ℕ) → a < arrivals t.plan → T (is_attained t label a) → Attained (net_of t) label a
  attained_T a l p = go (or_T (eqb (label a) no_distance || (is_finish t a && eqb (label a) t.room)) (ltb (label a) no_distance && some_of (is_tight t label a) 0 (arrivals t.plan)) p)
    where
      early : T (eqb (label a) no_distance) ⊎ T (is_finish t a && eqb (label a) t.room) → Attained (net_of t) label a
      early (inl e) = unreached (eqb→eq (label a) no_distance e)
      early (inr h) = let k = and_T (is_finish t a) (eqb (label a) t.room) h in at_end (finish_T t a k.0) (eqb→eq (label a) t.room k.1)

      go : T (eqb (label a) no_distance || (is_finish t a && eqb (label a) t.room)) ⊎ T (ltb (label a) no_distance && some_of (is_tight t label a) 0 (arrivals t.plan))
          → Attained (net_of t) label a
      go (inl h) = early (or_T (eqb (label a) no_distance) (is_finish t a && eqb (label a) t.room) h)
      go (inr h) =
          let k = and_T (ltb (label a) no_distance) (some_of (is_tight t label a) 0 (arrivals t.plan)) h in
          let (b, m, g) = some_T (is_tight t label a) 0 (arrivals t.plan) k.1 in
          let s = and_T (is_step t a b) (eqb (label a) (cost t a b + label b)) g in
          by_step b (step_T H a b s.0) (eqb→eq (label a) (cost t a b + label b) s.1) (ltb→lt (label a) no_distance k.0)

  follows_T : (a : ℕ) (bs : List ℕ) → T (follows t label a bs) → Follow (net_of t) label a bs
  follows_T a [] p = stop (finish_T t a p)
  follows_T a (b ∷ bs) p =
      let h = and_T (is_tight t label a b && is_smallest t label a b) (follows t label b bs) p in
      let k = and_T (is_tight t label a b) (is_smallest t label a b) h.0 in
      let s = and_T (is_step t a b) (eqb (label a) (cost t a b + label b)) k.0 in
      go_on (step_T H a b s.0) (eqb→eq (label a) (cost t a b + label b) s.1)
      (λ c u e. lowest c u e (or_T (not (is_tight t label a c)) (leb (sec b) (sec c)) (every_T (λ c. not (is_tight t label a c) || leb (sec b) (sec c)) 0 (arrivals t.plan) k.1 c (omega arith) (omega (arith, u.to)))))
      (follows_T b bs h.1)
    where
      lowest : (c : ℕ) → Step t a c → label a ≡ cost t a c + label c → T (not (is_tight t label a c)) ⊎ T (leb (sec b) (sec c)) → sec b ≤ sec c
      lowest c u e (inl n) =
          absurd (clash (is_tight t label a c) (T_and (is_step t a c) (eqb (label a) (cost t a c + label c)) (T_step H u) (simp tests e)) n)
      lowest c u e (inr l) = leb→le (sec b) (sec c) l

module _ (q : Query) (ls : List ℕ) where
  -- the labels of a query, one for each arrival, pass; a list follows them; the start's label is "none"
  abbrev pub label_at : ℕ → ℕ
  label_at a = get_or ls a no_distance

  abbrev pub labels_pass : Bool
  labels_pass = eqb (length ls) (arrivals q.plan) && labels_good (trip_of q) label_at

  abbrev pub walk_passes : List ℕ → Bool
  walk_passes bs = labels_pass && follows (trip_of q) label_at (start_arrival q) bs

  abbrev pub none_passes : Bool
  none_passes = labels_pass && eqb (label_at (start_arrival q)) no_distance

  module _ (S : Sound q) (good : T labels_pass) where
    each_good : (a : ℕ) → a < arrivals q.plan → T (not (label_bad (trip_of q) label_at a)) × T (is_attained (trip_of q) label_at a)
    each_good a l =
        and_T (not (label_bad (trip_of q) label_at a)) (is_attained (trip_of q) label_at a)
        (every_T (λ a. not (label_bad (trip_of q) label_at a) && is_attained (trip_of q) label_at a) 0 (arrivals q.plan)
        (and_T (eqb (length ls) (arrivals q.plan)) (labels_good (trip_of q) label_at) good).1 a (omega arith) (omega arith))

    keeps : (a : ℕ) → KeepsRules (query_net q) label_at a
    keeps = keeps_everywhere (query_bounded S) (λ a l. kept_T (has_lengths S) label_at a (each_good a l).0)

    right : (a : ℕ) → a < arrivals q.plan → Remaining (query_net q) a (label_at a)
    right = attained_remaining (query_bounded S) (λ a l. attained_T (has_lengths S) label_at a l (each_good a l).1) (room_below (sound_trip S)) keeps

    pub labelled : Labelled q ls
    labelled = record {
      long = eqb→eq (length ls) (arrivals q.plan) (and_T (eqb (length ls) (arrivals q.plan)) (labels_good (trip_of q) label_at) good).0;
      right = right;
    }

    pub first_walk : (bs : List ℕ) → T (follows (trip_of q) label_at (start_arrival q) bs) → FirstShortest (query_net q) (start_arrival q) bs
    first_walk bs p = follow_first (query_bounded S) right (room_below (sound_trip S)) keeps (follows_T (has_lengths S) label_at (start_arrival q) bs p)

    pub no_walk_at : T (eqb (label_at (start_arrival q)) no_distance) → NoWalk (query_net q) (start_arrival q)
    no_walk_at e = none_no_walk (room_below (sound_trip S)) keeps (eqb→eq (label_at (start_arrival q)) no_distance e)
