-- A test, computed by antt, for a label that breaks a label rule at an arrival; what it says.
-- Assumes nothing.
use mathlib.Core.Logic.{⊎_elim}
use mathlib.Core.Bool.{Bool, not, ◌&&◌, ◌||◌}
use Prim.Native.Nat.{ℕ, ◌+◌}
use native.Mathlib.Omega.{arith}
use lib.Dec.{T, eqb, leb, leb→le, le→leb, ltb}
use Rattle.rules.specs.Ranges.{some_of}
use Rattle.rules.specs.Plan.{arrivals}
use Rattle.rules.specs.Net.{no_distance, AtMost, above_all, within, KeepsRules}
use Rattle.rules.specs.Trip.{Trip, cost, net_of}
use Rattle.rules.proofs.Tests.{tests, clash, fails, and_T, or_T, T_or_left, T_or_right, unless_T, not_or_iff, not_iff, not_not_iff}
use Rattle.rules.proofs.Ranges.{some_T, not_some_T}
use Rattle.rules.proofs.StepTests.{is_step, is_finish, finish_T, T_finish, HasLengths, step_T, T_step}

-- `AtMost` as a test
abbrev pub at_most : ℕ → ℕ → ℕ → Bool
at_most l c m = eqb m no_distance || (ltb l no_distance && leb l (c + m))

pub at_most_T : (l c m : ℕ) → T (at_most l c m) → AtMost l c m
at_most_T l c m t =
    ⊎_elim (λ e. above_all (simp tests at e)) (λ h. let k = simp tests at h in within k.0 k.1) (or_T (eqb m no_distance) (ltb l no_distance && leb l (c + m)) t)

pub T_at_most : {l c m : ℕ} → AtMost l c m → T (at_most l c m)
T_at_most {l} {c} {m} (above_all e) = T_or_left (eqb m no_distance) (ltb l no_distance && leb l (c + m)) (simp tests e)
T_at_most {l} {c} {m} (within h k) = T_or_right (eqb m no_distance) (ltb l no_distance && leb l (c + m)) (simp tests (h, k))

module _ (t : Trip) (label : ℕ → ℕ) where
  -- the rule for an arrival at which a walk may end is broken at a
  abbrev pub finish_bad : ℕ → Bool
  finish_bad a = is_finish t a && not (leb (label a) t.room)

  -- the rule for the step from a to b is broken
  abbrev pub step_bad : ℕ → ℕ → Bool
  step_bad a b = is_step t a b && not (at_most (label a) (cost t a b) (label b))

  -- one of the two is broken at a
  abbrev pub label_bad : ℕ → Bool
  label_bad a = finish_bad a || some_of (step_bad a) 0 (arrivals t.plan)

module _ {t : Trip} (H : HasLengths t) (label : ℕ → ℕ) (a : ℕ) where
  -- where the test fails, the rules are kept; and the other way round
  pub kept_T : T (not (label_bad t label a)) → KeepsRules (net_of t) label a
  kept_T n =
      let h = (not_or_iff (finish_bad t label a) (some_of (step_bad t label a) 0 (arrivals t.plan))).0 n in
      record {
        at_finish = λ f. leb→le (label a) t.room (unless_T (is_finish t a) (leb (label a) t.room) h.0 (T_finish t f));
        at_step = λ b s. at_most_T (label a) (cost t a b) (label b) (unless_T (is_step t a b) (at_most (label a) (cost t a b) (label b))
            (not_some_T (step_bad t label a) 0 (arrivals t.plan) h.1 b (omega arith) (omega (arith, s.to))) (T_step H s));
      }

  pub T_kept : KeepsRules (net_of t) label a → T (not (label_bad t label a))
  T_kept r = simp (not_or_iff, not_iff) (finish_kept, steps_kept)
    where
      finish_kept : T (finish_bad t label a) → ⊥
      finish_kept p =
          let h = and_T (is_finish t a) (not (leb (label a) t.room)) p in
          clash (leb (label a) t.room) (le→leb (label a) t.room (r.at_finish (finish_T t a h.0))) h.1

      steps_kept : T (some_of (step_bad t label a) 0 (arrivals t.plan)) → ⊥
      steps_kept p =
          let (b, l, q) = some_T (step_bad t label a) 0 (arrivals t.plan) p in
          let h = and_T (is_step t a b) (not (at_most (label a) (cost t a b) (label b))) q in
          clash (at_most (label a) (cost t a b) (label b)) (T_at_most (r.at_step b (step_T H a b h.0))) h.1

  -- where it passes, they are not; and the other way round
  pub bad_T : T (label_bad t label a) → KeepsRules (net_of t) label a → ⊥
  bad_T p r = clash (label_bad t label a) p (T_kept r)

  pub T_bad : (KeepsRules (net_of t) label a → ⊥) → T (label_bad t label a)
  T_bad n = (not_not_iff (label_bad t label a)).0 (fails (not (label_bad t label a)) (λ p. n (kept_T p)))
