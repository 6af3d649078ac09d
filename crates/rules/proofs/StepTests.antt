-- Tests, computed by antt, for admissible steps, for the arrivals at which a walk may end, and for walks; what they say.
-- Assumes nothing.
use mathlib.Core.Path.{◌≡◌, refl}
use mathlib.Core.Logic.{◌⊎◌, inl, inr, ⊎_elim}
use mathlib.Core.Bool.{Bool, true, false, not, ◌&&◌, ◌||◌}
use mathlib.Core.List.{List, [], ◌∷◌}
use Prim.Native.Nat.{ℕ, ◌≤◌}
use native.Mathlib.Omega.{arith}
use lib.Dec.{T, eqb, ltb}
use Rattle.rules.specs.Plan.{arrivals, to_point, from_point, sec}
use Rattle.rules.specs.Net.{Walk, here, onward}
use Rattle.rules.specs.Trip.{Trip, reverses, Step, Finish, net_of}
use Rattle.rules.proofs.Tests.{tests, clash, and_T, T_and}
use Rattle.rules.proofs.PullSearch.{Positive, has_pull_out, pull_T, T_pull}

module _ (t : Trip) where
  -- a pull-out serves the reversal from arrival a to arrival b
  abbrev pub can_reverse : ℕ → ℕ → Bool
  can_reverse a b = has_pull_out t.plan t.may_pull t.need (sec a) (to_point t.plan a) (sec b)

  abbrev pub is_step : ℕ → ℕ → Bool
  is_step a b =
      ltb a (arrivals t.plan) && ltb b (arrivals t.plan) && eqb (from_point t.plan b) (to_point t.plan a) && not (eqb (sec b) (sec a))
      && t.may_step (sec b) && (not (reverses t a b) || can_reverse a b)

  abbrev pub is_finish : ℕ → Bool
  is_finish a = ltb a (arrivals t.plan) && eqb (to_point t.plan a) t.goal && not (eqb (sec a) t.finish)

  abbrev pub is_walk : ℕ → List ℕ → Bool
  is_walk a [] = is_finish a
  is_walk a (b ∷ bs) = is_step a b && is_walk b bs

  pub finish_T : (a : ℕ) → T (is_finish a) → Finish t a
  finish_T a p = let h = simp tests at p in record { inside = omega arith; point = omega arith; over = omega arith }

  pub T_finish : {a : ℕ} → Finish t a → T (is_finish a)
  T_finish f = simp tests (omega arith)

-- what the search for pull-outs asks of a trip: every section, and what a pull-out has to take, is at least 1 long
pub record HasLengths (t : Trip) : Type 0 where
  pub sections : Positive t.plan
  pub need : 1 ≤ t.need

module _ {t : Trip} (H : HasLengths t) where
  pub step_T : (a b : ℕ) → T (is_step t a b) → Step t a b
  step_T a b p =
      let h = simp tests at p in
      record {
        from = omega arith;
        to = omega arith;
        joined = omega arith;
        other = omega arith;
        may = h.0.1;
        turn = λ f. ⊎_elim (λ n. absurd (clash (reverses t a b) f n))
            (pull_T t.plan t.may_pull t.need (sec a) (to_point t.plan a) (sec b) H.sections H.need) h.1;
      }

  pub T_step : {a b : ℕ} → Step t a b → T (is_step t a b)
  T_step {a} {b} s = simp tests ((omega arith, s.may), go (reverses t a b) refl)
    where
      go : (o : Bool) → reverses t a b ≡ o → T (not (reverses t a b)) ⊎ T (can_reverse t a b)
      go true e =
          let w = s.turn (rw e tt) in
          inr (T_pull t.plan t.may_pull t.need (sec a) (to_point t.plan a) (sec b) H.sections w.0 w.1)
      go false e = inl (rw e tt)

  pub walk_T : (a : ℕ) (bs : List ℕ) → T (is_walk t a bs) → Walk (net_of t) a bs
  walk_T a [] p = here (finish_T t a p)
  walk_T a (b ∷ bs) p = let h = and_T (is_step t a b) (is_walk t b bs) p in onward (step_T a b h.0) (walk_T b bs h.1)

  pub T_walk : {a : ℕ} {bs : List ℕ} → Walk (net_of t) a bs → T (is_walk t a bs)
  T_walk (here f) = T_finish t f
  T_walk (onward {a} {b} {bs} s w) = T_and (is_step t a b) (is_walk t b bs) (T_step s) (T_walk w)
