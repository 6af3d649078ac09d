-- The answers of the call for one pull-out, one law for each of its ends.
-- Assumes nothing.
use Rattle.std.proofs.Common.{◌≡◌, refl, sym, ap, ◌∙◌, List, ◌++◌, ℕ, ◌/◌, ◌≤◌, ◌<◌, arith, length, take, drop, None, Some}
use lib.Dec.{T}
use lib.Seq.{take-append_seam}
use Rattle.rules.specs.Ranges.{between}
use Rattle.rules.specs.Plan.{Plan, plan_of, of_sections, to_point, sec, forbidden}
use Rattle.rules.specs.Refusals.{Verdict, Check, passed, verdict}
use Rattle.rules.specs.Refused.{verdict_of}
use Rattle.rules.specs.declared.refusal.Refusal.{Refusal}
use Rattle.rules.specs.declared.refusal.Refusal.TheVariants.{NoPullOut, Buffer}
use Rattle.rules.specs.PlanCheck.{plan_checks}
use Rattle.rules.specs.PullAnswer.{Reversal, reversal_of, turn_asked, pull_checks, not_pulled, PullAnswer, refused, none_found, no_space, pulled}
use Rattle.rules.proofs.Refused.{refusal_numbered}
use Rattle.rules.proofs.Tests.{tests, not_not_iff, and_T, gives_true}
use Rattle.rules.proofs.Verdicts.{refused_first, passed_first, passes, passes_both}
use Rattle.turns.specs.Tables.{Arrived}
use Rattle.turns.proofs.Entering.{comes}
use Rattle.tries.specs.Searched.{Searched, none_there, first_there}
use Rattle.pullout.proofs.Asking.{met, both_there}

-- the rows after the plan's: refusals 7 and 15
abbrev own_checks : Reversal → List Check
own_checks w = drop 6 (pull_checks w)

module _ (w : Reversal) where
  pub plan_refused : (r : Refusal) (list : List ℕ) → verdict_of r ≡ verdict (plan_checks w.plan) → PullAnswer w list (not_pulled (verdict_of r) list)
  plan_refused r list e =
      refused (verdict_of r) (refused_first (plan_checks w.plan) (own_checks w) (λ z. refusal_numbered r (ap (λ (v : Verdict). v.number) e ∙ z)) ∙ sym e)
      (refusal_numbered r) refl

  module _ (ok : passed ≡ verdict (plan_checks w.plan)) where
    own : verdict (pull_checks w) ≡ verdict (own_checks w)
    own = passed_first (plan_checks w.plan) (own_checks w) tt (sym ok)

    pub own_refused : (r : Refusal) (list : List ℕ) → verdict_of r ≡ verdict (own_checks w) → PullAnswer w list (not_pulled (verdict_of r) list)
    own_refused r list e = refused (verdict_of r) (own ∙ sym e) (refusal_numbered r) refl

  -- what has passed
  module _ (ok : verdict (pull_checks w) ≡ passed) where
    own_passed : T (between 1 w.train 20000) × T (turn_asked w)
    own_passed =
        let each = (passes_both (plan_checks w.plan) (own_checks w) (passes (pull_checks w) tt ok)).1 in
        ((not_not_iff (between 1 w.train 20000)).0 (each.0 0 (omega arith)), (not_not_iff (turn_asked w)).0 (each.1.0 0 (omega arith)))

    pub length_some : 0 < w.train
    length_some = let h = simp tests at own_passed.0 in omega arith

-- the arrival that is asked for comes to its point
pub asked_arrives : (v : ℕ) (ss ts : List ℕ) (l a s : ℕ) → verdict (pull_checks (reversal_of (plan_of v ss ts) l a s)) ≡ passed
    → Arrived ss (a / 2) (to_point (of_sections ss) a)
asked_arrives v ss ts l a s ok =
    let u = and_T (met ss a s) (forbidden (plan_of 0 ss ts) (a / 2) s) (own_passed (reversal_of (plan_of v ss ts) l a s) ok).1 in
    comes ss a (both_there ss a s (gives_true u.0)).0

-- what is found fits into the list that was lent for it
pub found_low : {y : Plan} {need c p s n : ℕ} {b a : List ℕ} → Searched y need c p s b (Some n) a → n ≤ length b
found_low (none_there i w none) = absurd (cc)
found_low {n} (first_there qs i fit w f) = let e : n ≡ length qs = cc in omega arith

-- refusals 16 and 14, and the pull-out
module _ (w : Reversal) {b f : List ℕ} (list : List ℕ) (ok : verdict (pull_checks w) ≡ passed) where
  pub nothing_found : Searched w.plan w.train (sec w.arrival) (to_point w.plan w.arrival) w.section b None f
      → PullAnswer w list (not_pulled (verdict_of NoPullOut) list)
  nothing_found (none_there i k none) = none_found ok none refl
  nothing_found (first_there qs i fit k first) = absurd (cc)

  module _ {n : ℕ} where
    pub too_long : Searched w.plan w.train (sec w.arrival) (to_point w.plan w.arrival) w.section b (Some n) f → length list < n
        → PullAnswer w list (not_pulled (verdict_of Buffer) list)
    too_long (none_there i k none) l = absurd (cc)
    too_long (first_there qs i fit k first) l = let e : n ≡ length qs = cc in no_space qs ok first (omega arith) refl

    pub written_out : Searched w.plan w.train (sec w.arrival) (to_point w.plan w.arrival) w.section b (Some n) f → n ≤ length list
        → PullAnswer w list (record { refusal = 0; place = 0; count = n; list = take n f ++ drop n list })
    written_out (none_there i k none) l = absurd (cc)
    written_out (first_there qs i fit k first) l = let e : n ≡ length qs = cc in pulled qs ok first (omega arith) (rw (k, e, take-append_seam) refl)
