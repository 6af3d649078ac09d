-- What the call for one pull-out answers, and what the lent list holds afterwards: numbers 1 to 7, 15, 16, 14.
-- Assumes nothing.
use Rattle.std.specs.Prelude.{◌≡◌, ◌≢◌, Bool, not, ◌&&◌, List, [], ◌∷◌, ◌++◌, ℕ, ◌≤◌, ◌<◌, ltb, length, drop}
use Rattle.rules.specs.Ranges.{between}
use Rattle.rules.specs.Plan.{Plan, section_count, arrivals, to_point, touches, sec, forbidden}
use Rattle.rules.specs.PlanCheck.{plan_checks}
use Rattle.rules.specs.Refusals.{Verdict, Check, passed, refused_at, once, verdict}
use Rattle.rules.specs.PullOut.{FirstPullOut, NoPullOut, any_section}

-- [Refusal 15] what is asked: the plan, the train's length, the arrival and the section
pub record Reversal : Type 0 where
  pub plan : Plan
  pub train : ℕ
  pub arrival : ℕ
  pub section : ℕ

-- [Refusal 15] what is asked, from a plan and the three numbers by which the library's function takes it
abbrev pub reversal_of : Plan → ℕ → ℕ → ℕ → Reversal
reversal_of y l a s = record { plan = y; train = l; arrival = a; section = s }

module _ (v : Reversal) where
  -- [Refusal 15] an arrival and a section of the plan, with a forbidden turn between them at the arrival's point
  abbrev pub turn_asked : Bool
  turn_asked =
      ltb v.arrival (arrivals v.plan) && ltb v.section (section_count v.plan)
      && touches v.plan v.section (to_point v.plan v.arrival) && forbidden v.plan (sec v.arrival) v.section

  -- [Refusal numbers] 1 to 7 and 15 in their order
  abbrev pub pull_checks : List Check
  pull_checks = plan_checks v.plan ++ (once 7 (not (between 1 v.train 20000)) ∷ once 15 (not turn_asked) ∷ [])

  -- [An admissible walk, pull-out] the list is the first pull-out for it, the tables taken as they stand
  abbrev pub Pulls : List ℕ → Type 0
  Pulls qs = FirstPullOut v.plan any_section v.train (sec v.arrival) (to_point v.plan v.arrival) v.section qs

  -- [Refusal 16] no pull-out for it exists
  abbrev pub PullsNone : Type 0
  PullsNone = NoPullOut v.plan any_section v.train (sec v.arrival) (to_point v.plan v.arrival) v.section

-- [Refusal numbers] an answer, and the lent list at exit
pub record Pulled : Type 0 where
  pub refusal : ℕ
  pub place : ℕ
  pub count : ℕ
  pub list : List ℕ

-- [Refusal numbers] a refusal writes nothing
abbrev pub not_pulled : Verdict → List ℕ → Pulled
not_pulled v list = record { refusal = v.number; place = v.place; count = 0; list = list }

-- [Refusal numbers] what may be answered where list is the lent list at entry
pub data PullAnswer (v : Reversal) (list : List ℕ) (r : Pulled) : Type 0 where
  refused : (w : Verdict) → verdict (pull_checks v) ≡ w → w.number ≢ 0 → r ≡ not_pulled w list → PullAnswer v list r
  none_found : verdict (pull_checks v) ≡ passed → PullsNone v → r ≡ not_pulled (refused_at 16 0) list → PullAnswer v list r
  no_space : (qs : List ℕ) → verdict (pull_checks v) ≡ passed → Pulls v qs → length list < length qs → r ≡ not_pulled (refused_at 14 0) list
      → PullAnswer v list r
  pulled : (qs : List ℕ) → verdict (pull_checks v) ≡ passed → Pulls v qs → length qs ≤ length list
      → r ≡ record { refusal = 0; place = 0; count = length qs; list = qs ++ drop (length qs) list } → PullAnswer v list r
