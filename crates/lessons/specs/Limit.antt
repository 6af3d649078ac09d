-- Limits: how far a train gets from an arrival, whatever else has a mark. A try that fails leaves one, and a table of lessons holds
-- nothing else.
-- Assumes nothing.
use Rattle.std.specs.Prelude.{Bool, true, List, ℕ, ◌≤◌, ◌<◌, T}
use Rattle.rules.specs.Plan.{plan_of}
use Rattle.rules.specs.PullOut.{any_section}
use Rattle.rules.proofs.Ways.{may_use, Way}
use Rattle.points.specs.Points.{Among}

-- any list of sections
abbrev pub AnyList : List ℕ → Type 0
AnyList qs = T true

-- a train that came over section h to p, and is pulled out for the turn from c to s, takes no more than `most` by a list of this
-- kind where all points of `why` have marks, whatever other points have one
pub record Limit (ss ts : List ℕ) (c s h p : ℕ) (Kind : List ℕ → Type 0) (why : ℕ → Bool) (most : ℕ) : Type 0 where
  pub limit : (r : ℕ) (marks : ℕ → Bool) (qs : List ℕ) → Among why marks → Kind qs
      → Way (plan_of 0 ss ts) (may_use any_section c s) r h p marks qs → r ≤ most

-- such a limit tells a try with these marks and the length `left` that there is no list of this kind: it has all the marks that are
-- reasons, and more left than the limit
pub record Hopeless (ss ts : List ℕ) (c s h p : ℕ) (Kind : List ℕ → Type 0) (marks : ℕ → Bool) (left : ℕ) (why : ℕ → Bool) (most : ℕ) : Type 0 where
  pub met : Among why marks
  pub less : most < left
  pub limit : Limit ss ts c s h p Kind why most
