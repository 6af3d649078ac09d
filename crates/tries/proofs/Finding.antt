-- The tries that begin at p are those of the pull-outs for (c, p, s).
-- Assumes nothing.
use mathlib.Core.Path.{◌≡◌, refl, ◌∙◌}
use mathlib.Core.List.{List, ◌++◌}
use Prim.Native.Nat.{ℕ, ◌+◌, ◌<◌}
use native.Mathlib.Omega.{arith}
use lib.ListN.{length, drop, length-append, length-drop}
use lib.Seq.{sets-eq}
use Rattle.std.proofs.Common.{Option, Result, zero-add}
use Rattle.std.specs.Result.{result_ok}
use Rattle.rules.specs.Plan.{Plan, plan_of}
use Rattle.rules.specs.PullOut.{any_section}
use Rattle.rules.proofs.Ways.{may_use, only, Way, fewer_marks}
use Rattle.rules.proofs.AnyPoints.{way_points}
use Rattle.rules.proofs.PullWays.{first_pull, no_pull}
use Rattle.tries.specs.declared.marks.Try.{Try}
use Rattle.tries.specs.Marks.{Begun}
use Rattle.tries.specs.Looked.{Goes}
use Rattle.tries.specs.Tried.{Tried, none, smallest}
use Rattle.tries.specs.Searched.{Searched, none_there, first_there}

-- t is the first try for the length n
module _ {ss ts : List ℕ} (c s : ℕ) {p n : ℕ} {t : Try} (begun : Begun p n t) where
  goes_way : (v : ℕ) (qs : List ℕ) → Goes ss ts c s t c p qs → Way (plan_of v ss ts) (may_use any_section c s) n c p (only p) qs
  goes_way v qs k =
      let u : Way (plan_of 0 ss ts) (may_use any_section c s) t.left c p (only p) qs = fewer_marks (λ k o. rw (begun.marks k) o) k in
      way_points 0 v (rw begun.left at u)

  way_goes : (v : ℕ) (qs : List ℕ) → Way (plan_of v ss ts) (may_use any_section c s) n c p (only p) qs → Goes ss ts c s t c p qs
  way_goes v qs k =
      let u : Way (plan_of 0 ss ts) (may_use any_section c s) t.left c p (only p) qs = rw begun.left (way_points v 0 k) in
      fewer_marks (λ k o. rw (begun.marks k) at o) u

  pub searched : {b o a : List ℕ} {r : Result ℕ ℕ} {m : Option ℕ} → 0 < n → Tried (Goes ss ts c s t c p) b 0 r o → m ≡ result_ok r → a ≡ o
      → (v : ℕ) → Searched (plan_of v ss ts) n c p s b m a
  searched z (none most i w miss) k f v = none_there (rw i at k) (f ∙ w) (no_pull (λ rs k. miss rs (way_goes v rs k)))
  searched {b} z (smallest qs i pos fit w k least) l f v =
      first_there qs (rw (i, zero-add) at l) (omega arith) (f ∙ w ∙ sets-eq qs b 0 (omega arith) ∙ front) (first_pull z (goes_way v qs k) (λ rs o. least rs (way_goes v rs o)))
    where
      front : qs ++ drop (0 + length qs) b ≡ qs ++ drop (length qs) b
      front = let e : 0 + length qs ≡ length qs = omega arith in rw e refl

-- the lent list keeps its length
pub searched_length : {y : Plan} {need c p s : ℕ} {n : Option ℕ} {b a : List ℕ} → Searched y need c p s b n a → length a ≡ length b
searched_length (none_there i w miss) = rw w refl
searched_length {b = b} (first_there qs i fit w f) =
    let front = length-append qs (drop (length qs) b) in
    let rest = length-drop (length qs) b in
    rw w (omega arith)
