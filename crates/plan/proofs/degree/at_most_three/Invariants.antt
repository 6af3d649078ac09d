-- Of the points passed at most so many have over three sections, and none if it has counted none.
-- Assumes nothing.
use Rattle.std.proofs.Common.{◌≡◌, ℕ, ◌≤◌, ◌<◌, get_or}
use Rattle.plan.proofs.degree.at_most_three.Given as goal

abbrev pub invariant-loop-degree : goal.invariant-loop-degree
invariant-loop-degree l =
    (l.over ≤ l.degree-index) × (l.over ≡ 0 → (q : ℕ) → q < l.degree-index → get_or l.degrees q 0 ≤ 3) × (((q : ℕ) → q < l.degree-index → get_or l.degrees q 0 ≤ 3) → l.over ≡ 0)
