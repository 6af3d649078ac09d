-- What is found of labels.
-- Assumes nothing.
use Rattle.std.specs.Prelude.{◌≡◌, true, List, ℕ, ◌≤◌, ◌<◌, length, get_or, Option, MatchOption}
use Rattle.rules.specs.Net.{no_distance, Net, AtMost, KeepsRules}
use Rattle.rules.specs.declared.net.Row.{Row}
use Rattle.rules.specs.declared.net.Step.{Step}

-- the label of an arrival
abbrev pub label_at : List ℕ → ℕ → ℕ
label_at labels a = get_or labels a no_distance

-- the label rule where a walk may end: the label before is at most the room
abbrev pub EndKept : Row → ℕ → ℕ → Type 0
EndKept row room before = row.ends ≡ true → before ≤ room

-- the label rule for a step of the table: where it leads to an arrival, the label before is at most its cost and that arrival's label
abbrev pub StepKept : Step → List ℕ → ℕ → Type 0
StepKept step labels before = step.next < length labels → AtMost before step.cost (label_at labels step.next)

-- the rules are kept at all of n arrivals, or r is the lowest at which one is broken
abbrev pub FirstBroken : Net → (ℕ → ℕ) → ℕ → Option ℕ → Type 0
FirstBroken N label n r =
    MatchOption r ((b : ℕ) → b < n → KeepsRules N label b) (λ a. (a < n) × (KeepsRules N label a → ⊥) × ((b : ℕ) → b < a → KeepsRules N label b))
