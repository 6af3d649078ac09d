-- Labels on the way to the remaining distances: one number for each arrival of a table of steps. What the steps offer, when nothing
-- better is offered, and what lowering labels keeps.
-- Assumes nothing.
use Rattle.std.specs.Prelude.{◌≡◌, Bool, true, false, cond, List, [], ◌∷◌, ℕ, ◌+◌, ◌≤◌, ◌<◌, min, length, get_or, set}
use Rattle.rules.specs.declared.net.NetTable.{NetTable}
use Rattle.rules.specs.declared.net.Row.{Row}
use Rattle.rules.specs.declared.net.Step.{Step}
use Rattle.rules.specs.Net.{no_distance}
use Rattle.rules.specs.Rows.{row_at}

-- what a step offers: its cost and the label of the arrival to which it leads, "none" where that is no number or no arrival
unfoldable pub offer : Step → List ℕ → ℕ
offer s labels = min (s.cost + get_or labels s.next no_distance) no_distance

-- what the arrival of a row offers by itself: the room where a walk may end
unfoldable pub end_offer : Row → ℕ → ℕ
end_offer row room = cond row.ends room no_distance

-- the least of what is offered to the arrival a
unfoldable pub best : NetTable → List ℕ → ℕ → ℕ
best t labels a =
    min (end_offer (row_at t.rows.now a) t.room) (min (offer (row_at t.rows.now a).first labels) (offer (row_at t.rows.now a).second labels))

-- the sum of all labels: it falls with each
unfoldable pub label_sum : List ℕ → ℕ
label_sum [] = 0
label_sum (x ∷ xs) = x + label_sum xs

-- each arrival of the table has a label, and there are at most so many. Table and labels stay two parameters: the labels are lent to be
-- changed, and each contract over a struct that held them would have to say that they are the same slice still.
pub record Sizes (most : ℕ) (t : NetTable) (labels : List ℕ) : Type 0 where
  pub few : length labels ≤ most
  pub one_each : length labels ≡ length t.rows.now

-- the labels of the n arrivals are all "none"
pub record Blank (n : ℕ) (labels : List ℕ) : Type 0 where
  pub none : (a : ℕ) → a < n → get_or labels a no_distance ≡ no_distance

-- no label is below what is offered
pub record Above (t : NetTable) (labels : List ℕ) : Type 0 where
  pub above : (a : ℕ) → a < length labels → best t labels a ≤ get_or labels a no_distance

-- each label is the best that is offered
pub record Settled (t : NetTable) (labels : List ℕ) : Type 0 where
  pub settled : (a : ℕ) → a < length labels → get_or labels a no_distance ≡ best t labels a

-- the labels of the arrivals below n are no more than what is offered
pub record Still (t : NetTable) (labels : List ℕ) (n : ℕ) : Type 0 where
  pub still : (a : ℕ) → a < n → get_or labels a no_distance ≤ best t labels a

-- the label of a became v where v is less, which r tells
pub data Lowered (before after : List ℕ) (a v : ℕ) (r : Bool) : Type 0 where
  fell : r ≡ true → v < get_or before a no_distance → after ≡ set before a v → Lowered before after a v r
  stayed : r ≡ false → get_or before a no_distance ≤ v → after ≡ before → Lowered before after a v r

-- what any run of lowering labels to something that is offered keeps
pub record Kept (t : NetTable) (before after : List ℕ) : Type 0 where
  pub size : length after ≡ length before
  pub keeps : Above t before → Above t after

-- the arrival a was given the best label that it is offered; r tells whether its label fell, and if not, nothing changed
pub record Relaxed (t : NetTable) (before after : List ℕ) (a : ℕ) (r : Bool) : Type 0 where
  pub kept : Kept t before after
  pub falls : r ≡ true → label_sum after < label_sum before
  pub same : r ≡ false → after ≡ before
  pub still : r ≡ false → get_or before a no_distance ≤ best t before a

-- the arrivals below a were relaxed in turn; r tells whether any label fell
pub record Swept (t : NetTable) (before after : List ℕ) (a : ℕ) (r : Bool) : Type 0 where
  pub kept : Kept t before after
  pub low : label_sum after ≤ label_sum before
  pub falls : r ≡ true → label_sum after < label_sum before
  pub still : r ≡ false → (k : ℕ) → k < a → get_or after k no_distance ≤ best t after k
