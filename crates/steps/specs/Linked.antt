-- Lists of arrivals each of which begins where the one before has come. Every walk is one.
-- Assumes nothing.
use Rattle.std.specs.Prelude.{◌≡◌, ◌≢◌, List, [], ◌∷◌, ℕ, ◌<◌}
use Rattle.rules.specs.Plan.{of_sections, arrivals, to_point, from_point, sec}

-- arrival b begins at the point of arrival a, over another section
pub record Link (ss : List ℕ) (a b : ℕ) : Type 0 where
  pub from : a < arrivals (of_sections ss)
  pub to : b < arrivals (of_sections ss)
  pub joined : from_point (of_sections ss) b ≡ to_point (of_sections ss) a
  pub other : sec b ≢ sec a

-- a leads to the first arrival of the list, each of them to the next
pub data Linked (ss : List ℕ) : ℕ → List ℕ → Type 0 where
  linked_end : {a : ℕ} → Linked ss a []
  linked : {a b : ℕ} {bs : List ℕ} → Link ss a b → Linked ss b bs → Linked ss a (b ∷ bs)
