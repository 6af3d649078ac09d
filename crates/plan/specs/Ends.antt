-- The sections at each point, as tables: how many they are, and which.
-- Assumes nothing.
use Rattle.std.specs.Prelude.{◌≡◌, ◌≢◌, Bool, not, List, ℕ, ◌+◌, ◌*◌, ◌≤◌, ◌<◌, T, get_or, set, replicate}
use Rattle.rules.specs.Ranges.{between, count_of}
use Rattle.rules.specs.Plan.{of_sections, section_count, end_A, end_B, touches}
use Rattle.rules.specs.PlanCheck.{degree}

-- section s joins two different points
pub record Joins (ss : List ℕ) (s : ℕ) : Type 0 where
  pub a : end_A (of_sections ss) s < 768
  pub b : end_B (of_sections ss) s < 768
  pub apart : end_A (of_sections ss) s ≢ end_B (of_sections ss) s

-- what refusals 1 and 2 have seen to: there are at most 1,024 sections, and each joins two different points (no type of its own: it is
-- known only after those two, of the tables that all of the check reads)
pub record Joined (ss : List ℕ) : Type 0 where
  pub few : section_count (of_sections ss) ≤ 1024
  pub each : (s : ℕ) → s < section_count (of_sections ss) → Joins ss s

-- no point has over three sections
pub record AtMostThree (ss : List ℕ) : Type 0 where
  pub at : (p : ℕ) → p < 768 → degree (of_sections ss) p ≤ 3

-- how many of the sections before s have point p for an end
abbrev pub degree_before : List ℕ → ℕ → ℕ → ℕ
degree_before ss p s = count_of (λ r. touches (of_sections ss) r p) 0 s

-- a table of numbers by point, with one more at p
abbrev pub counted : List ℕ → ℕ → List ℕ
counted d p = set d p (get_or d p 0 + 1)

-- the table d has at each point how many sections the point has
pub record Degrees (ss d : List ℕ) : Type 0 where
  pub at : (p : ℕ) → p < 768 → get_or d p 0 ≡ degree (of_sections ss) p

-- refusal 4 at point p, by such a table
abbrev pub degree_bad_by : List ℕ → ℕ → Bool
degree_bad_by d p = not (between 1 (get_or d p 0) 3)

-- no section has this number
abbrev pub no_section : ℕ
no_section = 4294967295

-- slots in which no section stands
abbrev pub no_slots : List ℕ
no_slots = replicate 2304 no_section

-- The table has three slots a point. At each of its ends a section stands in the slot whose number is how many earlier
-- sections have that end. So the slots below a point's degree hold its sections in ascending order; those beyond hold none.
pub record Slots (ss slots : List ℕ) : Type 0 where
  pub stands : (s p : ℕ) → s < section_count (of_sections ss) → T (touches (of_sections ss) s p)
      → get_or slots (3 * p + degree_before ss p s) 0 ≡ s
  pub beyond : (p j : ℕ) → p < 768 → degree (of_sections ss) p ≤ j → j < 3 → get_or slots (3 * p + j) 0 ≡ no_section

-- all that is known where such a table has been made
pub record Indexed (ss slots : List ℕ) : Type 0 where
  pub joined : Joined ss
  pub three : AtMostThree ss
  pub slotted : Slots ss slots
