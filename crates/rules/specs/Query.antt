-- One train with its start and its finish, and which of these are refused: numbers 7 to 11.
-- Assumes nothing.
use Rattle.std.specs.Prelude.{Bool, cond, not, ◌&&◌, List, [], ◌∷◌, ◌++◌, ℕ, ◌+◌, ◌*◌, eqb, leb, ltb}
use Rattle.rules.specs.Ranges.{between}
use Rattle.rules.specs.Plan.{Plan, section_count, len, free_A, free_B, free_at, is_free, destination, arrivals}
use Rattle.rules.specs.Refusals.{Check, once}
use Rattle.rules.specs.PlanCheck.{plan_checks}

-- [Train, start, finish] the plan, the train's length, the section and the end by which it leaves, the section and the end by which it enters (0 = A, 1 = B)
pub record Query : Type 0 where
  pub plan : Plan
  pub train : ℕ
  pub start : ℕ
  pub start_end : ℕ
  pub finish : ℕ
  pub finish_end : ℕ

-- [Train, start, finish] a query from a plan and the five numbers by which the library's functions take it
abbrev pub query_of : Plan → ℕ → ℕ → ℕ → ℕ → ℕ → Query
query_of y l x e f g = record { plan = y; train = l; start = x; start_end = e; finish = f; finish_end = g }

module _ (q : Query) where
  -- [An admissible walk] the arrival on the start section at the start end
  abbrev pub start_arrival : ℕ
  start_arrival = 2 * q.start + q.start_end

  -- [An admissible walk] the distance with which every walk begins: the free length of the start section from the start end
  abbrev pub first_distance : ℕ
  first_distance = free_at q.plan q.start q.start_end

  -- [Train, start, finish] what the train and the two free lengths of its section take together
  abbrev pub taken : ℕ
  taken = q.train + free_A q.plan q.start + free_B q.plan q.start

  -- [Train, start, finish] at least a train's length of stock stands on the start section
  abbrev pub stands : Bool
  stands = leb taken (len q.plan q.start)

  -- [Train, start, finish] stock stands there, and it is the train and nothing else
  abbrev pub alone : Bool
  alone = not (is_free q.plan q.start) && eqb taken (len q.plan q.start)

  -- [Train, start, finish] the free length at the finish end; on the start section the whole length where the train is alone
  abbrev pub finish_room : ℕ
  finish_room = cond (eqb q.start q.finish && alone) (len q.plan q.finish) (free_at q.plan q.finish q.finish_end)

  -- [Train, start, finish] a section of the plan that is a destination, and one of its ends
  abbrev pub destination_end : ℕ → ℕ → Bool
  destination_end s e = ltb s (section_count q.plan) && leb e 1 && destination q.plan s

  -- [Refusal 7] the train's length is in range
  abbrev pub train_good : Bool
  train_good = between 1 q.train 20000

  -- [Refusal 8] the train stands on a destination section and leaves by one of its ends
  abbrev pub start_good : Bool
  start_good = destination_end q.start q.start_end && stands

  -- [Refusal 9] the train enters a destination section by one of its ends, and not where it started
  abbrev pub finish_good : Bool
  finish_good = destination_end q.finish q.finish_end && not (eqb q.start q.finish && eqb q.start_end q.finish_end)

  -- [Refusal 10] the finish room is at least the train's length
  abbrev pub room_good : Bool
  room_good = leb q.train finish_room

  -- [Refusal numbers] 7 to 10 in their order
  abbrev pub train_checks : List Check
  train_checks = once 7 (not train_good) ∷ once 8 (not start_good) ∷ once 9 (not finish_good) ∷ once 10 (not room_good) ∷ []

  -- [Refusal numbers] 1 to 11, what search and sheet check have in common; n is the length of the label buffer
  abbrev pub query_checks : ℕ → List Check
  query_checks n = plan_checks q.plan ++ (train_checks ++ (once 11 (not (eqb n (arrivals q.plan))) ∷ []))
