-- Which plans are refused: numbers 1 to 6.
-- Assumes nothing.
use Rattle.std.specs.Prelude.{Bool, not, ◌&&◌, ◌||◌, List, [], ◌∷◌, ℕ, ◌+◌, ◌%◌, eqb, leb, ltb, length}
use Rattle.rules.specs.Ranges.{between, some_of, count_of}
use Rattle.rules.specs.Plan.{Plan, width, section_count, turn_count, end_A, end_B, len, kind, free_A, free_B, is_free, connecting, touches, same_ends, turn_section, turn_point}
use Rattle.rules.specs.Refusals.{Check, once, each}

module _ (y : Plan) where
  -- [The plan; refusal 1] the counts are in range, and each table is made of whole rows
  abbrev pub tables_good : Bool
  tables_good =
      between 1 y.points 768 && between 1 (section_count y) 1024 && leb (turn_count y) 768
      && eqb (length y.sections % width) 0 && eqb (length y.turns % 2) 0

  -- [The plan; refusal 2] what does not move: two different ends that are points, a length in range, one of the two kinds
  abbrev pub ground_good : ℕ → Bool
  ground_good s =
      ltb (end_A y s) y.points && ltb (end_B y s) y.points && not (eqb (end_A y s) (end_B y s))
      && between 1 (len y s) 200000 && leb (kind y s) 1

  -- [The plan; refusal 2] what stands there: the section is free, or its two free lengths leave some of it over
  abbrev pub stock_good : ℕ → Bool
  stock_good s = is_free y s || ltb (free_A y s + free_B y s) (len y s)

  -- [Refusal 2] the section breaks its own rule, which is these two together
  abbrev pub section_bad : ℕ → Bool
  section_bad s = not (ground_good s && stock_good s)

  -- [The plan; refusal 3] an earlier section joins the same two points
  abbrev pub doubled : ℕ → Bool
  doubled s = some_of (same_ends y s) 0 s

  -- [The plan] how many sections have point p for an end
  abbrev pub degree : ℕ → ℕ
  degree p = count_of (λ s. touches y s p) 0 (section_count y)

  -- [The plan; refusal 4] the point has no section or over three
  abbrev pub degree_bad : ℕ → Bool
  degree_bad p = not (between 1 (degree p) 3)

  -- [The plan; refusal 5] not two different connecting sections that share a point
  abbrev pub turn_bad : ℕ → Bool
  turn_bad t =
      let s = turn_section y t 0 in
      let r = turn_section y t 1 in
      not (ltb s (section_count y) && ltb r (section_count y) && not (eqb s r) && connecting y s && connecting y r
      && (touches y r (end_A y s) || touches y r (end_B y s)))

  -- [The plan; refusal 6] an earlier turn has the same point
  abbrev pub second_turn : ℕ → Bool
  second_turn t = some_of (λ u. eqb (turn_point y u) (turn_point y t)) 0 t

  -- [Refusal numbers] 1 to 6 in their order, 2 and 3 at sections, 4 at points, 5 and 6 at turns
  abbrev pub plan_checks : List Check
  plan_checks =
      once 1 (not tables_good)
      ∷ each 2 (section_count y) section_bad
      ∷ each 3 (section_count y) doubled
      ∷ each 4 y.points degree_bad
      ∷ each 5 (turn_count y) turn_bad
      ∷ each 6 (turn_count y) second_turn
      ∷ []
