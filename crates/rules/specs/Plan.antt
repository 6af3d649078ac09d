-- The track plan: its three parts, and the numbers of a section, of a turn and of an arrival.
-- A comment begins with the heading of document 01 under which its sentence stands.
-- Assumes nothing.
use Rattle.std.specs.Prelude.{Bool, cond, ◌&&◌, ◌||◌, List, [], ℕ, ◌+◌, ◌-◌, ◌*◌, ◌/◌, ◌%◌, eqb, length, get_or}
use Rattle.rules.specs.Ranges.{some_of}

-- [The plan] how many points there are (they are numbered from 0), the table of sections and the table of forbidden turns
pub record Plan : Type 0 where
  pub points : ℕ
  pub sections : List ℕ
  pub turns : List ℕ

-- [The plan] a plan from the three arguments by which the library's functions take it
abbrev pub plan_of : ℕ → List ℕ → List ℕ → Plan
plan_of v ss ts = record { points = v; sections = ss; turns = ts }

-- [The plan] a plan of which nothing but the table of sections is read
abbrev pub of_sections : List ℕ → Plan
of_sections ss = plan_of 0 ss []

-- [The plan] how many numbers a section has in its table
abbrev pub width : ℕ
width = 6

module _ (y : Plan) where
  -- [The plan] how many sections the table holds
  abbrev pub section_count : ℕ
  section_count = length y.sections / width

  -- [The plan] how many forbidden turns the table holds
  abbrev pub turn_count : ℕ
  turn_count = length y.turns / 2

  -- [The plan] number k of section s
  abbrev pub field : ℕ → ℕ → ℕ
  field s k = get_or y.sections (width * s + k) 0

  -- [The plan] the first of the six numbers: the point at end A
  abbrev pub end_A : ℕ → ℕ
  end_A s = field s 0

  -- [The plan] the point at end B
  abbrev pub end_B : ℕ → ℕ
  end_B s = field s 1

  -- [The plan] the length
  abbrev pub len : ℕ → ℕ
  len s = field s 2

  -- [The plan] the kind
  abbrev pub kind : ℕ → ℕ
  kind s = field s 3

  -- [The plan] the free length from end A
  abbrev pub free_A : ℕ → ℕ
  free_A s = field s 4

  -- [The plan] the free length from end B
  abbrev pub free_B : ℕ → ℕ
  free_B s = field s 5

  -- [Train, start, finish] the point at an end that is given by its number, 0 for A and 1 for B
  abbrev pub end_at : ℕ → ℕ → ℕ
  end_at s e = field s e

  -- [Train, start, finish] the free length from the end with that number
  abbrev pub free_at : ℕ → ℕ → ℕ
  free_at s e = field s (4 + e)

  -- [The plan] kind 0
  abbrev pub connecting : ℕ → Bool
  connecting s = eqb (kind s) 0

  -- [The plan] kind 1
  abbrev pub destination : ℕ → Bool
  destination s = eqb (kind s) 1

  -- [The plan] nothing stands on the section: the free length from either end is its whole length
  abbrev pub is_free : ℕ → Bool
  is_free s = eqb (free_A s) (len s) && eqb (free_B s) (len s)

  -- [The plan] a locked section: no free length at either end
  abbrev pub is_locked : ℕ → Bool
  is_locked s = eqb (free_A s) 0 && eqb (free_B s) 0

  -- [The plan] the point p is an end of section s
  abbrev pub touches : ℕ → ℕ → Bool
  touches s p = eqb (end_A s) p || eqb (end_B s) p

  -- [An admissible walk] the other end of a section that is entered at its end p
  abbrev pub far : ℕ → ℕ → ℕ
  far s p = cond (eqb (end_A s) p) (end_B s) (end_A s)

  -- [An admissible walk] the free length of a section from its entry p
  abbrev pub free_from : ℕ → ℕ → ℕ
  free_from s p = cond (eqb (end_A s) p) (free_A s) (free_B s)

  -- [The plan] sections s and r join the same two points
  abbrev pub same_ends : ℕ → ℕ → Bool
  same_ends s r = touches s (end_A r) && touches s (end_B r)

  -- [The plan] the two sections of forbidden turn t (k is 0 or 1)
  abbrev pub turn_section : ℕ → ℕ → ℕ
  turn_section t k = get_or y.turns (2 * t + k) 0

  -- [The plan] a point that sections s and r share, where they share one
  abbrev pub shared_point : ℕ → ℕ → ℕ
  shared_point s r = cond (touches r (end_A s)) (end_A s) (end_B s)

  -- [The plan] the point of forbidden turn t
  abbrev pub turn_point : ℕ → ℕ
  turn_point t = shared_point (turn_section t 0) (turn_section t 1)

  -- [The plan] the turn from section c to section s is forbidden; a turn holds both ways
  abbrev pub forbidden : ℕ → ℕ → Bool
  forbidden c s =
      some_of (λ t. (eqb (turn_section t 0) c && eqb (turn_section t 1) s) || (eqb (turn_section t 0) s && eqb (turn_section t 1) c)) 0 turn_count

  -- [The plan] how many arrivals there are: 2s comes over section s to its end A, 2s + 1 to its end B
  abbrev pub arrivals : ℕ
  arrivals = 2 * section_count

  -- [The plan] the point to which an arrival comes
  abbrev pub to_point : ℕ → ℕ
  to_point a = end_at (a / 2) (a % 2)

  -- [An admissible walk] the point at the other end of its section, where a step to this arrival begins
  abbrev pub from_point : ℕ → ℕ
  from_point a = end_at (a / 2) (1 - a % 2)

-- [The plan] the section of an arrival
abbrev pub sec : ℕ → ℕ
sec a = a / 2
