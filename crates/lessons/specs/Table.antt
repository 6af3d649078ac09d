-- The table of lessons: what a lesson says, and what the functions on the table do to it.
-- Assumes nothing.
use Rattle.std.specs.Prelude.{◌≡◌, ◌≢◌, Bool, List, Option, Some, None, ℕ, ◌<◌, min, length, take, [], replicate, get_or}
use Rattle.points.specs.declared.Points.{Points}
use Rattle.points.specs.Points.{Among, member, kept, Narrow, Loaded}
use Rattle.lessons.specs.declared.lesson.Lesson.{Lesson}
use Rattle.lessons.specs.declared.lesson.Row.{Row}
use Rattle.lessons.specs.Limit.{AnyList, Limit}

-- no row
abbrev pub no_row : Row
no_row = record { next = 0; lessons = [] }

-- lesson j of a row
abbrev pub lesson_in : Row → ℕ → Option Lesson
lesson_in row j = get_or row.lessons j None

-- the row of the point p; past the table's end there is none
abbrev pub row_of : List Row → ℕ → Row
row_of memo p = get_or memo p no_row

-- lesson j of the point p
abbrev pub lesson_of : List Row → ℕ → ℕ → Option Lesson
lesson_of memo p j = lesson_in (row_of memo p) j

-- the words that keep a lesson's reasons
abbrev pub words_of : Lesson → List ℕ
words_of lesson = take (min lesson.words 24) lesson.reasons

-- the points that are a lesson's reasons
abbrev pub reasons_of : Lesson → ℕ → Bool
reasons_of lesson = kept (words_of lesson)

-- a row that has no lesson, as a table is filled with
abbrev pub nothing : Row
nothing = record { next = 0; lessons = replicate 4 None }

-- a place of the point p has no lesson, or one that is a limit of its arrival
abbrev pub RightAt : List ℕ → List ℕ → ℕ → ℕ → ℕ → Option Lesson → Type 0
RightAt ss ts c s p found = (lesson : Lesson) → found ≡ Some lesson → Limit ss ts c s lesson.over p AnyList (reasons_of lesson) lesson.most

-- so is each in the table
pub record Lessons (ss ts : List ℕ) (c s : ℕ) (memo : List Row) : Type 0 where
  pub right : (p j : ℕ) → RightAt ss ts c s p (lesson_of memo p j)

-- the lesson tells a try with these marks and the length `left`, come over section h, that it is in vain
pub record Teaches (lesson : Lesson) (h : ℕ) (marks : ℕ → Bool) (left : ℕ) : Type 0 where
  pub over : lesson.over ≡ h
  pub less : lesson.most < left
  pub met : Among (reasons_of lesson) marks

-- the tables b and m differ at most in where the next lesson of p goes
pub record SameLessons (p : ℕ) (b m : List Row) : Type 0 where
  pub size : length m ≡ length b
  pub lessons : (row_of m p).lessons ≡ (row_of b p).lessons
  pub others : (q : ℕ) → q ≢ p → row_of m q ≡ row_of b q

-- the answer r of the table b, which is m then, to such a try at the arrival over h at p, with the reasons in the set ws before and us
-- after: nothing, or the limit of a lesson
pub data Recalled (h p : ℕ) (marks : ℕ → Bool) (left : ℕ) (b : List Row) (ws : Points) (r : Option ℕ) (m : List Row) (us : Points) : Type 0 where
  silent : r ≡ None → m ≡ b → us ≡ ws → Recalled h p marks left b ws r m us
  told : (j : ℕ) (lesson : Lesson) → j < 4 → p < length b → lesson_of b p j ≡ Some lesson → Teaches lesson h marks left
      → r ≡ Some lesson.most → Loaded (words_of lesson) us → SameLessons p b m → Recalled h p marks left b ws r m us

-- lesson j of the point p in the table m says that a train come over h gets no further than `most`, because of the set ws; but for that
-- lesson, and for where the next one of p goes, the table is b
pub record Placed (h p most : ℕ) (ws : Points) (b : List Row) (j : ℕ) (m : List Row) : Type 0 where
  pub lesson : Lesson
  pub placed : lesson_of m p j ≡ Some lesson
  pub over : lesson.over ≡ h
  pub far : lesson.most ≡ most
  pub narrow : Narrow ws lesson.words
  pub reasons : (k : ℕ) → reasons_of lesson k ≡ member ws k
  pub lessons : (i : ℕ) → i ≢ j → lesson_of m p i ≡ lesson_of b p i
  pub others : (q : ℕ) → q ≢ p → row_of m q ≡ row_of b q

-- a lesson was to be kept in the table b, which is m then: as it was, or with the lesson in one of the four places of p
pub data Wrote (h p most : ℕ) (ws : Points) (b m : List Row) : Type 0 where
  left_out : m ≡ b → Wrote h p most ws b m
  put_in : (j : ℕ) → j < 4 → length m ≡ length b → Placed h p most ws b j m → Wrote h p most ws b m
