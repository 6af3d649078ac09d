-- Yard files: their fields, the first fault, the tables that they hold, and what their reader answers: numbers 20 and 14.
-- Assumes nothing.
use Rattle.std.specs.Prelude.{Bool, cond, not, ◌&&◌, ◌||◌, List, [], ◌∷◌, ◌++◌, ℕ, zero, suc, ◌+◌, ◌*◌, ◌^◌, eqb, leb, ltb, length, get_or, take, drop}
use Rattle.std.proofs.Math.Option.{Option, none, some}
use Rattle.rules.specs.Ranges.{between}
use Rattle.rules.specs.Refusals.{Verdict, refused_at, passed}

-- [Yard file and route program] the number that some bytes make, the first of them counting most
unfoldable pub number : List ℕ → ℕ
number [] = 0
number (b ∷ bs) = b * 256 ^ length bs + number bs

-- [Yard file and route program] the tag of the field that begins at byte p of the file s
abbrev pub tag : List ℕ → ℕ → ℕ
tag s p = get_or s p 0

-- [Yard file and route program] the length that the field gives: how many bytes follow its first three
abbrev pub size : List ℕ → ℕ → ℕ
size s p = number (take 2 (drop (p + 1) s))

-- [Yard file and route program] the byte at which the next field begins
abbrev pub past : List ℕ → ℕ → ℕ
past s p = p + 3 + size s p

-- [Yard file and route program] where fields begin, from byte p on; k bounds how many are listed
unfoldable pub places : ℕ → List ℕ → ℕ → List ℕ
places zero s p = []
places (suc k) s p = cond (ltb p (length s)) (p ∷ places k s (past s p)) []

-- [Yard file and route program] where the fields begin, from byte p on: each takes a byte at least, so the file's length bounds them
unfoldable pub fields : List ℕ → ℕ → List ℕ
fields s p = places (length s) s p

-- [Yard file and route program] the bytes of each number of a field, by its tag. 1: V. 2: end A, end B, length, kind, free from A, free from B. 3: two sections. 4: train, start section and end, finish section and end
abbrev pub layout : ℕ → List ℕ
layout t =
    cond (eqb t 1) (2 ∷ [])
    (cond (eqb t 2) (2 ∷ 2 ∷ 4 ∷ 1 ∷ 4 ∷ 4 ∷ [])
    (cond (eqb t 3) (2 ∷ 2 ∷ [])
    (cond (eqb t 4) (4 ∷ 2 ∷ 1 ∷ 2 ∷ 1 ∷ []) [])))

-- [Yard file and route program] how many bytes these are in all
abbrev pub bytes_in : List ℕ → ℕ
bytes_in [] = 0
bytes_in (w ∷ ws) = w + bytes_in ws

-- [Yard file and route program] how many fields of a tag a file has at most
abbrev pub limit : ℕ → ℕ
limit t = cond (eqb t 1) 1 (cond (eqb t 2) 1024 (cond (eqb t 3) 768 (cond (eqb t 4) 256 0)))

-- [Yard file and route program] how often a tag occurs
abbrev pub times : ℕ → List ℕ → ℕ
times t [] = 0
times t (u ∷ us) = cond (eqb u t) (suc (times t us)) (times t us)

-- [Yard file and route program] the file ends before the field does
abbrev pub cut_short : List ℕ → ℕ → Bool
cut_short s p = ltb (length s) (past s p)

-- [Yard file and route program] not one of the four tags
abbrev pub unknown : ℕ → Bool
unknown t = not (between 1 t 4)

-- [Yard file and route program] not as long as a field of its tag
abbrev pub wrong_length : List ℕ → ℕ → Bool
wrong_length s p = not (eqb (size s p) (bytes_in (layout (tag s p))))

-- [Yard file and route program] a tag after the tags before it, of which the latest stands first: tag 1 begins, and no tag is below the latest
abbrev pub out_of_order : List ℕ → ℕ → Bool
out_of_order [] t = not (eqb t 1)
out_of_order (u ∷ us) t = ltb t u

-- [Yard file and route program] as many fields of its tag as may be stand before it
abbrev pub too_many : List ℕ → ℕ → Bool
too_many before t = leb (limit t) (times t before)

-- [Yard file and route program] what is wrong with the field at p, after fields with the tags before
unfoldable pub faulty : List ℕ → List ℕ → ℕ → Bool
faulty s before p =
    cut_short s p || unknown (tag s p) || wrong_length s p || out_of_order before (tag s p) || too_many before (tag s p)

-- [Yard file and route program] the first faulty one of some fields
unfoldable pub fault_among : List ℕ → List ℕ → List ℕ → Option ℕ
fault_among s before [] = none
fault_among s before (p ∷ ps) = cond (faulty s before p) (some p) (fault_among s (tag s p ∷ before) ps)

-- [Yard file and route program] the byte at which the first faulty field begins; an empty file is at fault at 0
unfoldable pub fault : List ℕ → Option ℕ
fault s = cond (eqb (length s) 0) (some 0) (fault_among s [] (fields s 0))

-- [Yard file and route program] the numbers that stand in the file from byte k on, by the bytes of each
abbrev pub numbers : List ℕ → List ℕ → ℕ → List ℕ
numbers [] s k = []
numbers (w ∷ ws) s k = number (take w (drop k s)) ∷ numbers ws s (k + w)

-- [Yard file and route program] the numbers of those of some fields that have tag t, one field after the other
unfoldable pub rows : ℕ → List ℕ → List ℕ → List ℕ
rows t s [] = []
rows t s (p ∷ ps) = cond (eqb (tag s p) t) (numbers (layout t) s (p + 3)) [] ++ rows t s ps

-- [Yard file and route program] the table that the fields of tag t make
abbrev pub table : ℕ → List ℕ → List ℕ
table t s = rows t s (fields s 0)

-- [Yard file and route program] how many of some fields have tag t
unfoldable pub tagged : ℕ → List ℕ → List ℕ → ℕ
tagged t s [] = 0
tagged t s (p ∷ ps) = cond (eqb (tag s p) t) (suc (tagged t s ps)) (tagged t s ps)

-- [Yard file and route program] how many fields of tag t the file has
abbrev pub count : ℕ → List ℕ → ℕ
count t s = tagged t s (fields s 0)

-- [Refusal numbers] the three tables that are lent to the reader: sections, turns, queries
pub record Lent : Type 0 where
  pub sections : List ℕ
  pub turns : List ℕ
  pub queries : List ℕ

-- [Refusal numbers] the lent tables, from the three arguments by which the library's function takes them
abbrev pub lent_of : List ℕ → List ℕ → List ℕ → Lent
lent_of ss ts qs = record { sections = ss; turns = ts; queries = qs }

-- [Refusal numbers] what the reader answers, V and the three counts, and the lent tables at exit
pub record Reading : Type 0 where
  pub refusal : ℕ
  pub place : ℕ
  pub points : ℕ
  pub sections : ℕ
  pub turns : ℕ
  pub queries : ℕ
  pub tables : Lent

-- [Refusal numbers] a refusal writes nothing, and every number but its own and the place is 0
abbrev pub unread : Verdict → Lent → Reading
unread v lent = record { refusal = v.number; place = v.place; points = 0; sections = 0; turns = 0; queries = 0; tables = lent }

-- [Refusal numbers] a table goes into the front of a lent one; the rest stays
abbrev pub in_front : List ℕ → List ℕ → List ℕ
in_front new old = new ++ drop (length new) old

-- [Refusal numbers] the file's three tables in the fronts of the lent ones
abbrev pub in_fronts : List ℕ → Lent → Lent
in_fronts s lent = lent_of (in_front (table 2 s) lent.sections) (in_front (table 3 s) lent.turns) (in_front (table 4 s) lent.queries)

-- [Refusal 14] each lent table holds the file's
abbrev pub holds : Lent → List ℕ → Bool
holds lent s =
    leb (length (table 2 s)) (length lent.sections) && leb (length (table 3 s)) (length lent.turns) && leb (length (table 4 s)) (length lent.queries)

-- [Refusal numbers] success: V, the counts, and each table in front
abbrev pub taken_in : List ℕ → Lent → Reading
taken_in s lent =
    record {
      refusal = passed.number;
      place = passed.place;
      points = get_or (table 1 s) 0 0;
      sections = count 2 s;
      turns = count 3 s;
      queries = count 4 s;
      tables = in_fronts s lent;
    }

-- [Refusal numbers] the answer where the first fault is known
abbrev pub read_by : Option ℕ → List ℕ → Lent → Reading
read_by (some p) s lent = unread (refused_at 20 p) lent
read_by none s lent = cond (holds lent s) (taken_in s lent) (unread (refused_at 14 0) lent)

-- [Refusal numbers] what is answered to the file s: 20, then 14, then success; values are not judged
abbrev pub read : List ℕ → Lent → Reading
read s lent = read_by (fault s) s lent
