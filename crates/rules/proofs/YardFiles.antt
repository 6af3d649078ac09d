-- The definitions of yard files on small files: yard Y is read (`reads_Y`) or does not fit (`short_Y`), and each kind of fault is found at
-- the byte at which its field begins (`faults`).
-- Assumes nothing.
use mathlib.Core.Path.{◌≡◌, refl}
use mathlib.Core.Option.{none, some}
use mathlib.Core.List.{List, [], ◌∷◌, ◌++◌, map}
use Prim.Native.Nat.{ℕ}
use Rattle.rules.specs.Refusals.{refused_at}
use Rattle.rules.specs.Cases.{plain_Y}
use Rattle.rules.specs.YardFile.{number, places, fields, faulty, fault_among, fault, rows, tagged, lent_of, unread, read}

-- fields: V is 6, the sections of yard Y, its turn, a train of length 600 from (3, 0) to (4, 0)
abbrev points : List ℕ
points = 1 ∷ 0 ∷ 2 ∷ 0 ∷ 6 ∷ []

abbrev sections : List ℕ
sections =
    2 ∷ 0 ∷ 17 ∷ 0 ∷ 0 ∷ 0 ∷ 1 ∷ 0 ∷ 0 ∷ 11 ∷ 184 ∷ 1 ∷ 0 ∷ 0 ∷ 11 ∷ 184 ∷ 0 ∷ 0 ∷ 11 ∷ 184
    ∷ 2 ∷ 0 ∷ 17 ∷ 0 ∷ 1 ∷ 0 ∷ 2 ∷ 0 ∷ 0 ∷ 1 ∷ 144 ∷ 0 ∷ 0 ∷ 0 ∷ 1 ∷ 144 ∷ 0 ∷ 0 ∷ 1 ∷ 144
    ∷ 2 ∷ 0 ∷ 17 ∷ 0 ∷ 1 ∷ 0 ∷ 3 ∷ 0 ∷ 0 ∷ 1 ∷ 244 ∷ 0 ∷ 0 ∷ 0 ∷ 1 ∷ 244 ∷ 0 ∷ 0 ∷ 1 ∷ 244
    ∷ 2 ∷ 0 ∷ 17 ∷ 0 ∷ 2 ∷ 0 ∷ 4 ∷ 0 ∷ 0 ∷ 7 ∷ 208 ∷ 1 ∷ 0 ∷ 0 ∷ 0 ∷ 100 ∷ 0 ∷ 0 ∷ 5 ∷ 20
    ∷ 2 ∷ 0 ∷ 17 ∷ 0 ∷ 3 ∷ 0 ∷ 5 ∷ 0 ∷ 0 ∷ 9 ∷ 196 ∷ 1 ∷ 0 ∷ 0 ∷ 9 ∷ 196 ∷ 0 ∷ 0 ∷ 9 ∷ 196 ∷ []

abbrev turn : List ℕ
turn = 3 ∷ 0 ∷ 4 ∷ 0 ∷ 1 ∷ 0 ∷ 2 ∷ []

abbrev query : List ℕ
query = 4 ∷ 0 ∷ 10 ∷ 0 ∷ 0 ∷ 2 ∷ 88 ∷ 0 ∷ 3 ∷ 0 ∷ 0 ∷ 4 ∷ 0 ∷ []

abbrev file_Y : List ℕ
file_Y = points ++ sections ++ turn ++ query

-- the tables go into the fronts, and what stands behind them stays
pub reads_Y : (x y z : ℕ)
    → read file_Y (lent_of (map (λ n. 0) plain_Y.sections ++ (x ∷ [])) (0 ∷ 0 ∷ y ∷ []) (0 ∷ 0 ∷ 0 ∷ 0 ∷ 0 ∷ z ∷ []))
    ≡ record {
      refusal = 0;
      place = 0;
      points = 6;
      sections = 5;
      turns = 1;
      queries = 1;
      tables = lent_of (plain_Y.sections ++ (x ∷ [])) (1 ∷ 2 ∷ y ∷ []) (600 ∷ 3 ∷ 0 ∷ 4 ∷ 0 ∷ z ∷ []);
    }
unfolding number places fields faulty fault_among fault rows tagged
reads_Y x y z = refl

-- a lent table that is too short by one is left as it was
pub short_Y : (x y : ℕ)
    → read file_Y (lent_of plain_Y.sections (x ∷ y ∷ []) (0 ∷ 0 ∷ 0 ∷ 0 ∷ []))
    ≡ unread (refused_at 14 0) (lent_of plain_Y.sections (x ∷ y ∷ []) (0 ∷ 0 ∷ 0 ∷ 0 ∷ []))
unfolding number places fields faulty fault_among fault rows tagged
short_Y x y = refl

abbrev files : List (List ℕ)
files =
    -- without a fault: V alone, a V that no plan may have, no sections
    points ∷ (1 ∷ 0 ∷ 2 ∷ 0 ∷ 0 ∷ []) ∷ (points ++ turn ++ query ++ query)
    -- empty, cut short in its head, cut short after it
    ∷ [] ∷ (1 ∷ 0 ∷ []) ∷ (points ++ turn ++ (4 ∷ 0 ∷ 10 ∷ 0 ∷ []))
    -- unknown
    ∷ (points ++ (5 ∷ 0 ∷ 0 ∷ [])) ∷ (points ++ (0 ∷ 0 ∷ 0 ∷ []))
    -- of wrong length
    ∷ (1 ∷ 0 ∷ 3 ∷ 0 ∷ 0 ∷ 6 ∷ []) ∷ (points ++ (3 ∷ 0 ∷ 5 ∷ 0 ∷ 1 ∷ 0 ∷ 2 ∷ 0 ∷ []))
    -- out of order: tag 1 is not first, a tag falls
    ∷ (turn ++ points) ∷ (points ++ query ++ turn)
    -- too many: tag 1 again
    ∷ (points ++ points)
    ∷ []

pub faults : map fault files
    ≡ (none ∷ none ∷ none ∷ some 0 ∷ some 0 ∷ some 12 ∷ some 5 ∷ some 5 ∷ some 0 ∷ some 5 ∷ some 0 ∷ some 18 ∷ some 5 ∷ [])
unfolding number places fields faulty fault_among fault
faults = refl
