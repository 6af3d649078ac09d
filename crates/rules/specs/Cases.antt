-- The small yards of document 01 with their answers: the table of the cases that are proved.
-- Assumes nothing.
use Rattle.std.specs.Prelude.{◌≡◌, List, [], ◌∷◌, ◌++◌, ℕ, ◌≤◌, length, drop}
use Rattle.rules.specs.Plan.{Plan, arrivals, plan_of}
use Rattle.rules.specs.Refusals.{refused_at}
use Rattle.rules.specs.Query.{Query, query_of}
use Rattle.rules.specs.Net.{no_distance}
use Rattle.rules.specs.Search.{Numbers, refusal, Answer}
use Rattle.rules.specs.Sheet.{Sheet, sheet_of, SheetAnswer}
use Rattle.rules.specs.PullAnswer.{Reversal, reversal_of, PullAnswer, not_pulled}

-- [Small yards to try] yard Y; what stands on sections 0 and 4 differs from case to case
abbrev pub yard_Y : ℕ → ℕ → ℕ → ℕ → Plan
yard_Y a₀ b₀ a₄ b₄ =
    plan_of 6
    (0 ∷ 1 ∷ 3000 ∷ 1 ∷ a₀ ∷ b₀
    ∷ 1 ∷ 2 ∷ 400 ∷ 0 ∷ 400 ∷ 400
    ∷ 1 ∷ 3 ∷ 500 ∷ 0 ∷ 500 ∷ 500
    ∷ 2 ∷ 4 ∷ 2000 ∷ 1 ∷ 100 ∷ 1300
    ∷ 3 ∷ 5 ∷ 2500 ∷ 1 ∷ a₄ ∷ b₄ ∷ [])
    (1 ∷ 2 ∷ [])

-- [Small yards to try] yard Y with sections 0 and 4 free
abbrev pub plain_Y : Plan
plain_Y = yard_Y 3000 3000 2500 2500

-- [Small yards to try] a train that leaves section 3 by its end A, as all of yard Y's do
abbrev pub from_3 : Plan → ℕ → ℕ → ℕ → Query
from_3 y l f e = query_of y l 3 0 f e

-- [Small yards to try] the yard of three points, and its query
abbrev pub three_points : Query
three_points = query_of (plan_of 3 (0 ∷ 1 ∷ 1000 ∷ 1 ∷ 700 ∷ 100 ∷ 1 ∷ 2 ∷ 900 ∷ 1 ∷ 900 ∷ 900 ∷ []) []) 200 0 1 1 0

-- [Small yards to try] the loop, asked for the pull-out of arrival 2 and section 2
abbrev pub loop : ℕ → Reversal
loop l =
    reversal_of
    (plan_of 4
    (0 ∷ 1 ∷ 300 ∷ 1 ∷ 300 ∷ 300
    ∷ 0 ∷ 3 ∷ 100 ∷ 0 ∷ 100 ∷ 100
    ∷ 0 ∷ 2 ∷ 200 ∷ 0 ∷ 200 ∷ 200
    ∷ 1 ∷ 2 ∷ 300 ∷ 1 ∷ 300 ∷ 300 ∷ [])
    (1 ∷ 2 ∷ []))
    l
    2
    2

-- one case: a query and its refusal by 1 to 11; no route; a walk; a sheet; a pull-out and none
pub data Case : Type 0 where
  refuses : (q : Query) (number place : ℕ) → Case
  no_way : (q : Query) (ls : List ℕ) → Case
  goes : (q : Query) (total reversals : ℕ) (bs ls : List ℕ) → Case
  judges : (q : Query) (h : Sheet) (r : Numbers) → Case
  pulls : (v : Reversal) (qs : List ℕ) → Case
  pulls_none : (v : Reversal) → Case

-- what a case says: the answer, whatever the lent buffers hold, where they are large enough
abbrev pub Right : Case → Type 0
Right (refuses q n p) =
    (route labels : List ℕ) → length labels ≡ arrivals q.plan → Answer q route labels (record { numbers = refusal (refused_at n p); route = route; labels = labels })
Right (no_way q ls) =
    (route labels : List ℕ) → length labels ≡ arrivals q.plan → Answer q route labels (record { numbers = refusal (refused_at 12 0); route = route; labels = ls })
Right (goes q t r bs ls) =
    (route labels : List ℕ) → length labels ≡ arrivals q.plan → length bs ≤ length route → Answer q route labels (record {
      numbers = record { refusal = 0; place = 0; total = t; reversals = r; steps = length bs };
      route = bs ++ drop (length bs) route;
      labels = ls;
    })
Right (judges q h r) = SheetAnswer q h r
Right (pulls v qs) =
    (list : List ℕ) → length qs ≤ length list → PullAnswer v list (record { refusal = 0; place = 0; count = length qs; list = qs ++ drop (length qs) list })
Right (pulls_none v) = (list : List ℕ) → PullAnswer v list (not_pulled (refused_at 16 0) list)

-- [Small yards to try] labels of yard Y, of which those of arrivals 2 and 6 differ from sheet to sheet
abbrev pub labels_Y : ℕ → ℕ → List ℕ
labels_Y l₂ l₆ =
    no_distance ∷ 3000 ∷ l₂ ∷ no_distance ∷ no_distance ∷ 2500 ∷ l₆ ∷ no_distance ∷ no_distance ∷ no_distance ∷ []

-- [Small yards to try] the cases that are marked (P)
abbrev pub cases : List Case
cases =
    goes (from_3 plain_Y 600 4 0) 4100 1 (2 ∷ 5 ∷ []) (labels_Y 3600 4000)
    ∷ goes (from_3 (yard_Y 2000 600 2500 2500) 600 4 0) 4100 1 (2 ∷ 5 ∷ []) (labels_Y 3600 4000)
    ∷ no_way (from_3 (yard_Y 2000 599 2500 2500) 600 4 0) (labels_Y no_distance no_distance)
    ∷ goes (from_3 (yard_Y 3000 3000 600 0) 600 4 0) 2200 1 (2 ∷ 5 ∷ [])
    (no_distance ∷ 1100 ∷ 1700 ∷ no_distance ∷ no_distance ∷ 600 ∷ 2100 ∷ no_distance ∷ no_distance ∷ no_distance ∷ [])
    ∷ refuses (from_3 (yard_Y 3000 3000 599 0) 600 4 0) 10 0
    ∷ refuses (from_3 plain_Y 601 4 0) 8 0
    ∷ refuses (from_3 plain_Y 0 4 0) 7 0
    ∷ refuses (from_3 plain_Y 20001 4 0) 7 0
    ∷ refuses (from_3 plain_Y 600 3 0) 9 0
    ∷ no_way (from_3 plain_Y 600 3 1)
    (no_distance ∷ no_distance ∷ no_distance ∷ no_distance ∷ no_distance ∷ no_distance ∷ no_distance ∷ no_distance ∷ no_distance ∷ no_distance ∷ [])
    ∷ judges (from_3 plain_Y 600 4 0) (sheet_of 1 (2 ∷ 5 ∷ []) (labels_Y 3600 4000)) (record { refusal = 0; place = 0; total = 4100; reversals = 1; steps = 2 })
    ∷ judges (from_3 plain_Y 600 4 0) (sheet_of 1 (2 ∷ 5 ∷ []) (labels_Y 3601 4000)) (refusal (refused_at 18 2))
    ∷ judges (from_3 plain_Y 600 4 0) (sheet_of 1 (2 ∷ 5 ∷ []) (labels_Y 3599 4000)) (refusal (refused_at 18 6))
    ∷ judges (from_3 plain_Y 600 4 0) (sheet_of 1 (2 ∷ 5 ∷ []) (labels_Y 3600 3999)) (refusal (refused_at 19 0))
    ∷ goes three_points 1000 0 [] (no_distance ∷ 900 ∷ no_distance ∷ no_distance ∷ [])
    ∷ pulls (loop 600) (0 ∷ 3 ∷ [])
    ∷ pulls_none (loop 601)
    ∷ []
