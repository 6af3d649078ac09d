-- Sheets: a claim, a list of arrivals and labels, and what their checker answers: numbers 1 to 11, 17, 18, 19.
-- Assumes nothing.
use Rattle.std.specs.Prelude.{◌≡◌, ◌≢◌, List, [], ℕ, ◌+◌, ◌<◌, length, get_or}
use Rattle.rules.specs.Plan.{arrivals}
use Rattle.rules.specs.Refusals.{Verdict, passed, refused_at, verdict}
use Rattle.rules.specs.Query.{Query, start_arrival, first_distance, query_checks}
use Rattle.rules.specs.Net.{no_distance, Walk, KeepsRules}
use Rattle.rules.specs.Trip.{query_net, total}
use Rattle.rules.specs.Search.{Numbers, refusal, success}

-- [The sheet] the claim (0 no route, 1 walk), the list of arrivals as the search writes them, and the labels
pub record Sheet : Type 0 where
  pub claim : ℕ
  pub list : List ℕ
  pub labels : List ℕ

-- [The sheet] a sheet from the three arguments by which the library's function takes it
abbrev pub sheet_of : ℕ → List ℕ → List ℕ → Sheet
sheet_of c bs ls = record { claim = c; list = bs; labels = ls }

-- [The sheet] the label of an arrival
abbrev pub label_of : Sheet → ℕ → ℕ
label_of h a = get_or h.labels a no_distance

-- [Refusal 17] what is not refused: no route and no list, or a walk and a list that is an admissible one
pub data Claims (q : Query) (h : Sheet) : Type 0 where
  no_route : h.claim ≡ 0 → h.list ≡ [] → Claims q h
  a_walk : h.claim ≡ 1 → Walk (query_net q) (start_arrival q) h.list → Claims q h

-- [The sheet; refusal 18] what is not refused: the label rules hold at the arrival a
abbrev pub RulesAt : Query → Sheet → ℕ → Type 0
RulesAt q h a = KeepsRules (query_net q) (label_of h) a

-- [The sheet; refusal 19] what is not refused: the start label is "none" for no route, and for a walk it is what is left of the total after the first distance
pub data StartLabel (q : Query) (h : Sheet) : Type 0 where
  no_route : h.claim ≡ 0 → label_of h (start_arrival q) ≡ no_distance → StartLabel q h
  a_walk : h.claim ≡ 1 → first_distance q + label_of h (start_arrival q) ≡ total q h.list → StartLabel q h

-- [Refusal numbers] the numbers of an accepted sheet: those of the walk, or zeros
pub data Accepted (q : Query) (h : Sheet) (r : Numbers) : Type 0 where
  no_route : h.claim ≡ 0 → r ≡ refusal passed → Accepted q h r
  a_walk : h.claim ≡ 1 → r ≡ success q h.list → Accepted q h r

-- [Refusal numbers] what may be answered to the sheet h of the query q; the checker writes nothing
pub data SheetAnswer (q : Query) (h : Sheet) (r : Numbers) : Type 0 where
  refused : (v : Verdict) → verdict (query_checks q (length h.labels)) ≡ v → v.number ≢ 0 → r ≡ refusal v → SheetAnswer q h r
  bad_claim : verdict (query_checks q (length h.labels)) ≡ passed → (Claims q h → ⊥) → r ≡ refusal (refused_at 17 0) → SheetAnswer q h r
  -- the place is the lowest arrival at which a rule is broken
  bad_label : (a : ℕ) → verdict (query_checks q (length h.labels)) ≡ passed → Claims q h → a < arrivals q.plan → (RulesAt q h a → ⊥)
      → ((b : ℕ) → b < a → RulesAt q h b) → r ≡ refusal (refused_at 18 a) → SheetAnswer q h r
  bad_start : verdict (query_checks q (length h.labels)) ≡ passed → Claims q h → ((a : ℕ) → a < arrivals q.plan → RulesAt q h a)
      → (StartLabel q h → ⊥) → r ≡ refusal (refused_at 19 0) → SheetAnswer q h r
  accepted : verdict (query_checks q (length h.labels)) ≡ passed → Claims q h → ((a : ℕ) → a < arrivals q.plan → RulesAt q h a)
      → StartLabel q h → Accepted q h r → SheetAnswer q h r
