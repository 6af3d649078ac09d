-- A sheet that claims no route, lists nothing and has no label that is a number passes where no walk can end.
-- Assumes nothing.
use mathlib.Core.Path.{◌≡◌}
use mathlib.Core.List.{List, []}
use Prim.Native.Nat.{ℕ, ◌<◌}
use native.Mathlib.Omega.{arith}
use native.Mathlib.Decide.{dec_lt}
use lib.ListN.{length, get_or, get_or-eq_default}
use Rattle.rules.specs.Query.{Query, start_arrival}
use Rattle.rules.specs.Net.{no_distance, above_all}
use Rattle.rules.specs.Trip.{Finish, trip_of}
use Rattle.rules.specs.Sheet.{sheet_of, no_route}
use Rattle.sheet.specs.Checking.{SheetPasses}

-- past their end there is no label that is a number
pub none_anywhere : (labels : List ℕ) → ((a : ℕ) → a < length labels → get_or labels a no_distance ≡ no_distance) → (a : ℕ) → get_or labels a no_distance ≡ no_distance
none_anywhere labels none a = go (dec_lt a (length labels))
  where
    go : Dec (a < length labels) → get_or labels a no_distance ≡ no_distance
    go (yes d) = none a d
    go (no d) = get_or-eq_default labels no_distance (omega arith)

pub nothing_passes : (q : Query) (claim : ℕ) (list labels : List ℕ) → claim ≡ 0 → list ≡ [] → ((a : ℕ) → Finish (trip_of q) a → ⊥)
    → ((a : ℕ) → get_or labels a no_distance ≡ no_distance) → SheetPasses q (sheet_of claim list labels)
nothing_passes q claim list labels z e nowhere none = record {
  claims = no_route z e;
  rules = λ a l. record { at_finish = λ f. absurd (nowhere a f); at_step = λ b s. above_all (none b) };
  start = no_route z (none (start_arrival q));
}
