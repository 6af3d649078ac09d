-- A list of arrivals that is followed over the rows: what a step in the row of an arrival is (`placed`), what the loop keeps (`FollowedTo`),
-- and what it finds.
-- Assumes nothing.
use Rattle.std.proofs.Common.{◌≡◌, true, false, ℕ, ◌+◌, ◌≤◌, ◌<◌, min, List, [], ◌∷◌, length, get_or, drop, ap, add-one, arith, drop-cons}
use Rattle.std.proofs.lemmas.List.{get_or_default}
use lib.ListN.{drop_of_length-le}
use Rattle.rules.specs.Net.{no_distance, Net, Walk, here, onward, costs}
use Rattle.rules.specs.Trip.{Trip, Step, Finish, cost, net_of}
use Rattle.rules.specs.Rows.{row_at, StepOf, first_of, second_of}
use Rattle.rules.specs.declared.net.Row.{Row}
use Rattle.rules.specs.declared.net.Step as net
use Rattle.rules.specs.declared.net.TheConstants.Row.{NONE}
use Rattle.steps.specs.StepTable.{EndAt, may_end, goes_on}
use Rattle.sheet.specs.Laid.{Laid, LaidOut}

-- what is read of a row stands there
module _ (rows : List Row) (a : ℕ) (d : Row) (h : a < length rows) where
  pub first_read : StepOf rows a (get_or rows a d).first
  first_read = first_of (ap (λ (r : Row). r.first) (get_or_default rows a d NONE h))

  pub second_read : StepOf rows a (get_or rows a d).second
  second_read = second_of (ap (λ (r : Row). r.second) (get_or_default rows a d NONE h))

  pub row_read : get_or rows a d ≡ row_at rows a
  row_read = get_or_default rows a d NONE h

-- a step in the row of a that leads to an arrival is a step from a
pub placed : {t : Trip} {rows : List Row} {a b : ℕ} {s : net.Step} → Laid t rows → a < length rows → b < length rows → StepOf rows a s → s.next ≡ b
    → Step t a b × (s.cost ≡ cost t a b)
placed {t} {rows} {a} {b} {s} L i j p e =
    let few = L.sound.few_sections in
    let x = L.steps.each a s (omega (arith, L.count)) p (λ z. omega (arith, L.count)) in
    (rw e at x.step, rw e at x.cost_of)

-- the list bs from the arrival `from` has been followed to a, at a cost of sum; what is left of it is rest
pub record Rest (N : Net) (from : ℕ) (bs : List ℕ) (a sum : ℕ) (rest : List ℕ) : Type 0 where
  pub back : Walk N from bs → Walk N a rest
  pub onto : Walk N a rest → Walk N from bs
  pub sum_of : min (sum + costs N a rest) no_distance ≡ min (costs N from bs) no_distance

-- the first step of a walk, and the walk after it
first_step : {N : Net} {a b : ℕ} {bs : List ℕ} → Walk N a (b ∷ bs) → N.Step a b
first_step (onward s w) = s

after_step : {N : Net} {a b : ℕ} {bs : List ℕ} → Walk N a (b ∷ bs) → Walk N b bs
after_step (onward s w) = w

at_end : {N : Net} {a : ℕ} → Walk N a [] → N.Finish a
at_end (here f) = f

one_further : {N : Net} {from a b sum more : ℕ} {bs rest : List ℕ} → Rest N from bs a sum (b ∷ rest) → N.Step a b → more ≡ N.cost a b
    → Rest N from bs b (min (sum + more) no_distance) rest
one_further r s e = record { back = λ w. after_step (r.back w); onto = λ w. r.onto (onward s w); sum_of = omega (arith, r.sum_of) }

-- the loop has come to a, after i arrivals of the list
pub record FollowedTo (rows : List Row) (from : ℕ) (list : List ℕ) (a sum i : ℕ) : Type 0 where
  pub inside : a < length rows
  pub low : sum ≤ no_distance
  pub rest : (t : Trip) → LaidOut t rows → Rest (net_of t) from list a sum (drop i list)

pub followed_none : {rows : List Row} {from : ℕ} {list : List ℕ} → from < length rows → FollowedTo rows from list from 0 0
followed_none l = record {
  inside = l;
  low = omega arith;
  rest = λ t L. record { back = λ w. w; onto = λ w. w; sum_of = omega arith };
}

module _ {rows : List Row} {from : ℕ} {list : List ℕ} {a sum i : ℕ} (F : FollowedTo rows from list a sum i) where
  module _ (l : i < length list) where
    next_there : drop i list ≡ get_or list i 0 ∷ drop (i + 1) list
    next_there = rw (add-one i) (drop-cons list i 0 l)

    -- no step leads on to the next arrival
    pub followed_off : ((t : Trip) → Laid t rows → Step t a (get_or list i 0) → ⊥) → (t : Trip) → LaidOut t rows → Walk (net_of t) from list → ⊥
    followed_off n t L w = n t L.laid (first_step (rw next_there at ((F.rest t L).back w)))

    pub followed_more : {more sum2 : ℕ} → get_or list i 0 < length rows → ((t : Trip) → Laid t rows → Step t a (get_or list i 0) × (more ≡ cost t a (get_or list i 0)))
        → sum2 ≡ min (sum + more) no_distance → FollowedTo rows from list (get_or list i 0) sum2 (i + 1)
    followed_more j s e = rw e (record {
      inside = j;
      low = omega arith;
      rest = λ t L. let h = s t L.laid in one_further (rw next_there at (F.rest t L)) h.0 h.1;
    })

  module _ (g : length list ≤ i) (t : Trip) (L : LaidOut t rows) where
    mark : EndAt t rows a
    mark = L.endings.at a (omega (arith, F.inside, L.laid.count))

    left : Rest (net_of t) from list a sum []
    left = rw (drop_of_length-le list {i = i} g) at (F.rest t L)

    -- the list ends where a walk may end, or not
    pub followed_end : (row_at rows a).ends ≡ true → Walk (net_of t) from list × (sum ≡ min (costs (net_of t) from list) no_distance)
    followed_end y = (left.onto (here (go mark)), omega (arith, left.sum_of, F.low))
      where
        go : EndAt t rows a → Finish t a
        go (may_end j f) = f
        go (goes_on j f) = absurd cc

    pub followed_short : (row_at rows a).ends ≡ false → Walk (net_of t) from list → ⊥
    followed_short y w = go mark (at_end (left.back w))
      where
        go : EndAt t rows a → Finish t a → ⊥
        go (may_end j f) v = cc
        go (goes_on j f) v = f v
