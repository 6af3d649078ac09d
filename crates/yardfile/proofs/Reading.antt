-- What the reader answers, from the runs of a file without a fault and from the first fault of any other.
-- Assumes nothing.
use mathlib.Core.Path.{◌≡◌, refl, sym, ap, ◌∙◌}
use mathlib.Core.Bool.{Bool, true, false}
use mathlib.Core.List.{List}
use Prim.Native.Nat.{ℕ, ◌*◌, ◌≤◌}
use lib.Dec.{T}
use Rattle.std.proofs.Common.{Ok, Err}
use lib.ListN.{length, take, drop}
use lib.Seq.{sets}
use Rattle.rules.specs.YardFile.{number, layout, table, Lent, lent_of, in_front, in_fronts, holds}
use Rattle.rules.proofs.Tests.{tests}
use Rattle.yardfile.specs.declared.Parts.{Parts}
use Rattle.rules.specs.declared.refusal.Refusal.TheVariants.{Buffer}
use Rattle.yardfile.specs.Runs.{rows_of}
use Rattle.yardfile.specs.Answer.{Answers}
use Rattle.yardfile.specs.Parts.{Whole, parts_fit}
use Rattle.yardfile.proofs.Writing.{length_rows, stored}
use Rattle.yardfile.proofs.Tables.{Has, tables}

-- a table's length
long : (s : List ℕ) (t n p : ℕ) → Has s t 0 n (rows_of s t n p) → length (table t s) ≡ n * length (layout t)
long s t n p h = ap length h.held ∙ length_rows s t n p

pub record Long (s : List ℕ) (h : Parts) : Type 0 where
  pub sections : length (table 2 s) ≡ h.sections.count * 6
  pub turns : length (table 3 s) ≡ h.turns.count * 2
  pub queries : length (table 4 s) ≡ h.queries.count * 5

pub lengths : {s : List ℕ} {h : Parts} → Whole s h → Long s h
lengths {s} {h} w =
    let k = tables w in
    record {
      sections = long s 2 h.sections.count 5 k.sections;
      turns = long s 3 h.turns.count h.sections.end k.turns;
      queries = long s 4 h.queries.count h.turns.end k.queries;
    }

-- the test of the three lengths
fits_holds : {s : List ℕ} {h : Parts} → Whole s h → (lent : Lent)
    → parts_fit h lent ≡ holds lent s
fits_holds w lent = let l = lengths w in rw (l.sections, l.turns, l.queries) refl

pub tested : {s : List ℕ} {h : Parts} {r b : Bool} → Whole s h → (lent : Lent)
    → r ≡ parts_fit h lent → r ≡ b → holds lent s ≡ b
tested w lent e f = sym (e ∙ fits_holds w lent) ∙ f

pub record Room (h : Parts) (lent : Lent) : Type 0 where
  pub sections : h.sections.count * 6 ≤ length lent.sections
  pub turns : h.turns.count * 2 ≤ length lent.turns
  pub queries : h.queries.count * 5 ≤ length lent.queries

pub room : {s : List ℕ} {h : Parts} → Whole s h → (lent : Lent) → holds lent s ≡ true → Room h lent
room {h} w lent e =
    let t : T (parts_fit h lent) = rw (fits_holds w lent, e) tt in
    let k = simp tests at t in
    record { sections = k.0.0; turns = k.0.1; queries = k.1 }

-- what rows leave in a table is the file's table in front
in_place : (s : List ℕ) (t n p : ℕ) (old : List ℕ) {out : List ℕ} → Has s t 0 n (rows_of s t n p)
    → out ≡ sets old 0 (rows_of s t n p) → n * length (layout t) ≤ length old
    → out ≡ in_front (table t s) old
in_place s t n p old h e l = let k = long s t n p h in e ∙ rw (← h.held) (stored (table t s) old (rw k l))

pub in_places : {s : List ℕ} {h : Parts} {a b c : List ℕ} (lent : Lent) → Whole s h → Room h lent
    → a ≡ sets lent.sections 0 (rows_of s 2 h.sections.count 5)
    → b ≡ sets lent.turns 0 (rows_of s 3 h.turns.count h.sections.end)
    → c ≡ sets lent.queries 0 (rows_of s 4 h.queries.count h.turns.end)
    → lent_of a b c ≡ in_fronts s lent
in_places {s} {h} lent w r d e f =
    let k = tables w in
    let x = in_place s 2 h.sections.count 5 lent.sections k.sections d r.sections in
    let y = in_place s 3 h.turns.count h.sections.end lent.turns k.turns e r.turns in
    let z = in_place s 4 h.queries.count h.turns.end lent.queries k.queries f r.queries in
    rw (x, y, z) refl

-- the answers
pub refused_14 : {s : List ℕ} {h : Parts} (lent : Lent) → Whole s h → holds lent s ≡ false → Answers s lent (Err Buffer) lent
refused_14 lent w e = record { numbers = rw (w.sound, e) refl }

pub answered : {s : List ℕ} {h : Parts} {v : ℕ} (lent : Lent) {out : Lent} → Whole s h → holds lent s ≡ true
    → v ≡ number (take 2 (drop 3 s)) → out ≡ in_fronts s lent
    → Answers s lent (Ok (record { points = v; sections = h.sections.count; turns = h.turns.count; queries = h.queries.count })) out
answered lent w e f g =
    let k = tables w in
    record { numbers = rw (w.sound, e, f, g, k.points, k.sections.counted, k.turns.counted, k.queries.counted) refl }
