-- What the four runs of a file say of its first fault, and where the last of them can end.
-- Assumes nothing.
use mathlib.Core.Path.{◌≡◌, ◌∙◌}
use mathlib.Core.Option.{some}
use mathlib.Core.List.{List, [], ◌∷◌}
use Prim.Native.Nat.{ℕ, zero, suc, ◌≤◌, ◌<◌}
use native.Mathlib.Omega.{arith}
use lib.Dec.{T}
use lib.ListN.{length}
use Rattle.rules.specs.Ranges.{between}
use Rattle.rules.specs.YardFile.{fault}
use Rattle.yardfile.specs.declared.run.Run.{Run}
use Rattle.yardfile.specs.declared.Parts.{Parts}
use Rattle.yardfile.specs.Runs.{IsField, Follow, Ran}
use Rattle.yardfile.specs.Parts.{Parted, Whole}
use Rattle.yardfile.proofs.Following.{after_at}
use Rattle.yardfile.proofs.Faults.{UpTo, again, first_run, run_more, at_fault, at_end, no_first}

pub none_first : {s : List ℕ} {r : Run} → Ran s 1 0 r → r.count ≡ 0 → fault s ≡ some 0
none_first {s} {r} g e = no_first (λ f. g.stops (omega (arith, e)) (rw start f))
  where
    start : r.end ≡ 0
    start = rw e at g.ends

pub one_first : {s : List ℕ} {r : Run} → Ran s 1 0 r → (r.count ≡ 0 → ⊥) → IsField s 1 0
one_first {s} {r} g d = go r.count g.follow d
  where
    go : (n : ℕ) → Follow s 1 n 0 → (n ≡ 0 → ⊥) → IsField s 1 0
    go zero f d = absurd (omega (arith, d))
    go (suc n) f d = f.0

more : {s : List ℕ} {t : ℕ} {before : List ℕ} {p : ℕ} {r : Run} → UpTo s t before p → T (between 1 (suc t) 4) → Ran s (suc t) p r
    → UpTo s (suc t) (again (suc t) r.count before) r.end
more {r} u k g = run_more r.count r.end u k g.follow g.ends g.few g.stops

passed : {s : List ℕ} {h : Parts} → IsField s 1 0 → Parted s h
    → UpTo s 4 (again 4 h.queries.count (again 3 h.turns.count (again 2 h.sections.count (1 ∷ [])))) h.queries.end
passed f g = more (more (more (first_run f) tt g.sections) tt g.turns) tt g.queries

pub fault_after : {s : List ℕ} {h : Parts} → IsField s 1 0 → Parted s h → h.queries.end < length s → fault s ≡ some h.queries.end
fault_after f g l = at_fault (passed f g) l

pub whole : {s : List ℕ} {h : Parts} → IsField s 1 0 → Parted s h → length s ≤ h.queries.end → Whole s h
whole f g l = record { sound = at_end (passed f g) l; first = f; parted = g; ends = l }

-- a file without a fault so far is short, so the byte at which the runs end is a number of the answer
pub ends_early : {s : List ℕ} {h : Parts} → Parted s h → (h.turns.end ≤ h.queries.end) × (h.queries.end < 4294967296)
ends_early {s} {h} g =
    let p = g.sections.ends ∙ after_at 2 h.sections.count 5 in
    let q = g.turns.ends ∙ after_at 3 h.turns.count h.sections.end in
    let r = g.queries.ends ∙ after_at 4 h.queries.count h.turns.end in
    (omega (arith, r), omega (arith, p, q, r, g.sections.few, g.turns.few, g.queries.few))
