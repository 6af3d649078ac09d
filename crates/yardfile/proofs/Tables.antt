-- The tables and counts of a file that is made of runs: each table is what one run holds.
-- Assumes nothing.
use mathlib.Core.Path.{◌≡◌, refl, ap}
use mathlib.Core.List.{List, [], ◌++◌}
use Prim.Native.Nat.{ℕ, zero, suc, ◌+◌, ◌≤◌}
use native.Mathlib.Omega.{arith}
use borrow.Author.Tests.{eq-eqb, ne_eqb}
use lib.ListN.{length, get_or, take, drop}
use Rattle.rules.specs.YardFile.{number, fields, layout, bytes_in, numbers, rows, table, tagged}
use Rattle.yardfile.specs.declared.Parts.{Parts}
use Rattle.yardfile.specs.Runs.{Follow, after, rows_of}
use Rattle.yardfile.specs.Parts.{Parted, Whole}
use Rattle.yardfile.proofs.Places.{fields_end}
use Rattle.yardfile.proofs.Faults.{next_field}

-- from byte p on the file has n fields of tag t, and they hold the numbers xs
pub record Has (s : List ℕ) (t p n : ℕ) (xs : List ℕ) : Type 0 where
  pub held : rows t s (fields s p) ≡ xs
  pub counted : tagged t s (fields s p) ≡ n

has_none : (s : List ℕ) (t p : ℕ) → length s ≤ p → Has s t p 0 []
unfolding rows tagged
has_none s t p h = record { held = rw (fields_end s p h) refl; counted = rw (fields_end s p h) refl }

-- a run of another tag adds nothing
has_past : {s : List ℕ} {t m : ℕ} {xs : List ℕ} (u n p : ℕ) → (u ≡ t → ⊥) → Follow s u n p → Has s t (after u n p) m xs → Has s t p m xs
unfolding rows tagged
has_past u zero p d f h = h
has_past {s} {t} u (suc n) p d f h =
    let rest = has_past u n (p + 3 + bytes_in (layout u)) d f.1 h in
    record {
      held = rw (next_field f.0, f.0.tagged, ne_eqb u t d) rest.held;
      counted = rw (next_field f.0, f.0.tagged, ne_eqb u t d) rest.counted;
    }

-- a run of its tag adds what it holds
has_run : {s : List ℕ} {t : ℕ} (n p : ℕ) → Follow s t n p → Has s t (after t n p) 0 [] → Has s t p n (rows_of s t n p)
unfolding rows tagged
has_run zero p f h = h
has_run {s} {t} (suc n) p f h =
    let rest = has_run n (p + 3 + bytes_in (layout t)) f.1 h in
    let e = rest.counted in
    record {
      held = rw (next_field f.0, f.0.tagged, eq-eqb t t refl) (ap (λ (l : List ℕ). numbers (layout t) s (p + 3) ++ l) rest.held);
      counted = rw (next_field f.0, f.0.tagged, eq-eqb t t refl) (ap suc e);
    }

-- the four tables of a file without a fault
pub record Tables (s : List ℕ) (h : Parts) : Type 0 where
  pub points : get_or (table 1 s) 0 0 ≡ number (take 2 (drop 3 s))
  pub sections : Has s 2 0 h.sections.count (rows_of s 2 h.sections.count 5)
  pub turns : Has s 3 0 h.turns.count (rows_of s 3 h.turns.count h.sections.end)
  pub queries : Has s 4 0 h.queries.count (rows_of s 4 h.queries.count h.turns.end)

pub tables : {s : List ℕ} {h : Parts} → Whole s h → Tables s h
tables {s} {h} w =
    record {
      points =
          let none_after = to_turns 1 (λ e. omega arith) (to_queries 1 (λ e. omega arith) (to_end 1 (λ e. omega arith))) in
          ap (λ (l : List ℕ). get_or l 0 0) (has_run {s = s} {t = 1} 1 0 (w.first, tt) none_after).held;
      sections =
          let none_after = to_queries 2 (λ e. omega arith) (to_end 2 (λ e. omega arith)) in
          past_first 2 (λ e. omega arith) (has_run h.sections.count 5 g.sections.follow (rw (← g.sections.ends) none_after));
      turns =
          let none_after = to_end 3 (λ e. omega arith) in
          let here = has_run h.turns.count h.sections.end g.turns.follow (rw (← g.turns.ends) none_after) in
          past_first 3 (λ e. omega arith) (to_turns 3 (λ e. omega arith) here);
      queries =
          let none_after = has_none s 4 h.queries.end w.ends in
          let here = has_run h.queries.count h.turns.end g.queries.follow (rw (← g.queries.ends) none_after) in
          past_first 4 (λ e. omega arith) (to_turns 4 (λ e. omega arith) (to_queries 4 (λ e. omega arith) here));
    }
  where
    g : Parted s h
    g = w.parted

    past_first : (t : ℕ) → (1 ≡ t → ⊥) → {n : ℕ} {xs : List ℕ} → Has s t 5 n xs → Has s t 0 n xs
    past_first t d k = has_past 1 1 0 d (w.first, tt) k

    to_turns : (t : ℕ) → (2 ≡ t → ⊥) → {n : ℕ} {xs : List ℕ} → Has s t h.sections.end n xs → Has s t 5 n xs
    to_turns t d k = has_past 2 h.sections.count 5 d g.sections.follow (rw g.sections.ends at k)

    to_queries : (t : ℕ) → (3 ≡ t → ⊥) → {n : ℕ} {xs : List ℕ} → Has s t h.turns.end n xs → Has s t h.sections.end n xs
    to_queries t d k = has_past 3 h.turns.count h.sections.end d g.turns.follow (rw g.turns.ends at k)

    to_end : (t : ℕ) → (4 ≡ t → ⊥) → Has s t h.turns.end 0 []
    to_end t d =
        let none_after = has_none s t h.queries.end w.ends in
        has_past 4 h.queries.count h.turns.end d g.queries.follow (rw g.queries.ends at none_after)
