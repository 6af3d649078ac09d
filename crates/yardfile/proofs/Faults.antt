-- The first fault of a file that is read run by run: it stands where the runs end, unless that is the end of the file.
-- Assumes nothing.
use mathlib.Core.Path.{◌≡◌, refl, ◌∙◌}
use mathlib.Core.Bool.{Bool, true, false, cond, not, ◌||◌, true≢false}
use mathlib.Core.Option.{none, some}
use mathlib.Core.List.{List, [], ◌∷◌}
use Prim.Native.Nat.{ℕ, zero, suc, ◌+◌, ◌≤◌, ◌<◌}
use native.Mathlib.Omega.{arith}
use native.Mathlib.Decide.{ℕ_discrete}
use borrow.Author.Tests.{eq-eqb, ne_eqb, lt-ltb, le-ltb}
use lib.Dec.{T, eqb, ltb}
use lib.ListN.{length}
use Rattle.rules.specs.Ranges.{between}
use Rattle.rules.specs.YardFile.{tag, past, fields, layout, bytes_in, limit, times, cut_short, unknown, wrong_length, out_of_order, too_many, faulty, fault_among, fault}
use Rattle.rules.proofs.Tests.{tests}
use Rattle.yardfile.specs.Runs.{IsField, Follow, after}
use Rattle.yardfile.proofs.Places.{fields_next, fields_end}

-- five tests of which none applies
none_of : (a b c d e : Bool) → T (not a) → T (not b) → T (not c) → T (not d) → T (not e) → (a || b || c || d || e) ≡ false
none_of false false false false false t u v w x = refl
none_of true b c d e t u v w x = absurd t
none_of false true c d e t u v w x = absurd u
none_of false false true d e t u v w x = absurd v
none_of false false false true e t u v w x = absurd w
none_of false false false false true t u v w x = absurd x

all_not : (a b c d e : Bool) → (a || b || c || d || e) ≡ false → T (not a) × T (not b) × T (not c) × T (not d) × T (not e)
all_not false false false false false q = (tt, tt, tt, tt, tt)
all_not true b c d e q = absurd (true≢false q)
all_not false true c d e q = absurd (true≢false q)
all_not false false true d e q = absurd (true≢false q)
all_not false false false true e q = absurd (true≢false q)
all_not false false false false true q = absurd (true≢false q)

-- a field that is not faulty, clause by clause
pub record Good (s before : List ℕ) (t p : ℕ) : Type 0 where
  pub field_here : IsField s t p
  pub known : T (between 1 t 4)
  pub in_order : T (not (out_of_order before t))
  pub few : times t before < limit t

good_fine : {s before : List ℕ} {t p : ℕ} → Good s before t p → faulty s before p ≡ false
unfolding faulty
good_fine {s} {before} {t} {p} g =
    let f = g.field_here in
    let k = g.known in
    none_of (cut_short s p) (unknown (tag s p)) (wrong_length s p) (out_of_order before (tag s p)) (too_many before (tag s p))
    (simp tests (omega (arith, f.whole))) (rw f.tagged (simp tests (simp tests at k))) (rw f.tagged (simp tests f.sized))
    (rw f.tagged g.in_order) (rw f.tagged (simp tests g.few))

uncut : (s : List ℕ) (p : ℕ) → T (not (cut_short s p)) → past s p ≤ length s
uncut s p t = let h = simp tests at t in omega arith

fine_good : {s before : List ℕ} {p : ℕ} → faulty s before p ≡ false → Good s before (tag s p) p
unfolding faulty
fine_good {s} {before} {p} e =
    let h = all_not (cut_short s p) (unknown (tag s p)) (wrong_length s p) (out_of_order before (tag s p)) (too_many before (tag s p)) e in
    record {
      field_here = record { whole = uncut s p h.0; tagged = refl; sized = simp tests at h.2 };
      known = simp tests (simp tests at h.1);
      in_order = h.3;
      few = simp tests at h.4;
    }

-- a field of a tag is where it is said to be, and the next field begins after it
pub next_field : {s : List ℕ} {t p : ℕ} → IsField s t p → fields s p ≡ p ∷ fields s (p + 3 + bytes_in (layout t))
next_field {s} {t} {p} f = let w = f.whole in fields_next s p (omega arith) ∙ rw f.sized refl

fault_next : {s before : List ℕ} {t p : ℕ} → Good s before t p
    → fault_among s before (fields s p) ≡ fault_among s (t ∷ before) (fields s (p + 3 + bytes_in (layout t)))
unfolding fault_among
fault_next {s} {before} {t} {p} g = rw (next_field g.field_here, good_fine g, g.field_here.tagged) refl

-- the tags before, and n more of tag t
abbrev pub again : ℕ → ℕ → List ℕ → List ℕ
again t zero before = before
again t (suc n) before = again t n (t ∷ before)

times_same : (t : ℕ) (us : List ℕ) → times t (t ∷ us) ≡ suc (times t us)
times_same t us = rw (eq-eqb t t refl) refl

times_again : (t n : ℕ) (us : List ℕ) → times t (again t n us) ≡ n + times t us
times_again t zero us = omega arith
times_again t (suc n) us = let h = times_again t n (t ∷ us) in let e = times_same t us in omega (arith, h, e)

times_other : (t u n : ℕ) (us : List ℕ) → (t ≡ u → ⊥) → times u (again t n us) ≡ times u us
times_other t u zero us d = refl
times_other t u (suc n) us d = times_other t u n (t ∷ us) d ∙ rw (ne_eqb t u d) refl

order_again : (t u n : ℕ) (us : List ℕ) → out_of_order (again t n (t ∷ us)) u ≡ ltb u t
order_again t u zero us = refl
order_again t u (suc n) us = order_again t u n (t ∷ us)

-- no field of a run is faulty
fault_run : (s : List ℕ) (t n p : ℕ) (before : List ℕ) → T (between 1 t 4) → T (not (out_of_order before t)) → times t before + n ≤ limit t
    → Follow s t n p
    → fault_among s before (fields s p) ≡ fault_among s (again t n before) (fields s (after t n p))
fault_run s t zero p before k o l f = refl
fault_run s t (suc n) p before k o l f =
    let e = times_same t before in
    fault_next record { field_here = f.0; known = k; in_order = o; few = omega arith }
    ∙ fault_run s t n (p + 3 + bytes_in (layout t)) (t ∷ before) k (rw (le-ltb t t (omega arith)) tt) (omega (arith, e)) f.1

-- all runs up to that of tag t are passed, and so are the fields before byte p: no fault so far, and no field of these tags may follow
pub record UpTo (s : List ℕ) (t : ℕ) (before : List ℕ) (p : ℕ) : Type 0 where
  pub same : fault s ≡ fault_among s before (fields s p)
  pub open_above : (u : ℕ) → t ≤ u → T (not (out_of_order before u))
  pub none_above : (u : ℕ) → t < u → times u before ≡ 0
  pub no_more : (u : ℕ) → u ≤ t → Good s before u p → ⊥

-- the first field
pub first_run : {s : List ℕ} → IsField s 1 0 → UpTo s 1 (1 ∷ []) 5
unfolding fault
first_run {s} f =
    let w = f.whole in
    let long : length s ≡ 0 → ⊥ = λ e. omega arith in
    record {
      same = rw (ne_eqb (length s) 0 long) (fault_next record { field_here = f; known = tt; in_order = tt; few = omega arith });
      open_above = λ u h. rw (le-ltb u 1 h) tt;
      none_above = λ u h. rw (ne_eqb 1 u (λ e. omega arith)) refl;
      no_more = λ u h g. low u h g.known g.few;
    }
  where
    low : (u : ℕ) → u ≤ 1 → T (between 1 u 4) → times u (1 ∷ []) < limit u → ⊥
    low u h k l = let b = simp tests at k in let e : u ≡ 1 = omega arith in let m = rw e at l in omega arith

-- one run more
pub run_more : {s : List ℕ} {t : ℕ} {before : List ℕ} {p : ℕ} (n q : ℕ) → UpTo s t before p → T (between 1 (suc t) 4)
    → Follow s (suc t) n p → q ≡ after (suc t) n p → n ≤ limit (suc t) → (n < limit (suc t) → IsField s (suc t) q → ⊥)
    → UpTo s (suc t) (again (suc t) n before) q
run_more {s} {t} {before} {p} n q u k f e l stop =
    let zero-before = u.none_above (suc t) (omega arith) in
    record {
      same = u.same ∙ rw e (fault_run s (suc t) n p before k (u.open_above (suc t) (omega arith)) (omega (arith, zero-before)) f);
      open_above = λ v h. above n v h;
      none_above = λ v h. times_other (suc t) v n before (λ d. omega arith) ∙ u.none_above v (omega arith);
      no_more = λ v h g. over n q f e l stop v h g (ℕ_discrete v (suc t));
    }
  where
    above : (n v : ℕ) → suc t ≤ v → T (not (out_of_order (again (suc t) n before) v))
    above zero v h = u.open_above v (omega arith)
    above (suc n) v h = rw (order_again (suc t) v n before, le-ltb v (suc t) h) tt

    below : (n v : ℕ) → v < suc t → T (not (out_of_order (again (suc t) (suc n) before) v)) → ⊥
    below n v h o = let x = rw (order_again (suc t) v n before, lt-ltb v (suc t) h) at o in x

    over : (n q : ℕ) → Follow s (suc t) n p → q ≡ after (suc t) n p → n ≤ limit (suc t) → (n < limit (suc t) → IsField s (suc t) q → ⊥)
        → (v : ℕ) → v ≤ suc t → Good s (again (suc t) n before) v q → Dec (v ≡ suc t) → ⊥
    over n q f e l stop v h g (yes d) =
        let m = rw (d, times_again (suc t) n before, u.none_above (suc t) (omega arith)) at g.few in
        stop (omega arith) (rw d at g.field_here)
    over zero q f e l stop v h g (no d) = u.no_more v (omega arith) (rw e at g)
    over (suc n) q f e l stop v h g (no d) = below n v (omega arith) g.in_order

-- after the runs of all four tags: the first fault, or none
pub at_fault : {s before : List ℕ} {p : ℕ} → UpTo s 4 before p → p < length s → fault s ≡ some p
unfolding fault_among
at_fault {s} {before} {p} u h = u.same ∙ rw (fields_next s p h) (go (faulty s before p) refl)
  where
    go : (b : Bool) → faulty s before p ≡ b → cond b (some p) (fault_among s (tag s p ∷ before) (fields s (past s p))) ≡ some p
    go true e = refl
    go false e = let g = fine_good e in absurd (u.no_more (tag s p) (low (tag s p) g.known) g)
      where
        low : (v : ℕ) → T (between 1 v 4) → v ≤ 4
        low v k = (simp tests at k).1

pub at_end : {s before : List ℕ} {p : ℕ} → UpTo s 4 before p → length s ≤ p → fault s ≡ none
unfolding fault_among
at_end {s} {before} {p} u h = u.same ∙ rw (fields_end s p h) refl

-- a file that does not begin with tag 1 is at fault at 0
pub no_first : {s : List ℕ} → (IsField s 1 0 → ⊥) → fault s ≡ some 0
unfolding fault fault_among
no_first {s} f = start (ℕ_discrete (length s) 0)
  where
    go : (b : Bool) → faulty s [] 0 ≡ b → cond b (some 0) (fault_among s (tag s 0 ∷ []) (fields s (past s 0))) ≡ some 0
    go true e = refl
    go false e = let g = fine_good e in let one : tag s 0 ≡ 1 = (simp tests at g.in_order) in absurd (f (rw one at g.field_here))

    start : Dec (length s ≡ 0) → cond (eqb (length s) 0) (some 0) (fault_among s [] (fields s 0)) ≡ some 0
    start (yes e) = rw (eq-eqb (length s) 0 e) refl
    start (no e) = rw (ne_eqb (length s) 0 e, fields_next s 0 (omega arith)) (go (faulty s [] 0) refl)
