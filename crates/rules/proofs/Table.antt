-- The table of document 01's cases under one theorem (`table`): each case has a test that antt computes, one computation passes them
-- all, and one law turns a passed test into what the case says.
-- Assumes nothing.
use mathlib.Core.Path.{◌≡◌, refl}
use mathlib.Core.Bool.{Bool, true, false, not, ◌&&◌}
use mathlib.Core.Option.{Option, none, some}
use mathlib.Core.List.{List, [], ◌∷◌, Memᴰ}
use Prim.Native.Nat.{ℕ, ◌≤◌, ◌<◌}
use native.Mathlib.Omega.{arith}
use lib.Dec.{T, eqb, eqb→eq}
use lib.ListN.{length}
use Rattle.rules.specs.Ranges.{between}
use Rattle.rules.specs.Plan.{arrivals, to_point, sec}
use Rattle.rules.specs.Refusals.{Verdict, passed, refused_at, once, verdict}
use Rattle.rules.specs.PlanCheck.{plan_checks}
use Rattle.rules.specs.Query.{Query, start_arrival, query_checks}
use Rattle.rules.specs.PullOut.{any_section}
use Rattle.rules.specs.Trip.{trip_of, total, walk_reversals}
use Rattle.rules.specs.Search.{Numbers, refused, no_route, found, walk_checks}
use Rattle.rules.specs.PullAnswer.{Reversal, turn_asked, pull_checks, none_found, pulled}
use Rattle.rules.specs.Cases.{Case, refuses, no_way, goes, judges, pulls, pulls_none, Right, cases}
use Rattle.rules.proofs.Tests.{and_T, tests}
use Rattle.rules.proofs.Verdicts.{passes, passes_both, accepts}
use Rattle.rules.proofs.Sound.{sound, plan_passed}
use Rattle.rules.proofs.Trips.{query_few_steps}
use Rattle.rules.proofs.Certificate.{label_at, labels_pass, none_passes, walk_passes, follows, labelled, first_walk, no_walk_at}
use Rattle.rules.proofs.PullSearch.{Positive, pull_out_of, pull_found, pull_missing}
use Rattle.rules.proofs.SheetTests.{judged, judged_right}

-- tests of equality, of verdicts, numbers and lists
abbrev same_verdict : Verdict → Verdict → Bool
same_verdict v w = eqb v.number w.number && eqb v.place w.place

abbrev same_numbers : Numbers → Numbers → Bool
same_numbers r s =
    eqb r.refusal s.refusal && eqb r.place s.place && eqb r.total s.total && eqb r.reversals s.reversals && eqb r.steps s.steps

abbrev same_list : List ℕ → List ℕ → Bool
same_list [] [] = true
same_list [] (y ∷ ys) = false
same_list (x ∷ xs) [] = false
same_list (x ∷ xs) (y ∷ ys) = eqb x y && same_list xs ys

abbrev finds : Option (List ℕ) → List ℕ → Bool
finds none qs = false
finds (some rs) qs = same_list rs qs

abbrev finds_none : Option (List ℕ) → Bool
finds_none none = true
finds_none (some rs) = false

same_verdict_T : (v w : Verdict) → T (same_verdict v w) → v ≡ w
same_verdict_T v w t = let h = simp tests at t in rw (← h.0, ← h.1)

same_numbers_T : (r s : Numbers) → T (same_numbers r s) → r ≡ s
same_numbers_T r s t =
    let h = simp tests at t in
    rw (← h.0.0.0.0, ← h.0.0.0.1, ← h.0.0.1, ← h.0.1, ← h.1)

same_list_T : (xs ys : List ℕ) → T (same_list xs ys) → xs ≡ ys
same_list_T [] [] t = refl
same_list_T [] (y ∷ ys) t = absurd t
same_list_T (x ∷ xs) [] t = absurd t
same_list_T (x ∷ xs) (y ∷ ys) t =
    let h = and_T (eqb x y) (same_list xs ys) t in
    let a = eqb→eq x y h.0 in
    let b = same_list_T xs ys h.1 in
    cc

finds_T : (o : Option (List ℕ)) (qs : List ℕ) → T (finds o qs) → o ≡ some qs
finds_T none qs t = absurd t
finds_T (some rs) qs t = let e = same_list_T rs qs t in cc

finds_none_T : (o : Option (List ℕ)) → T (finds_none o) → o ≡ none
finds_none_T none t = refl
finds_none_T (some rs) t = absurd t

-- the verdict of a query whose label buffer has the right length, and the pull-out that is found
abbrev checked : Query → Verdict
checked q = verdict (query_checks q (arrivals q.plan))

abbrev searched : Reversal → Option (List ℕ)
searched v = pull_out_of v.plan any_section v.train (sec v.arrival) (to_point v.plan v.arrival) v.section

-- the test of a case
abbrev holds : Case → Bool
holds (refuses q n p) = same_verdict (checked q) (refused_at n p) && not (eqb n 0)
holds (no_way q ls) = same_verdict (checked q) passed && none_passes q ls
holds (goes q t r bs ls) = same_verdict (checked q) passed && walk_passes q ls bs && (eqb (total q bs) t && eqb (walk_reversals q bs) r)
holds (judges q h r) = same_numbers (judged q h) r
holds (pulls v qs) = same_verdict (verdict (pull_checks v)) passed && finds (searched v) qs
holds (pulls_none v) = same_verdict (verdict (pull_checks v)) passed && finds_none (searched v)

-- what the passed checks of a reversal say
pull_lengths : (v : Reversal) → verdict (pull_checks v) ≡ passed → Positive v.plan × (0 < v.train)
pull_lengths v e =
    let own = once 7 (not (between 1 v.train 20000)) ∷ once 15 (not (turn_asked v)) ∷ [] in
    let p = passes_both (plan_checks v.plan) own (passes (pull_checks v) tt e) in
    let S = plan_passed v.plan p.0 in
    let h = simp tests at (p.1.0 0 (omega arith)) in
    (λ s l. (S.each_section s l).long.0, omega arith)

-- 13 and 14 are not given where the buffer has room
fits : (q : Query) (route bs : List ℕ) → length bs < 2048 → length bs ≤ length route → verdict (walk_checks route bs) ≡ passed
fits q route bs l m = accepts (walk_checks route bs) (λ k i. simp tests (omega arith), (λ k i. simp tests (omega arith), tt))

right : (c : Case) → T (holds c) → Right c
right (refuses q n p) t = λ route labels e.
    let h = and_T (same_verdict (checked q) (refused_at n p)) (not (eqb n 0)) t in
    refused (refused_at n p) (rw e (same_verdict_T (checked q) (refused_at n p) h.0)) (simp tests at h.1) refl
right (no_way q ls) t = λ route labels e.
    let h = and_T (same_verdict (checked q) passed) (none_passes q ls) t in
    let k = and_T (labels_pass q ls) (eqb (label_at q ls (start_arrival q)) _) h.1 in
    let v = same_verdict_T (checked q) passed h.0 in
    let S = sound q (arrivals q.plan) v in
    no_route ls (rw e v) (no_walk_at q ls S k.0 k.1) (labelled q ls S k.0) refl
right (goes q t r bs ls) u = λ route labels e l.
    let h = and_T (same_verdict (checked q) passed && walk_passes q ls bs) (eqb (total q bs) t && eqb (walk_reversals q bs) r) u in
    let g = and_T (same_verdict (checked q) passed) (walk_passes q ls bs) h.0 in
    let k = and_T (labels_pass q ls) (follows (trip_of q) (label_at q ls) (start_arrival q) bs) g.1 in
    let n = simp tests at h.1 in
    let v = same_verdict_T (checked q) passed g.0 in
    let S = sound q (arrivals q.plan) v in
    let f = first_walk q ls S k.0 bs k.1 in
    found bs ls (rw e v) f (fits q route bs (query_few_steps S bs f.shortest) l) (labelled q ls S k.0) (rw (n.0, n.1) refl)
right (judges q h r) t = rw (← (same_numbers_T (judged q h) r t)) (judged_right q h)
right (pulls v qs) t = λ list l.
    let h = and_T (same_verdict (verdict (pull_checks v)) passed) (finds (searched v) qs) t in
    let e = same_verdict_T (verdict (pull_checks v)) passed h.0 in
    let p = pull_lengths v e in
    pulled qs e
    (pull_found v.plan any_section v.train (sec v.arrival) (to_point v.plan v.arrival) v.section p.0 p.1 qs (finds_T (searched v) qs h.1))
    l refl
right (pulls_none v) t = λ list.
    let h = and_T (same_verdict (verdict (pull_checks v)) passed) (finds_none (searched v)) t in
    let e = same_verdict_T (verdict (pull_checks v)) passed h.0 in
    let p = pull_lengths v e in
    none_found e
    (pull_missing v.plan any_section v.train (sec v.arrival) (to_point v.plan v.arrival) v.section p.0 (finds_none_T (searched v) h.1))
    refl

abbrev all_hold : List Case → Bool
all_hold [] = true
all_hold (c ∷ cs) = holds c && all_hold cs

all_right : (cs : List Case) → T (all_hold cs) → (c : Case) → Memᴰ c cs → Right c
all_right [] t c m = elim m [ ]
all_right (d ∷ cs) t c (Memᴰ.head e) = rw e (right d (and_T (holds d) (all_hold cs) t).0)
all_right (d ∷ cs) t c (Memᴰ.tail m) = all_right cs (and_T (holds d) (all_hold cs) t).1 c m

computed : T (all_hold cases)
computed = tt

-- every case of the table is right
pub table : (c : Case) → Memᴰ c cases → Right c
table = all_right cases computed
