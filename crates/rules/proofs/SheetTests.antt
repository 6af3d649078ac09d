-- The sheet checker's answer, computed by antt (`judged`), and that it is the one that the definition allows (`judged_right`).
-- Assumes nothing.
use mathlib.Core.Path.{◌≡◌, refl, ap, ◌∙◌}
use mathlib.Core.Logic.{◌≢◌, ◌⊎◌, inl, inr}
use mathlib.Core.Bool.{Bool, true, false, not, ◌&&◌, ◌||◌}
use mathlib.Core.List.{List, [], ◌∷◌, ◌++◌}
use Prim.Native.Nat.{ℕ, ◌+◌, ◌<◌}
use native.Mathlib.Omega.{arith}
use native.Mathlib.Decide.{ℕ_discrete}
use lib.Dec.{T, eqb, eqb→eq}
use lib.ListN.{length}
use Rattle.rules.specs.Plan.{arrivals}
use Rattle.rules.specs.Refusals.{Verdict, Check, passed, once, each, verdict}
use Rattle.rules.specs.Query.{Query, start_arrival, first_distance, query_checks}
use Rattle.rules.specs.Net.{no_distance}
use Rattle.rules.specs.Trip.{trip_of, total}
use Rattle.rules.specs.Search.{Numbers, refusal, success}
use Rattle.rules.specs.Sheet.{Sheet, label_of, Claims, RulesAt, StartLabel, Accepted, SheetAnswer, refused, bad_claim, bad_label, bad_start, accepted}
use Rattle.rules.proofs.Tests.{clash, T_and, and_T, or_T, T_or_left, T_or_right, not_not_iff, tests}
use Rattle.rules.proofs.Verdicts.{FirstCheck, stops, leaves, first_check, refused_first, passed_first, number_0}
use Rattle.rules.proofs.Sound.{sound}
use Rattle.rules.proofs.StepTests.{is_walk, HasLengths, walk_T, T_walk}
use Rattle.rules.proofs.LabelTests.{label_bad, kept_T, bad_T}
use Rattle.rules.proofs.Certificate.{has_lengths}

module _ (q : Query) (h : Sheet) where
  -- 17, 18 and 19 as tests
  abbrev pub claim_good : Bool
  claim_good = (eqb h.claim 0 && eqb (length h.list) 0) || (eqb h.claim 1 && is_walk (trip_of q) (start_arrival q) h.list)

  abbrev pub label_bad_at : ℕ → Bool
  label_bad_at a = label_bad (trip_of q) (label_of h) a

  abbrev pub start_label_good : Bool
  start_label_good =
      (eqb h.claim 0 && eqb (label_of h (start_arrival q)) no_distance)
      || (eqb h.claim 1 && eqb (first_distance q + label_of h (start_arrival q)) (total q h.list))

  abbrev pub sheet_checks : List Check
  sheet_checks = once 17 (not claim_good) ∷ each 18 (arrivals q.plan) label_bad_at ∷ once 19 (not start_label_good) ∷ []

  -- the numbers of a sheet that passes, and of any sheet
  abbrev pub accepted_numbers : Numbers
  accepted_numbers = elim (eqb h.claim 0) [ true ↦ refusal passed | false ↦ success q h.list ]

  abbrev of_verdict : Verdict → Numbers
  of_verdict v = elim (eqb v.number 0) [ true ↦ accepted_numbers | false ↦ refusal v ]

  abbrev pub judged : Numbers
  judged = of_verdict (verdict (query_checks q (length h.labels) ++ sheet_checks))

  numbers_of_refusal : {v : Verdict} → v.number ≢ 0 → of_verdict v ≡ refusal v
  numbers_of_refusal {v} n = go (eqb v.number 0) refl
    where
      go : (b : Bool) → eqb v.number 0 ≡ b → ◌≡◌ {A = Numbers} (elim b [ true ↦ accepted_numbers | false ↦ refusal v ]) (refusal v)
      go true e = absurd (n (eqb→eq v.number 0 (rw e tt)))
      go false e = refl

  empty : (bs : List ℕ) → length bs ≡ 0 → bs ≡ []
  empty [] e = refl
  empty (b ∷ bs) e = absurd (omega arith)

  start_T : T start_label_good → StartLabel q h
  start_T t =
      go (or_T (eqb h.claim 0 && eqb (label_of h (start_arrival q)) no_distance)
      (eqb h.claim 1 && eqb (first_distance q + label_of h (start_arrival q)) (total q h.list)) t)
    where
      go : T (eqb h.claim 0 && eqb (label_of h (start_arrival q)) no_distance)
          ⊎ T (eqb h.claim 1 && eqb (first_distance q + label_of h (start_arrival q)) (total q h.list)) → StartLabel q h
      go (inl p) = let k = simp tests at p in StartLabel.no_route k.0 k.1
      go (inr p) = let k = simp tests at p in StartLabel.a_walk k.0 k.1

  T_start : StartLabel q h → T start_label_good
  T_start (StartLabel.no_route c e) =
      T_or_left (eqb h.claim 0 && eqb (label_of h (start_arrival q)) no_distance)
      (eqb h.claim 1 && eqb (first_distance q + label_of h (start_arrival q)) (total q h.list)) (simp tests (c, e))
  T_start (StartLabel.a_walk c e) =
      T_or_right (eqb h.claim 0 && eqb (label_of h (start_arrival q)) no_distance)
      (eqb h.claim 1 && eqb (first_distance q + label_of h (start_arrival q)) (total q h.list)) (simp tests (c, e))

  claimed : Claims q h → Accepted q h accepted_numbers
  claimed (Claims.no_route c l) = Accepted.no_route c (rw c refl)
  claimed (Claims.a_walk c w) = Accepted.a_walk c (rw c refl)

  module _ (e : verdict (query_checks q (length h.labels)) ≡ passed) where
    H : HasLengths (trip_of q)
    H = has_lengths (sound q (length h.labels) e)

    claims_T : T claim_good → Claims q h
    claims_T t = go (or_T (eqb h.claim 0 && eqb (length h.list) 0) (eqb h.claim 1 && is_walk (trip_of q) (start_arrival q) h.list) t)
      where
        go : T (eqb h.claim 0 && eqb (length h.list) 0) ⊎ T (eqb h.claim 1 && is_walk (trip_of q) (start_arrival q) h.list) → Claims q h
        go (inl p) = let k = simp tests at p in Claims.no_route k.0 (empty h.list k.1)
        go (inr p) =
            let k = and_T (eqb h.claim 1) (is_walk (trip_of q) (start_arrival q) h.list) p in
            Claims.a_walk (eqb→eq h.claim 1 k.0) (walk_T H (start_arrival q) h.list k.1)

    T_claims : Claims q h → T claim_good
    T_claims (Claims.no_route c l) =
        T_or_left (eqb h.claim 0 && eqb (length h.list) 0) (eqb h.claim 1 && is_walk (trip_of q) (start_arrival q) h.list)
        (simp tests (c, ap length l))
    T_claims (Claims.a_walk c w) =
        T_or_right (eqb h.claim 0 && eqb (length h.list) 0) (eqb h.claim 1 && is_walk (trip_of q) (start_arrival q) h.list)
        (T_and (eqb h.claim 1) (is_walk (trip_of q) (start_arrival q) h.list) (simp tests c) (T_walk H w))

    -- 17, 18, 19 one after the other, v being what is left of the verdict
    from_19 : {v : Verdict} → Claims q h → ((a : ℕ) → a < arrivals q.plan → RulesAt q h a) → FirstCheck (once 19 (not start_label_good)) [] v
        → SheetAnswer q h (of_verdict v)
    from_19 c k (stops i l t g z) = let o : i ≡ 0 = omega arith in bad_start e c k (λ s. clash start_label_good (T_start s) t) (ap of_verdict z ∙ rw o refl)
    from_19 c k (leaves g z) = accepted e c k (start_T ((not_not_iff start_label_good).0 (g 0 (omega arith)))) (rw (ap of_verdict z) (claimed c))

    from_18 : {v : Verdict} → Claims q h → FirstCheck (each 18 (arrivals q.plan) label_bad_at) (once 19 (not start_label_good) ∷ []) v
        → SheetAnswer q h (of_verdict v)
    from_18 c (stops a l t g z) = bad_label a e c l (bad_T H (label_of h) a t) (λ b m. kept_T H (label_of h) b (g b m)) (ap of_verdict z)
    from_18 c (leaves g z) =
        rw (ap of_verdict z) (from_19 c (λ a l. kept_T H (label_of h) a (g a l)) (first_check (once 19 (not start_label_good)) []))

    from_17 : {v : Verdict} → FirstCheck (once 17 (not claim_good)) (each 18 (arrivals q.plan) label_bad_at ∷ once 19 (not start_label_good) ∷ []) v
        → SheetAnswer q h (of_verdict v)
    from_17 (stops i l t g z) = let o : i ≡ 0 = omega arith in bad_claim e (λ c. clash claim_good (T_claims c) t) (ap of_verdict z ∙ rw o refl)
    from_17 (leaves g z) =
        rw (ap of_verdict z)
        (from_18 (claims_T ((not_not_iff claim_good).0 (g 0 (omega arith)))) (first_check (each 18 (arrivals q.plan) label_bad_at) (once 19 (not start_label_good) ∷ [])))

  -- 1 to 11 first
  pub judged_right : SheetAnswer q h judged
  judged_right = go (ℕ_discrete (verdict (query_checks q (length h.labels))).number 0)
    where
      go : Dec ((verdict (query_checks q (length h.labels))).number ≡ 0) → SheetAnswer q h judged
      go (yes z) =
          let e = number_0 (query_checks q (length h.labels)) tt z in
          rw (passed_first (query_checks q (length h.labels)) sheet_checks tt e)
          (from_17 e (first_check (once 17 (not claim_good)) (each 18 (arrivals q.plan) label_bad_at ∷ once 19 (not start_label_good) ∷ [])))
      go (no n) = refused (verdict (query_checks q (length h.labels))) refl n (rw (refused_first (query_checks q (length h.labels)) sheet_checks n) (numbers_of_refusal n))
