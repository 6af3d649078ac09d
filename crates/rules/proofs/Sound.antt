-- What passed checks say, in plain statements: of a plan (`sound_plan`), of a query on it (`sound`) and of its label buffer (`label_length`).
-- Assumes nothing.
use mathlib.Core.Path.{◌≡◌, refl, sym}
use mathlib.Core.Logic.{◌≢◌, ◌⊎◌, inl, inr}
use mathlib.Core.Bool.{Bool, true, false, cond, not, ◌&&◌}
use mathlib.Core.List.{[], ◌∷◌, ◌++◌}
use Prim.Native.Nat.{ℕ, zero, suc, ◌+◌, ◌%◌, ◌≤◌, ◌<◌}
use native.Mathlib.Omega.{arith}
use native.Mathlib.Decide.{dec_lt}
use lib.Dec.{T, eqb, eqb_refl, ltb}
use lib.ListN.{length}
use Rattle.rules.specs.Plan.{Plan, width, section_count, turn_count, end_A, end_B, len, kind, free_A, free_B, free_at, is_free, touches, same_ends, turn_section, shared_point, turn_point, arrivals}
use Rattle.rules.specs.PlanCheck.{section_bad, degree, turn_bad, second_turn, plan_checks}
use Rattle.rules.specs.Refusals.{passed, once, verdict}
use Rattle.rules.specs.Query.{Query, first_distance, taken, alone, finish_room, train_checks, query_checks}
use Rattle.rules.proofs.Tests.{clash, T_or_left, T_or_right, tests}
use Rattle.rules.proofs.Ranges.{not_some_T}
use Rattle.rules.proofs.Verdicts.{Passed, passes, passes_both}

-- a section keeps its own rule
pub record SoundSection (y : Plan) (s : ℕ) : Type 0 where
  pub end_A_point : end_A y s < y.points
  pub end_B_point : end_B y s < y.points
  pub ends_differ : end_A y s ≢ end_B y s
  pub long : (1 ≤ len y s) × (len y s ≤ 200000)
  pub kinds : kind y s ≤ 1
  -- no free length passes the section's own
  pub frees : (free_A y s ≤ len y s) × (free_B y s ≤ len y s)
  -- the section is free, or something stands between the two free lengths
  pub stock : T (is_free y s) ⊎ (free_A y s + free_B y s < len y s)

-- a forbidden turn is two different connecting sections, and its point is an end of both
pub record SoundTurn (y : Plan) (t : ℕ) : Type 0 where
  pub in_range : (turn_section y t 0 < section_count y) × (turn_section y t 1 < section_count y)
  pub differ : turn_section y t 0 ≢ turn_section y t 1
  pub connect : (kind y (turn_section y t 0) ≡ 0) × (kind y (turn_section y t 1) ≡ 0)
  pub share : T (touches y (turn_section y t 0) (turn_point y t)) × T (touches y (turn_section y t 1) (turn_point y t))

-- a plan that passed checks 1 to 6
pub record SoundPlan (y : Plan) : Type 0 where
  pub few_points : (1 ≤ y.points) × (y.points ≤ 768)
  pub few_sections : (1 ≤ section_count y) × (section_count y ≤ 1024)
  pub few_turns : turn_count y ≤ 768
  -- the tables are made of whole rows
  pub whole_rows : (length y.sections % width ≡ 0) × (length y.turns % 2 ≡ 0)
  pub each_section : (s : ℕ) → s < section_count y → SoundSection y s
  -- no two sections join the same two points
  pub no_double : (r s : ℕ) → r < s → s < section_count y → T (not (same_ends y s r))
  pub degrees : (p : ℕ) → p < y.points → (1 ≤ degree y p) × (degree y p ≤ 3)
  pub each_turn : (t : ℕ) → t < turn_count y → SoundTurn y t
  -- at most one turn at a point
  pub one_turn : (t u : ℕ) → t < turn_count y → u < turn_count y → t ≢ u → turn_point y t ≢ turn_point y u

-- the two ends of a section by their numbers
pub at_both_ends : (P : ℕ → Type 0) → P 0 → P 1 → (e : ℕ) → e ≤ 1 → P e
at_both_ends P a b zero l = a
at_both_ends P a b (suc zero) l = b
at_both_ends P a b (suc (suc e)) l = absurd (omega arith)

-- two sections that share an end share their shared point
shares : (y : Plan) (s r : ℕ) → T (touches y r (end_A y s)) ⊎ T (touches y r (end_B y s))
    → T (touches y s (shared_point y s r)) × T (touches y r (shared_point y s r))
shares y s r o = go (touches y r (end_A y s)) refl o
  where
    go : (b : Bool) → touches y r (end_A y s) ≡ b → T b ⊎ T (touches y r (end_B y s))
        → T (touches y s (cond b (end_A y s) (end_B y s))) × T (touches y r (cond b (end_A y s) (end_B y s)))
    go true e o = (T_or_left (eqb (end_A y s) (end_A y s)) (eqb (end_B y s) (end_A y s)) (eqb_refl (end_A y s)), rw e tt)
    go false e (inl t) = absurd t
    go false e (inr t) = (T_or_right (eqb (end_A y s) (end_B y s)) (eqb (end_B y s) (end_B y s)) (eqb_refl (end_B y s)), t)

-- what check 2 says of a section
section_good : (y : Plan) (s : ℕ) → T (not (section_bad y s)) → SoundSection y s
section_good y s t =
    let h = simp tests at t in
    record {
      end_A_point = omega arith;
      end_B_point = omega arith;
      ends_differ = omega arith;
      long = omega arith;
      kinds = omega arith;
      frees = free h.1;
      stock = stand h.1;
    }
  where
    free : T (is_free y s) ⊎ T (ltb (free_A y s + free_B y s) (len y s)) → (free_A y s ≤ len y s) × (free_B y s ≤ len y s)
    free (inl h) = let k = simp tests at h in omega arith
    free (inr h) = let k = simp tests at h in omega arith

    stand : T (is_free y s) ⊎ T (ltb (free_A y s + free_B y s) (len y s)) → T (is_free y s) ⊎ (free_A y s + free_B y s < len y s)
    stand (inl h) = inl h
    stand (inr h) = inr (simp tests at h)

-- what check 5 says of a turn
turn_good : (y : Plan) (t : ℕ) → T (not (turn_bad y t)) → SoundTurn y t
turn_good y t n =
    let h = simp tests at n in
    record { in_range = omega arith; differ = omega arith; connect = omega arith; share = shares y (turn_section y t 0) (turn_section y t 1) h.1 }

-- an earlier turn at the same point would have been refused
one_at_point : (y : Plan) → ((t : ℕ) → t < turn_count y → T (not (second_turn y t))) → (t u : ℕ) → t < turn_count y → u < turn_count y → t ≢ u
    → turn_point y t ≢ turn_point y u
one_at_point y first t u lt lu n e = go (dec_lt t u) (dec_lt u t)
  where
    earlier : (t u : ℕ) → u < turn_count y → t < u → turn_point y t ≡ turn_point y u → ⊥
    earlier t u l h e =
        let k = simp tests at (not_some_T (λ v. eqb (turn_point y v) (turn_point y u)) 0 u (first u l) t (omega arith) (omega arith)) in
        k e

    go : Dec (t < u) → Dec (u < t) → ⊥
    go (yes h) d = earlier t u lu h e
    go (no h) (yes d) = earlier u t lt d (sym e)
    go (no h) (no d) = n (omega arith)

-- what the passed checks 1 to 6 say
pub plan_passed : (y : Plan) → Passed (plan_checks y) → SoundPlan y
plan_passed y p =
    let one = simp tests at (p.0 0 (omega arith)) in
    record {
      few_points = omega arith;
      few_sections = omega arith;
      few_turns = omega arith;
      whole_rows = omega arith;
      each_section = λ s l. section_good y s (p.1.0 s l);
      no_double = λ r s l m. not_some_T (same_ends y s) 0 s (p.1.1.0 s m) r (omega arith) (omega arith);
      degrees = λ k l. let four = simp tests at (p.1.1.1.0 k l) in omega arith;
      each_turn = λ t l. turn_good y t (p.1.1.1.1.0 t l);
      one_turn = one_at_point y p.1.1.1.1.1.0;
    }

pub sound_plan : {y : Plan} → verdict (plan_checks y) ≡ passed → SoundPlan y
sound_plan {y} e = plan_passed y (passes (plan_checks y) tt e)

-- a free length from either end is at most the section's length
pub free_fits : {y : Plan} {s : ℕ} → SoundSection y s → (e : ℕ) → e ≤ 1 → free_at y s e ≤ len y s
free_fits {y} {s} S e l = at_both_ends (λ k. free_at y s k ≤ len y s) S.frees.0 S.frees.1 e l

-- a query that passed checks 1 to 10
pub record Sound (q : Query) : Type 0 where
  pub plan : SoundPlan q.plan
  pub train : (1 ≤ q.train) × (q.train ≤ 20000)
  pub start : (q.start < section_count q.plan) × (q.start_end ≤ 1)
  pub start_kind : kind q.plan q.start ≡ 1
  -- at least a train's length of stock stands on the start section
  pub stands : taken q ≤ len q.plan q.start
  pub finish : (q.finish < section_count q.plan) × (q.finish_end ≤ 1)
  pub finish_kind : kind q.plan q.finish ≡ 1
  -- where start and finish are one section, the ends differ
  pub elsewhere : q.start ≡ q.finish → q.start_end ≢ q.finish_end
  pub room : (q.train ≤ finish_room q) × (finish_room q ≤ 200000)
  pub first : first_distance q ≤ 200000

-- the finish room is the finish section's length or a free length of it
room_small : (q : Query) → SoundSection q.plan q.finish → q.finish_end ≤ 1 → finish_room q ≤ 200000
room_small q S l = go (eqb q.start q.finish && alone q) (free_fits S q.finish_end l)
  where
    go : (b : Bool) → free_at q.plan q.finish q.finish_end ≤ len q.plan q.finish
        → cond b (len q.plan q.finish) (free_at q.plan q.finish q.finish_end) ≤ 200000
    go true f = omega (arith, S.long)
    go false f = omega (arith, S.long)

not_there : (q : Query) → T (not (eqb q.start q.finish && eqb q.start_end q.finish_end)) → q.start ≡ q.finish → q.start_end ≢ q.finish_end
not_there q t e f = clash (eqb q.start q.finish && eqb q.start_end q.finish_end) (simp tests (e, f)) t

-- what the passed checks 7 to 10 say of a query on a sound plan
pub train_passed : (q : Query) → SoundPlan q.plan → Passed (train_checks q) → Sound q
train_passed q S p =
    let seven = simp tests at (p.0 0 (omega arith)) in
    let eight = simp tests at (p.1.0 0 (omega arith)) in
    let nine = simp tests at (p.1.1.0 0 (omega arith)) in
    let ten = simp tests at (p.1.1.1.0 0 (omega arith)) in
    let x = S.each_section q.start (omega arith) in
    let z = S.each_section q.finish (omega arith) in
    record {
      plan = S;
      train = omega arith;
      start = omega arith;
      start_kind = omega arith;
      stands = omega arith;
      finish = omega arith;
      finish_kind = omega arith;
      elsewhere = not_there q nine.1;
      room = (ten, room_small q z (omega arith));
      first = omega (arith, x.long, free_fits x q.start_end (omega arith));
    }

module _ (q : Query) (n : ℕ) (e : verdict (query_checks q n) ≡ passed) where
  -- 1 to 6, 7 to 10, and 11
  parts : Passed (plan_checks q.plan) × (Passed (train_checks q) × Passed (once 11 (not (eqb n (arrivals q.plan))) ∷ []))
  parts =
      let last = once 11 (not (eqb n (arrivals q.plan))) ∷ [] in
      let p = passes_both (plan_checks q.plan) (train_checks q ++ last) (passes (query_checks q n) tt e) in
      (p.0, passes_both (train_checks q) last p.1)

  -- checks 1 to 10
  pub sound : Sound q
  sound = train_passed q (plan_passed q.plan parts.0) parts.1.0

  -- check 11
  pub label_length : n ≡ arrivals q.plan
  label_length = simp tests at (parts.1.1.0 0 (omega arith))
