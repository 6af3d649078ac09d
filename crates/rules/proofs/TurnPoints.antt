-- Where a forbidden turn lies: two sections of a checked plan share one point, and that point has one turn.
-- Assumes nothing.
use mathlib.Core.Path.{◌≡◌, sym, ◌∙◌}
use mathlib.Core.Logic.{◌≢◌, ◌⊎◌, inl, inr, ⊎_elim}
use mathlib.Core.Bool.{Bool, ◌&&◌, ◌||◌}
use Prim.Native.Nat.{ℕ, ◌<◌}
use native.Mathlib.Omega.{arith}
use native.Mathlib.Decide.{dec_lt, ℕ_discrete}
use lib.Dec.{T, eqb, eqb_refl}
use Rattle.rules.specs.Plan.{Plan, section_count, turn_count, end_A, end_B, touches, same_ends, turn_section, turn_point, forbidden}
use Rattle.rules.proofs.Tests.{tests, clash, T_and, or_T, T_or_left, T_or_right}
use Rattle.rules.proofs.Ranges.{some_T, T_some}
use Rattle.rules.proofs.Sound.{SoundPlan}
use Rattle.rules.proofs.Ways.{two_ends}

-- the turn t is sections h and e, either way round
abbrev pub is_turn : Plan → ℕ → ℕ → ℕ → Bool
is_turn y h e t = (eqb (turn_section y t 0) h && eqb (turn_section y t 1) e) || (eqb (turn_section y t 0) e && eqb (turn_section y t 1) h)

pub turn_cases : (y : Plan) (h e t : ℕ) → T (is_turn y h e t)
    → ((turn_section y t 0 ≡ h) × (turn_section y t 1 ≡ e)) ⊎ ((turn_section y t 0 ≡ e) × (turn_section y t 1 ≡ h))
turn_cases y h e t u =
    ⊎_elim (λ v. inl (simp tests at v)) (λ v. inr (simp tests at v))
    (or_T (eqb (turn_section y t 0) h && eqb (turn_section y t 1) e) (eqb (turn_section y t 0) e && eqb (turn_section y t 1) h) u)

-- each of the two is one of the other's
pub turn_swap : (y : Plan) (h e : ℕ) → T (forbidden y h e) → T (forbidden y e h)
turn_swap y h e f =
    let w = some_T (is_turn y h e) 0 (turn_count y) f in
    T_some (is_turn y e h) 0 (turn_count y) w.0 (omega arith) w.1
    (⊎_elim (λ p. simp tests (inr (simp tests (p.0, p.1)))) (λ p. simp tests (inl (simp tests (p.0, p.1)))) (turn_cases y h e w.0 w.2))

module _ {y : Plan} (sound : SoundPlan y) where
  -- where section h has both ends of section e
  all_ends : (h e : ℕ) → ((k : ℕ) → T (touches y e k) → T (touches y h k)) → T (same_ends y h e)
  all_ends h e g =
      T_and (touches y h (end_A y e)) (touches y h (end_B y e))
      (g (end_A y e) (T_or_left (eqb (end_A y e) (end_A y e)) (eqb (end_B y e) (end_A y e)) (eqb_refl (end_A y e))))
      (g (end_B y e) (T_or_right (eqb (end_A y e) (end_B y e)) (eqb (end_B y e) (end_B y e)) (eqb_refl (end_B y e))))

  -- two sections share at most one point
  pub one_shared : {h e p q : ℕ} → h < section_count y → e < section_count y → h ≢ e → T (touches y h p) → T (touches y e p) → T (touches y h q) → T (touches y e q)
      → p ≡ q
  one_shared {h} {e} {p} {q} lh le n hp ep hq eq = go (ℕ_discrete q p)
    where
      -- the other section's ends are p and q
      ends : (f g : ℕ) → q ≢ p → T (touches y f p) → T (touches y f q) → T (touches y g p) → T (touches y g q) → (k : ℕ) → T (touches y f k) → T (touches y g k)
      ends f g d fp fq gp gq k t =
          ⊎_elim (λ i. rw i gp) (λ i. ⊎_elim (λ j. absurd (d j)) (λ j. let z : k ≡ q = i ∙ sym j in rw z gq) (two_ends y f p q fp fq)) (two_ends y f p k fp t)

      go : Dec (q ≡ p) → p ≡ q
      go (yes d) = sym d
      go (no d) = order (dec_lt h e) (dec_lt e h)
        where
          order : Dec (h < e) → Dec (e < h) → p ≡ q
          order (yes l) m = absurd (clash (same_ends y e h) (all_ends e h (ends h e d hp hq ep eq)) (sound.no_double h e l le))
          order (no l) (yes m) = absurd (clash (same_ends y h e) (all_ends h e (ends e h d ep eq hp hq)) (sound.no_double e h m lh))
          order (no l) (no m) = absurd (n (omega arith))

  -- a forbidden turn of two sections that meet at p is a turn at p
  pub turn_there : {h e p : ℕ} → h < section_count y → e < section_count y → h ≢ e → T (touches y h p) → T (touches y e p) → T (forbidden y h e)
      → (t : ℕ) × (t < turn_count y) × (turn_point y t ≡ p) × T (is_turn y h e t)
  turn_there {h} {e} {p} lh le n hp ep f =
      let w = some_T (is_turn y h e) 0 (turn_count y) f in
      let l : w.0 < turn_count y = omega (arith, w.1) in
      (w.0, l, at w.0 l (turn_cases y h e w.0 w.2), w.2)
    where
      meets : (a b q : ℕ) → a ≡ h → b ≡ e → T (touches y a q) → T (touches y b q) → q ≡ p
      meets a b q i j aq bq = one_shared lh le n (rw i at aq) (rw j at bq) hp ep

      at : (t : ℕ) → t < turn_count y → ((turn_section y t 0 ≡ h) × (turn_section y t 1 ≡ e)) ⊎ ((turn_section y t 0 ≡ e) × (turn_section y t 1 ≡ h)) → turn_point y t ≡ p
      at t l (inl i) =
          let share = (sound.each_turn t l).share in
          meets (turn_section y t 0) (turn_section y t 1) (turn_point y t) i.0 i.1 share.0 share.1
      at t l (inr i) =
          let share = (sound.each_turn t l).share in
          meets (turn_section y t 1) (turn_section y t 0) (turn_point y t) i.1 i.0 share.1 share.0

  -- and there is no other
  pub same_turn : (t u : ℕ) → t < turn_count y → u < turn_count y → turn_point y t ≡ turn_point y u → t ≡ u
  same_turn t u lt lu e = go (ℕ_discrete t u)
    where
      go : Dec (t ≡ u) → t ≡ u
      go (yes d) = d
      go (no d) = absurd (sound.one_turn t u lt lu d e)
