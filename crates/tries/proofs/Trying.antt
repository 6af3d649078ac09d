-- How a search for the smallest list is made of smaller searches: over a section, and over the sections of a point.
-- Assumes nothing.
use mathlib.Core.Path.{◌≡◌, refl, sym, ap, ◌∙◌}
use mathlib.Core.Logic.{◌⊎◌, ⊎_elim, inl, inr}
use mathlib.Core.List.{List, [], ◌∷◌}
use Prim.Native.Nat.{ℕ, suc, ◌+◌, ◌≤◌, ◌<◌}
use native.Mathlib.Nat.{eq-or-lt_of_le}
use native.Mathlib.Decide.{dec_lt}
use native.Mathlib.Numerals.{add-one}
use native.Mathlib.Omega.{arith}
use lib.ListN.{length, set}
use lib.Seq.{set_comm, sets}
use Rattle.std.proofs.Common.{Result, Ok, Err}
use Rattle.rules.specs.Net.{NotAfter, over, lower, level}
use Rattle.tries.specs.Tried.{Heads, Over, Tried, none, smallest}

-- a list is written from its end on: the store before it comes last
sets_before : (vs b : List ℕ) (i j x : ℕ) → i < j → set (sets b j vs) i x ≡ sets (set b i x) j vs
sets_before [] b i j x h = refl
sets_before (v ∷ vs) b i j x h =
    sets_before vs (set b j v) i (suc j) x (omega arith) ∙ ap (λ (m : List ℕ). sets m (suc j) vs) (set_comm b j i v x (λ e. omega arith))

written : (qs b : List ℕ) (d e : ℕ) → set (sets b (d + 1) qs) d e ≡ sets b d (e ∷ qs)
written qs b d e = sets_before qs b d (d + 1) e (omega arith) ∙ rw add-one refl

module _ {P : List ℕ → Type 0} {b : List ℕ} {d e : ℕ} where
  -- no list begins with e
  pub over_none : (most : ℕ) → ((qs : List ℕ) → P (e ∷ qs) → ⊥) → Tried (Over P e) b d (Err most) b
  over_none most n = none most refl refl go
    where
      go : (qs : List ℕ) → Over P e qs → ⊥
      go [] u = u.0
      go (q ∷ qs) u = n qs (rw u.0 at u.1)

  -- it makes a list by itself
  pub over_last : P (e ∷ []) → d < length b → Tried (Over P e) b d (Ok (d + 1)) (set b d e)
  over_last p l = smallest (e ∷ []) refl (omega arith) (omega arith) refl (refl, p) go
    where
      go : (rs : List ℕ) → Over P e rs → NotAfter (e ∷ []) rs
      go [] u = absurd u.0
      go (r ∷ rs) u = level (sym u.0) over

-- the lists that begin with e are those of another search, with e before them
module _ (P Q : List ℕ → Type 0) {b a : List ℕ} {d e : ℕ} {r : Result ℕ ℕ} (to : (qs : List ℕ) → Q qs → P (e ∷ qs)) (from : (qs : List ℕ) → P (e ∷ qs) → Q qs) where
  pub over_missed : {m : ℕ} (most : ℕ) → Tried Q b (d + 1) r a → r ≡ Err m → Tried (Over P e) b d (Err most) a
  over_missed most (smallest qs i pos fit w p least) z = cc
  over_missed most (none m i w miss) z = none most refl w go
    where
      go : (qs : List ℕ) → Over P e qs → ⊥
      go [] u = u.0
      go (q ∷ qs) u = miss qs (from qs (rw u.0 at u.1))

  pub over_found : {n : ℕ} → Tried Q b (d + 1) r a → r ≡ Ok n → Tried (Over P e) b d (Ok n) (set a d e)
  over_found (none m i w miss) z = cc
  over_found {n} (smallest qs i pos fit w p least) z =
      smallest (e ∷ qs) (ap (λ k. Ok k) (place qs i z)) (omega arith) (omega arith) (ap (λ (m : List ℕ). set m d e) w ∙ written qs b d e) (refl, to qs p) go
    where
      place : (qs : List ℕ) → r ≡ Ok (d + 1 + length qs) → r ≡ Ok n → n ≡ d + suc (length qs)
      place qs i z = let k : d + 1 + length qs ≡ n = cc in omega arith

      go : (rs : List ℕ) → Over P e rs → NotAfter (e ∷ qs) rs
      go [] u = absurd u.0
      go (r ∷ rs) u = level (sym u.0) (least rs (from rs (rw u.0 at u.1)))

-- what begins with y comes after the smallest of those that begin with x
later : {P : List ℕ → Type 0} {x y : ℕ} → x ≤ y → (qs rs : List ℕ) → Over P x qs → ((js : List ℕ) → Over P x js → NotAfter qs js) → Over P y rs → NotAfter qs rs
later l [] rs u least v = absurd u.0
later l (q ∷ qs) [] u least v = absurd v.0
later {x} {y} l (q ∷ qs) (r ∷ rs) u least v =
    ⊎_elim (λ e. least (r ∷ rs) (v.0 ∙ sym e, v.1)) (λ h. let i = u.0 in let j = v.0 in lower (omega arith)) (eq-or-lt_of_le l)

-- a search in vain: nothing was written
pub missed : {P : List ℕ → Type 0} {b a : List ℕ} {d m : ℕ} {r : Result ℕ ℕ} → Tried P b d r a → r ≡ Err m → a ≡ b
missed (none m i w miss) z = w
missed (smallest qs i pos fit w p least) z = cc

-- a search over sections that ascend, one by one
module _ (P : List ℕ → Type 0) (section : ℕ → ℕ) where
  -- no list begins with one of the first j of them
  abbrev pub Vain : ℕ → Type 0
  Vain j = (k : ℕ) → k < j → (qs : List ℕ) → Over P (section k) qs → ⊥

  -- all the lists begin with one of m of them; up to the first j nothing was written
  module _ {m : ℕ} (all : (qs : List ℕ) → P qs → (k : ℕ) × (k < m) × Heads (section k) qs) {j : ℕ} (v : Vain j) {b o : List ℕ} (same : o ≡ b) {d : ℕ} where
    -- the first that is not tried in vain gives the smallest list
    pub first_found : {e n : ℕ} {a : List ℕ} {r : Result ℕ ℕ} → ((i k : ℕ) → i < k → k < m → section i ≤ section k) → e ≡ section j → Tried (Over P e) o d r a → r ≡ Ok n
        → Tried P b d r a
    first_found ascend i (none m y w miss) z = cc
    first_found ascend i (smallest qs y pos fit w p least) z = smallest qs y pos (rw same at fit) (rw same at w) p.1 go
      where
        from : (rs : List ℕ) → P rs → (k : ℕ) → k < m → Heads (section k) rs → (j ≡ k) ⊎ (j < k) → NotAfter qs rs
        from rs r k l u (inl e) = least rs (rw (i, e) u, r)
        from rs r k l u (inr h) = later {P = P} (rw i (ascend j k h l)) qs rs p least (u, r)

        at : (rs : List ℕ) → P rs → (k : ℕ) → k < m → Heads (section k) rs → Dec (k < j) → NotAfter qs rs
        at rs r k l u (yes h) = absurd (v k h rs (u, r))
        at rs r k l u (no h) = from rs r k l u (eq-or-lt_of_le (omega arith))

        go : (rs : List ℕ) → P rs → NotAfter qs rs
        go rs r = let a = all rs r in at rs r a.0 a.1 a.2 (dec_lt a.0 j)
