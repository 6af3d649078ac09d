-- What `rposition` tells of words that it takes off the back of a slice: past the last that is found, and where none is, all are 0.
-- Assumes nothing.
use mathlib.Core.Path.{◌≡◌, refl}
use mathlib.Core.List.{List, [], ◌∷◌, ◌++◌}
use Prim.Native.Nat.{ℕ, zero, suc, ◌+◌, ◌-◌, ◌≤◌, ◌<◌}
use denote.Ref.{Bor}
use native.Mathlib.Decide.{dec_lt}
use native.Mathlib.Omega.{arith}
use lib.ListN.{length, get_or, length-append, get_or-append, get_or-eq_default}
use lib.Seq.{get_or-append_right}
use Rattle.std.proofs.Common.{Option, Some, None, Iter}
use Rattle.std.specs.Iterator.{Yields, YieldsThen}
use Rattle.std.specs.List.{FoldsTo}
use Rattle.std.specs.Option.{MatchOption, IsSomeAnd, IfSome}
use Rattle.points.proofs.Words.{Clear}

-- so many of the first words hold all that is not 0
abbrev pub After : Option ℕ → ℕ
After None = 0
After (Some i) = i + 1

pub within : (r : Option ℕ) {n : ℕ} → IfSome r (λ i. i < n) → After r ≤ n
within None h = omega arith
within (Some i) h = omega arith

-- as the code counts them
pub counted : {P : ℕ → Type 0} (r : Option ℕ) {m : ℕ} → MatchOption r (m ≡ 0) P → ((i : ℕ) → P i → m ≡ i + 1) → m ≡ After r
counted None h f = h
counted (Some i) h f = f i h

-- a word comes off the back
abbrev Gives : Iter ℕ → Option (Bor ℕ) → Iter ℕ → Type 0
Gives s r t = MatchOption r ((length s.rest.now ≡ 0) × (t ≡ s)) (λ x. s.rest.now ≡ t.rest.now ++ x.now ∷ [])

last : (j : ℕ) → ◌≡◌ {A = ℕ} (get_or (0 ∷ []) j 0) 0
last zero = refl
last (suc j) = refl

-- one more 0 behind words that are clear
clear_more : {n : ℕ} (ws : List ℕ) {x : ℕ} → x ≡ 0 → Clear ws n → Clear (ws ++ x ∷ []) n
clear_more ws {x} z c j l = go (dec_lt j (length ws))
  where
    go : Dec (j < length ws) → get_or (ws ++ x ∷ []) j 0 ≡ 0
    go (yes low) = rw (get_or-append ws (x ∷ []) 0 j low) (c j l)
    go (no high) = rw (get_or-append_right ws (x ∷ []) j 0 (omega arith), z) (last (j - length ws))

module _ {F : Type 0} (said : F → Bor ℕ → F → Type 0) (f : F) (zeros : (x : Bor ℕ) (q : F) → said f x q → (q ≡ f) × (x.now ≡ 0)) where
  -- what is passed over is 0
  passed : (xs : List (Bor ℕ)) (s t : Iter ℕ) (h : F) → Yields Gives s xs t → FoldsTo said f xs h
      → (length s.rest.now ≡ length t.rest.now + length xs) × Clear s.rest.now (length t.rest.now)
  passed [] s t h y k = rw y (omega arith, λ j l. get_or-eq_default t.rest.now 0 l)
  passed (x ∷ xs) s t h (m, y, ys) (p, k, ks) =
      let z = zeros x p k in
      let more = passed xs m t h ys (rw z.0 at ks) in
      (rw y (omega (arith, more.0, length-append m.rest.now (x.now ∷ []))), rw y (clear_more m.rest.now z.1 more.1))

  pub clear_from : {Q : F → Bor ℕ → Type 0} (s u : Iter ℕ) (r : Option ℕ) {n : ℕ}
      → (xs : List (Bor ℕ)) × (o : Option (Bor ℕ)) × (h : F) × YieldsThen Gives s xs o u × FoldsTo said f xs h
      × MatchOption o (r ≡ None) (λ x. IsSomeAnd r (λ i. i + 1 + length xs ≡ n) × Q h x)
      → n ≡ length s.rest.now → Clear s.rest.now (After r)
  clear_from {Q} s u r {n} (xs, o, h, (t, y, z), k, m) e = go o r z m
    where
      left : (length s.rest.now ≡ length t.rest.now + length xs) × Clear s.rest.now (length t.rest.now)
      left = passed xs s t h y k

      go : (o : Option (Bor ℕ)) (r : Option ℕ) → Gives t o u → MatchOption o (r ≡ None) (λ x. IsSomeAnd r (λ i. i + 1 + length xs ≡ n) × Q h x) → Clear s.rest.now (After r)
      go None r z m = rw m (λ j l. left.1 j (omega (arith, z.0)))
      go (Some x) None z m = absurd m.0
      go (Some x) (Some i) z m = λ j l. left.1 j (omega (arith, m.0, left.0))
