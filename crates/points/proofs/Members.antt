-- The members of a set: of no words but zeros, and after one bit of one word was put or cut.
-- Assumes nothing.
use mathlib.Core.Path.{◌≡◌, refl}
use mathlib.Core.Logic.{◌≢◌}
use mathlib.Core.Bool.{Bool, not, ◌&&◌}
use Prim.Native.Nat.{ℕ, zero, suc, ◌*◌, ◌/◌, ◌%◌, ◌^◌, ◌<◌}
use native.Mathlib.Omega.{arith}
use native.Mathlib.Nat.{mod-lt}
use native.Mathlib.Decide.{ℕ_discrete}
use borrow.Author.Tests.{eq-eqb, ne_eqb}
use mir.Syntax.{w32}
use lib.Dec.{eqb}
use lib.ListN.{length, get_or, set, replicate}
use lib.Seq.{get_or-set_same, get_or-set_other}
use lib.Bits.{bit_and, bit_or, and_mask}
use Rattle.std.specs.Int.{bit_at, bit_not}
use Rattle.std.proofs.lemmas.Nat.Bits.{bit_at-zero, bit_at_set_same, bit_at_set_other, bit_at_clear_same, bit_at_clear_other}
use Rattle.rules.proofs.Ways.{mark}
use Rattle.points.specs.declared.Points.{Points}
use Rattle.points.specs.Points.{kept, member, Empty, Put, Taken}
use Rattle.points.proofs.Bits.{shifted_down}

zeros : (n i : ℕ) → ◌≡◌ {A = ℕ} (get_or (replicate n 0) i 0) 0
zeros zero i = refl
zeros (suc n) zero = refl
zeros (suc n) (suc i) = zeros n i

pub empty : {s : Points} → s.words ≡ replicate 24 0 → Empty s
unfolding kept member
empty e = record { members = λ k. rw (e, zeros 24 (k / 32), bit_at-zero (k % 32)) refl }

-- the bit of a point in its word is the point
pub read : (s : Points) (p : ℕ) {i : ℕ} → i ≡ p / 32 → eqb (bit_and (get_or s.words i 0 / 2 ^ bit_and p 31) 1) 1 ≡ member s p
unfolding kept member
read s p {i} e = rw (e, shifted_down (get_or s.words (p / 32) 0) p) refl

place_low : (p : ℕ) → p % 32 < 32
place_low p = mod-lt p (omega arith)

-- the word of point p is changed to x, in no other bit than that of p
changed : (s : Points) {r : Points} (p i x : ℕ) → length s.words ≡ 24 → p < 768 → i ≡ p / 32 → r.words ≡ set s.words i x
    → ((b : ℕ) → b < 32 → b ≢ p % 32 → bit_at x b ≡ bit_at (get_or s.words i 0) b) → (f : ℕ → Bool) → eqb (bit_at x (p % 32)) 1 ≡ f p
    → ((k : ℕ) → k ≢ p → member s k ≡ f k) → (k : ℕ) → member r k ≡ f k
unfolding kept member
changed s {r} p i x z l e w same f here others k = rw w (go (ℕ_discrete (k / 32) i) (ℕ_discrete (k % 32) (p % 32)))
  where
    go : Dec (k / 32 ≡ i) → Dec (k % 32 ≡ p % 32) → kept (set s.words i x) k ≡ f k
    go (yes a) (yes b) =
        let k_is_p : k ≡ p = omega arith in rw (a, get_or-set_same s.words i x 0 (omega arith), b, k_is_p) here
    go (yes a) (no b) =
        rw (a, get_or-set_same s.words i x 0 (omega arith), same (k % 32) (place_low k) b, ← a) (others k (λ q. b (omega arith)))
    go (no a) b = rw (get_or-set_other s.words i (k / 32) x 0 a) (others k (λ q. a (omega arith)))

-- the word of a point, with its bit put, and with its bit cut
pub written : {s r : Points} {p i : ℕ} → length s.words ≡ 24 → p < 768 → i ≡ p / 32
    → r.words ≡ set s.words i (bit_or (get_or s.words i 0) (1 * 2 ^ bit_and p 31 % 4294967296)) → Put s p r
written {s} {r} {p} {i} z l e w =
    let word = get_or s.words i 0 in
    record {
      members = changed s p i _ z l e (rw (and_mask p 5) at w) (λ b low n. bit_at_set_other w32 word (p % 32) (place_low p) b n) (mark p (member s))
          (rw (bit_at_set_same w32 word (p % 32) (place_low p), eq-eqb p p refl) refl) (λ k n. rw (ne_eqb k p n) refl);
    }

pub taken : {s r : Points} {p i : ℕ} → length s.words ≡ 24 → p < 768 → i ≡ p / 32
    → r.words ≡ set s.words i (bit_and (get_or s.words i 0) (bit_not w32 (1 * 2 ^ bit_and p 31 % 4294967296))) → Taken s p r
taken {s} {r} {p} {i} z l e w =
    let word = get_or s.words i 0 in
    record {
      members = changed s p i _ z l e (rw (and_mask p 5) at w) (λ b low n. bit_at_clear_other w32 word (p % 32) (place_low p) b low n)
          (λ k. not (eqb k p) && member s k)
          (rw (bit_at_clear_same w32 word (p % 32) (place_low p), eq-eqb p p refl) refl) (λ k n. rw (ne_eqb k p n) refl);
    }
