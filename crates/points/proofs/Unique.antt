-- A set is what its members are: words of 32 bits that keep the same points are the same. So `Empty`, `Put`, `Taken`, `Added` and
-- `Loaded` determine each word.
-- Assumes nothing.
use mathlib.Core.Path.{◌≡◌, refl, sym, ap, ◌∙◌}
use mathlib.Core.Bool.{true≢false, false≢true}
use mathlib.Core.List.{List}
use Prim.Native.Nat.{ℕ, zero, suc, ◌+◌, ◌*◌, ◌/◌, ◌%◌, ◌<◌}
use native.Mathlib.Omega.{arith}
use lib.Dec.{eqb}
use lib.ListN.{length, get_or}
use lib.Seq.{ext_get_or}
use Rattle.points.specs.Points.{kept, member, Empty, Put, Taken, Added, Loaded}
use Rattle.points.specs.declared.Points.{Points}
use Rattle.std.specs.Int.{bit_at}
use Rattle.std.proofs.lemmas.Nat.Bits.{bit_at-lt, same_from_bits_below}

-- a bit is told by whether it is put
told : (x y : ℕ) → x < 2 → y < 2 → eqb x 1 ≡ eqb y 1 → x ≡ y
told zero zero l h e = refl
told zero (suc zero) l h e = absurd (false≢true e)
told (suc zero) zero l h e = absurd (true≢false e)
told (suc zero) (suc zero) l h e = refl
told zero (suc (suc y)) l h e = absurd (omega arith)
told (suc zero) (suc (suc y)) l h e = absurd (omega arith)
told (suc (suc x)) y l h e = absurd (omega arith)

-- what a machine keeps of a set: 24 words of 32 bits
pub record InWords (s : Points) : Type 0 where
  pub whole : length s.words ≡ 24
  pub low : (i : ℕ) → get_or s.words i 0 < 4294967296

pub same_members : {s r : Points} → InWords s → InWords r → ((k : ℕ) → member s k ≡ member r k) → s ≡ r
unfolding kept member
same_members {s} {r} l h e =
    ap (λ (ws : List ℕ). record { words = ws })
    (ext_get_or 0 s.words r.words (l.whole ∙ sym h.whole) (λ i k. same_from_bits_below 32 (get_or s.words i 0) (get_or r.words i 0) (l.low i) (h.low i) (at i)))
  where
    at : (i b : ℕ) → b < 32 → bit_at (get_or s.words i 0) b ≡ bit_at (get_or r.words i 0) b
    at i b z =
        let word : (32 * i + b) / 32 ≡ i = omega arith in
        let place : (32 * i + b) % 32 ≡ b = omega arith in
        told (bit_at (get_or s.words i 0) b) (bit_at (get_or r.words i 0) b) (bit_at-lt (get_or s.words i 0) b) (bit_at-lt (get_or r.words i 0) b)
        (rw (word, place) at (e (32 * i + b)))

pub empty_unique : {s r : Points} → InWords s → InWords r → Empty s → Empty r → s ≡ r
empty_unique l h x y = same_members l h (λ k. x.members k ∙ sym (y.members k))

pub put_unique : {s r u : Points} {p : ℕ} → InWords r → InWords u → Put s p r → Put s p u → r ≡ u
put_unique l h x y = same_members l h (λ k. x.members k ∙ sym (y.members k))

pub taken_unique : {s r u : Points} {p : ℕ} → InWords r → InWords u → Taken s p r → Taken s p u → r ≡ u
taken_unique l h x y = same_members l h (λ k. x.members k ∙ sym (y.members k))

pub added_unique : {s v r u : Points} → InWords r → InWords u → Added s v r → Added s v u → r ≡ u
added_unique l h x y = same_members l h (λ k. x.members k ∙ sym (y.members k))

pub loaded_unique : {ws : List ℕ} {r u : Points} → InWords r → InWords u → Loaded ws r → Loaded ws u → r ≡ u
loaded_unique l h x y = same_members l h (λ k. x.members k ∙ sym (y.members k))
