-- Runs grow by a field at their end, and the byte after a run is known from how many fields it has.
-- Assumes nothing.
use mathlib.Core.Path.{◌≡◌, refl, sym}
use mathlib.Core.List.{List}
use Prim.Native.Nat.{ℕ, zero, suc, ◌+◌, ◌*◌, ◌≤◌, ◌<◌}
use native.Mathlib.Nat.{suc-mul}
use native.Mathlib.Numerals.{add-one}
use native.Mathlib.Omega.{arith}
use lib.ListN.{length}
use Rattle.rules.specs.YardFile.{layout, bytes_in, limit}
use Rattle.yardfile.specs.Runs.{IsField, Follow, after}

follow_one : (s : List ℕ) (t n p : ℕ) → Follow s t n p → IsField s t (after t n p) → Follow s t (suc n) p
follow_one s t zero p f h = (h, tt)
follow_one s t (suc n) p f h = (f.0, follow_one s t n (p + 3 + bytes_in (layout t)) f.1 h)

after_one : (t n p : ℕ) → after t (suc n) p ≡ after t n p + 3 + bytes_in (layout t)
after_one t zero p = refl
after_one t (suc n) p = after_one t n (p + 3 + bytes_in (layout t))

pub after_at : (t n p : ℕ) → after t n p ≡ p + n * (3 + bytes_in (layout t))
after_at t zero p = omega arith
after_at t (suc n) p = let h = after_at t n (p + 3 + bytes_in (layout t)) in let m = suc-mul n (3 + bytes_in (layout t)) in omega (arith, h, m)

-- n fields are passed, and q is the byte after them
pub record Going (s : List ℕ) (t p n q : ℕ) : Type 0 where
  pub follow : Follow s t n p
  pub ends : q ≡ after t n p
  pub few : n ≤ limit t

pub going_more : {s : List ℕ} {t p n q : ℕ} (b : ℕ) → Going s t p n q → n < limit t → IsField s t q → b ≡ bytes_in (layout t)
    → Going s t p (n + 1) (q + (3 + b))
going_more {s} {t} {p} {n} {q} b g l h e =
    let z : q + (3 + bytes_in (layout t)) ≡ q + 3 + bytes_in (layout t) = omega arith in
    rw (add-one, e, z)
    record {
      follow = follow_one s t n p g.follow (rw g.ends at h);
      ends = rw g.ends (sym (after_one t n p));
      few = omega arith;
    }

-- a field lies within its file
pub field_within : {s : List ℕ} {t p : ℕ} (b : ℕ) → IsField s t p → b ≡ bytes_in (layout t) → p + 3 + b ≤ length s
field_within {s} {t} {p} b h e = let w = h.whole in rw (e) (rw h.sized at w)
