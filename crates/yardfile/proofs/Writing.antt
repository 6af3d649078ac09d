-- Numbers that are written into a table one after the other: storing what is left, from where it is to go, gives the table at the end.
-- Assumes nothing.
use mathlib.Core.Path.{◌≡◌, refl, sym, ap, ◌∙◌}
use mathlib.Core.List.{List, [], ◌∷◌, ◌++◌}
use Prim.Native.Nat.{ℕ, zero, suc, ◌+◌, ◌-◌, ◌*◌, ◌≤◌, ◌<◌}
use native.Mathlib.Nat.{suc-mul}
use native.Mathlib.Numerals.{add-one}
use native.Mathlib.Omega.{arith}
use lib.ListN.{length, get_or, take, drop, set, length-append}
use lib.Seq.{drop-cons, drop-length, sets, length-sets, sets-eq}
use borrow.Rule.Slice.PartMut.{put_mid}
use Rattle.std.proofs.lemmas.List.{append-nil, drop-drop, length-drop, take_all}
use Rattle.std.proofs.Common.{append_assoc}
use Rattle.rules.specs.YardFile.{number, numbers, layout, bytes_in, in_front}
use Rattle.yardfile.specs.Runs.{Follow, rows_of}
use Rattle.yardfile.proofs.Following.{field_within}

-- the bytes that the numbers from the i-th on have
pub bytes_left : (ws : List ℕ) (i : ℕ) → i < length ws → bytes_in (drop i ws) ≡ get_or ws i 0 + bytes_in (drop (i + 1) ws)
bytes_left ws i h = rw (add-one, drop-cons ws i 0) refl

pub number_more : (s tab ws : List ℕ) (i at x : ℕ) (all : List ℕ) → i < length ws
    → x ≡ number (take (at + get_or ws i 0 - at) (drop at s))
    → sets tab i (numbers (drop i ws) s at) ≡ all → sets (set tab i x) (i + 1) (numbers (drop (i + 1) ws) s (at + get_or ws i 0)) ≡ all
number_more s tab ws i at x all h f q =
    let z : at + get_or ws i 0 - at ≡ get_or ws i 0 = omega arith in
    rw (f, z, add-one) (rw (drop-cons ws i 0 h) at q)

sets_append : (l : List ℕ) (i : ℕ) (a b : List ℕ) → sets l i (a ++ b) ≡ sets (sets l i a) (i + length a) b
sets_append l i [] b = let z : i + 0 ≡ i = omega arith in rw z refl
sets_append l i (x ∷ a) b = let z : i + suc (length a) ≡ suc i + length a = omega arith in rw z (sets_append (set l i x) (suc i) a b)

pub length_numbers : (ws s : List ℕ) (k : ℕ) → length (numbers ws s k) ≡ length ws
length_numbers [] s k = refl
length_numbers (w ∷ ws) s k = ap suc (length_numbers ws s (k + w))

-- what is put into a part of a list is stored from the part's first place on
part_sets : (out new : List ℕ) (n k : ℕ) → k ≡ length new → n + length new ≤ length out → put_mid n k out new ≡ sets out n new
part_sets out new n k e h = rw (e, drop-drop (length new) n out) (sym (sets-eq new out n h ∙ append_assoc (take n out) new (drop (n + length new) out)))

-- a row that is stored as a whole
pub whole_row : (row ws s : List ℕ) (k : ℕ) → length row ≡ length ws → sets row 0 (numbers ws s k) ≡ numbers ws s k
whole_row row ws s k h =
    let l = length_numbers ws s k in
    let z : 0 + length (numbers ws s k) ≡ length row = omega (arith, h, l) in
    sets-eq (numbers ws s k) row 0 (omega (arith, z)) ∙ rw (z, drop-length row) (append-nil (numbers ws s k))

-- the numbers of what is left of a file from byte j on
pub numbers_from : (ws s : List ℕ) (j k : ℕ) → numbers ws (drop j s) k ≡ numbers ws s (j + k)
numbers_from [] s j k = refl
numbers_from (w ∷ ws) s j k =
    let z : j + k + w ≡ j + (k + w) = omega arith in
    rw (drop-drop k j s, z, numbers_from ws s j (k + w)) refl

pub length_rows : (s : List ℕ) (t n p : ℕ) → length (rows_of s t n p) ≡ n * length (layout t)
length_rows s t zero p = omega arith
length_rows s t (suc n) p =
    let h = length_rows s t n (p + 3 + bytes_in (layout t)) in
    let k = length_numbers (layout t) s (p + 3) in
    let m = suc-mul n (length (layout t)) in
    rw length-append (omega (arith, h, k, m))

-- so many fields are left from byte at on, and their numbers go into the table from n on
pub record Putting (s : List ℕ) (t : ℕ) (all out : List ℕ) (at n left : ℕ) : Type 0 where
  pub follow : Follow s t left at
  pub held : 0 < left → at + 3 + bytes_in (layout t) ≤ length s
  pub fits : 0 < left → n + length (layout t) ≤ length out
  pub room : n + left * length (layout t) ≤ length out
  pub rest : sets out n (rows_of s t left at) ≡ all

pub putting : (s : List ℕ) (t : ℕ) (all out : List ℕ) (at n left : ℕ) → Follow s t left at → n + left * length (layout t) ≤ length out
    → sets out n (rows_of s t left at) ≡ all → Putting s t all out at n left
putting s t all out at n zero f h e = record { follow = f; held = λ l. absurd (omega arith); fits = λ l. absurd (omega arith); room = h; rest = e }
putting s t all out at n (suc m) f h e =
    let k = suc-mul m (length (layout t)) in
    record { follow = f; held = λ l. field_within (bytes_in (layout t)) f.0 refl; fits = λ l. omega (arith, k, h); room = h; rest = e }

pub putting_more : {s : List ℕ} {t : ℕ} {all out : List ℕ} {at n left : ℕ} (row : List ℕ) (m b c : ℕ)
    → Putting s t all out at n left → left ≡ suc m
    → row ≡ numbers (layout t) (take (length s - (at + 3)) (drop (at + 3) s)) 0 → c ≡ length (layout t) → b ≡ bytes_in (layout t)
    → Putting s t all (put_mid n (n + c - n) out row) (at + (3 + b)) (n + c) m
putting_more {left = zero} row m b c g h e f d = absurd (omega arith)
putting_more {s} {t} {all} {out} {at} {n} {left = suc m'} row m b c g h e f d =
    let x = layout t in
    let z : m' ≡ m = omega arith in
    let y : at + 3 + 0 ≡ at + 3 = omega arith in
    let k : at + (3 + bytes_in x) ≡ at + 3 + bytes_in x = omega arith in
    let l = length_numbers x s (at + 3) in
    let file = take_all (length s - (at + 3)) (drop (at + 3) s) (omega (arith, length-drop (at + 3) s)) in
    let v : row ≡ numbers x s (at + 3) = e ∙ ap (λ (u : List ℕ). numbers x u 0) file ∙ numbers_from x s (at + 3) 0 ∙ ap (λ (i : ℕ). numbers x s i) y in
    let w = length-sets out n (numbers x s (at + 3)) in
    let room = suc-mul m' (length x) in
    let part : n + c - n ≡ length (numbers x s (at + 3)) = omega (arith, l, f) in
    let o : put_mid n (n + c - n) out row ≡ sets out n (numbers x s (at + 3)) =
    rw v (part_sets out (numbers x s (at + 3)) n (n + c - n) part (omega (arith, l, room, g.room))) in
    rw (o, ← z, d, f, k)
    (putting s t all _ (at + 3 + bytes_in x) (n + length x) m' g.follow.1 (omega (arith, w, room, g.room))
    (rw (← l) (sym (sets_append out n (numbers x s (at + 3)) (rows_of s t m' (at + 3 + bytes_in x))) ∙ g.rest)))

-- what was stored from the front on stands in front
pub stored : (new old : List ℕ) → length new ≤ length old → sets old 0 new ≡ in_front new old
stored new old h =
    let z : 0 + length new ≡ length new = omega arith in
    sets-eq new old 0 (omega arith) ∙ rw z refl
