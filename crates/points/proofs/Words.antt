-- Sets word by word: the words of two put together, words past which there is no point, and words that are kept in another place.
-- Assumes nothing.
use mathlib.Core.Path.{◌≡◌, refl, ap, ◌∙◌}
use mathlib.Core.Logic.{◌↔◌}
use mathlib.Core.Bool.{Bool, true, false, false≢true}
use Rattle.std.specs.Bool.{MatchBool}
use mathlib.Core.List.{List, ◌++◌}
use Prim.Native.Nat.{ℕ, ◌+◌, ◌-◌, ◌*◌, ◌/◌, ◌%◌, ◌^◌, ◌≤◌, ◌<◌}
use lib.Dec.{eqb}
use Rattle.std.specs.Int.{bit_at}
use native.Mathlib.Omega.{arith}
use native.Mathlib.Decide.{dec_lt}
use lib.Dec.{T}
use lib.ListN.{length, get_or, take, drop, get_or-append, get_or-eq_default}
use lib.Seq.{get_or-append_right}
use Rattle.std.specs.List.{zip, AllWithin, HoldsAt}
use Rattle.std.proofs.lemmas.List.{length-take, get_or-drop, get_or-take}
use Rattle.std.proofs.lemmas.Slice.Zip.{get_or-zip, length-zip}
use lib.Bits.{bit_or}
use Rattle.rules.proofs.Tests.{gives_false}
use Rattle.points.specs.Points.{Among, kept, member, Empty, Added, Narrow, Loaded}
use Rattle.points.specs.declared.Points.{Points}
use Rattle.std.proofs.lemmas.Nat.Bits.{bit_at-zero}
use Rattle.points.proofs.Bits.{either_put, adds_none, adds_nothing}

-- from word n on, no word has a bit
abbrev pub Clear : List ℕ → ℕ → Type 0
Clear ws n = (j : ℕ) → n ≤ j → get_or ws j 0 ≡ 0

pub narrow : {s : Points} {n : ℕ} → n ≤ 24 → Clear s.words n → Narrow s n
unfolding kept member
narrow {s} {n} l clear = record { low = l; members = λ k t. go k t (dec_lt (k / 32) n) }
  where
    go : (k : ℕ) → T (member s k) → Dec (k / 32 < n) → k / 32 < n
    go k t (yes low) = low
    go k t (no high) = absurd (rw (clear (k / 32) (omega arith), bit_at-zero (k % 32)) at t)

-- each word of r is the one of s, with the bits of the one of u
pub added : {s u r : Points} → ((j : ℕ) → get_or r.words j 0 ≡ bit_or (get_or s.words j 0) (get_or u.words j 0)) → Added s u r
unfolding kept member
added {s} {u} {r} word =
    record { members = λ k. rw (word (k / 32)) (either_put (get_or s.words (k / 32) 0) (get_or u.words (k / 32) 0) (k % 32)) }

-- of words side by side with those of a set, none adds anything to the other
abbrev pub AddsNone : ℕ × ℕ → Type 0
AddsNone p = bit_or p.1 p.0 ≡ p.0

pub among : (ws : List ℕ) (s : Points) → length ws ≤ length s.words → AllWithin AddsNone (zip s.words ws) 0 (length (zip s.words ws)) → Among (kept ws) (member s)
unfolding kept member
among ws s few none k t = go t (dec_lt (k / 32) (length ws))
  where
    here : k / 32 < length ws → bit_or (get_or ws (k / 32) 0) (get_or s.words (k / 32) 0) ≡ get_or s.words (k / 32) 0
    here low = rw (get_or-zip s.words ws (k / 32) (0, 0) (omega arith) low) at (none (k / 32) (0, 0) (omega arith) (rw (length-zip s.words ws) (omega arith)))

    go : T (kept ws k) → Dec (k / 32 < length ws) → T (member s k)
    go t (yes low) = adds_none (get_or ws (k / 32) 0) (get_or s.words (k / 32) 0) (k % 32) (here low) t
    go t (no high) =
        let past : get_or ws (k / 32) 0 ≡ 0 = get_or-eq_default ws 0 (omega arith) in absurd (rw (past, bit_at-zero (k % 32)) at t)

-- and if one does, it keeps a point that the set has not
apart : (ws : List ℕ) (s : Points) → length ws ≤ length s.words → ((j : ℕ) → get_or ws j 0 < 2 ^ 32)
    → (j : ℕ) × (j < length (zip s.words ws)) × HoldsAt (λ p. AddsNone p → ⊥) (zip s.words ws) j → Among (kept ws) (member s) → ⊥
unfolding kept member
apart ws s few low (j, l, h) all = apart_at (adds_nothing (get_or ws j 0) (get_or s.words j 0) (low j) bits)
  where
    inside : j < length ws
    inside = let k = rw (length-zip s.words ws) at l in omega arith

    apart_at : AddsNone (get_or s.words j 0, get_or ws j 0) → ⊥
    apart_at = rw (get_or-zip s.words ws j (0, 0) (omega (arith, inside)) inside) at (h (0, 0))

    bits : (b : ℕ) → b < 32 → T (eqb (bit_at (get_or ws j 0) b) 1) → T (eqb (bit_at (get_or s.words j 0) b) 1)
    bits b z = let word : (32 * j + b) / 32 ≡ j = omega arith in let place : (32 * j + b) % 32 ≡ b = omega arith in rw (word, place) at (all (32 * j + b))

-- so an answer that says whether one does says whether the set has them all
pub told_all : (ws : List ℕ) (s : Points) {r : Bool} → length ws ≤ length s.words → ((j : ℕ) → get_or ws j 0 < 2 ^ 32)
    → MatchBool r (AllWithin AddsNone (zip s.words ws) 0 (length (zip s.words ws))) ((j : ℕ) × (j < length (zip s.words ws)) × HoldsAt (λ p. AddsNone p → ⊥) (zip s.words ws) j)
    → (r ≡ true) ↔ Among (kept ws) (member s)
told_all ws s {r = true} few low h = (λ e. among ws s few h, λ a. refl)
told_all ws s {r = false} few low h = (λ e. absurd (false≢true e), λ a. absurd (apart ws s few low h a))

-- words past the end of two sets add nothing
pub both : (ws us rs : List ℕ) {n : ℕ} → length ws ≡ n → length us ≡ n → length rs ≡ n
    → ((j : ℕ) → j < n → get_or rs j 0 ≡ bit_or (get_or ws j 0) (get_or us j 0)) → (j : ℕ) → get_or rs j 0 ≡ bit_or (get_or ws j 0) (get_or us j 0)
both ws us rs {n} a b c e j = go (dec_lt j n)
  where
    go : Dec (j < n) → get_or rs j 0 ≡ bit_or (get_or ws j 0) (get_or us j 0)
    go (yes low) = e j low
    go (no high) =
        let w : get_or ws j 0 ≡ 0 = get_or-eq_default ws 0 (omega arith) in
        let u : get_or us j 0 ≡ 0 = get_or-eq_default us 0 (omega arith) in
        let r : get_or rs j 0 ≡ 0 = get_or-eq_default rs 0 (omega arith) in
        rw (w, u) r

-- a set without a point is loaded from words: those, and then its own
pub loaded : {s r : Points} {ws : List ℕ} → Empty s → r.words ≡ ws ++ drop (length ws) s.words → Loaded ws r
unfolding kept member
loaded {s} {r} {ws} empty e = record { members = λ k. rw e (go k (dec_lt (k / 32) (length ws))) }
  where
    go : (k : ℕ) → Dec (k / 32 < length ws) → kept (ws ++ drop (length ws) s.words) k ≡ kept ws k
    go k (yes low) = rw (get_or-append ws (drop (length ws) s.words) 0 (k / 32) low) refl
    go k (no high) =
        let after : get_or (ws ++ drop (length ws) s.words) (k / 32) 0 ≡ get_or s.words (k / 32) 0 =
        get_or-append_right ws (drop (length ws) s.words) (k / 32) 0 (omega arith)
        ∙ (get_or-drop (length ws) s.words (k / 32 - length ws) 0 ∙ ap (λ (j : ℕ). get_or s.words j 0) (omega arith))
        in
        let past : get_or ws (k / 32) 0 ≡ 0 = get_or-eq_default ws 0 (omega arith) in
        rw (after, past, bit_at-zero (k % 32)) (empty.members k)

-- as many words as hold all points of a set keep it
pub saved_kept : {s : Points} {n : ℕ} → Narrow s n → (k : ℕ) → kept (take n s.words) k ≡ member s k
unfolding kept member
saved_kept {s} {n} narrow k = go (dec_lt (k / 32) n)
  where
    go : Dec (k / 32 < n) → kept (take n s.words) k ≡ member s k
    go (yes low) = rw (get_or-take n s.words (k / 32) 0 low) refl
    go (no high) =
        let past : get_or (take n s.words) (k / 32) 0 ≡ 0 = get_or-eq_default (take n s.words) 0 (omega (arith, length-take n s.words)) in
        rw (past, bit_at-zero (k % 32)) (gives_false (λ t. let h = narrow.members k t in omega arith))
