-- Lowering a label to something that is offered keeps all labels above what is offered, for a lower label makes offers lower
-- (`above_set`). Relaxing, a sweep and the worklist do nothing else (`relaxed`, `sweep_more`, `kept_more`); a sweep in which nothing falls
-- leaves each label the best (`swept_settled`).
-- Assumes nothing.
use mathlib.Core.Path.{◌≡◌, refl, sym, ◌∙◌}
use mathlib.Core.List.{List}
use Prim.Native.Nat.{ℕ, ◌+◌, ◌≤◌, ◌<◌}
use native.Mathlib.Decide.{ℕ_discrete}
use native.Mathlib.Omega.{arith}
use borrow.Author.Count.{below_more}
use lib.ListN.{length, get_or, set, length-set}
use lib.Seq.{get_or-set_same, get_or-set_other}
use Rattle.std.specs.Prelude.{Bool, true, false, ◌||◌}
use Rattle.rules.specs.declared.net.NetTable.{NetTable}
use Rattle.rules.specs.Net.{no_distance}
use Rattle.rules.proofs.Lists.{any_default}
use Rattle.distance.specs.Labels.{offer, best, label_sum, Blank, Above, Settled, Lowered, fell, stayed, Kept, Relaxed, Swept, Still}
use Rattle.distance.proofs.Sums.{sum_set}
use Rattle.distance.proofs.Offers.{set_not_above, best_falls}

-- how the code lowers a label, or leaves it: a read within the labels
pub falls_to : {l : List ℕ} {a v : ℕ} → a < length l → v < get_or l a 0 → Lowered l (set l a v) a v true
falls_to {l} {a} h p = fell refl (omega (arith, any_default l a 0 no_distance h)) refl

pub stays_at : {l : List ℕ} {a v : ℕ} → a < length l → get_or l a 0 ≤ v → Lowered l l a v false
stays_at {l} {a} h p = stayed refl (omega (arith, any_default l a 0 no_distance h)) refl

module _ {t : NetTable} where
  -- v is not below what is offered to a, so it is not below what is offered when it is the label of a
  above_set : (l : List ℕ) (a v : ℕ) → a < length l → best t l a ≤ v → v ≤ get_or l a no_distance → Above t l → Above t (set l a v)
  above_set l a v h o p A = record { above = λ b i. go b (rw (length-set l a v) at i) (ℕ_discrete b a) }
    where
      go : (b : ℕ) → b < length l → Dec (b ≡ a) → best t (set l a v) b ≤ get_or (set l a v) b no_distance
      go b i (yes q) = rw q (omega (arith, get_or-set_same l a v no_distance h, best_falls t (set l a v) l (set_not_above l a v h p) a))
      go b i (no q) = omega (arith, get_or-set_other l a b v no_distance q, best_falls t (set l a v) l (set_not_above l a v h p) b, A.above b i)

  pub kept_none : {l : List ℕ} → Kept t l l
  kept_none = record { size = refl; keeps = λ A. A }

  pub kept_more : {l m k : List ℕ} → Kept t l m → Kept t m k → Kept t l k
  kept_more K J = record { size = J.size ∙ K.size; keeps = λ A. J.keeps (K.keeps A) }

  pub lowered_kept : {l m : List ℕ} {a v : ℕ} {r : Bool} → a < length l → best t l a ≤ v → Lowered l m a v r → Kept t l m
  lowered_kept {l} {a = a} {v = v} h o (fell e p q) = rw q (record { size = length-set l a v; keeps = above_set l a v h o (omega arith) })
  lowered_kept h o (stayed e p q) = rw q kept_none

  pub relaxed : {l m : List ℕ} {a v : ℕ} {r : Bool} → a < length l → v ≡ best t l a → Lowered l m a v r → Relaxed t l m a r
  relaxed {l} {m} {a} {v} {r} h e w = record { kept = lowered_kept h (omega arith) w; falls = falls w; same = same w; still = still w }
    where
      falls : Lowered l m a v r → r ≡ true → label_sum m < label_sum l
      falls (fell z p q) y = rw q (omega (arith, sum_set l a v no_distance h))
      falls (stayed z p q) y = let c : true ≡ false = sym y ∙ z in cc

      same : Lowered l m a v r → r ≡ false → m ≡ l
      same (fell z p q) y = let c : true ≡ false = sym z ∙ y in cc
      same (stayed z p q) y = q

      still : Lowered l m a v r → r ≡ false → get_or l a no_distance ≤ best t l a
      still (fell z p q) y = let c : true ≡ false = sym z ∙ y in cc
      still (stayed z p q) y = omega arith

  relaxed_low : {l m : List ℕ} {a : ℕ} {r : Bool} → Relaxed t l m a r → label_sum m ≤ label_sum l
  relaxed_low {r = true} R = omega (arith, R.falls refl)
  relaxed_low {r = false} R = rw (R.same refl) (omega arith)

  pub sweep_none : {l : List ℕ} → Swept t l l 0 false
  sweep_none = record { kept = kept_none; low = omega arith; falls = λ y. cc; still = λ z k h. absurd (omega arith) }

  pub sweep_more : {l m k : List ℕ} {a : ℕ} {r q : Bool} → Swept t l m a r → Relaxed t m k a q → Swept t l k (a + 1) (r || q)
  sweep_more {m = m} {a = a} {r = false} {q = false} S R = record {
    kept = kept_more S.kept R.kept;
    low = rw (R.same refl) S.low;
    falls = λ y. cc;
    still = λ z. rw (R.same refl) (below_more (λ b. get_or m b no_distance ≤ best t m b) a (S.still refl) (R.still refl));
  }
  sweep_more {r = true} S R = record {
    kept = kept_more S.kept R.kept;
    low = omega (arith, S.low, relaxed_low R);
    falls = λ y. omega (arith, S.falls refl, relaxed_low R);
    still = λ z. cc;
  }
  sweep_more {r = false} {q = true} S R = record {
    kept = kept_more S.kept R.kept;
    low = omega (arith, S.low, R.falls refl);
    falls = λ y. omega (arith, S.low, R.falls refl);
    still = λ z. cc;
  }

  pub swept_settled : {l m : List ℕ} {n : ℕ} → length l ≤ n → Above t l → Swept t l m n false → Settled t m
  swept_settled h A S = record { settled = λ b i. omega (arith, S.still refl b (omega (arith, S.kept.size)), (S.kept.keeps A).above b i) }

  pub still_none : {l : List ℕ} → Still t l 0
  still_none = record { still = λ a h. absurd (omega arith) }

  pub still_more : {l : List ℕ} {a : ℕ} → Still t l a → get_or l a no_distance ≤ best t l a → Still t l (a + 1)
  still_more {l} {a} S p = record { still = below_more (λ b. get_or l b no_distance ≤ best t l b) a S.still p }

  pub still_settled : {l : List ℕ} → Above t l → Still t l (length l) → Settled t l
  still_settled A S = record { settled = λ b h. omega (arith, S.still b h, A.above b h) }

  -- "none" is above all that is offered
  pub blank_above : {l : List ℕ} → Blank (length l) l → Above t l
  unfolding offer best
  blank_above B = record { above = λ a h. omega (arith, B.none a h) }
