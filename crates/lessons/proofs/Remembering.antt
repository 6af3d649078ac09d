-- The table of lessons: an empty one is right, what it tells is a limit, and what is kept in it is one.
-- Assumes nothing.
use mathlib.Core.Path.{◌≡◌, refl, ◌∙◌}
use mathlib.Core.Bool.{Bool}
use mathlib.Core.List.{List, ◌++◌}
use Prim.Native.Nat.{ℕ, zero, suc, min, ◌≤◌, ◌<◌}
use native.Mathlib.Omega.{arith}
use native.Mathlib.Decide.{ℕ_discrete}
use lib.ListN.{length, get_or, set, take, replicate, length-set}
use lib.Seq.{get_or-set_same, get_or-set_other}
use Rattle.std.proofs.Common.{Option, Some, None}
use Rattle.std.specs.Option.{IsSomeAnd}
use Rattle.std.proofs.lemmas.List.{take_at}
use Rattle.points.specs.declared.Points.{Points}
use Rattle.points.specs.Points.{Among, member, Narrow, Loaded}
use Rattle.lessons.specs.declared.lesson.Row.{Row}
use Rattle.lessons.specs.Limit.{AnyList, Limit, Hopeless}
use Rattle.lessons.specs.declared.lesson.Lesson.{Lesson}
use Rattle.lessons.specs.Table.{nothing, no_row, Teaches, lesson_of, row_of, words_of, RightAt, Lessons, SameLessons, Recalled, silent, told, Wrote, left_out, put_in}
use Rattle.points.proofs.Words.{saved_kept}
use Rattle.lessons.proofs.Limits.{looser}

-- sets with the same points
alike_back : {f g : ℕ → Bool} → ((k : ℕ) → f k ≡ g k) → Among g f
alike_back e k t = rw (e k) t

-- where the table tells nothing, the reasons are left as they were
pub recalled_silent : {h p left : ℕ} {marks : ℕ → Bool} {b m : List Row} {ws us : Points} {r : Option ℕ}
    → Recalled h p marks left b ws r m us → r ≡ None → us ≡ ws
recalled_silent (silent e i k) z = k
recalled_silent (told j lesson l i f t e k v) z = cc

no_lessons : (n j : ℕ) → ◌≡◌ {A = Option Lesson} (get_or (replicate n None) j None) None
no_lessons zero j = refl
no_lessons (suc n) zero = refl
no_lessons (suc n) (suc j) = no_lessons n j

no_rows : (n p j : ℕ) → lesson_of (replicate n nothing) p j ≡ None
no_rows zero p j = refl
no_rows (suc n) zero j = no_lessons 4 j
no_rows (suc n) (suc p) j = no_rows n p j

-- the point's row is changed, in where its next lesson goes alone
pub telling : {h p left j : ℕ} {marks : ℕ → Bool} {b : List Row} {ws us : Points} {lesson : Lesson} (row : Row) → p < length b → row.lessons ≡ (row_of b p).lessons
    → (j < 4) × IsSomeAnd (lesson_of b p j) (λ known. Teaches known h marks left) → lesson_of b p j ≡ Some lesson → Loaded (words_of lesson) us
    → Recalled h p marks left b ws (Some lesson.most) (set b p row) us
telling {h} {p} {left} {j} {marks} {b} {ws} {us} {lesson} row l e t f k =
    told j lesson t.0 l f (rw f at t.1) refl k (record { size = simp length-set; lessons = rw (get_or-set_same b p row no_row l) e; others = λ q n. get_or-set_other b p q row no_row n })

-- words that are written over the first of a lesson's are the words that it has
pub first_words : (ws new after : List ℕ) {m n : ℕ} → n ≤ 24 → length new ≡ m → new ≡ take m ws → m ≡ n → take (min n 24) (new ++ after) ≡ take n ws
first_words ws new after {m} {n} l size e same = let few : min n 24 ≡ m = omega arith in rw (few, ← same) (take_at new after m size ∙ e)

-- the point's row is changed, in its lesson j and where the next one goes
pub writing : {h p most j : ℕ} {ws : Points} {b : List Row} (l : Lesson) (next : ℕ) → p < length b → j < length (row_of b p).lessons → j < 4
    → l.over ≡ h → l.most ≡ most → Narrow ws l.words → words_of l ≡ take l.words ws.words
    → Wrote h p most ws b (set b p (record { next = next; lessons = set (row_of b p).lessons j (Some l) }))
writing {h} {p} {most} {j} {ws} {b} l next inside room four over far narrow words =
    put_in j four (simp length-set)
    (record {
      lesson = l;
      placed = rw row (get_or-set_same (row_of b p).lessons j (Some l) None room);
      over = over;
      far = far;
      narrow = narrow;
      reasons = λ k. rw words (saved_kept narrow k);
      lessons = λ i n. rw row (get_or-set_other (row_of b p).lessons j i (Some l) None n);
      others = λ q n. get_or-set_other b p q _ no_row n;
    })
  where
    now : Row
    now = record { next = next; lessons = set (row_of b p).lessons j (Some l) }

    row : get_or (set b p now) p no_row ≡ now
    row = get_or-set_same b p now no_row inside

module _ {ss ts : List ℕ} {c s : ℕ} where
  pub blank_lessons : (n : ℕ) → Lessons ss ts c s (replicate n nothing)
  blank_lessons n = record { right = λ p j l e. let none = no_rows n p j in cc }

  -- what the table tells a try
  module _ {h p left : ℕ} {marks : ℕ → Bool} {b m : List Row} {ws us : Points} {r : Option ℕ} (right : Lessons ss ts c s b) (o : Recalled h p marks left b ws r m us) where
    pub recalled_lessons : Lessons ss ts c s m
    recalled_lessons = go o
      where
        same_lessons : SameLessons p b m → (q j : ℕ) → Dec (q ≡ p) → lesson_of m q j ≡ lesson_of b q j
        same_lessons v q j (yes e) = rw (e, v.lessons) refl
        same_lessons v q j (no e) = rw (v.others q e) refl

        go : Recalled h p marks left b ws r m us → Lessons ss ts c s m
        go (silent e i k) = rw i right
        go (told j lesson l i f t e k v) = record { right = λ q a. rw (same_lessons v q a (ℕ_discrete q p)) (right.right q a) }

    pub recalled_hopeless : {most : ℕ} → r ≡ Some most → Hopeless ss ts c s h p AnyList marks left (member us) most
    recalled_hopeless {most} z = go o
      where
        go : Recalled h p marks left b ws r m us → Hopeless ss ts c s h p AnyList marks left (member us) most
        go (silent e i k) = cc
        go (told j lesson l i f t e k v) =
            let far : lesson.most ≡ most = cc in
            record {
              met = λ n u. t.met n (rw (k.members n) at u);
              less = rw far at t.less;
              limit = looser (λ qs u. u) (alike_back k.members) (omega arith) (rw t.over at (right.right p j lesson f));
            }

  -- a limit that is kept
  pub wrote_lessons : {h p most : ℕ} {ws : Points} {b m : List Row} → Lessons ss ts c s b → Limit ss ts c s h p AnyList (member ws) most → Wrote h p most ws b m
      → Lessons ss ts c s m
  wrote_lessons right u (left_out e) = rw e right
  wrote_lessons {h} {p} {most} {ws} {b} {m} right u (put_in j l z w) = record { right = λ q i. go q i (ℕ_discrete q p) (ℕ_discrete i j) }
    where
      here : RightAt ss ts c s p (lesson_of m p j)
      here x e =
          let same : x ≡ w.lesson = cc in
          rw (same, w.over) (looser (λ qs k. k) (alike_back w.reasons) (omega (arith, w.far)) u)

      go : (q i : ℕ) → Dec (q ≡ p) → Dec (i ≡ j) → RightAt ss ts c s q (lesson_of m q i)
      go q i (yes e) (yes f) = rw (e, f) here
      go q i (yes e) (no f) = rw (e, w.lessons i f) (right.right p i)
      go q i (no e) f = rw (w.others q e) (right.right q i)
