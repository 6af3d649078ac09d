-- The search's contract determines its answer and both buffers (`answer_unique`), and number 13 is never given (`never_13`).
-- Assumes nothing.
use mathlib.Core.Path.{◌≡◌, ap}
use mathlib.Core.Logic.{◌≢◌}
use mathlib.Core.Bool.{Bool, true, false, not}
use mathlib.Core.List.{List, [], ◌∷◌}
use Prim.Native.Nat.{ℕ}
use native.Mathlib.Omega.{arith}
use lib.Dec.{T, ltb}
use lib.ListN.{length}
use lib.Seq.{ext_get_or}
use Rattle.rules.specs.Refusals.{passed, once, verdict}
use Rattle.rules.specs.Query.{Query, start_arrival, query_checks}
use Rattle.rules.specs.Net.{no_distance, FirstShortest}
use Rattle.rules.specs.Trip.{query_net}
use Rattle.rules.specs.Search.{Outcome, Labelled, Answer, refused, no_route, unwritten, found}
use Rattle.rules.proofs.Tests.{tests}
use Rattle.rules.proofs.Verdicts.{number_of, number_at_most, not_both}
use Rattle.rules.proofs.Walks.{remaining_unique}
use Rattle.rules.proofs.First.{first_unique}
use Rattle.rules.proofs.Sound.{sound}
use Rattle.rules.proofs.Trips.{query_bounded, query_few_steps}

-- labels are determined, arrival by arrival
pub labelled_unique : {q : Query} {ls ms : List ℕ} → Labelled q ls → Labelled q ms → ls ≡ ms
labelled_unique {q} {ls} {ms} l m =
    let e = l.long in
    let f = m.long in
    ext_get_or no_distance ls ms (omega arith) (λ a i. remaining_unique (l.right a (omega arith)) (m.right a (omega arith)))

-- and so is the walk
walk_unique : (q : Query) (n : ℕ) {bs cs : List ℕ} → verdict (query_checks q n) ≡ passed → FirstShortest (query_net q) (start_arrival q) bs
    → FirstShortest (query_net q) (start_arrival q) cs → bs ≡ cs
walk_unique q n e f g = first_unique (query_bounded (sound q n e)) f g

-- the cases exclude one another: a refusal by 1 to 11 and a passed check, no walk and a walk, a refusal by 13 or 14 and a passed check
pub answer_unique : {q : Query} {route labels : List ℕ} {r s : Outcome} → Answer q route labels r → Answer q route labels s → r ≡ s
answer_unique (refused v e n z) (refused w f m x) = cc
answer_unique (refused v e n z) (no_route ls f w l x) = absurd (not_both e f n)
answer_unique (refused v e n z) (unwritten bs w f h k m x) = absurd (not_both e f n)
answer_unique (refused v e n z) (found bs ls f h k l x) = absurd (not_both e f n)
answer_unique (no_route ls e w l z) (refused v f n x) = absurd (not_both f e n)
answer_unique (no_route ls e w l z) (no_route ms f v m x) = let p = labelled_unique l m in cc
answer_unique (no_route ls e w l z) (unwritten bs v f h k m x) = absurd (w bs h.shortest.walk)
answer_unique (no_route ls e w l z) (found bs ms f h k m x) = absurd (w bs h.shortest.walk)
answer_unique (unwritten bs v e g i n z) (refused w f m x) = absurd (not_both f e m)
answer_unique (unwritten bs v e g i n z) (no_route ls f w l x) = absurd (w bs g.shortest.walk)
answer_unique {q} {labels = labels} (unwritten bs v e g i n z) (unwritten cs w f h k m x) =
    let p = walk_unique q (length labels) e g h in cc
answer_unique {q} {labels = labels} (unwritten bs v e g i n z) (found cs ls f h k l x) =
    let p = walk_unique q (length labels) e g h in absurd (not_both i (rw p k) n)
answer_unique (found bs ls e g i l z) (refused v f n x) = absurd (not_both f e n)
answer_unique (found bs ls e g i l z) (no_route ms f w m x) = absurd (w bs g.shortest.walk)
answer_unique {q} {labels = labels} (found bs ls e g i l z) (unwritten cs v f h k n x) =
    let p = walk_unique q (length labels) e g h in absurd (not_both k (rw (← p) i) n)
answer_unique {q} {labels = labels} (found bs ls e g i l z) (found cs ms f h k m x) =
    let p = walk_unique q (length labels) e g h in let o = labelled_unique l m in cc

abbrev refusal_of : Outcome → ℕ
refusal_of r = r.numbers.refusal

-- a shortest walk is never too long, so what refuses it is 14
too_long : (b c : Bool) → T (not b) → (verdict (once 13 b ∷ once 14 c ∷ [])).number ≢ 13
too_long true c t = absurd t
too_long false true t = omega arith
too_long false false t = omega arith

pub never_13 : {q : Query} {route labels : List ℕ} {r : Outcome} → Answer q route labels r → r.numbers.refusal ≢ 13
never_13 {q} {labels = labels} (refused v e n z) h =
    let k = number_at_most 11 (query_checks q (length labels)) tt in
    let f = ap refusal_of z in
    let g = ap number_of e in
    omega arith
never_13 (no_route ls e w l z) h = let f = ap refusal_of z in omega arith
never_13 {q} {route} {labels} (unwritten bs v e g i n z) h =
    let k = query_few_steps (sound q (length labels) e) bs g.shortest in
    let f = ap refusal_of z in
    let m = ap number_of i in
    too_long (ltb 2048 (length bs)) (ltb (length route) (length bs)) (simp tests (omega arith)) (omega arith)
never_13 (found bs ls e g i l z) h = let f = ap refusal_of z in omega arith
