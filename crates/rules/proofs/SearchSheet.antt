-- What the search writes, the sheet checker accepts: the walk with the labels, answered with the walk's own numbers (`found_accepted`),
-- and after refusal 12 "no route" with the labels (`no_route_accepted`).
-- Assumes nothing.
use mathlib.Core.Path.{◌≡◌, sym, ◌∙◌, subst}
use mathlib.Core.List.{List, []}
use Prim.Native.Nat.{ℕ}
use lib.ListN.{length}
use Rattle.rules.specs.Refusals.{passed, verdict}
use Rattle.rules.specs.Query.{Query, query_checks}
use Rattle.rules.specs.Search.{Numbers, refusal, Outcome, Labelled, Answer}
use Rattle.rules.specs.Sheet.{sheet_of, SheetAnswer}
use Rattle.rules.proofs.Sound.{label_length}
use Rattle.rules.proofs.SearchDemands.{handed_out, walk_there, twelve_none}
use Rattle.rules.proofs.SheetAnswers.{true_walk_accepted, true_none_accepted}

-- labels that were written are as many as the buffer holds, so the checks pass with them too
still_passes : (q : Query) (n : ℕ) {ls : List ℕ} → verdict (query_checks q n) ≡ passed → Labelled q ls → verdict (query_checks q (length ls)) ≡ passed
still_passes q n e L = let i = L.long ∙ sym (label_length q n e) in rw i e

module _ {q : Query} {route labels : List ℕ} {r : Outcome} (a : Answer q route labels r) where
  pub found_accepted : r.numbers.refusal ≡ 0 → SheetAnswer q (sheet_of 1 (handed_out r) r.labels) r.numbers
  found_accepted h =
      let w = walk_there a h in
      subst (λ (n : Numbers). SheetAnswer q (sheet_of 1 (handed_out r) r.labels) n) (sym w.numbers)
      (true_walk_accepted q r.labels (still_passes q (length labels) w.accepted w.labelled) w.labelled (handed_out r) w.first.shortest)

  pub no_route_accepted : r.numbers.refusal ≡ 12 → SheetAnswer q (sheet_of 0 [] r.labels) (refusal passed)
  no_route_accepted h =
      let t = twelve_none a h in
      true_none_accepted q r.labels (still_passes q (length labels) t.0 t.2) t.2 t.1
