-- `nothing::claims_nothing` meets its contract: nothing is claimed, listed or labelled, and no walk can end.
-- Assumes nothing.
use Rattle.std.proofs.Common.{◌≡◌, ◌==◌, true, length, List, [], ◌∷◌, ℕ, refl, sym, ◌∙◌, arith}
use mathlib.Core.Bool.{false≢true}
use borrow.Author.Tests.{not-true, eqb-true}
use Rattle.train.specs.Asked.{query_lent}
use Rattle.turns.proofs.Entering.{passed_joined, passed_three}
use Rattle.sheet.proofs.Silent.{nothing_passes}
use Rattle.sheet.proofs.nothing.claims_nothing.Goals as goal
use Rattle.sheet.proofs.nothing.claims_nothing.Goals.{then-is_empty, else-is_empty, then-sheet-eq0, else-sheet-eq0}

pub has_end-requires-clause-indexed : goal.has_end-requires-clause-indexed
has_end-requires-clause-indexed c =
    let tables = c.requires.tables in
    record { joined = passed_joined tables.checked; three = passed_three tables.checked; slotted = tables.slotted }

-- a list of no numbers is empty
empty : (bs : List ℕ) → (length bs == 0) ≡ true → bs ≡ []
empty [] e = refl
empty (b ∷ bs) e = absurd (omega (arith, eqb-true (length (b ∷ bs)) 0 e))

pub returns-then-not-has_end : goal.returns-then-not-has_end
returns-then-not-has_end c = λ z.
    elim c.if-is_empty.branch [
      | then-is_empty w ↦ elim c.if-sheet-eq0.branch [
        | then-sheet-eq0 v ↦
            let nowhere = w.has_end.ensures (not-true w.has_end.result (sym w.value-is ∙ c.if-not-has_end.true)) in
            nothing_passes (query_lent c.args.trip.now.query) c.args.sheet.now.claim c.args.sheet.now.list.now c.args.sheet.now.labels.now v.if-sheet-eq0.true
            (empty c.args.sheet.now.list.now (sym v.is_empty.ensures ∙ sym v.value-is ∙ w.if-is_empty.true)) nowhere (c.all_none.ensures z)
        | else-sheet-eq0 v ↦ absurd (v.if-sheet-eq0.false (eqb-true c.args.sheet.now.claim 0 (sym v.value-is ∙ w.if-is_empty.true)))
      ]
      | else-is_empty w ↦ absurd (false≢true (sym w.if-is_empty.false ∙ sym w.value-is ∙ c.if-not-has_end.true))
    ]
