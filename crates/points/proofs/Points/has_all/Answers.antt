-- `has_all` meets its contract: no word adds anything to that of the set.
-- Assumes nothing.
use Rattle.std.proofs.Common.{rules, tests}
use Rattle.std.proofs.lemmas.Iterator.{YieldsList-from_slice, YieldsList-from_zip, cases_from_all}
use native.Mathlib.Omega.{arith}
use Rattle.points.proofs.Words.{AddsNone, told_all}
use Rattle.points.proofs.Points.has_all.Goals as goal

pub returns : goal.returns
returns c =
    told_all c.args.saved.now c.args.self.now (omega arith) (λ j. omega (arith, c.type_inv.saved j))
    (cases_from_all c.all.new.self _ c.all.result AddsNone (λ p. AddsNone p → ⊥) c.all.ensures.ran (YieldsList-from_zip (YieldsList-from_slice c.args.self.now.words cc) (YieldsList-from_slice c.args.saved.now cc)) (λ x q k. search (rules, tests)) (λ x q k. search (rules, tests)))
