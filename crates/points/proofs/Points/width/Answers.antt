-- `width` meets its contract: what `rposition` passes over is 0.
-- Assumes nothing.
use Rattle.std.proofs.Common.{rules, tests, refl, arith, ◌≡◌}
use Rattle.points.proofs.Words.{Clear, narrow}
use Rattle.points.proofs.Back.{After, clear_from, counted, within}
use Rattle.points.proofs.Points.width.Goals as goal

pub returns : goal.returns
returns c =
    let many : c.map_or.result ≡ After c.rposition.result = counted c.rposition.result c.map_or.ensures (λ i k. search rules) in
    let clear : Clear c.iter.result.rest.now (After c.rposition.result) =
    clear_from _ _ (λ x q k. search (rules, tests)) c.iter.result _ c.rposition.result c.rposition.ensures.ran refl
    in
    narrow (omega (arith, many, within c.rposition.result c.rposition.ensures.bound)) (rw (many, ← c.iter.ensures.rest) clear)
