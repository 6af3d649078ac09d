-- The tests of a way's first section, in their order, and none of marks.
-- Assumes nothing.
use Rattle.reversal.proofs.Glancing.{glanced_out, glanced_occupied}
use Rattle.reversal.proofs.glance.glance.Goals as goal

pub returns-then-not-may_enter : goal.returns-then-not-may_enter
returns-then-not-may_enter c =
    let y = c.args.serving.now.yard.now.plan in
    let from = c.args.from.now in
    glanced_out y.sections.now y.turns.now c.args.serving.now.from c.args.serving.now.onto from.left from.over from.at c.args.e
    c.may_enter.ensures c.if-not-may_enter.true

pub returns-then-not-is_free : goal.returns-then-not-is_free
returns-then-not-is_free c =
    let y = c.args.serving.now.yard.now.plan in
    let from = c.args.from.now in
    glanced_occupied y.sections.now y.turns.now c.args.serving.now.from c.args.serving.now.onto from.left from.over from.at c.args.e
    c.free_from.ensures c.if-from-free_from.false c.is_free.ensures c.if-not-is_free.true
