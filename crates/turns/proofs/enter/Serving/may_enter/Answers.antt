-- Each test is one of those that an entry asks for.
-- Assumes nothing.
use Rattle.turns.proofs.Entering.{arrived_low, turn_shut, entry_last}
use Rattle.turns.proofs.enter.Serving.may_enter.Goals as goal

pub is_forbidden-requires : goal.is_forbidden-requires
is_forbidden-requires c = arrived_low c.requires.passes c.requires.arrived

pub returns-then-is_forbidden : goal.returns-then-is_forbidden
returns-then-is_forbidden c =
    let y = c.args.self.now.yard.now in
    turn_shut y.plan.sections.now y.plan.turns.now c.args.self.now.from c.args.self.now.onto c.args.h c.args.p c.args.e
    c.requires.passes c.requires.turned c.requires.arrived c.is_forbidden.ensures c.if-is_forbidden.true

pub returns-then-e-self : goal.returns-then-e-self
returns-then-e-self c =
    let y = c.args.self.now.yard.now in
    entry_last y.plan.sections.now y.plan.turns.now c.args.self.now.from c.args.self.now.onto c.args.h c.args.p c.args.e
    c.requires.passes c.requires.turned c.requires.arrived c.has_section.ensures c.if-not-has_section.false
    c.touches.ensures c.if-not-touches.false c.if-e-h.false c.is_forbidden.ensures c.if-is_forbidden.false c.if-e-self.true
