-- `Trip::step_over` meets its contract: each test that fails shuts the section; where all pass, the step is made.
-- Assumes nothing.
use native.Mathlib.Omega.{arith}
use Rattle.steps.proofs.Stepping.{p_low, is_section, is_entered, cost_low, runs_on, pulls_out, no_pull_out}
use Rattle.steps.proofs.trip.Trip.step_over.Goals as goal

pub is_forbidden-requires : goal.is_forbidden-requires
is_forbidden-requires c = p_low c.requires.known c.requires.meets

pub bounds-served-p : goal.bounds-served-p
bounds-served-p c = p_low c.requires.known c.requires.meets

pub returns-then-not-is_forbidden : goal.returns-then-not-is_forbidden
returns-then-not-is_forbidden c =
    runs_on c.requires.known c.requires.meets (is_section c.requires.known c.requires.meets c.has_section.ensures c.if-not-has_section.false) c.arrival_over-next.ensures
    (is_entered c.requires.known c.requires.meets c.may_step.ensures c.if-not-may_step.false) (rw c.yard.ensures.turns at c.is_forbidden.ensures) c.if-not-is_forbidden.true c.number-whole.ensures

pub overflow_add-cost : goal.overflow_add-cost
overflow_add-cost c =
    omega (arith, cost_low c.requires.known c.requires.meets (is_section c.requires.known c.requires.meets c.has_section.ensures c.if-not-has_section.false) c.number-whole.ensures)

pub returns-then-pulls_out : goal.returns-then-pulls_out
returns-then-pulls_out c =
    pulls_out c.requires.known c.requires.meets (is_section c.requires.known c.requires.meets c.has_section.ensures c.if-not-has_section.false) c.arrival_over-next.ensures
    (is_entered c.requires.known c.requires.meets c.may_step.ensures c.if-not-may_step.false) (rw c.yard.ensures.turns at c.is_forbidden.ensures) c.if-not-is_forbidden.false c.if-pulls_out.true c.number-whole.ensures

pub returns : goal.returns
returns c =
    no_pull_out c.requires.known c.requires.meets (is_section c.requires.known c.requires.meets c.has_section.ensures c.if-not-has_section.false)
    (rw c.yard.ensures.turns at c.is_forbidden.ensures) c.if-not-is_forbidden.false c.if-pulls_out.false
